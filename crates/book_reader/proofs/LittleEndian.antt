-- Numbers of 32 bits in bytes, one and several.
use Rattle.std.proofs.Common.{◌≡◌, ℕ, zero, suc, ◌+◌, ◌*◌, List, [], ◌∷◌, ◌++◌, length, drop, refl, ap, ◌∙◌, add-one, arith}
use Rattle.std.proofs.Math.Seq.{drop-drop}
use Rattle.std.specs.Int.{w32, from_le_bytes}
use Rattle.xoshiro256plusplus.specs.Seed.{little_endian}
use Rattle.draw_book.specs.Reading.{u32, u32s}

-- std's word of four bytes is the number that they are
pub from_le_bytes-little_endian : (bs : List ℕ) → length bs ≡ 4 → from_le_bytes w32 bs ≡ little_endian bs
unfolding little_endian
from_le_bytes-little_endian (a ∷ b ∷ c ∷ d ∷ []) n = omega arith
from_le_bytes-little_endian [] n = absurd (omega (arith, n))
from_le_bytes-little_endian (a ∷ []) n = absurd (omega (arith, n))
from_le_bytes-little_endian (a ∷ b ∷ []) n = absurd (omega (arith, n))
from_le_bytes-little_endian (a ∷ b ∷ c ∷ []) n = absurd (omega (arith, n))
from_le_bytes-little_endian (a ∷ b ∷ c ∷ d ∷ e ∷ l) n = absurd (omega (arith, n))

-- one number more
pub u32s-more : (n : ℕ) (s : List ℕ) → u32s (n + 1) s ≡ u32s n s ++ u32 (drop (4 * n) s) ∷ []
unfolding u32s
u32s-more zero s = refl
u32s-more (suc n) s =
    let place : 4 + 4 * n ≡ 4 * suc n = omega arith in
    rw add-one (ap (λ (l : List ℕ). u32 s ∷ l) (rw add-one at (u32s-more n (drop 4 s)) ∙ rw (drop-drop (4 * n) 4 s, place)))
