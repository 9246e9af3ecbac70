-- The calls, by their names and by their places.
-- Assumes nothing.
use Rattle.std.proofs.Common.{◌≡◌, ℕ, suc, ◌≤◌, Bool, true, false, cond, List, [], ◌∷◌, map, length, sym, refl, ap, ◌∙◌, arith}
use Rattle.command_line.specs.Fields.{bytes_from, ascii, in_front, cut, same_text, place_in}
use Rattle.lines.specs.Meaning.{Call, calls}

-- the names of the calls, as the code has them
abbrev pub names : List ℕ
names = 115 ∷ 101 ∷ 101 ∷ 100 ∷ 32 ∷ 110 ∷ 101 ∷ 120 ∷ 116 ∷ 95 ∷ 117 ∷ 54 ∷ 52 ∷ 32 ∷ 110 ∷ 101 ∷ 120 ∷ 116 ∷ 95 ∷ 117 ∷ 51 ∷ 50 ∷ 32 ∷ 114 ∷ 97 ∷ 110 ∷ 100 ∷ 111 ∷ 109 ∷ 95 ∷ 114 ∷ 97 ∷ 110 ∷ 103 ∷ 101 ∷ 32 ∷ 117 ∷ 110 ∷ 105 ∷ 102 ∷ 111 ∷ 114 ∷ 109 ∷ 95 ∷ 105 ∷ 110 ∷ 116 ∷ 32 ∷ 115 ∷ 97 ∷ 109 ∷ 112 ∷ 108 ∷ 101 ∷ 32 ∷ 112 ∷ 97 ∷ 114 ∷ 116 ∷ 105 ∷ 97 ∷ 108 ∷ 95 ∷ 115 ∷ 104 ∷ 117 ∷ 102 ∷ 102 ∷ 108 ∷ 101 ∷ 32 ∷ 115 ∷ 104 ∷ 117 ∷ 102 ∷ 102 ∷ 108 ∷ 101 ∷ 32 ∷ 116 ∷ 97 ∷ 105 ∷ 108 ∷ 32 ∷ 104 ∷ 101 ∷ 97 ∷ 100 ∷ 32 ∷ 115 ∷ 97 ∷ 109 ∷ 112 ∷ 108 ∷ 101 ∷ 95 ∷ 102 ∷ 105 ∷ 108 ∷ 108 ∷ 32 ∷ 105 ∷ 110 ∷ 100 ∷ 101 ∷ 120 ∷ 101 ∷ 100 ∷ 95 ∷ 115 ∷ 97 ∷ 109 ∷ 112 ∷ 108 ∷ 101 ∷ 115 ∷ 32 ∷ 99 ∷ 104 ∷ 111 ∷ 111 ∷ 115 ∷ 101 ∷ 32 ∷ 99 ∷ 104 ∷ 111 ∷ 111 ∷ 115 ∷ 101 ∷ 95 ∷ 115 ∷ 116 ∷ 97 ∷ 98 ∷ 108 ∷ 101 ∷ 32 ∷ 112 ∷ 105 ∷ 99 ∷ 107 ∷ 32 ∷ 119 ∷ 101 ∷ 105 ∷ 103 ∷ 104 ∷ 116 ∷ 32 ∷ 115 ∷ 97 ∷ 109 ∷ 112 ∷ 108 ∷ 101 ∷ 95 ∷ 115 ∷ 116 ∷ 114 ∷ 97 ∷ 116 ∷ 105 ∷ 102 ∷ 105 ∷ 101 ∷ 100 ∷ []

pub named : map (λ (c : Call). c.name) calls ≡ cut 32 names
unfolding calls ascii bytes_from cut in_front
named = refl

-- a place is at most the count
place-le : (s : List ℕ) (ts : List (List ℕ)) → place_in s ts ≤ length ts
unfolding place_in
place-le s [] = omega arith
place-le s (t ∷ ts) = go (same_text t s) (place-le s ts)
  where
    go : (b : Bool) → place_in s ts ≤ length ts → cond b 0 (suc (place_in s ts)) ≤ suc (length ts)
    go true h = omega arith
    go false h = omega (arith, h)

-- a name has the place that the code finds
pub named_at : (s : List ℕ) (k j : ℕ) → k ≡ place_in s (cut 32 names) → k ≡ j → j ≡ place_in s (map (λ (c : Call). c.name) calls)
named_at s k j e f = sym f ∙ e ∙ ap (place_in s) (sym named)

-- and one past the others has the place past the end
pub past : (s : List ℕ) (k : ℕ) → k ≡ place_in s (cut 32 names) → 17 ≤ k → 17 ≡ place_in s (map (λ (c : Call). c.name) calls)
unfolding cut in_front
past s k e h = named_at s k 17 e (omega (arith, h, e, place-le s (cut 32 names)))
