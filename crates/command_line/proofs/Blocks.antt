-- Texts, one behind another, in a block.
-- Assumes nothing.
use Rattle.std.proofs.Common.{◌≡◌, List, [], ◌∷◌, ◌<◌, ◌++◌, ℕ, ◌+◌, ◌-◌, ◌≤◌, length, take, drop, refl, ap, sym, ◌∙◌, arith, min, length-take, length-take-le, length-append, append_assoc, append-nil}
use Rattle.std.proofs.lemmas.Slice.{drop-put_mid}
use Rattle.std.proofs.lemmas.List.{length-set, take_more_set, drop-set-lt}
use borrow.Rule.Slice.Mut.{set_vals}
use borrow.Rule.Slice.PartMut.{put_mid}
use lib.ListN.{set}
use lib.Seq.{drop-drop}
use Rattle.command_line.specs.Block.{Extends}
use Rattle.command_line.specs.declared.block.Block.{Block}

-- what is put between two places leaves the bytes behind them as they were
pub kept_behind : (xs ys : List ℕ) (a e : ℕ) → a ≤ e → e ≤ length xs → length ys ≡ e - a → drop e (put_mid a (e - a) xs ys) ≡ drop e xs
kept_behind xs ys a e h i f = drop-put_mid a (e - a) xs ys e (omega arith) (omega arith) f

-- bytes that two writes leave as they were
pub kept_twice : (xs ys zs : List ℕ) (a e : ℕ) → drop a ys ≡ drop a xs → drop e zs ≡ drop e ys → a ≤ e → drop e zs ≡ drop e xs
kept_twice xs ys zs a e f g h =
    let k : a + (e - a) ≡ e = omega arith in
    g ∙ rw k at (sym (drop-drop (e - a) a ys) ∙ ap (drop (e - a)) f ∙ drop-drop (e - a) a xs)

-- one text behind another
pub then : (a b c : Block) (s t : List ℕ) → Extends a b s → Extends b c t → Extends a c (s ++ t)
then a b c s t e f =
    record {
      same_reference = f.same_reference ∙ e.same_reference;
      room = f.room ∙ e.room;
      used = omega (arith, e.used, f.used, length-append s t);
      front = f.front ∙ ap (λ (x : List ℕ). x ++ t) e.front ∙ append_assoc (take a.used a.bytes.now) s t;
      rest = kept_twice a.bytes.now b.bytes.now c.bytes.now b.used c.used e.rest f.rest (omega (arith, f.used));
    }

-- one byte
pub byte_put : (a : Block) (x : ℕ) → a.used < length a.bytes.now → Extends a (record { bytes = set_vals (set a.bytes.now a.used x) a.bytes; used = a.used + 1 }) (x ∷ [])
byte_put a x h =
    record {
      same_reference = refl;
      room = length-set a.bytes.now a.used x;
      used = refl;
      front = take_more_set a.bytes.now a.used x h;
      rest = drop-set-lt (a.used + 1) a.bytes.now a.used x (omega arith);
    }

-- no text
pub nothing : (a : Block) → Extends a a []
nothing a = record { same_reference = refl; room = refl; used = omega arith; front = sym (append-nil (take a.used a.bytes.now)); rest = refl }

-- a block holds no more than it has
pub inside : (a b : Block) (s : List ℕ) → Extends a b s → a.used ≤ length a.bytes.now → b.used ≤ length b.bytes.now
inside a b s e h =
    let size : min b.used (length b.bytes.now) ≡ a.used + length s =
    sym (length-take b.used b.bytes.now) ∙ ap length e.front ∙ length-append (take a.used a.bytes.now) s ∙ ap (λ (k : ℕ). k + length s) (length-take-le a.used a.bytes.now h)
    in
    omega (arith, size, e.used)
