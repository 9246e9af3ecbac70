-- Among distinct items, to exchange two places is to exchange two values. The values can be exchanged back in any part of the list.
-- Assumes nothing.
use mathlib.Core.Path.{◌≡◌, refl, sym, ap, ap₂, ◌∙◌}
use mathlib.Core.Bool.{Bool, true, false, cond}
use mathlib.Core.List.{List, [], ◌∷◌, ◌++◌, map}
use Prim.Native.Nat.{ℕ, zero, suc, ◌+◌, ◌≤◌, ◌<◌}
use native.Mathlib.Omega.{arith}
use lib.Dec.{eqb}
use lib.ListN.{length, take, drop, get_or, set, length-set}
use lib.Seq.{get_or-set_same, get_or-set_other, ext_get_or}
use borrow.Author.Tests.{eq-eqb, ne_eqb, eqb-true, eqb-false}
use Rattle.counting.specs.Count.{one_if}
use Rattle.counting.specs.Lists.{how_many, swap_at}
use Rattle.counting.proofs.Tests.{iff_bool}
use Rattle.counting.proofs.Many.{length-swap}
use Rattle.counting.proofs.Places.{place-once}

-- ---- values

-- a for b and b for a
pub other : (a b x : ℕ) → ℕ
other a b x = cond (eqb x a) b (cond (eqb x b) a x)

pub other-first : (a b : ℕ) → other a b a ≡ b
unfolding other
other-first a b = rw (eq-eqb a a refl)

pub other-second : (a b : ℕ) → other a b b ≡ a
unfolding other
other-second a b = go (eqb b a) refl
  where
    go : (t : Bool) → eqb b a ≡ t → cond t b (cond (eqb b b) a b) ≡ a
    go true e = eqb-true b a e
    go false e = rw (eq-eqb b b refl)

pub other_none : (a b x : ℕ) → (x ≡ a → ⊥) → (x ≡ b → ⊥) → other a b x ≡ x
unfolding other
other_none a b x p q = rw (ne_eqb x a p, ne_eqb x b q)

-- twice is as before
other-back : (a b x : ℕ) → other a b (other a b x) ≡ x
other-back a b x = go (eqb x a) (eqb x b) refl refl
  where
    go : (s t : Bool) → eqb x a ≡ s → eqb x b ≡ t → other a b (other a b x) ≡ x
    go true t p q = let e = eqb-true x a p in rw (e, other-first a b, other-second a b)
    go false true p q = let e = eqb-true x b q in rw (e, other-second a b, other-first a b)
    go false false p q = let e = other_none a b x (eqb-false x a p) (eqb-false x b q) in rw (e, e)

other-eqb : (a b x y : ℕ) → eqb x (other a b y) ≡ eqb (other a b x) y
other-eqb a b x y =
    iff_bool (eqb x (other a b y)) (eqb (other a b x) y)
    (λ t. eq-eqb (other a b x) y (ap (other a b) (eqb-true x (other a b y) t) ∙ other-back a b y))
    (λ t. eq-eqb x (other a b y) (sym (other-back a b x) ∙ ap (other a b) (eqb-true (other a b x) y t)))

-- ---- lists

pub exchanged : (a b : ℕ) → List ℕ → List ℕ
exchanged a b l = map (other a b) l

pub exchanged-back : (a b : ℕ) (l : List ℕ) → exchanged a b (exchanged a b l) ≡ l
unfolding exchanged
exchanged-back a b [] = refl
exchanged-back a b (x ∷ l) = ap₂ ◌∷◌ (other-back a b x) (exchanged-back a b l)

pub length_exchanged : (a b : ℕ) (l : List ℕ) → length (exchanged a b l) ≡ length l
unfolding exchanged
length_exchanged a b [] = refl
length_exchanged a b (x ∷ l) = ap suc (length_exchanged a b l)

pub many-exchanged : (x a b : ℕ) (l : List ℕ) → how_many x (exchanged a b l) ≡ how_many (other a b x) l
unfolding exchanged
many-exchanged x a b [] = refl
many-exchanged x a b (y ∷ l) = ap₂ ◌+◌ (ap one_if (other-eqb a b x y)) (many-exchanged x a b l)

pub exchanged-snoc : (a b : ℕ) (l : List ℕ) (x : ℕ) → exchanged a b (l ++ (x ∷ [])) ≡ exchanged a b l ++ (other a b x ∷ [])
unfolding exchanged
exchanged-snoc a b [] x = refl
exchanged-snoc a b (y ∷ l) x = ap (λ (z : List ℕ). other a b y ∷ z) (exchanged-snoc a b l x)

pub exchanged-take : (a b n : ℕ) (l : List ℕ) → take n (exchanged a b l) ≡ exchanged a b (take n l)
unfolding exchanged
exchanged-take a b zero l = refl
exchanged-take a b (suc n) [] = refl
exchanged-take a b (suc n) (x ∷ l) = ap (λ (z : List ℕ). other a b x ∷ z) (exchanged-take a b n l)

pub exchanged-drop : (a b n : ℕ) (l : List ℕ) → drop n (exchanged a b l) ≡ exchanged a b (drop n l)
unfolding exchanged
exchanged-drop a b zero l = refl
exchanged-drop a b (suc n) [] = refl
exchanged-drop a b (suc n) (x ∷ l) = exchanged-drop a b n l

get_or-exchanged : (a b : ℕ) (l : List ℕ) (j : ℕ) → j < length l → get_or (exchanged a b l) j 0 ≡ other a b (get_or l j 0)
unfolding exchanged
get_or-exchanged a b [] j h = absurd (omega arith)
get_or-exchanged a b (x ∷ l) zero h = refl
get_or-exchanged a b (x ∷ l) (suc j) h = get_or-exchanged a b l j (omega arith)

-- ---- two places of distinct items

module _ (i k : ℕ) (l : List ℕ) (hi : i < length l) (hk : k < length l) (once : (a : ℕ) → how_many a l ≤ 1) where
  swap-at : (j : ℕ) → j < length l → get_or (swap_at i k l) j 0 ≡ other (get_or l i 0) (get_or l k 0) (get_or l j 0)
  swap-at j hj = go (eqb j k) (eqb j i) refl refl
    where
      l' : List ℕ
      l' = set l i (get_or l k 0)

      go : (s t : Bool) → eqb j k ≡ s → eqb j i ≡ t → get_or (swap_at i k l) j 0 ≡ other (get_or l i 0) (get_or l k 0) (get_or l j 0)
      go true t p q =
          let e = eqb-true j k p in
          rw e (get_or-set_same l' k (get_or l i 0) 0 (omega (arith, length-set l i (get_or l k 0))) ∙ sym (other-second (get_or l i 0) (get_or l k 0)))
      go false true p q =
          let e = eqb-true j i q in
          get_or-set_other l' k j (get_or l i 0) 0 (eqb-false j k p)
          ∙ rw e (get_or-set_same l i (get_or l k 0) 0 hi ∙ sym (other-first (get_or l i 0) (get_or l k 0)))
      go false false p q =
          get_or-set_other l' k j (get_or l i 0) 0 (eqb-false j k p)
          ∙ get_or-set_other l i j (get_or l k 0) 0 (eqb-false j i q)
          ∙ sym (other_none (get_or l i 0) (get_or l k 0) (get_or l j 0) (λ e. eqb-false j i q (place-once l j i hj hi once e)) (λ e. eqb-false j k p (place-once l j k hj hk once e)))

  pub swap-exchanged : swap_at i k l ≡ exchanged (get_or l i 0) (get_or l k 0) l
  swap-exchanged =
      ext_get_or 0 (swap_at i k l) (exchanged (get_or l i 0) (get_or l k 0) l) (length-swap i k l ∙ sym (length_exchanged (get_or l i 0) (get_or l k 0) l))
      (λ j h. let hj : j < length l = omega (arith, length-swap i k l) in
      swap-at j hj ∙ sym (get_or-exchanged (get_or l i 0) (get_or l k 0) l j hj))
