-- Totals and running sums of lists of weights.
-- Assumes nothing.
use Rattle.std.proofs.Common.{◌≡◌, ℕ, zero, suc, ◌+◌, ◌-◌, ◌<◌, ◌≤◌, Bool, true, false, eqb, ltb, List, [], ◌∷◌, length, sum, get_or, take, set, sym, refl, ◌∙◌, arith, ltb-false, ltb-true, le-ltb, lt-ltb, eq-eqb, eqb-true}
use Rattle.std.proofs.lemmas.List.Recursion.{same_from_clauses}
use Rattle.std.proofs.lemmas.List.Sums.{sum_by-cons}
use mathlib.Core.Bool.{false≢true}
use Rattle.std.proofs.lemmas.Bool.{and_parts, false_from_ne_true}
use Rattle.weighted_index.specs.Weights.{most_total, total, overflows, all_zero, sums_from}

pub total-nil : total [] ≡ 0
unfolding total
total-nil = refl

-- std's word for it
pub total_is_sum : (ws : List ℕ) → total ws ≡ sum ws
unfolding total
total_is_sum ws = same_from_clauses total sum ◌+◌ refl (λ _ _. refl) (sum_by-cons (λ n. n)) ws

pub total-cons : (w : ℕ) (ws : List ℕ) → total (w ∷ ws) ≡ w + total ws
unfolding total
total-cons w ws = refl

-- one more weight
pub total-take-suc : (ws : List ℕ) (i : ℕ) → i < length ws → total (take (suc i) ws) ≡ total (take i ws) + get_or ws i 0
unfolding total
total-take-suc [] i h = absurd (omega arith)
total-take-suc (w ∷ ws) zero h = omega arith
total-take-suc (w ∷ ws) (suc i) h = omega (arith, total-take-suc ws i (omega arith))

pub get_or-le-total : (ws : List ℕ) (i : ℕ) → get_or ws i 0 ≤ total ws
unfolding total
get_or-le-total [] i = omega arith
get_or-le-total (w ∷ ws) zero = omega arith
get_or-le-total (w ∷ ws) (suc i) = omega (arith, get_or-le-total ws i)

-- the total after a change of one weight: less the old, and the new added
pub total-set : (ws : List ℕ) (i v : ℕ) → i < length ws → total (set ws i v) + get_or ws i 0 ≡ total ws + v
unfolding total
total-set [] i v h = absurd (omega arith)
total-set (w ∷ ws) zero v h = omega arith
total-set (w ∷ ws) (suc i) v h = omega (arith, total-set ws i v (omega arith))

-- ---- too much, and nothing

pub too_much : (ws : List ℕ) → most_total < total ws → overflows ws ≡ true
unfolding overflows
too_much ws h = lt-ltb most_total (total ws) h

pub not-too-much : (ws : List ℕ) → total ws ≤ most_total → overflows ws ≡ false
unfolding overflows
not-too-much ws h = le-ltb most_total (total ws) h

pub all-zero : (ws : List ℕ) → total ws ≡ 0 → all_zero ws ≡ true
unfolding all_zero total
all-zero [] h = refl
all-zero (w ∷ ws) h = rw (eq-eqb w 0 (omega arith)) (all-zero ws (omega arith))

zero-total : (ws : List ℕ) → all_zero ws ≡ true → total ws ≡ 0
unfolding all_zero total
zero-total [] h = refl
zero-total (w ∷ ws) h = let u = and_parts (eqb w 0) (all_zero ws) h in omega (arith, eqb-true w 0 u.0, zero-total ws u.1)

pub not-all-zero : (ws : List ℕ) → 0 < total ws → all_zero ws ≡ false
not-all-zero ws h = false_from_ne_true (all_zero ws) (λ e. omega (arith, zero-total ws e))

pub small-total : (ws : List ℕ) → overflows ws ≡ false → total ws ≤ most_total
unfolding overflows
small-total ws e = ltb-false most_total (total ws) e

pub some-total : (ws : List ℕ) → all_zero ws ≡ false → 0 < total ws
some-total ws e = go (ltb 0 (total ws)) refl
  where
    go : (b : Bool) → ltb 0 (total ws) ≡ b → 0 < total ws
    go true q = ltb-true 0 (total ws) q
    go false q =
        let n = ltb-false 0 (total ws) q in
        let z : ◌≡◌ {A = Bool} true false = sym (all-zero ws (omega arith)) ∙ e in
        absurd (false≢true (sym z))

pub some-weight : (ws : List ℕ) → 0 < total ws → 0 < length ws
some-weight [] h = absurd (omega (arith, total-nil))
some-weight (w ∷ ws) h = omega arith

-- ---- running sums

-- a weight that has others after it
pub sums-step : (low w : ℕ) (ws : List ℕ) → 0 < length ws → sums_from low (w ∷ ws) ≡ (low + w) ∷ sums_from (low + w) ws
unfolding sums_from
sums-step low w [] h = absurd (omega arith)
sums-step low w (v ∷ ws) h = refl

pub sums-one : (low : ℕ) (ws : List ℕ) → length ws ≡ 1 → sums_from low ws ≡ []
unfolding sums_from
sums-one low [] h = refl
sums-one low (w ∷ []) h = refl
sums-one low (w ∷ v ∷ ws) h = absurd (omega arith)

pub sums-length : (low : ℕ) (ws : List ℕ) → length (sums_from low ws) ≡ length ws - 1
unfolding sums_from
sums-length low [] = refl
sums-length low (w ∷ []) = refl
sums-length low (w ∷ v ∷ ws) = omega (arith, sums-length (low + w) (v ∷ ws))
