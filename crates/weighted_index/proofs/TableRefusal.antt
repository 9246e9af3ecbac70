-- Why a table is declined, one law for each case, and what a definition that declines it so answers.
-- Assumes nothing.
use Rattle.std.proofs.Common.{◌≡◌, ℕ, ◌<◌, ◌≤◌, Bool, true, false, cond, ltb, List, Some, None, ap, le-ltb, lt-ltb}
use Rattle.refusal.specs.declared.Refusal.{Refusal}
use Rattle.refusal.specs.declared.Refusal.TheVariants.{InvalidTable, TooLong}
use Rattle.weighted_index.specs.Weights.{most_weights}
use Rattle.weighted_index.specs.Tables.{broken_table, table_refusal}
use Rattle.weighted_index.specs.declared.answer.WeightedIndex.{WeightedIndex}

module _ (t : WeightedIndex) (s : List ℕ) where
  pub too_long : most_weights < t.count → Some TooLong ≡ table_refusal t s
  unfolding table_refusal
  too_long h = rw (lt-ltb most_weights t.count h)

  module _ (h : t.count ≤ most_weights) where
    pub invalid : broken_table t s ≡ true → Some InvalidTable ≡ table_refusal t s
    unfolding table_refusal
    invalid e = rw (le-ltb most_weights t.count h, e)

    pub taken : broken_table t s ≡ false → None ≡ table_refusal t s
    unfolding table_refusal
    taken e = rw (le-ltb most_weights t.count h, e)

  -- f is how the definition declines
  pub declines : {A : Type 0} (f : Refusal → A) (rest : A) (why : Refusal) → Some why ≡ table_refusal t s
      → cond (ltb most_weights t.count) (f TooLong) (cond (broken_table t s) (f InvalidTable) rest) ≡ f why
  unfolding table_refusal
  declines {A} f rest why e = go (ltb most_weights t.count) (broken_table t s) e
    where
      go : (long broken : Bool) → Some why ≡ cond long (Some TooLong) (cond broken (Some InvalidTable) None)
          → cond long (f TooLong) (cond broken (f InvalidTable) rest) ≡ f why
      go true broken q = let same : TooLong ≡ why = cc in ap f same
      go false true q = let same : InvalidTable ≡ why = cc in ap f same
      go false false q = cc

-- the laws of the cases together, for `Table::checked`
pub ruleset refusal_cases = (too_long, invalid, taken)
