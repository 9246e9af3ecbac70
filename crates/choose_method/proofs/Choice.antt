-- The choice, a law for each of its ends: by the table from 12 to 162, and by the comparison from there on.
-- Assumes nothing.
use Rattle.std.proofs.Common.{◌≡◌, ℕ, ◌^◌, ◌<◌, ◌≤◌, true, false, get_or}
use Rattle.crossover.specs.Lines.{ratio_of, below_ratio}
use Rattle.crossover.specs.Method.{method_of}
use Rattle.crossover.specs.declared.Method.TheVariants.{Floyd, InPlace, Rejection}
use Rattle.crossover.proofs.Laws.{to-11, from-163}
use Rattle.choose_method.specs.Table.{floyd_lengths}
use Rattle.choose_method.proofs.TableRule.{crossover-table}

module _ (length amount : ℕ) where
  pub below_entry : (entry : ℕ) → 12 ≤ amount → amount ≤ 162 → entry ≡ get_or floyd_lengths amount 0 → length < entry → method_of length amount ≡ InPlace
  below_entry entry low high e h = (crossover-table.entry amount low high).below length (rw e at h)

  pub from_entry : (entry : ℕ) → 12 ≤ amount → amount ≤ 162 → entry ≡ get_or floyd_lengths amount 0 → entry ≤ length → length < 2 ^ 32 → method_of length amount ≡ Floyd
  from_entry entry low high e h word = (crossover-table.entry amount low high).upward length (rw e at h) word

  pub below_the_ratio : 163 ≤ amount → below_ratio length amount (ratio_of length) ≡ true → method_of length amount ≡ InPlace
  below_the_ratio h e = from-163 length amount true h e

  pub above_the_ratio : 163 ≤ amount → below_ratio length amount (ratio_of length) ≡ false → method_of length amount ≡ Rejection
  above_the_ratio h e = from-163 length amount false h e

-- what the call's proof uses
pub ruleset choice = (to-11, below_entry, from_entry, below_the_ratio, above_the_ratio)
