-- No word is read before.
use native.Mathlib.Nat.{sub-zero}
use Rattle.index_methods.specs.Rejection.{found_of}
use Rattle.index_methods.proofs.rejection.sample_rejection.Goals as goal

pub returns : goal.returns
unfolding found_of
returns c = rw sub-zero at (rw c.new.ensures at c.find_sized.ensures)
