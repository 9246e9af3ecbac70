-- `table_at` meets its contract: what is made and changed is whole. Assumes nothing.
use Rattle.lines.proofs.WholeTables.{of-line}
use Rattle.lines.proofs.weighing.table_at.Goals as goal

pub returns-clause-whole : goal.returns-clause-whole
returns-clause-whole c = rw c.table_of.ensures (of-line _ _ _ _)
