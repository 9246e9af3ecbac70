-- `named` meets its contract: a place that is none of the table's is the one past its end. Assumes nothing.
use Rattle.std.proofs.Common.{arith}
use Rattle.lines.proofs.CallsNamed.{past}
use Rattle.lines.proofs.call.named.Goals as goal

pub returns-in_default : goal.returns-in_default
returns-in_default c = past _ c.place_in-place.result c.place_in-place.ensures (omega arith)
