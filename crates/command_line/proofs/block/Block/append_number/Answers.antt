-- `Block::append_number` meets its contract. Assumes nothing.
use Rattle.command_line.proofs.Blocks.{then}
use Rattle.command_line.proofs.block.Block.append_number.Goals as goal

pub returns-clause-text : goal.returns-clause-text
returns-clause-text c = then _ _ _ _ _ c.append.ensures c.append_decimal.ensures.text
