-- `Block::append_decimal` meets its contract. Assumes nothing.
use Rattle.std.proofs.Common.{rules}
use Rattle.command_line.proofs.Decimals.{spelled}
use Rattle.command_line.proofs.block.Block.append_decimal.Goals as goal

pub returns-clause-text : goal.returns-clause-text
returns-clause-text c =
    let d = c.decimal-k in
    rw (spelled c.args.x d.result d.new.out (search rules) d.ensures.len d.ensures.digits) at c.append.ensures
