-- `put_values` meets its contract. Assumes nothing.
use Rattle.lines.proofs.Replies.{one_front, two_front}
use Rattle.lines.proofs.reply.put_values.Goals as goal

pub returns-in-One-clause-front : goal.returns-in-One-clause-front
returns-in-One-clause-front c = rw c.in-One.is (one_front _ _ c.requires)

pub returns-in-Two-clause-front : goal.returns-in-Two-clause-front
returns-in-Two-clause-front c = rw c.in-Two.is (two_front _ _ _ c.requires)
