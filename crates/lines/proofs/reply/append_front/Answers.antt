-- `append_front` meets its contract: one part goes behind the other. Assumes nothing.
use Rattle.std.proofs.Common.{◌∙◌}
use Rattle.lines.proofs.Fronts.{fronted, wronged}
use Rattle.lines.proofs.reply.append_front.Goals as goal

pub returns-in_default-clause-text : goal.returns-in_default-clause-text
returns-in_default-clause-text c = λ slice. rw c.in_default.is (wronged _ _ c.append.ensures)

pub returns-clause-text : goal.returns-clause-text
returns-clause-text c =
    λ slice. rw c.in-Some.is (fronted _ _ _ _ _ _ _ _ _ (c.from.ensures ∙ c.status.ensures) c.spell_seed.ensures c.append_decimal.ensures.text c.append_number.ensures.text c.append-2.ensures c.append-3.ensures c.append_number-2.ensures.text slice)
