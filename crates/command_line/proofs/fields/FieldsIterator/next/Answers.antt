-- `Fields::next` meets its contract. Assumes nothing.
use Rattle.std.proofs.Common.{arith, ap, ◌+◌, ◌∙◌, length}
use Rattle.command_line.specs.Fields.{fields_of}
use Rattle.command_line.proofs.Cutting.{left_over, next_field}
use Rattle.command_line.proofs.fields.FieldsIterator.next.Goals as goal

pub returns-clause-steps : goal.returns-clause-steps
returns-clause-steps c =
    let sep = c.args.self.now.separator in
    let text = c.in_ok-text.text.now in
    let end = c.field_end-end.result in
    ap (fields_of sep) c.in_ok-text.was ∙ next_field sep end text c.get-self.result c.field_end-end.ensures (left_over sep (end + 1) text c.get-self.result c.get-self.ensures.lookup.0)

pub returns-clause-goes : goal.returns-clause-goes
returns-clause-goes c =
    let e = ap length (returns-clause-steps c) in
    record { on = λ f. (tt, tt, omega (arith, e)); keeps = tt; rests = λ f. tt }
