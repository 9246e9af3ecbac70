use Rattle.std.proofs.Common.{◌≡◌, ◌+◌, length, ap, ◌∙◌, arith}
use Rattle.draw_book.proofs.Layouts.{length-rows}
use Rattle.book_reader.specs.Rows.{rows_left}
use Rattle.book_reader.proofs.Walks.{counts-listed, kinds-listed, next-listed}
use Rattle.book_reader.proofs.bodies.copy_contents.Goals as goal

pub loop-i-preserved : goal.loop-i-preserved
loop-i-preserved c =
    let was = c.loop-i.i-iterator in
    let now = c.next.new.self in
    let shorter : length (rows_left was.iter) ≡ length (rows_left now.iter) + 1 = ap length c.in-Some.ensures.steps.0 ∙ omega arith in
    record {
      within = omega (arith, c.in-Some.ensures.steps, shorter, length-rows was.iter.left was.iter.table.now, length-rows now.iter.left now.iter.table.now, c.loop-i.invariant.within);
      listed = next-listed _ _ _ _ _ _ _ c.loop-i.invariant.listed _ _ _ _ _ c.in-Some.ensures.steps.0 c.in-Some.ensures.steps.1 c.count.ensures c.in-Some.ensures.steps.2;
    }

pub returns : goal.returns
returns c =
    let listed = c.loop-i.invariant.listed in
    record { kinds = kinds-listed _ _ _ _ _ _ _ listed c.in-None.ensures.steps.0.0; counts = counts-listed _ _ _ _ _ _ _ listed c.in-None.ensures.steps.0.0 }
