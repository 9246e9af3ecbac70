-- The kinds and counts so far are copied, and the rows that are left make the whole.
use Rattle.std.proofs.Common.{◌≡◌, ◌+◌, drop}
use Rattle.draw_book.specs.Reading.{rows_of}
use Rattle.book_reader.specs.Rows.{rows_left}
use Rattle.book_reader.proofs.Walks.{Listed}
use Rattle.book_reader.proofs.bodies.copy_contents.Given as goal

abbrev pub invariant-loop-i : goal.invariant-loop-i
invariant-loop-i l =
    record {
      within : l.i-iterator.count + l.i-iterator.iter.left ≡ l.n;
      listed : Listed (rows_of l.n (drop 4 l.book)) (rows_left l.i-iterator.iter) l.initial.kinds l.kinds l.initial.counts l.counts l.i-iterator.count;
    }
