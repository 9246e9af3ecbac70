-- The rows of a book's contents, as the reader goes through them.
use Rattle.std.specs.Prelude.{List}
use Rattle.draw_book.specs.declared.rows.Row.{Row}
use Rattle.draw_book.specs.Reading.{rows_of}
use Rattle.book_reader.specs.declared.rows.Rows.{Rows}

-- those that are left
abbrev pub rows_left : Rows → List Row
rows_left r = rows_of r.left r.table.now
