-- The arrays of the reader, as lists.
use Rattle.draw_book.specs.Jobs.{Jobs}
use Rattle.book_reader.specs.declared.jobs.JobArrays.{JobArrays}

-- what they hold
abbrev pub held : JobArrays → Jobs
held a = record { kinds = a.kinds; counts = a.counts; seeds = a.seeds; numbers = a.numbers }
