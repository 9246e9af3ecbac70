-- Jobs that are lent.
use Rattle.draw_book.specs.Jobs.{Jobs}
use Rattle.draw_book.specs.declared.jobs.JobLists.{JobLists}

-- the jobs that four lists tell
abbrev pub jobs_of : JobLists → Jobs
jobs_of l = record { kinds = l.kinds.now; counts = l.counts.now; seeds = l.seeds.now; numbers = l.numbers.now }
