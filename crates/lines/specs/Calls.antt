-- The calls, and their places in the table.
use Rattle.std.specs.Prelude.{ℕ, Option, Some, None}
use Rattle.lines.specs.declared.call.Call.{Call}
use Rattle.lines.specs.declared.call.Call.TheVariants.{Seed, NextU64, NextU32, RandomRange, UniformInt, Sample, PartialShuffle, Shuffle, Tail, Head, SampleFill, IndexedSamples, Choose, ChooseStable, Pick, Weight, SampleStratified}

-- the place of a call in the table (`calls`)
abbrev pub place_of : Call → ℕ
place_of Seed = 0
place_of NextU64 = 1
place_of NextU32 = 2
place_of RandomRange = 3
place_of UniformInt = 4
place_of Sample = 5
place_of PartialShuffle = 6
place_of Shuffle = 7
place_of Tail = 8
place_of Head = 9
place_of SampleFill = 10
place_of IndexedSamples = 11
place_of Choose = 12
place_of ChooseStable = 13
place_of Pick = 14
place_of Weight = 15
place_of SampleStratified = 16

-- the same of a call if there is one, and the place past the table's end if there is none
abbrev pub place_named : Option Call → ℕ
place_named (Some call) = place_of call
place_named None = 17
