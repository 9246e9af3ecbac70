-- The causes in plain words, as they are printed: those of `include/gapyndura.h`.
use Rattle.std.specs.Prelude.{ℕ, List, codes}
use Rattle.refusal.specs.declared.Refusal.{Refusal}
use Rattle.refusal.specs.declared.Refusal.TheVariants.{AmountExceedsLength, NoWeights, Overflow, InsufficientNonZero, PlacesNotIncreasing, PlaceOutOfRange, InvalidTable, SliceTooShort, ScratchTooShort, TooLong, InvalidHints, ZeroState, BudgetExhausted, ContentsCutShort, UnknownKind, LayoutMismatch, PartsMismatch}

-- a line for each row of the table
abbrev pub text_of : Refusal → List ℕ
text_of AmountExceedsLength = codes "the amount is above the length"
text_of NoWeights = codes "there are no weights"
text_of Overflow = codes "the weights sum above 2^32 - 1"
text_of InsufficientNonZero = codes "every weight is 0"
text_of PlacesNotIncreasing = codes "a changed place is not above the one before it"
text_of PlaceOutOfRange = codes "a changed place is not below the count of weights"
text_of InvalidTable = codes "the cumulative weights are those of no list of weights"
text_of SliceTooShort = codes "a slice has too few entries"
text_of ScratchTooShort = codes "the scratch slice is shorter than the length"
text_of TooLong = codes "a length or a count is too large"
text_of InvalidHints = codes "the bounds on what remains do not hold of the items"
text_of ZeroState = codes "all four words of the generator's state are 0"
text_of BudgetExhausted = codes "the budget of words is used up"
text_of ContentsCutShort = codes "the book's contents are cut short or of more than 64 jobs"
text_of UnknownKind = codes "a job of the book is of an unknown kind"
text_of LayoutMismatch = codes "the book's bodies do not lie as they must, or it is too long"
text_of PartsMismatch = codes "the lists of parts differ in count, or the whole is too long"
