-- Kinds, and the numbers that stand for them in a book (SCOPE 17.2).
use Rattle.std.specs.Prelude.{cond, ℕ, eqb, Result, Ok, Err}
use Rattle.refusal.specs.declared.Refusal.{Refusal}
use Rattle.refusal.specs.declared.Refusal.TheVariants.{UnknownKind}
use Rattle.draw_book.specs.declared.kinds.Kind.{Kind}
use Rattle.draw_book.specs.declared.kinds.Kind.TheVariants.{Sample, Pick}

-- kind 1 is a sample, kind 2 a row of picks
abbrev pub number : Kind → ℕ
number Sample = 1
number Pick = 2

-- the kind that a number stands for; no other is known
unfoldable pub kind_of : ℕ → Result Kind Refusal
kind_of k = cond (eqb k 1) (Ok Sample) (cond (eqb k 2) (Ok Pick) (Err UnknownKind))
