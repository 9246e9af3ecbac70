-- An answer that may have no value, as C sees it, is the one that its call's definition has.
-- Assumes nothing.
use mathlib.Core.Path.{◌≡◌, refl}
use Prim.Native.Nat.{ℕ}
use Rattle.std.specs.Prelude.{Option, Some, None, Result, Ok, Err}
use Rattle.refusal.specs.declared.Refusal.{Refusal}
use Rattle.weighted_index.specs.Answers.{answer_of_looked}
use Rattle.choose.specs.Turns.{answer_of_choice}
use Rattle.boundary.specs.Answers.{number_in, optional_of}
use Rattle.boundary.specs.State.{optional}

pub looked : (a : Result (Option ℕ) Refusal) → (number_in a ≡ (answer_of_looked a).number) × (optional_of a ≡ optional (answer_of_looked a))
looked (Ok (Some v)) = (refl, refl)
looked (Ok None) = (refl, refl)
looked (Err why) = (refl, refl)

pub chosen : (a : Result (Option ℕ) Refusal) → (number_in a ≡ (answer_of_choice a).number) × (optional_of a ≡ optional (answer_of_choice a))
chosen (Ok (Some v)) = (refl, refl)
chosen (Ok None) = (refl, refl)
chosen (Err why) = (refl, refl)
