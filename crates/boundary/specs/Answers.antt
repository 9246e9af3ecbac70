-- How a call ends as C sees it.
use Rattle.std.specs.Prelude.{◌≡◌, List, [], ◌∷◌, ℕ, Option, Some, None, Result, Ok, Err}
use Rattle.refusal.specs.Number.{number}
use Rattle.refusal.specs.declared.Refusal.{Refusal}

-- 0 if the call was carried out, whatever it answers, or else the row of the table of refusals
abbrev pub number_in : {A : Type 0} → Result A Refusal → ℕ
number_in (Ok v) = 0
number_in (Err why) = number why

-- the value that is answered, as it is converted; 0 on a refusal
abbrev pub Converts : {A : Type 0} → (A → ℕ → Type 0) → Result A Refusal → ℕ → Type 0
Converts converts (Ok v) n = converts v n
Converts converts (Err why) n = n ≡ 0

-- 1 and the value that is answered, or 0 and 0 if there is none
abbrev pub optional_of : Result (Option ℕ) Refusal → List ℕ
optional_of (Ok (Some v)) = 1 ∷ v ∷ []
optional_of (Ok None) = 0 ∷ 0 ∷ []
optional_of (Err why) = 0 ∷ 0 ∷ []
