-- What reading a table hands back, be it from an image or from a list (01, "Numbers that come back"; 02, b)).
use Rattle.std.specs.Prelude.{ℕ, [], ◌∷◌, eqb, Result, Ok, Err}
use Rattle.table.specs.declared.refusals.Refusal.{Refusal}
use Rattle.table.specs.Refusals.{first_of, answered, number_of}
use Rattle.executive.specs.declared.state.State.{State}
use Rattle.executive.specs.declared.loaded.Refused.{Refused}
use Rattle.executive.specs.declared.loaded.Loaded.{Loaded}
use Rattle.executive.specs.States.{empty_state}

-- 01, "Numbers that come back": a state, a number, and the place of the record that was refused
pub record Reading : Type 0 where
  pub state : State
  pub number : ℕ
  pub place : ℕ

-- what was read, told by its number and its place; place is 0 for 0
abbrev pub reading_with : {Why : Type 0} → (Why → ℕ) → State → Result Unit (Refused Why) → Reading
reading_with told s (Ok x) = record { state = s; number = 0; place = 0 }
reading_with told s (Err r) = record { state = s; number = told r.refusal; place = r.place }

abbrev pub reading_by : State → Result Unit (Refused Refusal) → Reading
reading_by s answer = reading_with number_of s answer

abbrev pub reading_of : Loaded Refusal → Reading
reading_of l = reading_by l.state l.answer

-- 01, "Numbers that come back": a refused load hands back the empty state
abbrev pub refused_load : ℕ → ℕ → Reading
refused_load k at = record { state = empty_state; number = k; place = at }

-- the same as the code has it, with any reason; told by its number it is the refused load of that number
abbrev pub refused_with : {Why : Type 0} → Why → ℕ → Loaded Why
refused_with why at = record { state = empty_state; answer = Err (record { refusal = why; place = at }) }

-- place is 0 for 0
abbrev pub accepted_load : State → Reading
accepted_load s = record { state = s; number = 0; place = 0 }

abbrev pub accepted_with : {Why : Type 0} → State → Loaded Why
accepted_with s = record { state = s; answer = Ok tt }

-- at the end of the records: 7, with the count of all records
unfoldable pub finished_load : State → ℕ → Reading
finished_load s count = answered (first_of ((7, eqb s.n 0) ∷ [])) (λ k. refused_load k count) (accepted_load s)
