-- The laws of what reading a table hands back.
-- Assumes nothing.
use Prim.Native.Nat.{ℕ, ◌≤◌}
use mathlib.Core.Path.{◌≡◌, refl, sym, ap, ◌∙◌}
use mathlib.Core.Bool.{Bool, true, false}
use mathlib.Core.List.{[], ◌∷◌}
use native.Mathlib.Omega.{arith}
use lib.Dec.{eqb}
use borrow.Author.Tests.{eqb-true, eqb-false, eq-eqb, ne_eqb}
use Rattle.table.specs.Refusals.{first_of, answered}
use Rattle.table.proofs.RefusalLaws.{answered_refused, answered_done, first_of_here, first_of_past, first_of_none}
use Rattle.executive.specs.declared.state.State.{State}
use Rattle.std.specs.Prelude.{Result, Ok, Err}
use Rattle.executive.specs.declared.loaded.Refused.{Refused}
use Rattle.table.specs.declared.refusals.Refusal.{Refusal}
use Rattle.executive.specs.Reading.{Reading}
use Rattle.executive.specs.Reading.{reading_with, reading_by, refused_with, refused_load, accepted_with, accepted_load, finished_load}

-- what was read tells of its state, refused or not
pub reading_state : (s : State) (answer : Result Unit (Refused Refusal)) → (reading_by s answer).state ≡ s
reading_state s (Ok x) = refl
reading_state s (Err r) = refl

-- a refusal for any reason, told by numbers in any way, is the refused load of its number; so it is where the reason is a number itself
pub refused_told : {Why : Type 0} (told : Why → ℕ) (why : Why) (at : ℕ)
    → reading_with told (refused_with why at).state (refused_with why at).answer ≡ refused_load (told why) at
refused_told told why at = refl

-- and what was read, told so, is the accepted load
pub accepted_told : {Why : Type 0} (told : Why → ℕ) (s : State)
    → reading_with told (accepted_with {Why = Why} s).state (accepted_with {Why = Why} s).answer ≡ accepted_load s
accepted_told told s = refl

-- the end of the records: a table with a task is accepted, and only such a one is
pub finished_some : (s : State) (place : ℕ) → 1 ≤ s.n → finished_load s place ≡ accepted_load s
unfolding finished_load
finished_some s place h =
    answered_done (first_of ((7, eqb s.n 0) ∷ [])) (λ k. refused_load k place) (accepted_load s)
    (first_of_past 7 (eqb s.n 0) [] (ne_eqb s.n 0 (λ e. omega arith)) ∙ first_of_none)

pub finished_none : (s : State) (place : ℕ) → s.n ≡ 0 → finished_load s place ≡ refused_load 7 place
unfolding finished_load
finished_none s place h =
    ap (λ (k : ℕ). answered k (λ k. refused_load k place) (accepted_load s)) (first_of_here 7 (eqb s.n 0) [] (eq-eqb s.n 0 h))
    ∙ answered_refused 7 (λ k. refused_load k place) (accepted_load s) (λ e. omega arith)

pub accepted_end : (s : State) (place : ℕ) → (finished_load s place).number ≡ 0 → 1 ≤ s.n
accepted_end s place h = go (eqb s.n 0) refl
  where
    go : (b : Bool) → eqb s.n 0 ≡ b → 1 ≤ s.n
    go true e =
        let seven : ◌≡◌ {A = ℕ} 7 0 = sym (ap (λ (l : Reading). l.number) (finished_none s place (eqb-true s.n 0 e))) ∙ h in
        absurd (omega arith)
    go false e = let some : s.n ≡ 0 → ⊥ = eqb-false s.n 0 e in omega arith
