-- "Exactly when" for what reads records from the front, an image or a list: one record, and the end of them.
-- Assumes nothing.
use Prim.Native.Nat.{ℕ}
use mathlib.Core.Path.{◌≡◌, refl, sym, ap, ◌∙◌}
use mathlib.Core.Logic.{◌↔◌, ◌≢◌, ◌⊎◌, inl, inr}
use mathlib.Core.Bool.{Bool, true, false}
use mathlib.Core.List.{List}
use native.Mathlib.Omega.{arith}
use lib.Dec.{eqb}
use borrow.Author.Tests.{eqb-true, eqb-false}
use Rattle.table.specs.Refusals.{answered}
use Rattle.table.proofs.RefusalLaws.{answered_refused, answered_done}
use Rattle.executive.specs.declared.state.State.{State}
use Rattle.executive.specs.Reading.{Reading}
use Rattle.executive.specs.Reading.{refused_load, finished_load}
use Rattle.executive.proofs.ReadingLaws.{finished_none, finished_some}
use Rattle.theorems.specs.When.{FirstThat}

abbrev pub Comes-with : Reading → ℕ → ℕ → Type 0
Comes-with l k place = (l.number ≡ k) × (l.place ≡ place)

-- what a load gives, and an equal load
pub same_load : {l m : Reading} → l ≡ m → {k place : ℕ} → Comes-with l k place → Comes-with m k place
same_load e h = (sym (ap (λ (x : Reading). x.number) e) ∙ h.0, sym (ap (λ (x : Reading). x.place) e) ∙ h.1)

-- behind the last record
module _ (s : State) (at k place : ℕ) where
  pub end_when : Comes-with (finished_load s at) k place ↔ (((s.n ≡ 0) × (k ≡ 7) × (place ≡ at)) ⊎ ((s.n ≢ 0) × (k ≡ 0) × (place ≡ 0)))
  end_when = go (eqb s.n 0) refl
    where
      go : (none : Bool) → eqb s.n 0 ≡ none
          → Comes-with (finished_load s at) k place ↔ (((s.n ≡ 0) × (k ≡ 7) × (place ≡ at)) ⊎ ((s.n ≢ 0) × (k ≡ 0) × (place ≡ 0)))
      go true e =
          let none = eqb-true s.n 0 e in
          let l = finished_none s at none in (
            λ h. let g = same_load l h in inl (none, sym g.0, sym g.1),
            λ w. elim w [ inl v ↦ same_load (sym l) (sym v.1, sym v.2) | inr v ↦ absurd (v.0 none) ],
          )
      go false e =
          let some = eqb-false s.n 0 e in
          let l = finished_some s at (omega arith) in (
            λ h. let g = same_load l h in inr (some, sym g.0, sym g.1),
            λ w. elim w [ inl v ↦ absurd (some v.0) | inr v ↦ same_load (sym l) (sym v.1, sym v.2) ],
          )

-- one record: its first condition that holds stops the reading, or what follows decides
module _ (refusal at : ℕ) (conditions : List (ℕ × Type 0)) (behind : Reading) (Rest : Type 0) (k place : ℕ) where
  pub step_when : ((j : ℕ) → (refusal ≡ j) ↔ FirstThat conditions j) → (refusal ≡ 0 → Comes-with behind k place ↔ Rest)
      → Comes-with (answered refusal (λ number. refused_load number at) behind) k place
      ↔ (((k ≢ 0) × FirstThat conditions k × (place ≡ at)) ⊎ (FirstThat conditions 0 × Rest))
  step_when when rest-when = go (eqb refusal 0) refl
    where
      go : (b : Bool) → eqb refusal 0 ≡ b
          → Comes-with (answered refusal (λ number. refused_load number at) behind) k place
          ↔ (((k ≢ 0) × FirstThat conditions k × (place ≡ at)) ⊎ (FirstThat conditions 0 × Rest))
      go true e =
          let none : refusal ≡ 0 = eqb-true refusal 0 e in
          let l = answered_done refusal (λ number. refused_load number at) behind none in (
            λ h. inr ((when 0).0 none, (rest-when none).0 (same_load l h)),
            λ w. elim w [
              | inl v ↦ absurd (v.0 (sym ((when k).1 v.1) ∙ none))
              | inr v ↦ same_load (sym l) ((rest-when none).1 v.1)
            ],
          )
      go false e =
          let some : refusal ≢ 0 = eqb-false refusal 0 e in
          let l = answered_refused refusal (λ number. refused_load number at) behind some in (
            λ h. let g = same_load l h in inl (λ z. some (g.0 ∙ z), (when k).0 g.0, sym g.1),
            λ w. elim w [
              | inl v ↦ same_load (sym l) ((when k).1 v.1, sym v.2)
              | inr v ↦ absurd (some ((when 0).1 v.0))
            ],
          )
