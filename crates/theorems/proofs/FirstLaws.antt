-- A list of tests that say what a list of conditions says gives the number of the first condition that holds.
-- Assumes nothing.
use Prim.Native.Nat.{ℕ}
use mathlib.Core.Path.{◌≡◌, refl, sym, ◌∙◌}
use mathlib.Core.Logic.{◌↔◌, ◌≢◌, ◌⊎◌, inl, inr}
use mathlib.Core.Bool.{Bool, true, false, ◌&&◌, ◌||◌, and-false}
use mathlib.Core.List.{List, [], ◌∷◌}
use native.Mathlib.Omega.{arith}
use lib.Dec.{eqb}
use borrow.Author.Tests.{eq-eqb}
use Rattle.table.specs.Refusals.{first_of}
use Rattle.table.specs.Sums.{any}
use Rattle.table.proofs.RefusalLaws.{first_of_here, first_of_past, first_of_none}
use Rattle.theorems.specs.When.{FirstThat}

-- each test holds exactly if its condition does, where no test before it holds
pub data Says : List (ℕ × Bool) → List (ℕ × Type 0) → Type 1 where
  nothing_more : Says [] []
  test_says : {k : ℕ} {b : Bool} {P : Type 0} {tests : List (ℕ × Bool)} {conditions : List (ℕ × Type 0)} → (b ≡ true) ↔ P
      → (b ≡ false → Says tests conditions) → Says ((k, b) ∷ tests) ((k, P) ∷ conditions)

never : {A : Type 0} (b : Bool) → b ≡ true → b ≡ false → A
never b t f = let z : ◌≡◌ {A = ℕ} 0 1 = cc in absurd (omega arith)

-- one test: it holds and gives its number, or it does not and the rest decides
first_one : (j : ℕ) (b : Bool) (P : Type 0) (tests : List (ℕ × Bool)) (conditions : List (ℕ × Type 0)) (k : ℕ) (c : Bool) → b ≡ c → (b ≡ true) ↔ P
    → (b ≡ false → (first_of tests ≡ k) ↔ FirstThat conditions k) → (first_of ((j, b) ∷ tests) ≡ k) ↔ FirstThat ((j, P) ∷ conditions) k
first_one j b P tests conditions k true e says rest = (
  λ h. inl (says.0 e, sym h ∙ first_of_here j b tests e),
  λ w. elim w [ inl p ↦ first_of_here j b tests e ∙ sym p.1 | inr p ↦ absurd (p.0 (says.0 e)) ],
)
first_one j b P tests conditions k false e says rest = (
  λ h. inr (λ p. never b (says.1 p) e, (rest e).0 (sym (first_of_past j b tests e) ∙ h)),
  λ w. elim w [ inl p ↦ never b (says.1 p.0) e | inr p ↦ first_of_past j b tests e ∙ (rest e).1 p.1 ],
)

pub first_that : {tests : List (ℕ × Bool)} {conditions : List (ℕ × Type 0)} → Says tests conditions → (k : ℕ) → (first_of tests ≡ k) ↔ FirstThat conditions k
first_that nothing_more k = (λ h. sym h ∙ first_of_none, λ h. first_of_none ∙ sym h)
first_that (test_says {k = j} {b = b} {P = P} {tests = tests} {conditions = conditions} says rest) k =
    first_one j b P tests conditions k b refl says (λ e. first_that (rest e) k)

-- one of two tests holds
pub either : (a b : Bool) → ((a || b) ≡ true) ↔ ((a ≡ true) ⊎ (b ≡ true))
either true b = (λ h. inl refl, λ w. refl)
either false b = (λ h. inr h, λ w. elim w [ inl v ↦ let z : ◌≡◌ {A = ℕ} 0 1 = cc in absurd (omega arith) | inr v ↦ v ])

-- a number other than 0 is that of a test that holds
pub picked : (k : ℕ) (tests : List (ℕ × Bool)) → first_of tests ≡ k → k ≢ 0 → any (λ t. eqb t.0 k && t.1) tests ≡ true
unfolding first_of
picked k [] h ne = absurd (ne (sym h))
picked k ((j, true) ∷ rest) h ne = rw (eq-eqb j k h)
picked k ((j, false) ∷ rest) h ne = rw (and-false (eqb j k)) (picked k rest h ne)
