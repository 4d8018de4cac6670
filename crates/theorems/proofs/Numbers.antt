-- Demand 1: the number that a call gives is one of document 01's for that call.
-- Assumes nothing.
use Prim.Native.Nat.{ℕ}
use mathlib.Core.Path.{◌≡◌, refl, subst}
use mathlib.Core.Logic.{inl, inr}
use mathlib.Core.List.{List, [], ◌∷◌, map}
use Rattle.executive.specs.declared.state.State.{State}
use Rattle.executive.specs.Sound.{Sound}
use Rattle.theorems.specs.Histories.{Call, release, signal, withdraw, acquire, give, complete, block, called, numbers_of, Among, zero_done, this_one, a_later}
use Rattle.theorems.specs.When.{FirstThat}
use Rattle.theorems.specs.Conditions.{conditions_of}
use Rattle.theorems.proofs.Exactly.{call_when}

-- the number of a list of conditions is 0 or one of the list's
first_among : (conditions : List (ℕ × Type 0)) (k : ℕ) → FirstThat conditions k → Among k (map (λ c. c.0) conditions)
first_among [] k h = zero_done h
first_among (c ∷ rest) k (inl p) = this_one p.1
first_among (c ∷ rest) k (inr p) = a_later (first_among rest k p.1)

listed : (s : State) (c : Call) → map (λ x. x.0) (conditions_of s c) ≡ numbers_of c
unfolding numbers_of
listed s (release number time) = refl
listed s (signal number) = refl
listed s (withdraw number) = refl
listed s (acquire number) = refl
listed s (give number) = refl
listed s complete = refl
listed s block = refl

pub call_numbers : (s : State) → Sound s → (c : Call) → Among (called s c).answer (numbers_of c)
call_numbers s sound c =
    subst (λ (l : List ℕ). Among (called s c).answer l) (listed s c)
    (first_among (conditions_of s c) (called s c).answer ((call_when s sound c (called s c).answer).0 refl))
