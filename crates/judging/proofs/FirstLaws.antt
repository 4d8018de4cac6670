-- The laws of the first position at which a test holds.
-- Assumes nothing.
use Prim.Native.Nat.{ℕ, zero, suc, ◌+◌, ◌-◌, ◌<◌}
use mathlib.Core.Path.{◌≡◌, refl, sym, ap, subst, ◌∙◌}
use mathlib.Core.Logic.{◌⊎◌, inl, inr}
use mathlib.Core.Bool.{Bool, true, false, cond}
use native.Mathlib.Nat.{le_of_suc-le-suc, not-suc-le-zero, eq-or-lt_of_le, sub-add_cancel}
use native.Mathlib.Numerals.{add-one}
use native.Mathlib.Omega.{arith}
use Rattle.std.specs.Prelude.{Option, Some, None, is_some}
use Rattle.std.specs.Option.{option_or}
use Rattle.judging.specs.Verdicts.{first_below}

module _ (test : ℕ → Bool) where
  pub first_start : first_below 0 test ≡ None
  unfolding first_below
  first_start = refl

  -- the test fails at i: still nothing
  pub first_miss : (i : ℕ) → test i ≡ false → first_below i test ≡ None → first_below (i + 1) test ≡ None
  unfolding first_below
  first_miss i t h = ap (λ (n : ℕ). first_below n test) (add-one i) ∙ rw (h, t)

  pub first_next : (i : ℕ) → test i ≡ false → first_below i test ≡ None → first_below (suc i) test ≡ None
  first_next i t h = ap (λ (n : ℕ). first_below n test) (sym (add-one i)) ∙ first_miss i t h

  -- the test holds at i: it is the first, however far one looks
  first_keep : (n i : ℕ) → first_below n test ≡ Some i → first_below (suc n) test ≡ Some i
  unfolding first_below
  first_keep n i h = rw h

  first_far : (m k i : ℕ) → first_below m test ≡ Some i → first_below (k + m) test ≡ Some i
  first_far m zero i h = ap (λ (n : ℕ). first_below n test) (omega arith) ∙ h
  first_far m (suc k) i h = ap (λ (n : ℕ). first_below n test) (omega arith) ∙ first_keep (k + m) i (first_far m k i h)

  pub first_hit : (n i : ℕ) → i < n → test i ≡ true → first_below i test ≡ None → first_below n test ≡ Some i
  unfolding first_below
  first_hit n i l t h =
      let here : first_below (suc i) test ≡ Some i = rw (h, t) in
      ap (λ (k : ℕ). first_below k test) (sym (sub-add_cancel l)) ∙ first_far (suc i) (n - suc i) i here

  -- where nothing is found the test fails everywhere, and back
  pub first_none : (n : ℕ) → first_below n test ≡ None → (i : ℕ) → i < n → test i ≡ false
  unfolding first_below
  first_none zero h i l = absurd (not-suc-le-zero l)
  first_none (suc n) h i l = go (first_below n test) (test n) refl refl h (first_none n) (eq-or-lt_of_le (le_of_suc-le-suc l))
    where
      go : (f : Option ℕ) (b : Bool) → first_below n test ≡ f → test n ≡ b → option_or f (cond b (Some n) None) ≡ None
          → (first_below n test ≡ None → (j : ℕ) → j < n → test j ≡ false) → (i ≡ n) ⊎ (i < n) → test i ≡ false
      go (Some j) b e t k rest w = let z : ◌≡◌ {A = ℕ} 0 1 = cc in absurd (omega arith)
      go None true e t k rest w = let z : ◌≡◌ {A = ℕ} 0 1 = cc in absurd (omega arith)
      go None false e t k rest (inl s) = ap test s ∙ t
      go None false e t k rest (inr m) = rest e i m

  pub none_first : (n : ℕ) → ((i : ℕ) → i < n → test i ≡ false) → first_below n test ≡ None
  unfolding first_below
  none_first zero h = refl
  none_first (suc n) h = rw (none_first n (λ i l. h i (omega arith)), h n (omega arith))

  -- what is found is below n and passes, and nothing before it does
  pub first_found : (n i : ℕ) → first_below n test ≡ Some i → (i < n) × (test i ≡ true) × ((j : ℕ) → j < i → test j ≡ false)
  unfolding first_below
  first_found zero i h = let z : ◌≡◌ {A = ℕ} 0 1 = cc in absurd (omega arith)
  first_found (suc n) i h = go (first_below n test) (test n) refl refl h (first_found n i)
    where
      go : (f : Option ℕ) (b : Bool) → first_below n test ≡ f → test n ≡ b → option_or f (cond b (Some n) None) ≡ Some i
          → (first_below n test ≡ Some i → (i < n) × (test i ≡ true) × ((j : ℕ) → j < i → test j ≡ false))
          → (i < suc n) × (test i ≡ true) × ((j : ℕ) → j < i → test j ≡ false)
      go (Some j) b e t k rest = let r = rest (e ∙ k) in (omega arith, r.1, r.2)
      go None true e t k rest =
          let s : n ≡ i = cc in
          (omega arith, ap test (sym s) ∙ t, subst (λ (m : ℕ). (j : ℕ) → j < m → test j ≡ false) s (first_none n e))
      go None false e t k rest = let z : ◌≡◌ {A = ℕ} 0 1 = cc in absurd (omega arith)

-- two tests that agree below n find alike
pub first_same : (f g : ℕ → Bool) (n : ℕ) → ((i : ℕ) → i < n → f i ≡ g i) → first_below n f ≡ first_below n g
unfolding first_below
first_same f g zero h = refl
first_same f g (suc n) h = rw (first_same f g n (λ i l. h i (omega arith)), h n (omega arith))

pub found_none : (f : Option ℕ) → is_some f ≡ false → f ≡ None
found_none (Some i) h = let z : ◌≡◌ {A = ℕ} 0 1 = cc in absurd (omega arith)
found_none None h = refl
