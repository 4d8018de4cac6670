-- The laws of a refusal list: proved once, over the list, for every call.
-- Assumes nothing.
use Prim.Native.Nat.{ℕ}
use mathlib.Core.Path.{◌≡◌, refl, sym, ◌∙◌, ap}
use mathlib.Core.Logic.{◌≢◌}
use mathlib.Core.Bool.{Bool, true, false}
use mathlib.Core.List.{List, [], ◌∷◌}
use native.Mathlib.Omega.{arith}
use borrow.Author.Tests.{eq-eqb, ne_eqb}
use Rattle.std.specs.Prelude.{eqb, cond}
use Rattle.table.specs.declared.refusals.Refusal.{Refusal}
use Rattle.table.specs.declared.refusals.Refusal.TheVariants.{
  ImageLength,
  UnknownKind,
  UsedAfterErased,
  OutOfRange,
  OrderBroken,
  TooMany,
  NoTask,
  NumberTwice,
  BufferLength,
  SharedPeriod,
  Dp1OverFull,
  DpOverFull,
  Dp2NoTime,
  FpNoTime,
  UnknownTask,
  UnknownSem,
  TimeRefused,
  NotIdle,
  NoEventWait,
  NoSemWait,
  NobodyRuns,
  StillHolds,
  Ring,
  NotHeld,
  ListSize,
  ListPolicy,
  ListTimes,
  NoList,
}
use Rattle.table.specs.Refusals.{first_of, answered, number_of}

-- a number other than 0 is a refusal
pub answered_refused : {A : Type 0} (k : ℕ) (refused : ℕ → A) (done : A) → k ≢ 0 → answered k refused done ≡ refused k
unfolding answered
answered_refused k refused done h = rw (ne_eqb k 0 h)

-- 0 is what the call does
pub answered_done : {A : Type 0} (k : ℕ) (refused : ℕ → A) (done : A) → k ≡ 0 → answered k refused done ≡ done
unfolding answered
answered_done k refused done h = rw (eq-eqb k 0 h)

-- the first test holds: its number is given
pub first_of_here : (k : ℕ) (test : Bool) (rest : List (ℕ × Bool)) → test ≡ true → first_of ((k, test) ∷ rest) ≡ k
unfolding first_of
first_of_here k test rest h = rw h

-- the first test does not hold: the rest decides
pub first_of_past : (k : ℕ) (test : Bool) (rest : List (ℕ × Bool)) → test ≡ false → first_of ((k, test) ∷ rest) ≡ first_of rest
unfolding first_of
first_of_past k test rest h = rw h

-- an empty list refuses nothing
pub first_of_none : first_of [] ≡ 0
unfolding first_of
first_of_none = refl

-- where nothing is refused, no test of a refusal holds
pub first_of_zero : (k : ℕ) (test : Bool) (rest : List (ℕ × Bool)) → k ≢ 0 → first_of ((k, test) ∷ rest) ≡ 0 → (test ≡ false) × (first_of rest ≡ 0)
unfolding first_of
first_of_zero k true rest ne e = absurd (ne e)
first_of_zero k false rest ne e = (refl, e)

-- the refusal of a number
refusal_of : ℕ → Refusal
refusal_of k =
    cond (eqb k 1) ImageLength (cond (eqb k 2) UnknownKind (cond (eqb k 3) UsedAfterErased (cond (eqb k 4) OutOfRange (cond (eqb k 5) OrderBroken (cond (eqb k 6) TooMany (cond (eqb k 7) NoTask (cond (eqb k 8) NumberTwice (cond (eqb k 9) BufferLength (cond (eqb k 10) SharedPeriod (cond (eqb k 11) Dp1OverFull (cond (eqb k 12) DpOverFull (cond (eqb k 13) Dp2NoTime (cond (eqb k 14) FpNoTime (cond (eqb k 20) UnknownTask (cond (eqb k 21) UnknownSem (cond (eqb k 22) TimeRefused (cond (eqb k 23) NotIdle (cond (eqb k 24) NoEventWait (cond (eqb k 25) NoSemWait (cond (eqb k 26) NobodyRuns (cond (eqb k 27) StillHolds (cond (eqb k 28) Ring (cond (eqb k 29) NotHeld (cond (eqb k 40) ListSize (cond (eqb k 41) ListPolicy (cond (eqb k 42) ListTimes (NoList)))))))))))))))))))))))))))

-- each is the refusal of its number
refusal_back : (r : Refusal) → refusal_of (number_of r) ≡ r
unfolding refusal_of
refusal_back ImageLength = refl
refusal_back UnknownKind = refl
refusal_back UsedAfterErased = refl
refusal_back OutOfRange = refl
refusal_back OrderBroken = refl
refusal_back TooMany = refl
refusal_back NoTask = refl
refusal_back NumberTwice = refl
refusal_back BufferLength = refl
refusal_back SharedPeriod = refl
refusal_back Dp1OverFull = refl
refusal_back DpOverFull = refl
refusal_back Dp2NoTime = refl
refusal_back FpNoTime = refl
refusal_back UnknownTask = refl
refusal_back UnknownSem = refl
refusal_back TimeRefused = refl
refusal_back NotIdle = refl
refusal_back NoEventWait = refl
refusal_back NoSemWait = refl
refusal_back NobodyRuns = refl
refusal_back StillHolds = refl
refusal_back Ring = refl
refusal_back NotHeld = refl
refusal_back ListSize = refl
refusal_back ListPolicy = refl
refusal_back ListTimes = refl
refusal_back NoList = refl

-- two refusals of one number are one
pub number_apart : (a b : Refusal) → number_of a ≡ number_of b → a ≡ b
number_apart a b e = sym (refusal_back a) ∙ ap refusal_of e ∙ refusal_back b

-- no refusal's number is one that no refusal has: 0, 90, or 255 where no call is made
other : (r : Refusal) (k : ℕ) → refusal_of k ≡ NoList → (k ≡ 43 → ⊥) → number_of r ≡ k → ⊥
other r k last ne e = let same : number_of r ≡ 43 = ap number_of (sym (refusal_back r) ∙ ap refusal_of e ∙ last) in ne (sym e ∙ same)

pub number_not_zero : (r : Refusal) → eqb (number_of r) 0 ≡ false
unfolding refusal_of
number_not_zero r = ne_eqb (number_of r) 0 (other r 0 refl (λ e. omega arith))

pub number_not_waits : (r : Refusal) → eqb (number_of r) 90 ≡ false
unfolding refusal_of
number_not_waits r = ne_eqb (number_of r) 90 (other r 90 refl (λ e. omega arith))

pub number_not_untold : (r : Refusal) → eqb (number_of r) 255 ≡ false
unfolding refusal_of
number_not_untold r = ne_eqb (number_of r) 255 (other r 255 refl (λ e. omega arith))
