-- Demand 3, first half: replaying only the accepted calls gives the same state and the same answers.
-- Assumes nothing.
use Prim.Native.Nat.{ℕ}
use mathlib.Core.Path.{◌≡◌, refl, sym, ap, ◌∙◌}
use mathlib.Core.Logic.{◌⊎◌, inl, inr}
use mathlib.Core.Bool.{Bool, true, false, cond}
use mathlib.Core.List.{List, [], ◌∷◌}
use native.Mathlib.Omega.{arith}
use Rattle.executive.specs.declared.state.State.{State}
use Rattle.executive.specs.Calls.{Step}
use Rattle.kept.proofs.RefusedLaws.{
  Same,
  release_same,
  signal_same,
  withdraw_same,
  acquire_same,
  give_same,
  complete_same,
  block_same,
}
use Rattle.theorems.specs.Histories.{Call, release, signal, withdraw, acquire, give, complete, block, called, after, answers_to, is_accepted, accepted_of, accepted_numbers}

-- done, or waiting, or the very state
accepted_or_same : (s : State) (m : Step) → ((m.answer ≡ 90) ⊎ Same s m) → is_accepted m.answer ≡ false → m.state ≡ s
unfolding is_accepted
accepted_or_same s m (inl e) h = let z : ◌≡◌ {A = ℕ} 0 1 = let t = rw e at h in cc in absurd (omega arith)
accepted_or_same s m (inr (inl e)) h = let z : ◌≡◌ {A = ℕ} 0 1 = let t = rw e at h in cc in absurd (omega arith)
accepted_or_same s m (inr (inr e)) h = e

-- demand 1: a number other than 0 and 90 leaves the state as it was
pub refused_same : (s : State) (c : Call) → is_accepted (called s c).answer ≡ false → (called s c).state ≡ s
unfolding called
refused_same s (release number time) = accepted_or_same s _ (inr (release_same s number time))
refused_same s (signal number) = accepted_or_same s _ (inr (signal_same s number))
refused_same s (withdraw number) = accepted_or_same s _ (inr (withdraw_same s number))
refused_same s (acquire number) = accepted_or_same s _ (acquire_same s number)
refused_same s (give number) = accepted_or_same s _ (inr (give_same s number))
refused_same s complete = accepted_or_same s _ (inr (complete_same s))
refused_same s block = accepted_or_same s _ (inr (block_same s))

-- the accepted calls alone give the same state
replay_one : (s : State) (c : Call) (rest : List Call) (b : Bool) → is_accepted (called s c).answer ≡ b
    → after (called s c).state (accepted_of (called s c).state rest) ≡ after (called s c).state rest
    → after s (cond b (c ∷ accepted_of (called s c).state rest) (accepted_of (called s c).state rest)) ≡ after (called s c).state rest
unfolding after
replay_one s c rest true e same = same
replay_one s c rest false e same = ap (λ (r : State). after r (accepted_of (called s c).state rest)) (sym (refused_same s c e)) ∙ same

pub replay_state : (s : State) (calls : List Call) → after s (accepted_of s calls) ≡ after s calls
unfolding after accepted_of
replay_state s [] = refl
replay_state s (c ∷ rest) = replay_one s c rest (is_accepted (called s c).answer) refl (replay_state (called s c).state rest)

-- and the same answers
answers_one : (s : State) (c : Call) (rest : List Call) (b : Bool) → is_accepted (called s c).answer ≡ b
    → answers_to (called s c).state (accepted_of (called s c).state rest) ≡ accepted_numbers (answers_to (called s c).state rest)
    → answers_to s (cond b (c ∷ accepted_of (called s c).state rest) (accepted_of (called s c).state rest))
    ≡ cond b ((called s c).answer ∷ accepted_numbers (answers_to (called s c).state rest)) (accepted_numbers (answers_to (called s c).state rest))
unfolding answers_to
answers_one s c rest true e same = ap (λ (l : List ℕ). (called s c).answer ∷ l) same
answers_one s c rest false e same = ap (λ (r : State). answers_to r (accepted_of (called s c).state rest)) (sym (refused_same s c e)) ∙ same

pub replay_answers : (s : State) (calls : List Call) → answers_to s (accepted_of s calls) ≡ accepted_numbers (answers_to s calls)
unfolding answers_to accepted_of accepted_numbers
replay_answers s [] = refl
replay_answers s (c ∷ rest) = answers_one s c rest (is_accepted (called s c).answer) refl (replay_answers (called s c).state rest)
