-- What 01, "Dispatch", says of standings and of the running task, over entries of which Chained holds: the computed standing is the one over the
-- closure of waits, and the only one; a ready task of best standing runs, and nobody exactly if none is ready; no two ready tasks share a
-- standing.
-- Assumes nothing.
use Rattle.std.specs.Prelude.{Some, None}
use Prim.Native.Nat.{ℕ, ◌<◌}
use mathlib.Core.Path.{◌≡◌, refl, ap, ◌∙◌}
use mathlib.Core.Bool.{true, false}
use mathlib.Core.List.{List}
use native.Mathlib.Omega.{arith}
use lib.Dec.{eqb}
use lib.ListN.{length}
use borrow.Author.Tests.{eq-eqb}
use Rattle.table.specs.declared.Task.{Task}
use Rattle.table.specs.declared.Sem.{Sem}
use Rattle.table.specs.Entries.{blank_task}
use Rattle.table.proofs.SumLaws.{any_none}
use Rattle.waits.specs.declared.scan.Goal.{Goal}
use Rattle.waits.specs.declared.standing.Rank.{Rank}
use Rattle.waits.specs.Waits.{task_at, waits_on, Chained}
use Rattle.waits.specs.Standing.{found_and, own_of, better, standing_of, ready_at, waiter_at, running_of, heir_of}
use Rattle.waits.specs.Reaches.{Reaches, IsStanding}
use Rattle.waits.specs.Scan.{taken_at, takes, on_holder, waited_on}
use Rattle.waits.proofs.RankLaws.{better_total, IsBest, best_is, best_none, best_nothing}
use Rattle.waits.proofs.ChainLaws.{on_held, reaches_true, true_reaches}
use Rattle.waits.proofs.StandingLaws.{standing_at, taken_once, apart_ready}

-- a standing is unique: the best of some is one
pub standing_one : (tasks : List Task) (sems : List Sem) (i : ℕ) (a b : Rank) → IsStanding tasks sems i a → IsStanding tasks sems i b → a ≡ b
standing_one tasks sems i a b x y =
    better_total a b
    (ap (λ (r : Rank). better r b) x.some.3 ∙ y.best x.some.0 x.some.1 x.some.2)
    (ap (λ (r : Rank). better r a) y.some.3 ∙ x.best y.some.0 y.some.1 y.some.2)

module _ (tasks : List Task) (sems : List Sem) where
  -- the running task and the heir are the best of those that may be
  pub runs_is : (i : ℕ) → running_of tasks sems ≡ Some i → IsBest (ready_at tasks) (standing_of tasks sems) (length tasks) i
  unfolding running_of
  runs_is i e = best_is (ready_at tasks) (standing_of tasks sems) (length tasks) i e

  pub heir_is : (k i : ℕ) → heir_of tasks sems k ≡ Some i → IsBest (waiter_at tasks k) (standing_of tasks sems) (length tasks) i
  unfolding heir_of
  heir_is k i e = best_is (waiter_at tasks k) (standing_of tasks sems) (length tasks) i e

  -- nobody runs exactly if none is ready
  pub runs_none : running_of tasks sems ≡ None → (j : ℕ) → j < length tasks → ready_at tasks j ≡ false
  unfolding running_of
  runs_none e j h = best_none (ready_at tasks) (standing_of tasks sems) (length tasks) e j h

  pub none_runs : ((j : ℕ) → j < length tasks → ready_at tasks j ≡ false) → running_of tasks sems ≡ None
  unfolding running_of
  none_runs h = best_nothing (ready_at tasks) (standing_of tasks sems) (length tasks) h

module _ (tasks : List Task) (sems : List Sem) (c : Chained tasks sems) where
  -- the standing that is computed is the one of 01
  pub standing_is : (i : ℕ) → i < length tasks → IsStanding tasks sems i (standing_of tasks sems i)
  standing_is i h =
      let w = standing_at tasks sems c i h in
      record {
        some = (w.0, w.2.below, true_reaches tasks sems c i w.0 w.2.passes, w.1);
        best = λ j hj r. ap (better (own_of tasks j)) w.1 ∙ w.2.best j hj (reaches_true tasks sems c i j hj r);
      }

  -- a task on which nobody waits has its own standing
  pub nobody_waits : (i : ℕ) → i < length tasks → ((j : ℕ) → j < length tasks → waits_on tasks sems j ≡ Some i → ⊥)
      → standing_of tasks sems i ≡ own_of tasks i
  nobody_waits i h none =
      let w = (standing_is i h).some in
      w.3 ∙ ap (own_of tasks) (alone w.0 w.1 w.2)
    where
      alone : (j : ℕ) → j < length tasks → Reaches tasks sems i j → j ≡ i
      alone j hj (Reaches.here) = refl
      alone j hj (Reaches.there {k = k} e r) = absurd (waited j k hj e r)
        where
          waited : (j k : ℕ) → j < length tasks → waits_on tasks sems j ≡ Some k → Reaches tasks sems i k → ⊥
          waited j k hj e (Reaches.here) = none j hj e
          waited j k hj e (Reaches.there {k = next} f r) = waited k next (on_held tasks sems c j k hj e).4 f r

  -- the same, where that is what was asked
  pub not_waited_on : (i : ℕ) → i < length tasks → waited_on tasks sems i ≡ false → standing_of tasks sems i ≡ own_of tasks i
  unfolding waited_on on_holder waits_on task_at found_and
  not_waited_on i h none =
      nobody_waits i h
      (λ j hj e.
      let no = any_none (on_holder sems i) tasks none j hj blank_task in
      let yes : found_and (λ at. eqb at i) (Some i) ≡ true = eq-eqb i i refl in
      let same = ap (found_and (λ at. eqb at i)) e in
      let z : ◌≡◌ {A = ℕ} 0 1 = cc in
      omega arith)

  -- no two ready tasks share a standing
  pub ready_once : (i j : ℕ) → i < length tasks → j < length tasks → ready_at tasks i ≡ true → ready_at tasks j ≡ true
      → standing_of tasks sems i ≡ standing_of tasks sems j → i ≡ j
  unfolding ready_at taken_at takes
  ready_once i j hi hj ri rj e = taken_once tasks sems c Goal.Ready (apart_ready tasks sems c) i j hi hj ri rj e
