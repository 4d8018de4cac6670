-- What a sound state says of its entries.
-- Assumes nothing.
use Rattle.std.specs.Prelude.{Some}
use Prim.Native.Nat.{ℕ, ◌<◌}
use mathlib.Core.Path.{◌≡◌}
use native.Mathlib.Omega.{arith}
use lib.ListN.{length, get_or}
use lib.Seq.{get_or-take}
use Rattle.table.specs.Entries.{blank_task, blank_sem}
use Rattle.table.specs.WellFormed.{task_in_range}
use Rattle.table.proofs.SumLaws.{every_at}
use Rattle.table.proofs.OrderLaws.{TaskRange, task_range}
use Rattle.waits.specs.Waits.{task_at, sem_at, Chained, Used}
use Rattle.waits.specs.Standing.{running_of, heir_of}
use Rattle.waits.proofs.DispatchLaws.{runs_is, heir_is}
use Rattle.executive.specs.declared.state.State.{State}
use Rattle.executive.specs.States.{tasks_of, sems_of}
use Rattle.executive.specs.Sound.{Sound}
use Rattle.executive.proofs.LookupLaws.{tasks_count, sems_count}

-- an entry that is in use
pub task_at_lem : (s : State) (i : ℕ) → i < s.n → task_at (tasks_of s) i ≡ get_or s.tasks i blank_task
unfolding tasks_of task_at
task_at_lem s i h = get_or-take s.n s.tasks i blank_task h

pub sem_at_lem : (s : State) (k : ℕ) → k < s.m → sem_at (sems_of s) k ≡ get_or s.sems k blank_sem
unfolding sems_of sem_at
sem_at_lem s k h = get_or-take s.m s.sems k blank_sem h

module _ (s : State) (sound : Sound s) where
  pub tasks_length_lem : length (tasks_of s) ≡ s.n
  tasks_length_lem = tasks_count s sound.sized

  pub sems_length_lem : length (sems_of s) ≡ s.m
  sems_length_lem = sems_count s sound.sized

  -- who holds and who waits
  pub chained : Chained (tasks_of s) (sems_of s)
  chained =
      let tl = tasks_length_lem in
      let sl = sems_length_lem in
      record {
        held = λ k h i e. let below = (sound.holders k (omega arith) i e).0 in omega arith;
        waits = λ i h k e. let w = sound.waits i (omega arith) k e in let below = w.0 in (omega arith, w.1);
        ends = λ i h. sound.chains i (omega arith);
      }

  -- the ranges of a task's fields
  pub ranges : (i : ℕ) → i < s.n → TaskRange (task_at (tasks_of s) i)
  unfolding task_at
  ranges i h =
      let l = tasks_length_lem in
      task_range (task_at (tasks_of s) i) (every_at task_in_range (tasks_of s) (sound.table (omega arith)).task_ranges i (omega arith) blank_task)

  -- so its entries are what who runs, an heir, a standing and a ring are worked out from
  pub used : Used (tasks_of s) (sems_of s)
  used =
      let tl = tasks_length_lem in
      let sl = sems_length_lem in
      let z = sound.sized in
      record { tasks_fit = omega arith; sems_fit = omega arith; chained = chained }

  -- who runs and who inherits is a task that there is
  pub runs_below : (i : ℕ) → running_of (tasks_of s) (sems_of s) ≡ Some i → i < s.n
  runs_below i e = let l = tasks_length_lem in let b = (runs_is (tasks_of s) (sems_of s) i e).below in omega arith

  pub heir_below : (k i : ℕ) → heir_of (tasks_of s) (sems_of s) k ≡ Some i → i < s.n
  heir_below k i e = let l = tasks_length_lem in let b = (heir_is (tasks_of s) (sems_of s) k i e).below in omega arith
