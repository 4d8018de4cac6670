-- 01's words for when a call is refused ("Numbers that come back").
use Rattle.std.specs.Prelude.{ℕ, ◌<◌, ◌≡◌, ◌≢◌, ◌⊎◌, List, [], ◌∷◌, length, Some}
use Rattle.table.specs.declared.Task.{Task}
use Rattle.table.specs.declared.Sem.{Sem}
use Rattle.table.specs.declared.Status.TheVariants.{Idle, Ready, Event, Waits}
use Rattle.executive.specs.declared.state.State.{State}
use Rattle.executive.specs.States.{tasks_of, sems_of}
use Rattle.waits.specs.Waits.{task_at, sem_at}
use Rattle.waits.specs.Standing.{running_of}
use Rattle.waits.specs.Reaches.{Reaches}
use Rattle.theorems.specs.Histories.{Call, release, signal, withdraw, acquire, give, complete, block}

-- 20: unknown task
abbrev pub UnknownTask : List Task → ℕ → Type 0
UnknownTask tasks number = (i : ℕ) → i < length tasks → (task_at tasks i).number ≡ number → ⊥

-- the task with this number is so
abbrev pub TheTask : List Task → ℕ → (Task → Type 0) → Type 0
TheTask tasks number P = (i : ℕ) × (i < length tasks) × ((task_at tasks i).number ≡ number) × P (task_at tasks i)

-- 21: unknown semaphore
abbrev pub UnknownSem : List Sem → ℕ → Type 0
UnknownSem sems number = (k : ℕ) → k < length sems → (sem_at sems k).number ≡ number → ⊥

-- 26: no task runs, since none is ready
abbrev pub NobodyRuns : List Task → Type 0
NobodyRuns tasks = (i : ℕ) → i < length tasks → (task_at tasks i).status ≢ Ready

-- the task that runs is so
abbrev pub TheRunner : State → (ℕ → Type 0) → Type 0
TheRunner s P = (i : ℕ) × (running_of (tasks_of s) (sems_of s) ≡ Some i) × P i

-- the semaphore with this number is so
abbrev pub TheSem : List Sem → ℕ → (Sem → Type 0) → Type 0
TheSem sems number P = (k : ℕ) × (k < length sems) × ((sem_at sems k).number ≡ number) × P (sem_at sems k)

-- Release: 20 unknown task; 23 released task is not idle; 22 time before the last accepted release, or above 10^15
abbrev pub release_conditions : State → ℕ → ℕ → List (ℕ × Type 0)
release_conditions s number time =
    (20, UnknownTask (tasks_of s) number)
    ∷ (23, TheTask (tasks_of s) number (λ t. t.status ≢ Idle))
    ∷ (22, (time < s.last) ⊎ (1000000000000000 < time))
    ∷ []

-- Signal: 20 unknown task; 24 signalled task is not waiting for an event
abbrev pub signal_conditions : State → ℕ → List (ℕ × Type 0)
signal_conditions s number = (20, UnknownTask (tasks_of s) number) ∷ (24, TheTask (tasks_of s) number (λ t. t.status ≢ Event)) ∷ []

-- Withdraw: 20 unknown task; 25 withdrawn task is not waiting for a semaphore
abbrev pub withdraw_conditions : State → ℕ → List (ℕ × Type 0)
withdraw_conditions s number =
    (20, UnknownTask (tasks_of s) number) ∷ (25, TheTask (tasks_of s) number (λ t. (k : ℕ) → t.status ≢ Waits k)) ∷ []

-- Acquire: 26 no task runs; 21 unknown semaphore; 28 acquiring would close a ring of waits, one's own semaphore included: its holder is the caller, or
-- waits for it directly or through others. And 90: another holds it, the caller now waits
abbrev pub acquire_conditions : State → ℕ → List (ℕ × Type 0)
acquire_conditions s number =
    (26, NobodyRuns (tasks_of s))
    ∷ (21, UnknownSem (sems_of s) number)
    ∷ (28, TheRunner s (λ i. TheSem (sems_of s) number (λ e. (j : ℕ) × (e.holder ≡ Some j) × Reaches (tasks_of s) (sems_of s) i j)))
    ∷ (90, TheSem (sems_of s) number (λ e. (j : ℕ) × (e.holder ≡ Some j)))
    ∷ []

-- Give: 26 no task runs; 21 unknown semaphore; 29 given semaphore is not held by the running task
abbrev pub give_conditions : State → ℕ → List (ℕ × Type 0)
give_conditions s number =
    (26, NobodyRuns (tasks_of s))
    ∷ (21, UnknownSem (sems_of s) number)
    ∷ (29, TheRunner s (λ i. TheSem (sems_of s) number (λ e. e.holder ≢ Some i)))
    ∷ []

-- Complete: 26 no task runs; 27 running task still holds a semaphore
abbrev pub complete_conditions : State → List (ℕ × Type 0)
complete_conditions s =
    (26, NobodyRuns (tasks_of s))
    ∷ (27, TheRunner s (λ i. (k : ℕ) × (k < length (sems_of s)) × ((sem_at (sems_of s) k).holder ≡ Some i)))
    ∷ []

-- Block: 26 no task runs
abbrev pub block_conditions : State → List (ℕ × Type 0)
block_conditions s = (26, NobodyRuns (tasks_of s)) ∷ []

-- the conditions of a call, in the order in which document 01 lists them
abbrev pub conditions_of : State → Call → List (ℕ × Type 0)
conditions_of s (release number time) = release_conditions s number time
conditions_of s (signal number) = signal_conditions s number
conditions_of s (withdraw number) = withdraw_conditions s number
conditions_of s (acquire number) = acquire_conditions s number
conditions_of s (give number) = give_conditions s number
conditions_of s complete = complete_conditions s
conditions_of s block = block_conditions s
