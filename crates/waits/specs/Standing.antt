-- Own standing, standing, and the task that runs (01, "Dispatch").
use Rattle.std.specs.Prelude.{ℕ, zero, suc, Bool, true, false, cond, not, ◌&&◌, ◌||◌, List, ltb, eqb, length, Option, Some, None}
use Rattle.table.specs.declared.Task.{Task}
use Rattle.table.specs.declared.Sem.{Sem}
use Rattle.table.specs.declared.Status.{Status}
use Rattle.table.specs.declared.Status.TheVariants.{Idle, Ready, Event, Waits}
use Rattle.table.specs.Sums.{any}
use Rattle.waits.specs.declared.standing.Rank.{Rank}
use Rattle.waits.specs.Waits.{task_at, sem_at, waits_for, waits_on}

-- the deadline as a standing shows it: 0 in FP, which is queue 3
unfoldable pub shown_deadline : Task → ℕ
shown_deadline t = cond (eqb t.queue 3) 0 t.deadline

-- 01, "Dispatch": a standing comes back as queue, deadline (0 in FP) and position. The own one of a task at a position
abbrev pub own_rank : Task → ℕ → Rank
own_rank t i = record { queue = t.queue; deadline = shown_deadline t; position = i }

unfoldable pub own_of : List Task → ℕ → Rank
own_of tasks i = own_rank (task_at tasks i) i

-- 01, "Dispatch": queue first; inside DP1 or DP2 earlier deadline, then position; in FP position, the deadline being 0 there
unfoldable pub better : Rank → Rank → Bool
better a b =
    ltb a.queue b.queue
    || (eqb a.queue b.queue
    && (ltb a.deadline b.deadline || (eqb a.deadline b.deadline && ltb a.position b.position)))

-- what is so of the position that was found, and not so where none was
unfoldable pub found_and : (ℕ → Bool) → Option ℕ → Bool
found_and test None = false
found_and test (Some i) = test i

-- the chain of waits that starts at a task passes the task i, with at most so many tasks looked at
unfoldable pub passes : List Task → List Sem → ℕ → ℕ → ℕ → Bool
passes tasks sems zero i j = false
passes tasks sems (suc more) i j = eqb j i || found_and (passes tasks sems more i) (waits_on tasks sems j)

-- the task j is i, or waits for it directly or through others. A chain passes each semaphore once, so it has one task more than there are
-- semaphores at the most
unfoldable pub reaches : List Task → List Sem → ℕ → ℕ → Bool
reaches tasks sems i j = passes tasks sems (suc (length sems)) i j

-- of the position found so far and another one, that of the better rank
unfoldable pub preferred : (ℕ → Rank) → ℕ → Option ℕ → Option ℕ
preferred rank j None = Some j
preferred rank j (Some i) = cond (better (rank j) (rank i)) (Some j) (Some i)

-- the position below n of the best rank, among those that pass the test
unfoldable pub best_among : (ℕ → Bool) → (ℕ → Rank) → ℕ → Option ℕ
best_among test rank zero = None
best_among test rank (suc n) = cond (test n) (preferred rank n) (λ best. best) (best_among test rank n)

-- the position that was found, or the other one
unfoldable pub found_or : ℕ → Option ℕ → ℕ
found_or other None = other
found_or other (Some i) = i

-- 01, "Dispatch": a task's standing is the best of its own and those of all that wait, directly or through others, for a semaphore it holds
unfoldable pub standing_of : List Task → List Sem → ℕ → Rank
standing_of tasks sems i = own_of tasks (found_or i (best_among (reaches tasks sems i) (own_of tasks) (length tasks)))

-- 01, "Dispatch": a task is idle, ready, waiting for an event, or waiting for a semaphore
unfoldable pub is_idle : Status → Bool
is_idle Idle = true
is_idle Ready = false
is_idle Event = false
is_idle (Waits k) = false

unfoldable pub is_ready : Status → Bool
is_ready Idle = false
is_ready Ready = true
is_ready Event = false
is_ready (Waits k) = false

unfoldable pub is_event : Status → Bool
is_event Idle = false
is_event Ready = false
is_event Event = true
is_event (Waits k) = false

-- the task at a position is ready
unfoldable pub ready_at : List Task → ℕ → Bool
ready_at tasks i = is_ready (task_at tasks i).status

-- the task at a position waits for the semaphore at the place k
unfoldable pub waiter_at : List Task → ℕ → ℕ → Bool
waiter_at tasks k i = found_and (λ at. eqb at k) (waits_for (task_at tasks i).status)

-- 01, "Dispatch": the ready task of best standing runs
unfoldable pub running_of : List Task → List Sem → Option ℕ
running_of tasks sems = best_among (ready_at tasks) (standing_of tasks sems) (length tasks)

-- 01, "Dispatch": the waiter of best standing
unfoldable pub heir_of : List Task → List Sem → ℕ → Option ℕ
heir_of tasks sems k = best_among (waiter_at tasks k) (standing_of tasks sems) (length tasks)

-- 01, "Dispatch": the answer is its number, or 0
unfoldable pub number_at : List Task → Option ℕ → ℕ
number_at tasks None = 0
number_at tasks (Some i) = (task_at tasks i).number

-- there is none
unfoldable pub is_none : Option ℕ → Bool
is_none f = not (found_and (λ _. true) f)

-- the semaphore is held by the task at a position
unfoldable pub holds_it : ℕ → Sem → Bool
holds_it i entry = found_and (λ at. eqb at i) entry.holder

-- 01, "Numbers that come back", 27: the task at a position still holds a semaphore
unfoldable pub still_holds : List Sem → ℕ → Bool
still_holds sems i = any (holds_it i) sems

-- 01, "Numbers that come back", 28: acquiring would close a ring of waits, one's own semaphore included: the holder is the caller, or waits on it,
-- directly or through others
unfoldable pub closes_ring : List Task → List Sem → ℕ → ℕ → Bool
closes_ring tasks sems i k = found_and (reaches tasks sems i) ((sem_at sems k).holder)
