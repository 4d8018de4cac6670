-- What the one scan over the tasks works out, and the look that may spare it. Nobody need believe anything of it: the contracts of running, heir,
-- standing and closes_ring do not cite it.
use Rattle.std.specs.Prelude.{ℕ, zero, suc, ◌≡◌, ◌<◌, Bool, true, false, cond, ◌&&◌, ◌||◌, List, ltb, eqb, length, get_or, Option, Some, None}
use Rattle.std.specs.Option.{option_map}
use Rattle.table.specs.declared.Task.{Task}
use Rattle.table.specs.declared.Sem.{Sem}
use Rattle.table.specs.declared.Status.{Status}
use Rattle.table.specs.Sums.{any}
use Rattle.waits.specs.declared.scan.Goal.{Goal}
use Rattle.waits.specs.declared.scan.Goal.TheVariants.{Ready, Is, WaitsFor}
use Rattle.waits.specs.declared.scan.Lead.{Lead}
use Rattle.waits.specs.declared.scan.Lead.TheVariants.{Nobody, ToSem, Met}
use Rattle.waits.specs.declared.scan.Best.{Best}
use Rattle.waits.specs.Waits.{task_at, sem_at, waits_for, holder_of, waits_on}
use Rattle.waits.specs.Standing.{found_and, found_or, own_of, shown_deadline, best_among, is_ready}

-- to the semaphore that is waited for, and to the task that is met
abbrev pub to_sem : Option ℕ → Lead
to_sem None = Nobody
to_sem (Some k) = ToSem k

abbrev pub to_met : Option ℕ → Lead
to_met None = Nobody
to_met (Some i) = Met i

-- the goal takes a task that does this at this position
unfoldable pub takes : Goal → Status → ℕ → Bool
takes Ready now i = is_ready now
takes (Is j) now i = eqb i j
takes (WaitsFor k) now i = found_and (λ at. eqb at k) (waits_for now)

-- the same for the task at a position
unfoldable pub taken_at : List Task → Goal → ℕ → Bool
taken_at tasks goal i = takes goal (task_at tasks i).status i

-- what comes behind the position that was found
unfoldable pub onward : (ℕ → Option ℕ) → Option ℕ → Option ℕ
onward next None = None
onward next (Some i) = next i

-- the first task on the chain of waits from a task on that the goal takes, with at most so many tasks looked at
unfoldable pub meets : List Task → List Sem → Goal → ℕ → ℕ → Option ℕ
meets tasks sems goal zero j = None
meets tasks sems goal (suc more) j =
    cond (taken_at tasks goal j) (Some j) (onward (meets tasks sems goal more) (waits_on tasks sems j))

-- the same over a whole chain
unfoldable pub met_by : List Task → List Sem → Goal → ℕ → Option ℕ
met_by tasks sems goal j = meets tasks sems goal (suc (length sems)) j

-- where the holder of a semaphore leads: it is met itself, or the semaphore that it waits for, or nobody
unfoldable pub holder_leads : Goal → Status → ℕ → Lead
holder_leads goal now i = cond (takes goal now i) (Met i) (to_sem (waits_for now))

unfoldable pub led_by : List Task → Goal → Option ℕ → Lead
led_by tasks goal None = Nobody
led_by tasks goal (Some i) = holder_leads goal (task_at tasks i).status i

-- a table of where each semaphore leads
abbrev pub Linked : List Task → List Sem → Goal → List Lead → Type 0
Linked tasks sems goal link = (k : ℕ) → k < length sems → get_or link k Nobody ≡ led_by tasks goal (sem_at sems k).holder

-- the table followed from a place on, so many steps at the most
unfoldable pub walked : ℕ → List Lead → Lead → Lead
walked zero link at = at
walked (suc more) link Nobody = Nobody
walked (suc more) link (Met i) = Met i
walked (suc more) link (ToSem k) = cond (ltb k 16) (walked more link (get_or link k Nobody)) (ToSem k)

-- no semaphore is to be followed
unfoldable pub ended : Lead → Bool
ended Nobody = true
ended (Met i) = true
ended (ToSem k) = false

-- where the chain of a task leads
unfoldable pub led_to : List Lead → Goal → Status → ℕ → Lead
led_to link goal now i = cond (takes goal now i) (Met i) (walked 17 link (to_sem (waits_for now)))

-- the best so far, and whether the next task would stand before it
abbrev pub as_best : Task → ℕ → ℕ → Best
as_best t i met = record { deadline = shown_deadline t; queue = t.queue; position = i; met = met }

unfoldable pub is_ahead : Option Best → Task → Bool
is_ahead None t = true
is_ahead (Some best) t = ltb t.queue best.queue || (eqb t.queue best.queue && ltb (shown_deadline t) best.deadline)

-- the task of the best own standing whose chain meets the goal
unfoldable pub winner_of : List Task → List Sem → Goal → ℕ → Option ℕ
winner_of tasks sems goal n = best_among (λ j. found_and (λ _. true) (met_by tasks sems goal j)) (own_of tasks) n

unfoldable pub best_for : List Task → List Sem → Goal → Option ℕ → Option Best
best_for tasks sems goal None = None
best_for tasks sems goal (Some w) = Some (as_best (task_at tasks w) w (found_or w (met_by tasks sems goal w)))

-- what the scan hands back
abbrev pub scan_of : List Task → List Sem → Goal → Option Best
scan_of tasks sems goal = best_for tasks sems goal (winner_of tasks sems goal (length tasks))

-- the task that is met there
abbrev pub met_found : Option Best → Option ℕ
met_found best = option_map (λ b. b.met) best

-- a task waits for a semaphore that the task at a position holds, and somebody does
unfoldable pub on_holder : List Sem → ℕ → Task → Bool
on_holder sems i t = found_and (λ at. eqb at i) (holder_of sems (waits_for t.status))

unfoldable pub waited_on : List Task → List Sem → ℕ → Bool
waited_on tasks sems i = any (on_holder sems i) tasks
