-- The cases that document 01 marks P ("Bench figures"), in one table, with one statement over all rows.
use Rattle.std.specs.Prelude.{ℕ, ◌≡◌, false, List, [], ◌∷◌, map, length, replicate, None}
use Rattle.table.specs.declared.Board.{Board}
use Rattle.table.specs.declared.Task.{Task}
use Rattle.table.specs.declared.Sem.{Sem}
use Rattle.table.specs.declared.Status.TheVariants.{Idle}
use Rattle.table.specs.Entries.{built_in, no_figures}
use Rattle.executive.specs.declared.state.State.{State}
use Rattle.executive.specs.States.{tasks_of, sems_of}
use Rattle.waits.specs.Standing.{running_of, number_at}
use Rattle.executive.specs.Tables.{Table}
use Rattle.image.specs.Loading.{load_of}
use Rattle.image.specs.Writing.{encoded}
use Rattle.charges.specs.Charges.{charge_of}
use Rattle.judging.specs.Rows.{rows_of}
use Rattle.judging.specs.Periods.{shared_period}
use Rattle.judging.specs.Verdicts.{verdict_of}
use Rattle.theorems.specs.Histories.{Call, release, withdraw, acquire, give, called, after}

-- a call, the number that it gets, and the number of the task that runs then
abbrev pub Step : Type 0
Step = Call × ℕ × ℕ

-- a row of the table
pub data Case : Type 0 where
  -- tasks and figures; the charge of each task, the verdict's number and the task that it names
  judged : (tasks : List Task) (board : Board) (charges : List ℕ) (number task : ℕ) → Case
  -- the same, and the shared period of the DP tasks
  shared : (tasks : List Task) (board : Board) (charges : List ℕ) (number task period : ℕ) → Case
  -- a table, and calls from its loading on
  played : (table : Table) (steps : List Step) → Case
  -- the same, and other calls that lead to the same state
  undone : (table : Table) (steps : List Step) (others : List Call) → Case

-- the state that loading hands back for the image of a table. A refused one would hand back the empty state, on which no task is known
unfoldable pub loaded : Table → State
loaded table = (load_of (encoded table)).state

-- 01, "Dispatch": the answer is the number of the task that runs, or 0
unfoldable pub runs : State → ℕ
runs s = number_at (tasks_of s) (running_of (tasks_of s) (sems_of s))

-- calls made in turn from a state on, each with the number that it gets and the number of the task that runs then
unfoldable pub steps_of : State → List Call → List Step
steps_of s [] = []
steps_of s (c ∷ rest) = (c, (called s c).answer, runs (called s c).state) ∷ steps_of (called s c).state rest

abbrev pub calls_of : List Step → List Call
calls_of steps = map (λ step. step.0) steps

-- the charges and the verdict of a table
abbrev pub Judged : List Task → Board → List ℕ → ℕ → ℕ → Type 0
Judged tasks board charges number task =
    (map (charge_of tasks board) tasks ≡ charges) × (verdict_of tasks board ≡ record { number = number; task = task })

-- what a row says
abbrev pub Holds : Case → Type 0
Holds (judged tasks board charges number task) = Judged tasks board charges number task
Holds (shared tasks board charges number task period) =
    Judged tasks board charges number task × (shared_period (rows_of tasks board) (length tasks) ≡ period)
Holds (played table steps) = steps_of (loaded table) (calls_of steps) ≡ steps
Holds (undone table steps others) =
    (steps_of (loaded table) (calls_of steps) ≡ steps) × (after (loaded table) (calls_of steps) ≡ after (loaded table) others)

-- a task as it is loaded
abbrev pub task : ℕ → ℕ → ℕ → ℕ → Task
task queue number period cost = record { deadline = 0; period = period; cost = cost; due = 0; number = number; queue = queue; status = Idle }

-- the source's Table 1 workload, tasks 1 to 10, in the queues of the first four, the fifth and the rest
abbrev pub workload : ℕ → ℕ → ℕ → List Task
workload four fifth rest =
    task four 1 400000 100000
    ∷ task four 2 500000 100000
    ∷ task four 3 600000 100000
    ∷ task four 4 700000 100000
    ∷ task fifth 5 800000 50000
    ∷ task rest 6 2000000 50000
    ∷ task rest 7 3000000 50000
    ∷ task rest 8 5000000 50000
    ∷ task rest 9 10000000 50000
    ∷ task rest 10 13000000 50000
    ∷ []

-- a semaphore as it is loaded
abbrev pub sem : ℕ → Sem
sem number = record { number = number; holder = None }

-- FP tasks 7, 9, 11 by rising period, and these semaphores
abbrev pub three_fp : List Sem → Table
three_fp sems =
    record {
      tasks = task 3 7 1000 1 ∷ task 3 9 2000 1 ∷ task 3 11 3000 1 ∷ [];
      sems = sems;
      board = built_in;
      present = false;
    }

unfoldable pub cases : List Case
cases =
    -- P1. Two DP1 tasks, period 2,000, cost 1,000 each, all board figures zero: 0
    judged (task 1 7 2000 1000 ∷ task 1 9 2000 1000 ∷ []) no_figures (0 ∷ 0 ∷ []) 0 0
    -- P2. Second cost 1,001: 11
    ∷ judged (task 1 7 2000 1000 ∷ task 1 9 2000 1001 ∷ []) no_figures (0 ∷ 0 ∷ []) 11 0
    -- P3. Two DP1 tasks, cost 1, figures zero, periods 999,999 and 1,000,000: 0 (shared period 999,999,000,000)
    ∷ shared (task 1 1 999999 1 ∷ task 1 2 1000000 1 ∷ []) no_figures (0 ∷ 0 ∷ []) 0 0 999999000000
    -- P4. 1,000,000 and 1,000,001: 10 at the second
    ∷ judged (task 1 1 1000000 1 ∷ task 1 2 1000001 1 ∷ []) no_figures (0 ∷ 0 ∷ []) 10 2
    -- P5. The source's Table 1 workload, no board record, first five in DP1, the rest FP: charges 1,485 and 1,418 ticks; P6. its verdict is 0
    ∷ judged (workload 1 1 3) built_in (1485 ∷ 1485 ∷ 1485 ∷ 1485 ∷ 1485 ∷ 1418 ∷ 1418 ∷ 1418 ∷ 1418 ∷ 1418 ∷ []) 0 0
    -- P7. The same, all FP, figures zero: 14 at task 5
    ∷ judged (workload 3 3 3) no_figures (replicate 10 0) 14 5
    -- P8. All FP, no board record: charge 1,245, 14 at task 4
    ∷ judged (workload 3 3 3) built_in (replicate 10 1245) 14 4
    -- P9. First four in DP1, fifth DP2, rest FP, figures zero: 13 at task 5
    ∷ judged (workload 1 2 3) no_figures (replicate 10 0) 13 5
    -- P10. FP tasks 7, 9, 11 by rising period. Release 11 at 0; it acquires semaphore 1. Release 7 at 5; it acquires 1: 90. Release 9 at 6: 11
    -- runs. 11 gives 1: 7 runs
    ∷ played (three_fp (sem 1 ∷ []))
    ((release 11 0, 0, 11)
    ∷ (acquire 1, 0, 11)
    ∷ (release 7 5, 0, 7)
    ∷ (acquire 1, 90, 11)
    ∷ (release 9 6, 0, 11)
    ∷ (give 1, 0, 7)
    ∷ [])
    -- P11. As P10 up to 90, then withdraw 7: the state as if 7 had never asked
    ∷ undone (three_fp (sem 1 ∷ []))
    ((release 11 0, 0, 11)
    ∷ (acquire 1, 0, 11)
    ∷ (release 7 5, 0, 7)
    ∷ (acquire 1, 90, 11)
    ∷ (withdraw 7, 0, 7)
    ∷ [])
    (release 11 0 ∷ acquire 1 ∷ release 7 5 ∷ [])
    -- P12. 11 holds 1, 7 holds 2 and waits for 1; 11 acquires 2: 28
    ∷ played (three_fp (sem 1 ∷ sem 2 ∷ []))
    ((release 11 0, 0, 11)
    ∷ (acquire 1, 0, 11)
    ∷ (release 7 5, 0, 7)
    ∷ (acquire 2, 0, 7)
    ∷ (acquire 1, 90, 11)
    ∷ (acquire 2, 28, 11)
    ∷ [])
    ∷ []

-- every row holds
abbrev pub All : List Case → Type 0
All [] = Unit
All (c ∷ rest) = Holds c × All rest
