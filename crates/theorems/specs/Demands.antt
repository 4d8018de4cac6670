-- The user's three demands as statements. Each is shown under the same name, in lower case, in proofs/Shown.antt.
use Rattle.std.specs.Prelude.{ℕ, ◌-◌, ◌%◌, ◌≤◌, ◌<◌, ◌≡◌, ◌↔◌, ◌≢◌, ◌⊎◌, true, false, List, [], ◌∷◌, ◌++◌, length, replicate, Some}
use Rattle.table.specs.declared.Board.{Board}
use Rattle.table.specs.declared.Task.{Task}
use Rattle.table.specs.WellFormed.{WellFormed}
use Rattle.fields.specs.Fields.{Bytes}
use Rattle.waits.specs.declared.standing.Rank.{Rank}
use Rattle.executive.specs.declared.state.State.{State}
use Rattle.executive.specs.Calls.{Stands}
use Rattle.executive.specs.States.{tasks_of, sems_of, empty_state}
use Rattle.executive.specs.Sound.{Sound}
use Rattle.waits.specs.Waits.{waits_on}
use Rattle.waits.specs.Standing.{own_of, better, standing_of, ready_at, running_of, number_at}
use Rattle.waits.specs.Reaches.{IsStanding}
use Rattle.executive.specs.Calls.{moved, stands_of}
use Rattle.executive.specs.Tables.{table_of, as_loaded}
use Rattle.judging.specs.Rows.{rows_of}
use Rattle.judging.specs.Verdicts.{verdict_of}
use Rattle.judging.specs.Passes.{Passes}
use Rattle.executive.specs.Reading.{accepted_load}
use Rattle.image.specs.Loading.{load_of}
use Rattle.image.specs.Writing.{encoded, write_number, written}
use Rattle.image.specs.Accepted.{Accepted}
use Rattle.theorems.specs.Comes.{Comes}
use Rattle.theorems.specs.Conditions.{conditions_of}
use Rattle.theorems.specs.Histories.{
  Call,
  acquire,
  withdraw,
  called,
  after,
  answers_to,
  is_accepted,
  accepted_of,
  accepted_numbers,
  numbers_of,
  Among,
}
use Rattle.theorems.specs.Loads.{GivenFor}
use Rattle.theorems.specs.Standings.{StandingAnswer}
use Rattle.theorems.specs.Undo.{Pulses}
use Rattle.theorems.specs.Verdicts.{Long, LateDp2, LateFp, judge_conditions, NamesFirst}
use Rattle.theorems.specs.When.{FirstThat}

-- Every state that comes is sound, and its table well formed: so no operation asks more of a state than 01 allows
abbrev pub ComesSound : Type 0
ComesSound = (s : State) → Comes s → Sound s

abbrev pub ComesWellFormed : Type 0
ComesWellFormed = (s : State) → Comes s → 1 ≤ s.n → WellFormed (tasks_of s) (sems_of s) s.board s.present

-- DEMAND 1. The number is one of 01's for that call
abbrev pub CallNumbers : Type 0
CallNumbers = (s : State) → Comes s → (c : Call) → Among (called s c).answer (numbers_of c)

-- and is given exactly when 01 lists it: it is that of the first of the call's conditions that holds, and 0 where none does
abbrev pub CallWhen : Type 0
CallWhen = (s : State) → Comes s → (c : Call) (k : ℕ) → ((called s c).answer ≡ k) ↔ FirstThat (conditions_of s c) k

-- a refused call changes no state
abbrev pub RefusedSame : Type 0
RefusedSame = (s : State) (c : Call) → is_accepted (called s c).answer ≡ false → (called s c).state ≡ s

-- a refused write changes no lent byte
abbrev pub RefusedWrite : Type 0
RefusedWrite = (s : State) (buffer : List ℕ) → write_number s (length buffer) ≢ 0 → written s buffer ≡ buffer

-- writing: 7 where there is no task; 9 where the buffer's length is not a multiple of 32, above 4,096, or too short
abbrev pub WriteWhen : Type 0
WriteWhen =
    (s : State) (bytes k : ℕ)
    → (write_number s bytes ≡ k)
    ↔ FirstThat ((7, s.n ≡ 0) ∷ (9, (bytes % 32 ≢ 0) ⊎ ((4096 < bytes) ⊎ (bytes < length (encoded (table_of s))))) ∷ []) k

-- loading: 1 where the length is wrong; else the first record of which a condition holds gives that number and its place; else 7; else 0
abbrev pub LoadWhen : Type 0
LoadWhen = (image : List ℕ) (k place : ℕ) → (((load_of image).number ≡ k) × ((load_of image).place ≡ place)) ↔ GivenFor image k place

-- judging: the first of the tests 7, 10, 11, 12, 13, 14 that fails, and 0 where none does
abbrev pub JudgeWhen : Type 0
JudgeWhen = (tasks : List Task) (board : Board) (k : ℕ) → ((verdict_of tasks board).number ≡ k) ↔ FirstThat (judge_conditions tasks board) k

-- judging names the first task in table order at which 10, 13 or 14 arises, and task 0 otherwise
abbrev pub JudgeNames : Type 0
JudgeNames =
    (tasks : List Task) (board : Board)
    → let rows = rows_of tasks board in
    let v = verdict_of tasks board in
    (v.number ≡ 10 → NamesFirst tasks (Long rows) v.task)
    × (v.number ≡ 13 → NamesFirst tasks (LateDp2 rows) v.task)
    × (v.number ≡ 14 → NamesFirst tasks (LateFp rows) v.task)
    × (v.number ≢ 10 → v.number ≢ 13 → v.number ≢ 14 → v.task ≡ 0)

-- a refused load hands back the empty state
abbrev pub RefusedLoad : Type 0
RefusedLoad = (image : List ℕ) → (load_of image).number ≢ 0 → (load_of image).state ≡ empty_state

-- DEMAND 2. An image is accepted exactly if it is the encoding of a well-formed table, followed by erased records only
abbrev pub AcceptedExactly : Type 0
AcceptedExactly = (image : List ℕ) → Bytes image → ((load_of image).number ≡ 0 → Accepted image) × (Accepted image → (load_of image).number ≡ 0)

-- write after load: a buffer of the loaded image's length gets that image back, a longer one with 255 behind it, whatever it held
abbrev pub WriteAfterLoad : Type 0
WriteAfterLoad =
    (image : List ℕ) → Bytes image → (load_of image).number ≡ 0 → (buffer : List ℕ) → length buffer % 32 ≡ 0 → length buffer ≤ 4096
    → length image ≤ length buffer
    → (write_number (load_of image).state (length buffer) ≡ 0)
    × (written (load_of image).state buffer ≡ image ++ replicate (length buffer - length image) 255)

-- load after write: what any state with a task writes loads with 0, and gives that table back with all tasks idle, as after loading
abbrev pub LoadAfterWrite : Type 0
LoadAfterWrite =
    (s : State) → Comes s → 1 ≤ s.n → (buffer : List ℕ) → write_number s (length buffer) ≡ 0
    → load_of (written s buffer) ≡ accepted_load (as_loaded s)

-- a table passes exactly if every published test passes, charges included, and the shared period is at most 10^12
abbrev pub PassesExactly : Type 0
PassesExactly =
    (s : State) → Comes s → 1 ≤ s.n → ((verdict_of (tasks_of s) s.board).number ≡ 0) ↔ Passes (tasks_of s) s.board

-- the task that runs is a ready one, and no ready task has a better standing, counting what it inherits
abbrev pub RunsBest : Type 0
RunsBest =
    (s : State) → Comes s → (i : ℕ) → running_of (tasks_of s) (sems_of s) ≡ Some i
    → (i < s.n) × (ready_at (tasks_of s) i ≡ true)
    × ((j : ℕ) → j < s.n → ready_at (tasks_of s) j ≡ true
    → better (standing_of (tasks_of s) (sems_of s) j) (standing_of (tasks_of s) (sems_of s) i) ≡ false)

-- the answer is 0 exactly if none is ready
abbrev pub RunsNone : Type 0
RunsNone =
    (s : State) → Comes s
    → (number_at (tasks_of s) (running_of (tasks_of s) (sems_of s)) ≡ 0) ↔ ((j : ℕ) → j < s.n → ready_at (tasks_of s) j ≡ false)

-- DEMAND 3, first half. After any calls on a loaded table, replaying only the accepted ones gives the same state and the same answers
abbrev pub Replayed : Type 0
Replayed =
    (s : State) (calls : List Call)
    → (after s (accepted_of s calls) ≡ after s calls) × (answers_to s (accepted_of s calls) ≡ accepted_numbers (answers_to s calls))

-- and there every task's standing is the one of 01, worked out afresh, and no other: the best of its own and those of all that wait for it,
-- directly or through others
abbrev pub Afresh : Type 0
Afresh =
    (s : State) → Comes s → (calls : List Call) → let t = after s (accepted_of s calls) in (i : ℕ) → i < t.n
    → (r : Rank) → IsStanding (tasks_of t) (sems_of t) i r ↔ (r ≡ standing_of (tasks_of (after s calls)) (sems_of (after s calls)) i)

-- the answer to the standing of a number is 20 and zeros exactly if no task has it, else 0 with the queue, deadline and position of that task's
-- standing
abbrev pub StandingWhen : Type 0
StandingWhen = (s : State) → Comes s → (number : ℕ) (a : Stands) → (stands_of s number ≡ a) ↔ StandingAnswer s number a

-- a task on which nobody waits has its own standing back
abbrev pub NobodyWaits : Type 0
NobodyWaits =
    (s : State) → Comes s → (i : ℕ) → i < s.n → ((j : ℕ) → j < s.n → waits_on (tasks_of s) (sems_of s) j ≡ Some i → ⊥)
    → standing_of (tasks_of s) (sems_of s) i ≡ own_of (tasks_of s) i

-- DEMAND 3, second half. On any state that comes, an acquire answered 90, then any list of releases and signals, then the withdrawal of that
-- caller leaves, with answer 0, the very state which the releases and signals alone leave, and each of them gets the same number
abbrev pub Undone : Type 0
Undone =
    (s : State) → Comes s → (sem : ℕ) → (called s (acquire sem)).answer ≡ 90 → (calls : List Call) → Pulses calls
    → (called (after (called s (acquire sem)).state calls) (withdraw (number_at (tasks_of s) (running_of (tasks_of s) (sems_of s))))
    ≡ moved (after s calls) 0)
    × (answers_to (called s (acquire sem)).state calls ≡ answers_to s calls)
