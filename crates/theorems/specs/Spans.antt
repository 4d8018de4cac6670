-- 02, a): shorter deadlines for FP tasks, sentence by sentence. Each is shown under the same name, in lower case, in proofs/Spanned.antt.
use Rattle.std.specs.Prelude.{ℕ, ◌+◌, ◌/◌, ◌≤◌, ◌<◌, ◌≡◌, ◌↔◌, ◌⊎◌, Bool, true, not, ◌||◌, List, [], ◌∷◌, eqb, length, get_or, take, drop}
use Rattle.fields.specs.Fields.{all_are}
use Rattle.table.specs.declared.Board.{Board}
use Rattle.table.specs.declared.Task.{Task}
use Rattle.table.specs.Entries.{built_in, span_of}
use Rattle.table.specs.Sums.{every}
use Rattle.waits.specs.Waits.{task_at}
use Rattle.waits.specs.Standing.{own_of}
use Rattle.executive.specs.declared.state.State.{State}
use Rattle.executive.specs.States.{tasks_of}
use Rattle.judging.specs.Rows.{rows_of}
use Rattle.judging.specs.Demands.{demand_fp, TimeUpTo, TimeFp}
use Rattle.image.specs.Loading.{load_of, records_in}
use Rattle.theorems.specs.Cases.{Case, judged, task, All}
use Rattle.theorems.specs.Comes.{Comes}
use Rattle.theorems.specs.Histories.{release, called}

-- "Zero means the period. Otherwise it lies from the cost to one less than the period, and only in FP; DP tasks keep zero": so it is with every
-- task of every state that comes
abbrev pub DueFits : Type 0
DueFits =
    (s : State) → Comes s → (i : ℕ) → i < s.n → let t = task_at (tasks_of s) i in
    (t.due ≡ 0) ⊎ ((t.queue ≡ 3) × (t.cost ≤ t.due) × (t.due < t.period))

-- so the span, from a release to its deadline, has room for the cost and ends by the period
abbrev pub SpanFits : Type 0
SpanFits = (s : State) → Comes s → (i : ℕ) → i < s.n → let t = task_at (tasks_of s) i in (t.cost ≤ span_of t) × (span_of t ≤ t.period)

-- "The fixed-priority test searches t up to it"
abbrev pub SearchedTo : Type 0
SearchedTo =
    (tasks : List Task) (board : Board) (i : ℕ) → i < length tasks
    → TimeFp (rows_of tasks board) i ↔ TimeUpTo (demand_fp (rows_of tasks board) i) (span_of (task_at tasks i))

-- "and a release adds it in place of the period"
abbrev pub ReleaseAdds : Type 0
ReleaseAdds =
    (s : State) → Comes s → (i : ℕ) → i < s.n → (time : ℕ) → let t = task_at (tasks_of s) i in let next = called s (release t.number time) in
    next.answer ≡ 0 → (task_at (tasks_of next.state) i).deadline ≡ time + span_of t

-- "Dispatch in FP stays by position": a task's own standing there has deadline 0, whatever its record says
abbrev pub ByPosition : Type 0
ByPosition = (tasks : List Task) (i : ℕ) → (task_at tasks i).queue ≡ 3 → own_of tasks i ≡ record { queue = 3; deadline = 0; position = i }

-- a task with a deadline of its own
abbrev own_due : Task → ℕ → Task
own_due t due =
    record {
      deadline = t.deadline;
      period = t.period;
      cost = t.cost;
      due = due;
      number = t.number;
      queue = t.queue;
      status = t.status;
    }

-- the pulse guard of examples/tables, task 7, behind two loops
abbrev guarded : ℕ → ℕ → ℕ → List Task
guarded second due last =
    task 1 1 400000 100000 ∷ task 1 2 500000 second ∷ own_due (task 3 7 1000000 60000) due ∷ task 3 9 2000000 last ∷ []

-- "The pulse guard must finish well before its next period": with the period it passes, with its deadline it is refused with 14, and where task 2
-- leaves a part of its work to task 9 it fits
unfoldable pub guards : List Case
guards =
    judged (guarded 120000 0 200000) built_in (1260 ∷ 1260 ∷ 1143 ∷ 1143 ∷ []) 0 0
    ∷ judged (guarded 120000 250000 200000) built_in (1260 ∷ 1260 ∷ 1143 ∷ 1143 ∷ []) 14 7
    ∷ judged (guarded 80000 250000 360000) built_in (1260 ∷ 1260 ∷ 1143 ∷ 1143 ∷ []) 0 0
    ∷ []

abbrev pub GuardsHold : Type 0
GuardsHold = All guards

-- "old images read as before": a record that is no task, or whose bytes 12..15 are zero
unfoldable pub old_record : List ℕ → Bool
old_record r = not (eqb (get_or r 0 0) 1) || all_are 0 (take 4 (drop 12 r))

-- where every record of an image is so, every task of it has its period for a span
abbrev pub OldImages : Type 0
OldImages =
    (image : List ℕ) → every old_record (records_in (length image / 32) image) ≡ true → let s = (load_of image).state in (i : ℕ) → i < s.n
    → span_of (task_at (tasks_of s) i) ≡ (task_at (tasks_of s) i).period
