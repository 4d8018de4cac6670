-- The sentences of 02, a), shown: each statement of specs/Spans.antt under its name in lower case.
-- Assumes nothing.
use Rattle.std.specs.Prelude.{Err, Ok, Result, Some}
use Prim.Native.Nat.{ℕ, zero, suc, ◌+◌, ◌/◌}
use mathlib.Core.Path.{◌≡◌, refl, sym, ap, subst, ◌∙◌}
use mathlib.Core.Bool.{Bool, true, false, cond, not, ◌&&◌, ◌||◌}
use mathlib.Core.List.{List, [], ◌∷◌}
use lib.Dec.{eqb}
use lib.ListN.{length, get_or, take, drop}
use borrow.Author.Tests.{eq-eqb, eqb-true, eqb-false}
use Rattle.fields.specs.Fields.{value_of, read_at, all_are}
use Rattle.fields.proofs.ByteLaws.{value_zeros}
use Rattle.table.specs.declared.Task.{Task}
use Rattle.table.specs.declared.Status.TheVariants.{Ready}
use Rattle.table.specs.Entries.{blank_task, span_of, with_status, with_deadline}
use Rattle.table.specs.Refusals.{first_of, answered}
use Rattle.table.specs.Sums.{every}
use Rattle.table.specs.Places.{task_place}
use Rattle.table.specs.WellFormed.{task_in_range, sem_in_range, board_in_range}
use Rattle.table.proofs.OrderLaws.{span_range, span_none}
use Rattle.table.proofs.SumLaws.{both, both_left, both_right, either_way, every_append}
use Rattle.waits.specs.Waits.{task_at}
use Rattle.waits.specs.Standing.{shown_deadline, own_of}
use Rattle.executive.specs.Calls.{Step}
use Rattle.executive.specs.States.{tasks_of, empty_state}
use Rattle.executive.specs.Sound.{Sound}
use Rattle.executive.specs.Calls.{with_last, busy, untimely, moved, release_at, release_of}
use Rattle.executive.specs.Tables.{Table, add_task, add_sem, add_board, state_of}
use Rattle.executive.proofs.CallLaws.{on_refused, on_done}
use Rattle.executive.proofs.LookupLaws.{task_found}
use Rattle.executive.proofs.SoundLaws.{ranges}
use Rattle.executive.proofs.TableLaws.{state_tasks}
use Rattle.kept.proofs.KeepLaws.{task_set_same}
use Rattle.table.specs.declared.refusals.Refusal.{Refusal}
use Rattle.table.specs.declared.refusals.Refusal.TheVariants.{UnknownKind, OutOfRange}
use Rattle.records.specs.declared.Record.{Record}
use Rattle.records.specs.declared.Record.TheVariants.{Erased, Task as TaskRecord, Board as BoardRecord, Sem as SemRecord}
use Rattle.records.specs.Records.{task_in, board_in, sem_in, task_decoded, board_decoded, sem_decoded, decoded}
use Rattle.judging.specs.Rows.{row_at, row_of, rows_of}
use Rattle.judging.specs.declared.Row.{Row}
use Rattle.judging.specs.Demands.{demand_fp, TimeUpTo}
use Rattle.judging.proofs.RowLaws.{row_is}
use Rattle.executive.specs.Reading.{Reading}
use Rattle.executive.specs.Reading.{refused_load, accepted_load, finished_load}
use Rattle.image.specs.Loading.{
  fresh_table,
  taken,
  erased_after,
  refusal_of,
  load_from,
  records_in,
  bad_length,
  load_records,
  load_of,
}
use Rattle.theorems.specs.Histories.{called}
use Rattle.theorems.specs.Spans
use Rattle.theorems.specs.Spans.{old_record}
use Rattle.theorems.proofs.CaseLaws.{guard_rows}
use Rattle.theorems.proofs.Shown.{comes_sound}

pub due_fits : Spans.DueFits
due_fits s h i below = (ranges s (comes_sound s h) i below).due

pub span_fits : Spans.SpanFits
span_fits s h i below = span_range (task_at (tasks_of s) i) (ranges s (comes_sound s h) i below)

pub searched_to : Spans.SearchedTo
unfolding row_of task_at
searched_to tasks board i below =
    let e : (row_at (rows_of tasks board) i).span ≡ span_of (task_at tasks i) = ap (λ (r : Row). r.span) (row_is tasks board i below) in
    let up_to : ℕ → Type 0 = TimeUpTo (demand_fp (rows_of tasks board) i) in
    (subst up_to e, subst up_to (sym e))

pub release_adds : Spans.ReleaseAdds
unfolding called release_of moved task_at
release_adds s h i below time accepted = which (eqb (first_of (refusals t)) 0) refl
  where
    sound : Sound s
    sound = comes_sound s h

    t : Task
    t = task_at (tasks_of s) i

    refusals : Task → List (ℕ × Bool)
    refusals u = (23, busy u) ∷ (22, untimely s.last time) ∷ []

    place : task_place (tasks_of s) t.number ≡ Some i
    place = task_found s sound i below

    adds : (task_at (tasks_of (release_at s i time)) i).deadline ≡ time + span_of t
    adds =
        unfold release_at with_last tasks_of in
        ap (λ (u : Task). u.deadline) (task_set_same s sound i below (with_status (with_deadline t (time + span_of t)) Ready))

    which : (b : Bool) → eqb (first_of (refusals t)) 0 ≡ b → (task_at (tasks_of (release_of s t.number time).state) i).deadline ≡ time + span_of t
    which true e =
        ap (λ (m : Step). (task_at (tasks_of m.state) i).deadline)
        (on_done s t.number refusals (λ i. release_at s i time) i place t refl (eqb-true (first_of (refusals t)) 0 e))
        ∙ adds
    which false e =
        let ne = eqb-false (first_of (refusals t)) 0 e in
        absurd
        (ne
        (sym (ap (λ (m : Step). m.answer) (on_refused s t.number refusals (λ i. release_at s i time) i place t refl (first_of (refusals t)) refl ne))
        ∙ accepted))

pub by_position : Spans.ByPosition
unfolding own_of shown_deadline
by_position tasks i e = rw e

pub guards_hold : Spans.GuardsHold
guards_hold = guard_rows

-- a task whose record has no deadline
no_due : Task → Bool
no_due t = eqb t.due 0

NoDue : List Task → Type 0
NoDue tasks = every no_due tasks ≡ true

-- one record more
taken_old : (t : Table) (r : List ℕ) → NoDue t.tasks → old_record r ≡ true → NoDue (taken t (decoded r)).tasks
unfolding decoded task_decoded board_decoded sem_decoded taken add_task add_sem add_board old_record task_in read_at value_of no_due NoDue
taken_old t r h old = either_way After (all_are 255 r) (Ok Erased) (others (eqb (get_or r 0 0) 1)) h (first (eqb (get_or r 0 0) 1) old)
  where
    After : Result Record Refusal → Type 0
    After d = NoDue (taken t d).tasks

    others : Bool → Result Record Refusal
    others task = cond task (task_decoded r) (cond (eqb (get_or r 0 0) 2) (board_decoded r) (cond (eqb (get_or r 0 0) 3) (sem_decoded r) (Err UnknownKind)))

    first : (task : Bool) → (not task || all_are 0 (take 4 (drop 12 r))) ≡ true → After (others task)
    first true zeros =
        let due : no_due (task_in r) ≡ true = eq-eqb (value_of (take 4 (drop 12 r))) 0 (value_zeros (take 4 (drop 12 r)) zeros) in
        either_way After (task_in_range (task_in r) && all_are 0 (drop 16 r)) (Ok (TaskRecord (task_in r))) (Err OutOfRange)
        (every_append no_due t.tasks (task_in r ∷ [])
        ∙ both (every no_due t.tasks) (every no_due (task_in r ∷ [])) h (both (no_due (task_in r)) true due refl))
        h
    first false zeros =
        either_way After (eqb (get_or r 0 0) 2) (board_decoded r) (cond (eqb (get_or r 0 0) 3) (sem_decoded r) (Err UnknownKind))
        (either_way After (eqb (get_or r 1 0) 0 && board_in_range (board_in r) && all_are 0 (drop 20 r)) (Ok (BoardRecord (board_in r))) (Err OutOfRange) h h)
        (either_way After (eqb (get_or r 0 0) 3) (sem_decoded r) (Err UnknownKind)
        (either_way After (eqb (get_or r 1 0) 0 && sem_in_range (sem_in r) && all_are 0 (drop 4 r)) (Ok (SemRecord (sem_in r))) (Err OutOfRange) h h) h)

-- what a load hands back, refused or not
Old : Reading → Type 0
Old l = NoDue (tasks_of l.state)

answered_old : (k at : ℕ) (done : Reading) → Old done → Old (answered k (λ k. refused_load k at) done)
unfolding answered Old
answered_old k at done h =
    either_way Old (eqb k 0) done (refused_load k at) h (unfold empty_state tasks_of NoDue in refl)

loaded_old : (rest : List (List ℕ)) (t : Table) (erased : Bool) (at : ℕ) → NoDue t.tasks → every old_record rest ≡ true → Old (load_from t erased at rest)
unfolding load_from finished_load Old
loaded_old [] t erased at h old = answered_old (first_of ((7, eqb (state_of t).n 0) ∷ [])) at (accepted_load (state_of t)) (subst NoDue (sym (state_tasks t)) h)
loaded_old (r ∷ rest) t erased at h old =
    let d = decoded r in
    answered_old (refusal_of erased t d) at (load_from (taken t d) (erased_after erased d) (suc at) rest)
    (loaded_old rest (taken t d) (erased_after erased d) (suc at) (taken_old t r h (both_left (old_record r) (every old_record rest) old))
    (both_right (old_record r) (every old_record rest) old))

-- behind the tasks that there are stand blank ones, which have none either
due_none : (tasks : List Task) (i : ℕ) → NoDue tasks → (get_or tasks i blank_task).due ≡ 0
unfolding NoDue no_due
due_none [] i h = refl
due_none (t ∷ rest) zero h = eqb-true t.due 0 (both_left (eqb t.due 0) (every no_due rest) h)
due_none (t ∷ rest) (suc i) h = due_none rest i (both_right (eqb t.due 0) (every no_due rest) h)

pub old_images : Spans.OldImages
unfolding load_of load_records task_at Old
old_images image old i below =
    let records = records_in (length image / 32) image in
    let whole : Old (load_of image) =
    answered_old (first_of ((1, bad_length (length image)) ∷ [])) 0 (load_records image)
    (loaded_old records fresh_table false 0 (unfold fresh_table NoDue in refl) old)
    in
    let tasks = tasks_of (load_of image).state in
    span_none (task_at tasks i) (due_none tasks i whole)
