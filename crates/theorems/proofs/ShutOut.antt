-- The stand-ins that 01 shuts out ("How tight the statements are"): what each of them has, the executive does not have, by an example.
--     loader_accepts        the image of P1 loads with 0
--     judge_passes          P1 passes
--     verdicts_differ       P1 passes and P2 does not
--     choices_differ        in P10 task 11 runs after the first call, and 7 after the third
--     state_moves           in P10 no task runs before the first call, and 11 after it
--     later_waiter_counts   11 holds what 9 waits for, and has the standing of 9; 7 must wait for it too, and 11 has the standing of 7
-- Assumes nothing.
use Rattle.std.specs.Prelude.{Some}
use Prim.Native.Nat.{ℕ}
use mathlib.Core.Path.{◌≡◌, refl, sym, ap, ◌∙◌}
use mathlib.Core.Bool.{true}
use mathlib.Core.List.{List, [], ◌∷◌, ◌++◌}
use native.Mathlib.Omega.{arith}
use lib.ListN.{get_or}
use Rattle.table.specs.declared.Task.{Task}
use Rattle.table.specs.Entries.{no_figures}
use Rattle.table.specs.Refusals.{first_of, answered}
use Rattle.std.specs.Prelude.{position}
use Rattle.table.specs.Places.{task_place, sem_place}
use Rattle.table.specs.WellFormed.{within, due_in_range, task_in_range, sem_in_range, board_in_range, task_before, sem_before, used}
use Rattle.executive.specs.declared.state.State.{State}
use Rattle.executive.specs.Calls.{Stands}
use Rattle.executive.specs.States.{tasks_of, sems_of}
use Rattle.waits.specs.Waits.{task_at, sem_at, waits_for, holder_of, waits_on}
use Rattle.waits.specs.Standing.{
  shown_deadline,
  own_of,
  better,
  found_and,
  is_none,
  closes_ring,
  passes,
  reaches,
  preferred,
  best_among,
  found_or,
  standing_of,
  is_idle,
  is_ready,
  ready_at,
  running_of,
  number_at,
}
use Rattle.executive.specs.Calls.{
  with_tasks,
  with_sems,
  with_last,
  now_does,
  now_held,
  moved,
  on_task,
  busy,
  untimely,
  release_at,
  take_or_wait,
  acquire_at,
  release_of,
  acquire_of,
  shown,
  stands_of,
}
use Rattle.fields.specs.Fields.{value_of, bytes_of, read_at, all_are}
use Rattle.records.specs.Records.{task_in, board_in, sem_in, task_decoded, board_decoded, sem_decoded, decoded, encode_task, encode_board, encode_sem}
use Rattle.executive.specs.Tables.{Table, add_task, add_sem, add_board, state_of}
use Rattle.executive.specs.Reading.{finished_load}
use Rattle.image.specs.Loading.{fresh_table, taken, erased_after, used_after, refused_as, follows, order_broken, number_twice, too_many, refusal_of, load_from, load_records, bad_length, load_of}
use Rattle.fields.specs.Parts.{parts_of, flat}
use Rattle.image.specs.Writing.{encoded}
use Rattle.judging.specs.declared.Verdict.{Verdict}
use Rattle.judging.specs.Verdicts.{verdict_of}
use Rattle.theorems.specs.Histories.{Call, release, acquire, give, called, after}
use Rattle.theorems.specs.Cases.{Step, loaded, runs, steps_of, task, sem, three_fp, cases}
use Rattle.theorems.specs.StandIns.{RefusesAll, PassesNone, OneVerdict, OneChoice, NeverMoves, KeepsFirst, choice_after, standing_after}
use Rattle.theorems.proofs.PlayedCases.{p10_p12}
use Rattle.theorems.proofs.CaseLaws.{cases_hold}

-- the tasks of P1 with a second cost of 1,000, those of P2 with one of 1,001
abbrev two : ℕ → List Task
two cost = task 1 7 2000 1000 ∷ task 1 9 2000 cost ∷ []

-- the table of P1: a board record with all its figures zero
abbrev table_of_p1 : Table
table_of_p1 = record { tasks = two 1000; sems = []; board = no_figures; present = true }

p1_loads : (load_of (encoded table_of_p1)).number ≡ 0
unfolding first_of answered within due_in_range task_in_range board_in_range task_before used value_of bytes_of read_at all_are task_in board_in task_decoded board_decoded decoded encode_task encode_board fresh_table taken add_task add_sem add_board erased_after used_after refused_as follows order_broken number_twice too_many refusal_of state_of finished_load load_from load_records parts_of bad_length load_of flat encoded
p1_loads = refl

pub loader_accepts : RefusesAll load_of → ⊥
loader_accepts h = h (encoded table_of_p1) p1_loads

p1_passes : verdict_of (two 1000) no_figures ≡ record { number = 0; task = 0 }
unfolding cases
p1_passes = cases_hold.0.1

p2_refused : verdict_of (two 1001) no_figures ≡ record { number = 11; task = 0 }
unfolding cases
p2_refused = cases_hold.1.0.1

pub judge_passes : PassesNone verdict_of → ⊥
judge_passes h = h (two 1000) no_figures (ap (λ (v : Verdict). v.number) p1_passes)

pub verdicts_differ : OneVerdict verdict_of → ⊥
verdicts_differ h =
    let number : Verdict → ℕ = λ v. v.number in
    let e : ◌≡◌ {A = ℕ} 0 11 = sym (ap number p1_passes) ∙ (h (two 1000) (two 1001) no_figures ∙ ap number p2_refused) in
    absurd (omega arith)

abbrev three : Table
three = three_fp (sem 1 ∷ [])

-- the task that runs after a step of a list
ran_at : ℕ → List Step → ℕ
ran_at i steps = (get_or steps i (give 1, 0, 0)).2

first_choice : choice_after three (release 11 0 ∷ []) ≡ 11
unfolding cases steps_of after choice_after ran_at
first_choice = ap (ran_at 0) p10_p12.0

later_choice : choice_after three (release 11 0 ∷ acquire 1 ∷ release 7 5 ∷ []) ≡ 7
unfolding cases steps_of after choice_after ran_at
later_choice = ap (ran_at 2) p10_p12.0

pub choices_differ : OneChoice choice_after → ⊥
choices_differ h =
    let one = h three (release 11 0 ∷ []) (release 11 0 ∷ acquire 1 ∷ release 7 5 ∷ []) (λ e. omega (arith, first_choice)) (λ e. omega (arith, later_choice)) in
    omega (arith, first_choice, later_choice)

-- 11 holds 1, 9 waits for it, and 7 runs
abbrev waited : List Call
waited = release 11 0 ∷ acquire 1 ∷ release 9 5 ∷ acquire 1 ∷ release 7 6 ∷ []

abbrev now : State
now = after (loaded three) waited

-- the standing of an FP task, as it comes back
abbrev fp : ℕ → Stands
fp position = record { number = 0; queue = 3; deadline = 0; position = position }

-- no task runs in the loaded state. After those calls 9, at position 1, waits on the task at position 2, which holds 1 and is 11; one more that
-- acquires 1 must wait; and the standing of 11 before that and after
computed : (runs (loaded three) ≡ 0)
    × (waits_on (tasks_of now) (sems_of now) 1 ≡ Some 2)
    × (holder_of (sems_of now) (sem_place (sems_of now) 1) ≡ Some 2)
    × ((called now (acquire 1)).answer ≡ 90)
    × ((task_at (tasks_of now) 2).number ≡ 11)
    × (standing_after three waited 11 ≡ fp 1)
    × (standing_after three (waited ++ (acquire 1 ∷ [])) 11 ≡ fp 0)
unfolding first_of answered task_place sem_place within due_in_range task_in_range sem_in_range task_before sem_before used tasks_of sems_of task_at sem_at waits_for holder_of waits_on shown_deadline own_of better found_and passes reaches preferred best_among found_or standing_of is_idle is_ready ready_at running_of number_at with_tasks with_sems with_last now_does now_held moved on_task is_none busy untimely closes_ring release_at take_or_wait acquire_at release_of acquire_of value_of bytes_of read_at all_are task_in sem_in task_decoded sem_decoded decoded encode_task encode_sem fresh_table taken add_task add_sem add_board erased_after used_after refused_as follows order_broken number_twice too_many refusal_of state_of finished_load load_from load_records parts_of bad_length load_of flat encoded called after loaded runs shown stands_of standing_after
computed = (refl, refl, refl, refl, refl, refl, refl)

pub state_moves : NeverMoves called → ⊥
unfolding choice_after after
state_moves h =
    let e : ◌≡◌ {A = ℕ} 11 0 = sym first_choice ∙ (ap runs (h three (release 11 0)) ∙ computed.0) in
    absurd (omega arith)

pub later_waiter_counts : KeepsFirst standing_after → ⊥
later_waiter_counts h =
    let same = h three waited 1 2 1 computed.1 computed.2 computed.3 in
    let number = computed.4 in
    let e : fp 0 ≡ fp 1 =
    sym computed.6
    ∙ (ap (standing_after three (waited ++ (acquire 1 ∷ []))) (sym number) ∙ (same ∙ (ap (standing_after three waited) number ∙ computed.5))) in
    let z : ◌≡◌ {A = ℕ} 0 1 = ap (λ (s : Stands). s.position) e in
    absurd (omega arith)
