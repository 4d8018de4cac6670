-- `image::load::load_records` meets its contract: what is left of the records, from here, gives the whole answer.
use Prim.Native.Nat.{ℕ, ◌<◌}
use mathlib.Core.List.{List, []}
use mathlib.Core.Path.{◌≡◌, refl, sym, ap, ◌∙◌}
use native.Mathlib.Omega.{arith}
use lib.Dec.{eqb}
use lib.ListN.{length, get_or, take}
use lib.Seq.{length-take-le}
use borrow.Author.Tests.{eqb-false}
use Rattle.std.specs.Prelude.{Ok}
use Rattle.table.proofs.RefusalLaws.{number_not_zero}
use Rattle.records.specs.Records.{decoded}
use Rattle.executive.specs.Calls.{with_tasks, with_sems}
use Rattle.executive.proofs.TableLaws.{with_counts, with_board, grow_task, grow_sem}
use Rattle.records.specs.declared.Record.{Record}
use Rattle.executive.specs.Reading.{reading_of}
use Rattle.image.specs.Fronts.{front_after, front_refusal}
use Rattle.image.specs.declared.load.Front.{Front}
use Rattle.executive.specs.declared.state.State.{State}
use Rattle.table.specs.Sums.{any}
use Rattle.image.proofs.LoadLaws.{Come, Turn, come_start, come_at, come_given, come_front, come_refused, come_erased, come_task, come_sem, come_board, come_end, task_room, sem_room}
use Rattle.image.proofs.load.load_records.Goals as goal
use Rattle.image.proofs.load.load_records.Goals.{in-Erased, in-Task, in-Board, in-Sem}

-- what is known of a record once it is judged
turn : {records : List (List ℕ)} {state : State} {given : List ℕ} {front : Front} {place number : ℕ} → Come records state given front place
    → place < length records → number ≡ front_refusal front (λ k. any (λ x. eqb x k) (take state.n given)) (decoded (get_or records place []))
    → Turn records state given front place number
turn come more judged = record { come = come; more = more; judged = judged }

-- there is room for a task, and for a semaphore
room : (c : goal.In-Task) → c.loop-place.state.n < 64
room c =
    task_room (turn c.loop-place.invariant c.loop-place-test.true c.in-Ok.ensures.why) refl c.in-Task.task
    (c.in-Ok.ensures.what ∙ ap (λ (d : Record). Ok d) c.in-Task.is)

sem_place : (c : goal.In-Sem) → c.loop-place.state.m < 16
sem_place c =
    sem_room (turn c.loop-place.invariant c.loop-place-test.true c.in-Ok.ensures.why) refl c.in-Sem.sem
    (c.in-Ok.ensures.what ∙ ap (λ (d : Record). Ok d) c.in-Sem.is)

pub loop-place-init : goal.loop-place-init
unfolding with_board
loop-place-init c =
    come_start c.args.records.now c.empty-state.result c.built_in-state.result c.start-front.result c.empty-state.ensures c.built_in-state.ensures
    c.start-front.ensures

pub slice_bounds-given-end : goal.slice_bounds-given-end
slice_bounds-given-end c =
    let g = come_given c.loop-place.invariant in omega (arith, g.0, g.1)

pub slice_bounds-passed-end : goal.slice_bounds-passed-end
slice_bounds-passed-end c =
    let g = come_given c.loop-place.invariant in
    sym (length-take-le c.loop-place.state.n c.loop-place.given (omega (arith, g.0, g.1)))

pub returns-in-Err : goal.returns-in-Err
returns-in-Err c =
    ap reading_of c.refused.ensures
    ∙ come_refused (turn c.loop-place.invariant c.loop-place-test.true c.in-Err.ensures.why)
    (eqb-false _ 0 (number_not_zero c.in-Err.refusal))

pub take-requires : goal.take-requires
take-requires c = come_front c.loop-place.invariant

pub offset_bounds-state-n : goal.offset_bounds-state-n
offset_bounds-state-n c = record { fits = omega (arith, room c) }

pub bounds-state-n : goal.bounds-state-n
bounds-state-n c = room c

pub overflow_add-state : goal.overflow_add-state
overflow_add-state c = record { fits = omega (arith, room c) }

pub offset_bounds-given-n : goal.offset_bounds-given-n
offset_bounds-given-n c = record { fits = omega (arith, room c) }

pub bounds-given-n : goal.bounds-given-n
bounds-given-n c = room c

pub offset_bounds-state-m : goal.offset_bounds-state-m
offset_bounds-state-m c = record { fits = omega (arith, sem_place c) }

pub bounds-state-m : goal.bounds-state-m
bounds-state-m c = sem_place c

pub overflow_add-state-in-Sem : goal.overflow_add-state-in-Sem
overflow_add-state-in-Sem c = record { fits = omega (arith, sem_place c) }

pub loop-place-preserved : goal.loop-place-preserved
unfolding grow_task grow_sem with_counts with_tasks with_sems with_board
loop-place-preserved c =
    let t = turn c.loop-place.invariant c.loop-place-test.true c.in-Ok.ensures.why in
    let says : (d : Record) → c.in-Ok.said ≡ d → decoded (get_or c.args.records.now c.loop-place.place []) ≡ Ok d = λ d e. c.in-Ok.ensures.what ∙ ap (λ (d : Record). Ok d) e in
    let front = c.take.ensures ∙ ap (front_after c.loop-place.front) (sym c.in-Ok.ensures.what) in
    elim c.match-said.branch [
      | in-Erased w ↦ come_at w.state-is w.given-is (come_erased t refl c.take.new.self front (says _ w.in-Erased.is))
      | in-Task w ↦ come_at w.state-is w.given-is (come_task t refl c.take.new.self front w.in-Task.task (says _ w.in-Task.is))
      | in-Board w ↦ come_at w.state-is w.given-is (come_board t refl c.take.new.self front w.in-Board.board (says _ w.in-Board.is))
      | in-Sem w ↦ come_at w.state-is w.given-is (come_sem t refl c.take.new.self front w.in-Sem.sem (says _ w.in-Sem.is))
    ]

pub returns : goal.returns
returns c = c.finished.ensures ∙ come_end c.loop-place.invariant (omega arith)
