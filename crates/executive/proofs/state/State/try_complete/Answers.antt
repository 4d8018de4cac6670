-- `State::try_complete` meets its contract: nobody runs, or the running task still holds a semaphore, or it becomes idle.
use Rattle.std.proofs.Common.{rules, ◌≡◌}
use Rattle.std.specs.Prelude.{Err}
use Prim.Native.Nat.{ℕ}
use mathlib.Core.Path.{sym, ap, ◌∙◌}
use mathlib.Core.Bool.{Bool}
use mathlib.Core.List.{List, [], ◌∷◌}
use native.Mathlib.Omega.{arith}
use Rattle.table.specs.declared.Task.{Task}
use Rattle.table.specs.declared.refusals.Refusal.TheVariants.{NobodyRuns}
use Rattle.table.specs.declared.Sem.{Sem}
use Rattle.table.specs.declared.Status.TheVariants.{Idle}
use Rattle.table.specs.Entries.{with_status}
use Rattle.table.proofs.RefusalLaws.{first_of_here, first_of_past, first_of_none}
use Rattle.waits.specs.Standing.{still_holds, running_of}
use Rattle.executive.specs.declared.state.State.{State}
use Rattle.executive.specs.States.{tasks_of, sems_of}
use Rattle.executive.specs.Calls.{complete_of, complete_at, step_by, moved, now_does, with_task, with_tasks}
use Rattle.executive.proofs.CallLaws.{ok_or_none, runs, call_none, call_refused, call_done}
use Rattle.executive.proofs.state.State.try_complete.Goals as goal

abbrev refusals : State → ℕ → List (ℕ × Bool)
refusals s i = (27, still_holds (sems_of s) i) ∷ []

pub returns-in_err-i : goal.returns-in_err-i
unfolding complete_of
returns-in_err-i c =
    let s = c.args.self.now in
    let e : c.from_residual.result ≡ Err NobodyRuns = search rules in
    let none = ok_or_none _ _ _ (sym c.runs.ensures.place ∙ c.in_err-i.was) in
    ap (step_by s) e
    ∙ sym (call_none 26 (refusals s) (moved s) (λ i. moved (complete_at s i) 0) (running_of (tasks_of s) (sems_of s)) none.0 (λ e. omega arith))

pub returns-then-holds : goal.returns-then-holds
unfolding complete_of
returns-then-holds c =
    let s = c.args.self.now in
    let i = c.in_ok-i.i in
    let r = runs s c.requires _ c.runs.ensures.place i c.in_ok-i.was in
    let holds = ap (λ (sems : List Sem). still_holds sems i) (sym c.entries.ensures.sems) ∙ sym c.holds.ensures ∙ c.if-holds.true in
    sym
    (call_refused 26 (refusals s) (moved s) (λ i. moved (complete_at s i) 0) (running_of (tasks_of s) (sems_of s)) i 27 r.is (first_of_here 27 _ [] holds)
    (λ e. omega arith))

pub returns : goal.returns
unfolding complete_of complete_at moved now_does with_tasks
returns c =
    let s = c.args.self.now in
    let i = c.in_ok-i.i in
    let r = runs s c.requires _ c.runs.ensures.place i c.in_ok-i.was in
    let holds = ap (λ (sems : List Sem). still_holds sems i) (sym c.entries.ensures.sems) ∙ sym c.holds.ensures ∙ c.if-holds.false in
    ap (λ (t : Task). moved (with_task s i t) 0) (c.with_status.ensures ∙ ap (λ (t : Task). with_status t Idle) (sym r.here))
    ∙ sym
    (call_done 26 (refusals s) (moved s) (λ i. moved (complete_at s i) 0) (running_of (tasks_of s) (sems_of s)) i r.is
    (first_of_past 27 _ [] holds ∙ first_of_none))
