-- `State::try_block` meets its contract: nobody runs, or the running task waits for an event.
use Rattle.std.proofs.Common.{rules, ◌≡◌}
use Rattle.std.specs.Prelude.{Err}
use mathlib.Core.Path.{sym, ap, ◌∙◌}
use mathlib.Core.List.{[]}
use native.Mathlib.Omega.{arith}
use Rattle.table.specs.declared.Task.{Task}
use Rattle.table.specs.declared.refusals.Refusal.TheVariants.{NobodyRuns}
use Rattle.table.specs.declared.Status.TheVariants.{Event}
use Rattle.table.specs.Entries.{with_status}
use Rattle.table.proofs.RefusalLaws.{first_of_none}
use Rattle.waits.specs.Standing.{running_of}
use Rattle.executive.specs.States.{tasks_of, sems_of}
use Rattle.executive.specs.Calls.{block_of, step_by, moved, now_does, with_task, with_tasks}
use Rattle.executive.proofs.CallLaws.{ok_or_none, runs, call_none, call_done}
use Rattle.executive.proofs.state.State.try_block.Goals as goal

pub returns-in_err-i : goal.returns-in_err-i
unfolding block_of
returns-in_err-i c =
    let s = c.args.self.now in
    let e : c.from_residual.result ≡ Err NobodyRuns = search rules in
    let none = ok_or_none _ _ _ (sym c.runs.ensures.place ∙ c.in_err-i.was) in
    ap (step_by s) e
    ∙ sym (call_none 26 (λ i. []) (moved s) (λ i. moved (now_does s i Event) 0) (running_of (tasks_of s) (sems_of s)) none.0 (λ e. omega arith))

pub returns : goal.returns
unfolding block_of moved now_does with_tasks
returns c =
    let s = c.args.self.now in
    let r = runs s c.requires _ c.runs.ensures.place c.in_ok-i.i c.in_ok-i.was in
    ap (λ (t : Task). moved (with_task s c.in_ok-i.i t) 0) (c.with_status.ensures ∙ ap (λ (t : Task). with_status t Event) (sym r.here))
    ∙ sym
    (call_done 26 (λ i. []) (moved s) (λ i. moved (now_does s i Event) 0) (running_of (tasks_of s) (sems_of s)) c.in_ok-i.i r.is first_of_none)
