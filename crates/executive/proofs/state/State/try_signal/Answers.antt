-- `State::try_signal` meets its contract: no task has the number, or that task waits for no event, or it becomes ready.
use Rattle.std.proofs.Common.{rules, ◌≡◌}
use Rattle.std.specs.Prelude.{Err}
use Prim.Native.Nat.{ℕ}
use mathlib.Core.Path.{sym, ap, ◌∙◌}
use mathlib.Core.Bool.{Bool, not}
use mathlib.Core.List.{List, [], ◌∷◌}
use native.Mathlib.Omega.{arith}
use Rattle.table.specs.declared.Task.{Task}
use Rattle.table.specs.declared.Status.TheVariants.{Ready}
use Rattle.table.specs.declared.refusals.Refusal.TheVariants.{UnknownTask}
use Rattle.table.specs.Entries.{with_status}
use Rattle.table.proofs.RefusalLaws.{first_of_here, first_of_past, first_of_none}
use Rattle.executive.specs.declared.state.State.{State}
use Rattle.executive.specs.Calls.{signal_of, step_by, moved, no_event_wait, now_does, with_task, with_tasks}
use Rattle.executive.proofs.CallLaws.{ok_or_none, names, on_none, on_refused, on_done}
use Rattle.executive.proofs.state.State.try_signal.Goals as goal

abbrev refusals : Task → List (ℕ × Bool)
refusals t = (24, no_event_wait t) ∷ []

abbrev done : State → ℕ → State
done s i = now_does s i Ready

pub returns-in_err-i : goal.returns-in_err-i
unfolding signal_of
returns-in_err-i c =
    let s = c.args.self.now in
    let e : c.from_residual.result ≡ Err UnknownTask = search rules in
    let none = ok_or_none _ _ _ (sym c.task.ensures.place ∙ c.in_err-i.was) in
    ap (step_by s) e ∙ sym (on_none s c.args.number refusals (done s) none.0)

pub returns-then-not-is_event : goal.returns-then-not-is_event
unfolding signal_of no_event_wait
returns-then-not-is_event c =
    let s = c.args.self.now in
    let n = names s c.requires c.args.number _ c.task.ensures.place c.in_ok-i.i c.in_ok-i.was in
    sym
    (on_refused s c.args.number refusals (done s) c.in_ok-i.i n.place _ n.here 24
    (first_of_here 24 _ [] (ap not (sym c.is_event.ensures ∙ c.if-not-is_event.true))) (λ e. omega arith))

pub returns : goal.returns
unfolding signal_of no_event_wait moved now_does with_tasks
returns c =
    let s = c.args.self.now in
    let n = names s c.requires c.args.number _ c.task.ensures.place c.in_ok-i.i c.in_ok-i.was in
    ap (λ (x : State). moved x 0) c.wake.ensures
    ∙ ap (λ (t : Task). moved (with_task s c.in_ok-i.i t) 0) (ap (λ (t : Task). with_status t Ready) (sym n.here))
    ∙ sym
    (on_done s c.args.number refusals (done s) c.in_ok-i.i n.place _ n.here
    (first_of_past 24 _ [] (ap not (sym c.is_event.ensures ∙ c.if-not-is_event.false)) ∙ first_of_none))
