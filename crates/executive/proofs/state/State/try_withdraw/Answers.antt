-- `State::try_withdraw` meets its contract: no task has the number, or that task waits for no semaphore, or it becomes ready.
use Rattle.std.proofs.Common.{rules, ◌≡◌}
use Rattle.std.specs.Prelude.{Err}
use Prim.Native.Nat.{ℕ}
use mathlib.Core.Path.{sym, ap, ◌∙◌}
use mathlib.Core.Bool.{Bool, not, not-not}
use mathlib.Core.List.{List, [], ◌∷◌}
use native.Mathlib.Omega.{arith}
use Rattle.table.specs.declared.Task.{Task}
use Rattle.table.specs.declared.Status.TheVariants.{Ready}
use Rattle.table.specs.declared.refusals.Refusal.TheVariants.{UnknownTask}
use Rattle.table.specs.Entries.{with_status}
use Rattle.table.proofs.RefusalLaws.{first_of_here, first_of_past, first_of_none}
use Rattle.executive.specs.declared.state.State.{State}
use Rattle.executive.specs.Calls.{withdraw_of, step_by, moved, no_sem_wait, now_does, with_task, with_tasks}
use Rattle.executive.proofs.CallLaws.{ok_or_none, names, on_none, on_refused, on_done}
use Rattle.executive.proofs.state.State.try_withdraw.Goals as goal

abbrev refusals : Task → List (ℕ × Bool)
refusals t = (25, no_sem_wait t) ∷ []

abbrev done : State → ℕ → State
done s i = now_does s i Ready

wants : {a b : Bool} → not a ≡ b → a ≡ not b
wants {a} {b} e = sym (not-not a) ∙ ap not e

pub returns-in_err-i : goal.returns-in_err-i
unfolding withdraw_of
returns-in_err-i c =
    let s = c.args.self.now in
    let e : c.from_residual.result ≡ Err UnknownTask = search rules in
    let none = ok_or_none _ _ _ (sym c.task.ensures.place ∙ c.in_err-i.was) in
    ap (step_by s) e ∙ sym (on_none s c.args.number refusals (done s) none.0)

pub returns-then-not-waits : goal.returns-then-not-waits
unfolding withdraw_of no_sem_wait
returns-then-not-waits c =
    let s = c.args.self.now in
    let n = names s c.requires c.args.number _ c.task.ensures.place c.in_ok-i.i c.in_ok-i.was in
    sym
    (on_refused s c.args.number refusals (done s) c.in_ok-i.i n.place _ n.here 25
    (first_of_here 25 _ [] (wants (sym c.waits.ensures ∙ c.if-not-waits.true))) (λ e. omega arith))

pub returns : goal.returns
unfolding withdraw_of no_sem_wait moved now_does with_tasks
returns c =
    let s = c.args.self.now in
    let n = names s c.requires c.args.number _ c.task.ensures.place c.in_ok-i.i c.in_ok-i.was in
    ap (λ (x : State). moved x 0) c.wake.ensures
    ∙ ap (λ (t : Task). moved (with_task s c.in_ok-i.i t) 0) (ap (λ (t : Task). with_status t Ready) (sym n.here))
    ∙ sym
    (on_done s c.args.number refusals (done s) c.in_ok-i.i n.place _ n.here
    (first_of_past 25 _ [] (wants (sym c.waits.ensures ∙ c.if-not-waits.false)) ∙ first_of_none))
