-- `State::try_release` meets its contract: no task has the number, or that task is not idle, or the time is refused, or the entry is made anew.
use Rattle.std.proofs.Common.{rules, ◌≡◌}
use Rattle.std.specs.Prelude.{Err}
use Prim.Native.Nat.{ℕ, ◌+◌}
use mathlib.Core.Path.{sym, ap, ◌∙◌}
use mathlib.Core.Bool.{Bool, not}
use mathlib.Core.List.{List, [], ◌∷◌}
use native.Mathlib.Omega.{arith}
use Rattle.table.specs.declared.Task.{Task}
use Rattle.table.specs.declared.Status.TheVariants.{Ready}
use Rattle.table.specs.declared.refusals.Refusal.TheVariants.{UnknownTask}
use Rattle.table.specs.Entries.{with_status, with_deadline, span_of}
use Rattle.table.proofs.RefusalLaws.{first_of_here, first_of_past, first_of_none}
use Rattle.executive.specs.declared.state.State.{State}
use Rattle.executive.specs.Calls.{release_of, release_at, step_by, moved, busy, untimely, with_task, with_tasks, with_last}
use Rattle.executive.proofs.CallLaws.{ok_or_none, names, on_none, on_refused, on_done}
use Rattle.executive.proofs.state.State.try_release.Goals as goal

abbrev refusals : State → ℕ → Task → List (ℕ × Bool)
refusals s time t = (23, busy t) ∷ (22, untimely s.last time) ∷ []

abbrev done : State → ℕ → ℕ → State
done s time i = release_at s i time

pub returns-in_err-i : goal.returns-in_err-i
unfolding release_of
returns-in_err-i c =
    let s = c.args.self.now in
    let e : c.from_residual.result ≡ Err UnknownTask = search rules in
    let none = ok_or_none _ _ _ (sym c.task.ensures.place ∙ c.in_err-i.was) in
    ap (step_by s) e ∙ sym (on_none s c.args.number (refusals s c.args.time) (done s c.args.time) none.0)

pub returns-then-not-is_idle : goal.returns-then-not-is_idle
unfolding release_of busy
returns-then-not-is_idle c =
    let s = c.args.self.now in
    let n = names s c.requires c.args.number _ c.task.ensures.place c.in_ok-i.i c.in_ok-i.was in
    sym
    (on_refused s c.args.number (refusals s c.args.time) (done s c.args.time) c.in_ok-i.i n.place _ n.here 23
    (first_of_here 23 _ _ (ap not (sym c.is_idle.ensures ∙ c.if-not-is_idle.true))) (λ e. omega arith))

pub returns-then-time-self : goal.returns-then-time-self
unfolding release_of busy untimely
returns-then-time-self c =
    let s = c.args.self.now in
    let n = names s c.requires c.args.number _ c.task.ensures.place c.in_ok-i.i c.in_ok-i.was in
    sym
    (on_refused s c.args.number (refusals s c.args.time) (done s c.args.time) c.in_ok-i.i n.place _ n.here 22
    (first_of_past 23 _ _ (ap not (sym c.is_idle.ensures ∙ c.if-not-is_idle.false)) ∙ first_of_here 22 _ [] c.if-time-self.true) (λ e. omega arith))

pub returns : goal.returns
unfolding release_of busy untimely moved release_at with_tasks with_last
returns c =
    let s = c.args.self.now in
    let n = names s c.requires c.args.number _ c.task.ensures.place c.in_ok-i.i c.in_ok-i.was in
    ap (λ (t : Task). moved (with_last (with_task s c.in_ok-i.i t) c.args.time) 0)
    (c.released.ensures ∙ ap (λ (t : Task). with_status (with_deadline t (c.args.time + span_of t)) Ready) (sym n.here))
    ∙ sym
    (on_done s c.args.number (refusals s c.args.time) (done s c.args.time) c.in_ok-i.i n.place _ n.here
    (first_of_past 23 _ _ (ap not (sym c.is_idle.ensures ∙ c.if-not-is_idle.false)) ∙ first_of_past 22 _ [] c.if-time-self.false ∙ first_of_none))
