-- `State::task` meets its contract: the look-up among the tasks that there are.
use Rattle.std.specs.Prelude.{Option, Result, IfOk, position}
use Rattle.std.specs.Option.{ok_or}
use Prim.Native.Nat.{ℕ, ◌<◌}
use mathlib.Core.Path.{sym, ap, subst, ◌∙◌}
use lib.Dec.{eqb}
use Rattle.table.specs.declared.refusals.Refusal.{Refusal}
use Rattle.table.specs.declared.refusals.Refusal.TheVariants.{UnknownTask}
use Rattle.table.specs.Places.{task_place}
use Rattle.executive.specs.States.{tasks_of}
use Rattle.executive.proofs.LookupLaws.{task_below}
use Rattle.executive.proofs.CallLaws.{ok_or_below}
use Rattle.executive.proofs.state.State.task.Goals as goal

pub returns-clause-place : goal.returns-clause-place
unfolding task_place
returns-clause-place c =
    c.ok_or.ensures.value
    ∙ ap (λ (f : Option ℕ). ok_or f UnknownTask) (c.place.ensures ∙ ap (position (λ x. eqb x.number c.args.number)) c.entries.ensures.tasks)

pub returns-clause-inside : goal.returns-clause-inside
unfolding task_place
returns-clause-inside c =
    let s = c.args.self.now in
    subst (λ (r : Result ℕ Refusal). IfOk r (λ i. i < s.n))
    (sym
    (c.ok_or.ensures.value
    ∙ ap (λ (f : Option ℕ). ok_or f UnknownTask) (c.place.ensures ∙ ap (position (λ x. eqb x.number c.args.number)) c.entries.ensures.tasks)))
    (ok_or_below (task_place (tasks_of s) c.args.number) UnknownTask s.n (task_below s c.requires c.args.number))
