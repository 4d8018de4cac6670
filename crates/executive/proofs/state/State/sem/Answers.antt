-- `State::sem` meets its contract: the look-up among the sems that there are.
use Rattle.std.specs.Prelude.{Option, Result, IfOk, position}
use Rattle.std.specs.Option.{ok_or}
use Prim.Native.Nat.{ℕ, ◌<◌}
use mathlib.Core.Path.{sym, ap, subst, ◌∙◌}
use lib.Dec.{eqb}
use Rattle.table.specs.declared.refusals.Refusal.{Refusal}
use Rattle.table.specs.declared.refusals.Refusal.TheVariants.{UnknownSem}
use Rattle.table.specs.Places.{sem_place}
use Rattle.executive.specs.States.{sems_of}
use Rattle.executive.proofs.LookupLaws.{sem_below}
use Rattle.executive.proofs.CallLaws.{ok_or_below}
use Rattle.executive.proofs.state.State.sem.Goals as goal

pub returns-clause-place : goal.returns-clause-place
unfolding sem_place
returns-clause-place c =
    c.ok_or.ensures.value
    ∙ ap (λ (f : Option ℕ). ok_or f UnknownSem) (c.place.ensures ∙ ap (position (λ x. eqb x.number c.args.number)) c.entries.ensures.sems)

pub returns-clause-inside : goal.returns-clause-inside
unfolding sem_place
returns-clause-inside c =
    let s = c.args.self.now in
    subst (λ (r : Result ℕ Refusal). IfOk r (λ i. i < s.m))
    (sym
    (c.ok_or.ensures.value
    ∙ ap (λ (f : Option ℕ). ok_or f UnknownSem) (c.place.ensures ∙ ap (position (λ x. eqb x.number c.args.number)) c.entries.ensures.sems)))
    (ok_or_below (sem_place (sems_of s) c.args.number) UnknownSem s.m (sem_below s c.requires c.args.number))
