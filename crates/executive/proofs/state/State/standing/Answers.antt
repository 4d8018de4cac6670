-- `State::standing` meets its contract: no task has the number, or the standing is that of the task that has it.
use Rattle.std.proofs.Common.{rules, ◌≡◌}
use Rattle.std.specs.Prelude.{Err}
use Rattle.std.specs.Option.{ok_or}
use mathlib.Core.Path.{refl, sym, ap, ◌∙◌}
use mathlib.Core.List.{[]}
use native.Mathlib.Omega.{arith}
use Rattle.table.specs.declared.refusals.Refusal.TheVariants.{UnknownTask}
use Rattle.table.specs.Places.{task_place}
use Rattle.table.proofs.RefusalLaws.{first_of_none}
use Rattle.waits.specs.Standing.{standing_of}
use Rattle.executive.specs.States.{tasks_of, sems_of}
use Rattle.executive.specs.Calls.{stands_of, stands_by, stands_refused, shown}
use Rattle.executive.proofs.CallLaws.{ok_or_none, names, call_none, call_done}
use Rattle.executive.proofs.state.State.standing.Goals as goal

pub returns-in_err-i : goal.returns-in_err-i
unfolding stands_of
returns-in_err-i c =
    let s = c.args.self.now in
    let e : c.from_residual.result ≡ Err UnknownTask = search rules in
    let was : ok_or (task_place (tasks_of s) c.args.number) UnknownTask ≡ Err UnknownTask = search rules in
    let none = ok_or_none _ _ _ was in
    ap stands_by e
    ∙ sym
    (call_none 20 (λ i. []) stands_refused (λ i. shown (standing_of (tasks_of s) (sems_of s) i)) (task_place (tasks_of s) c.args.number) none.0
    (λ e. omega arith))

pub standing-requires : goal.standing-requires
standing-requires c = (c.entries.ensures.used c.requires, search rules)

pub returns : goal.returns
unfolding stands_of
returns c =
    let s = c.args.self.now in
    let n = names s c.requires.sized c.args.number _ refl c.in_ok-i.i (search rules) in
    let i = c.in_ok-i.i in
    let is : c.standing.result ≡ standing_of (tasks_of s) (sems_of s) i = search rules in
    ap shown is
    ∙ sym
    (call_done 20 (λ i. []) stands_refused (λ i. shown (standing_of (tasks_of s) (sems_of s) i)) (task_place (tasks_of s) c.args.number) i n.place
    first_of_none)
