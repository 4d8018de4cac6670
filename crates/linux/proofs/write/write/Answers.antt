-- `linux::write::write` meets its contract: 7, then 43, and each refusal leaves the list as it was.
use mathlib.Core.Path.{◌≡◌, sym, ◌∙◌}
use mathlib.Core.Logic.{◌≢◌}
use mathlib.Core.Bool.{Bool, true, false}
use native.Mathlib.Omega.{arith}
use lib.Dec.{eqb}
use lib.ListN.{length}
use borrow.Author.Tests.{eqb-true, eqb-false}
use Rattle.executive.specs.declared.state.State.{State}
use Rattle.executive.specs.Sound.{Sized}
use Rattle.executive.specs.States.{tasks_of}
use Rattle.executive.proofs.LookupLaws.{tasks_count}
use Rattle.linux.proofs.WriteLaws.{list_none, list_unfit, list_done, long_unfit, queue_unfit, fits_list}
use Rattle.linux.proofs.write.write.Goals as goal

-- whether there is a task, told by their count
no_task : (s : State) → Sized s → (b : Bool) → b ≡ eqb (length (tasks_of s)) 0 → b ≡ true → s.n ≡ 0
no_task s sized b e h = let none = eqb-true (length (tasks_of s)) 0 (sym e ∙ h) in omega (arith, tasks_count s sized)

some_task : (s : State) → Sized s → (b : Bool) → b ≡ eqb (length (tasks_of s)) 0 → b ≡ false → s.n ≢ 0
some_task s sized b e h = let some = eqb-false (length (tasks_of s)) 0 (sym e ∙ h) in λ z. some (tasks_count s sized ∙ z)

pub returns-then-is_empty : goal.returns-then-is_empty
unfolding tasks_of
returns-then-is_empty c =
    let a = c.args in
    let none = list_none a.state a.list.now (no_task a.state c.requires c.is_empty.result c.is_empty.ensures c.if-is_empty.true) in
    record { value = none.0; list_after = none.1 }

pub returns-then-list-tasks : goal.returns-then-list-tasks
unfolding tasks_of
returns-then-list-tasks c =
    let a = c.args in
    let unfit = list_unfit a.state a.list.now (some_task a.state c.requires c.is_empty.result c.is_empty.ensures c.if-is_empty.false) (long_unfit a.state (length a.list.now) (λ e. c.if-list-tasks.true (e ∙ omega arith))) in
    record { value = unfit.0; list_after = unfit.1 }

pub returns-then-some_outside : goal.returns-then-some_outside
unfolding tasks_of
returns-then-some_outside c =
    let a = c.args in
    let unfit = list_unfit a.state a.list.now (some_task a.state c.requires c.is_empty.result c.is_empty.ensures c.if-is_empty.false) (queue_unfit a.state (length a.list.now) (sym c.some_outside.ensures ∙ c.if-some_outside.true)) in
    record { value = unfit.0; list_after = unfit.1 }

pub returns : goal.returns
unfolding tasks_of
returns c =
    let a = c.args in
    let done = list_done a.state a.list.now (some_task a.state c.requires c.is_empty.result c.is_empty.ensures c.if-is_empty.false)
    (fits_list a.state (length a.list.now) (sym c.some_outside.ensures ∙ c.if-some_outside.false) (c.if-list-tasks.false ∙ omega arith)) in
    record { value = sym done.0; list_after = c.put_records.ensures ∙ sym done.1 }
