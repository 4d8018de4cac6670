-- `Entries::waits_on` meets its contract: by what the task waits for, and then by who holds it.
use Rattle.std.proofs.Common.{rules, ◌≡◌, ◌≤◌, length}
use Rattle.std.specs.Prelude.{Some}
use Prim.Native.Nat.{ℕ}
use mathlib.Core.Path.{sym, ap, ◌∙◌}
use mathlib.Core.List.{List}
use lib.ListN.{get_or, get_or-eq_default}
use Rattle.table.specs.declared.Task.{Task}
use Rattle.table.specs.declared.Sem.{Sem}
use Rattle.table.specs.Entries.{blank_sem}
use Rattle.waits.specs.Waits.{sem_at, waits_for, holder_of}
use Rattle.waits.specs.Standing.{found_and, holds_it}
use Rattle.waits.specs.Scan.{on_holder}
use Rattle.waits.proofs.Entries.waits_on.Goals as goal

-- who waits for a semaphore waits on its holder
told : (sems : List Sem) (i k : ℕ) (t : Task) → waits_for t.status ≡ Some k → on_holder sems i t ≡ holds_it i (get_or sems k blank_sem)
unfolding on_holder holder_of holds_it sem_at
told sems i k t w = rw w

pub returns-in_default : goal.returns-in_default
unfolding on_holder holder_of found_and
returns-in_default c = rw (sym c.waited.ensures ∙ c.in_default.is)

pub returns-in_default-get : goal.returns-in_default-get
unfolding holds_it found_and
returns-in_default-get c =
    let a = c.args in
    let sems = a.self.now.sems.now in
    let past : length sems ≤ c.in-Some.k = search rules in
    sym
    (told sems a.i c.in-Some.k a.t (sym c.waited.ensures ∙ c.in-Some.is) ∙ ap (holds_it a.i) (get_or-eq_default sems blank_sem past))

pub returns : goal.returns
returns c =
    let a = c.args in
    let sems = a.self.now.sems.now in
    let same : get_or sems c.in-Some.k blank_sem ≡ c.in-Some-get.entry.now = search rules in
    c.holds_it.ensures ∙ sym (told sems a.i c.in-Some.k a.t (sym c.waited.ensures ∙ c.in-Some.is) ∙ ap (holds_it a.i) same)
