-- `calls::released` meets its contract: the deadline first, then what the task does.
use Prim.Native.Nat.{ℕ, ◌+◌}
use mathlib.Core.Path.{◌∙◌, ap}
use Rattle.table.specs.Entries.{with_status, with_deadline}
use Rattle.table.specs.declared.Task.{Task}
use Rattle.table.specs.declared.Status.TheVariants.{Ready}
use Rattle.executive.proofs.calls.released.Goals as goal

pub returns : goal.returns
returns c =
    let a = c.args in
    let due = c.with_deadline-due.ensures ∙ ap (λ (n : ℕ). with_deadline a.t (a.time + n)) c.span-span.ensures in
    c.with_status.ensures ∙ ap (λ (t : Task). with_status t Ready) due
