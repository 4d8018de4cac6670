-- `State::runs` meets its contract: who runs among the entries that there are.
use Rattle.std.proofs.Common.{rules}
use Rattle.std.specs.Prelude.{Result, IfOk}
use Rattle.std.specs.Option.{ok_or}
use Prim.Native.Nat.{ℕ, ◌<◌}
use mathlib.Core.Path.{◌≡◌, sym, subst}
use Rattle.table.specs.declared.refusals.Refusal.{Refusal}
use Rattle.table.specs.declared.refusals.Refusal.TheVariants.{NobodyRuns}
use Rattle.waits.specs.Standing.{running_of}
use Rattle.executive.specs.States.{tasks_of, sems_of}
use Rattle.executive.proofs.SoundLaws.{runs_below}
use Rattle.executive.proofs.CallLaws.{ok_or_below}
use Rattle.executive.proofs.state.State.runs.Goals as goal

pub running-requires : goal.running-requires
running-requires c = c.entries.ensures.used c.requires

pub returns-clause-inside : goal.returns-clause-inside
returns-clause-inside c =
    let s = c.args.self.now in
    let found : c.ok_or.result ≡ ok_or (running_of (tasks_of s) (sems_of s)) NobodyRuns = search rules in
    subst (λ (r : Result ℕ Refusal). IfOk r (λ i. i < s.n)) (sym found)
    (ok_or_below (running_of (tasks_of s) (sems_of s)) NobodyRuns s.n (runs_below s c.requires))
