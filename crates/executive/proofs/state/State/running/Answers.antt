-- `State::running` meets its contract: the number is that of the task that runs.
use Rattle.std.specs.Prelude.{Option, Some, None, Result, Ok}
use Rattle.std.specs.Option.{option_map, ok_or}
use Prim.Native.Nat.{ℕ}
use mathlib.Core.Path.{◌≡◌, refl, sym, ap, ◌∙◌}
use Rattle.table.specs.declared.Task.{Task}
use Rattle.table.specs.declared.refusals.Refusal.{Refusal}
use Rattle.table.specs.declared.refusals.Refusal.TheVariants.{NobodyRuns}
use Rattle.waits.specs.Waits.{task_at}
use Rattle.executive.specs.States.{tasks_of}
use Rattle.executive.proofs.CallLaws.{runs}
use Rattle.executive.proofs.state.State.running.Goals as goal

-- what is not found is not there
nobody : (f : Option ℕ) (r : Result ℕ Refusal) → r ≡ ok_or f NobodyRuns → ((i : ℕ) → r ≡ Ok i → ⊥) → f ≡ None
nobody None r e never = refl
nobody (Some i) r e never = absurd (never i e)

pub returns-in_default : goal.returns-in_default
returns-in_default c =
    let s = c.args.self.now in
    sym (ap (option_map (λ i. (task_at (tasks_of s) i).number)) (nobody _ _ c.runs.ensures.place c.in_default.not-Ok))

pub returns : goal.returns
returns c =
    let s = c.args.self.now in
    let r = runs s c.requires _ c.runs.ensures.place c.in-Ok.i c.in-Ok.is in
    ap (λ (t : Task). Some t.number) (sym r.here) ∙ sym (ap (option_map (λ i. (task_at (tasks_of s) i).number)) r.is)
