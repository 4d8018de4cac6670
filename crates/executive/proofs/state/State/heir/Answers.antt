-- `State::heir` meets its contract: the heir among the entries that there are.
use Rattle.std.proofs.Common.{rules, ◌≡◌}
use Rattle.std.specs.Prelude.{Option, Some, None, IfSome}
use Prim.Native.Nat.{ℕ, ◌<◌}
use mathlib.Core.Path.{refl, sym, subst}
use Rattle.waits.specs.Standing.{heir_of}
use Rattle.executive.specs.States.{tasks_of, sems_of}
use Rattle.executive.proofs.SoundLaws.{heir_below}
use Rattle.executive.proofs.state.State.heir.Goals as goal

below : (f : Option ℕ) (n : ℕ) → ((i : ℕ) → f ≡ Some i → i < n) → IfSome f (λ i. i < n)
below None n h = tt
below (Some i) n h = h i refl

pub heir-requires : goal.heir-requires
heir-requires c = (c.entries.ensures.used c.requires.0, search rules)

pub returns-clause-inside : goal.returns-clause-inside
returns-clause-inside c =
    let s = c.args.self.now in
    let found : c.heir.result ≡ heir_of (tasks_of s) (sems_of s) c.args.k = search rules in
    subst (λ (f : Option ℕ). IfSome f (λ i. i < s.n)) (sym found) (below (heir_of (tasks_of s) (sems_of s) c.args.k) s.n (heir_below s c.requires.0 c.args.k))
