-- `judging::search::ceil` meets its contract: the library rounds up to the same number.
use Prim.Native.Nat.{ℕ, ◌+◌, ◌*◌, ◌<◌, ◌≤◌}
use mathlib.Core.Path.{◌≡◌}
use native.Mathlib.Omega.{arith}
use Rattle.std.specs.Int.{div_ceil}
use Rattle.std.proofs.lemmas.Grind.{div_ceil_times}
use Rattle.judging.specs.Demands.{ceil}
use Rattle.judging.proofs.DemandLaws.{ceil_is, ceil_small}
use Rattle.judging.proofs.search.ceil.Goals as goal

-- what is rounded up is t
rounded : (x t p r : ℕ) → 0 < p → r ≡ div_ceil x p → x ≡ t → (r ≡ ceil t p) × (r ≤ t) × (r * p < t + p)
rounded x t p r h up is =
    let same = ceil_is t p h in
    rw (up, is) (same, omega (arith, same, ceil_small t p h), (div_ceil_times t p h).1)

pub returns : goal.returns
returns c = rounded _ c.args.t c.args.period c.div_ceil.result c.requires.0 c.div_ceil.ensures (omega arith)
