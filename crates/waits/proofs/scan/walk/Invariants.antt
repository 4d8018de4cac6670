use mathlib.Core.Path.{◌≡◌}
use mathlib.Core.Bool.{true}
use Rattle.waits.specs.Scan.{walked, ended}
use Rattle.waits.proofs.ScanLaws.{left}
use Rattle.waits.proofs.scan.walk.Given as goal

-- the walk from where the loop stands ends where the whole walk does
abbrev pub invariant-loop-at : goal.invariant-loop-at
invariant-loop-at l = (ended (walked 17 l.link l.at) ≡ true) × (walked 17 l.link l.at ≡ walked 17 l.link l.fn.from)

-- the steps that are left
abbrev pub decreases-loop-at : goal.decreases-loop-at
decreases-loop-at l = left 17 l.link l.at
