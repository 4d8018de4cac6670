-- `scan::walk` meets its contract: each step ends where the whole walk does, and sooner.
use mathlib.Core.Path.{sym, ap, subst, ◌∙◌}
use Prim.Native.Nat.{◌<◌}
use lib.ListN.{get_or}
use Rattle.waits.specs.declared.scan.Lead.{Lead}
use Rattle.waits.specs.declared.scan.Lead.TheVariants.{Nobody}
use Rattle.waits.specs.Scan.{walked}
use Rattle.waits.proofs.ScanLaws.{left, walked_stays, ended_is, walk_inside, walk_next}
use Rattle.waits.proofs.scan.walk.Goals as goal

pub bounds-link-k : goal.bounds-link-k
bounds-link-k c = walk_inside c.args.link.now c.in-ToSem.k (rw c.in-ToSem.is at c.loop-at.invariant.0)

pub loop-at-smaller : goal.loop-at-smaller
loop-at-smaller c =
    let link = c.args.link.now in
    let step = walk_next link c.in-ToSem.k (rw c.in-ToSem.is at c.loop-at.invariant.0) in
    subst (λ (at : Lead). left 17 link (get_or link c.in-ToSem.k Nobody) < left 17 link at) (sym c.in-ToSem.is) step.2

pub loop-at-preserved : goal.loop-at-preserved
loop-at-preserved c =
    let link = c.args.link.now in
    let step = walk_next link c.in-ToSem.k (rw c.in-ToSem.is at c.loop-at.invariant.0) in
    (step.0, step.1 ∙ ap (walked 17 link) (sym c.in-ToSem.is) ∙ c.loop-at.invariant.1)

pub returns : goal.returns
returns c = sym (walked_stays 17 c.args.link.now c.loop-at.at (ended_is c.loop-at.at c.in_default.not-ToSem)) ∙ c.loop-at.invariant.1
