-- `Entries::standing` meets its contract: a task on which nobody waits has its own standing, else the scan finds the best that reaches it.
use Prim.Native.Nat.{◌<◌}
use mathlib.Core.Path.{◌≡◌, sym, subst, ◌∙◌}
use native.Mathlib.Omega.{arith}
use lib.ListN.{length}
use Rattle.std.specs.Prelude.{Some}
use Rattle.waits.specs.declared.scan.Best.{Best}
use Rattle.waits.specs.Waits.{task_at}
use Rattle.waits.specs.Standing.{own_of, standing_of}
use Rattle.waits.proofs.StandingLaws.{scanned_standing}
use Rattle.waits.proofs.DispatchLaws.{not_waited_on}
use Rattle.waits.proofs.Entries.standing.Goals.{After-scan, In-None, In-Some}
use Rattle.waits.proofs.Entries.standing.Goals as goal

pub returns-then-not-waited_on : goal.returns-then-not-waited_on
unfolding own_of task_at
returns-then-not-waited_on c =
    let s = c.args.self.now in
    c.own-own.ensures
    ∙ sym
    (not_waited_on s.tasks.now s.sems.now c.requires.0.chained c.args.i c.requires.1 (sym c.waited_on.ensures ∙ c.if-not-waited_on.true))

-- what the scan found
found : (c : After-scan) → let s = c.args.self.now in
    (b : Best) × (c.scan.result ≡ Some b) × (b.position < length s.tasks.now)
    × (own_of s.tasks.now b.position ≡ standing_of s.tasks.now s.sems.now c.args.i)
found c =
    let s = c.args.self.now in
    scanned_standing s.tasks.now s.sems.now c.requires.0.chained c.args.i c.requires.1 c.scan.result c.scan.ensures

pub returns-in-None : goal.returns-in-None
returns-in-None c = let f = found c.before in let none = sym c.in-None.is ∙ f.1 in cc

-- the position that it found, and its own standing
at_best : (c : In-Some) → let s = c.args.self.now in
    (c.in-Some.best.position < length s.tasks.now)
    × (own_of s.tasks.now c.in-Some.best.position ≡ standing_of s.tasks.now s.sems.now c.args.i)
at_best c =
    let s = c.args.self.now in
    let f = found c.before in
    let same : f.0 ≡ c.in-Some.best = cc in
    subst (λ (b : Best). (b.position < length s.tasks.now) × (own_of s.tasks.now b.position ≡ standing_of s.tasks.now s.sems.now c.args.i)) same (f.2, f.3)

pub offset_bounds-self-best : goal.offset_bounds-self-best
offset_bounds-self-best c = record { fits = omega (arith, (at_best c).0, c.requires.0.tasks_fit) }

pub bounds-self-best : goal.bounds-self-best
bounds-self-best c = (at_best c).0

pub overflow_cast-best : goal.overflow_cast-best
overflow_cast-best c = omega (arith, (at_best c.before.before).0, c.requires.0.tasks_fit)

pub returns-in-Some : goal.returns-in-Some
unfolding own_of task_at
returns-in-Some c = c.own.ensures ∙ (at_best c.before.before.before).1
