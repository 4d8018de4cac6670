-- `Entries::closes_ring` meets its contract: the chain followed from the semaphore on comes to the caller exactly if a ring would close.
use Prim.Native.Nat.{◌<◌}
use mathlib.Core.Path.{sym, ap, ◌∙◌}
use Rattle.waits.specs.declared.scan.Goal.TheVariants.{Is}
use Rattle.waits.specs.declared.scan.Lead.TheVariants.{Nobody, ToSem}
use Rattle.waits.specs.Waits.{sem_at, task_at}
use Rattle.waits.specs.Scan.{led_by}
use Rattle.waits.proofs.ScanLaws.{left, walked_stays, ended_is, leads_of, leads_linked, OnChain, chain_starts, chain_on}
use Rattle.waits.proofs.StandingLaws.{ring_met, ring_free}
use Rattle.waits.proofs.Entries.closes_ring.Goals as goal

-- the chain goes on from a semaphore that is free, and there it ends
freed : (c : goal.In-None)
    → let s = c.args.self.now in let g = Is c.args.i in
    OnChain s.tasks.now s.sems.now g (ToSem c.args.k) Nobody
    × (left 17 (leads_of s.tasks.now s.sems.now g) Nobody < left 17 (leads_of s.tasks.now s.sems.now g) c.loop-at.at)
unfolding led_by sem_at
freed c =
    let s = c.args.self.now in
    let g = Is c.args.i in
    chain_on s.tasks.now s.sems.now c.requires.0 g (ToSem c.args.k) c.loop-at.at Nobody c.in-ToSem.k c.loop-at.invariant c.in-ToSem.is
    (sym (ap (led_by s.tasks.now g) c.in-None.is))

-- and goes on from one that is held to where the holder leads
held : (c : goal.After-led_by-at)
    → let s = c.args.self.now in let g = Is c.args.i in
    OnChain s.tasks.now s.sems.now g (ToSem c.args.k) c.led_by-at.result
    × (left 17 (leads_of s.tasks.now s.sems.now g) c.led_by-at.result < left 17 (leads_of s.tasks.now s.sems.now g) c.loop-at.at)
unfolding led_by sem_at task_at
held c =
    let s = c.args.self.now in
    let g = Is c.args.i in
    chain_on s.tasks.now s.sems.now c.requires.0 g (ToSem c.args.k) c.loop-at.at c.led_by-at.result c.in-ToSem.k c.loop-at.invariant c.in-ToSem.is
    (c.led_by-at.ensures ∙ sym (ap (led_by s.tasks.now g) c.in-Some.is))

pub loop-at-init : goal.loop-at-init
loop-at-init c = chain_starts c.args.self.now.tasks.now c.args.self.now.sems.now c.requires.0 (Is c.args.i) c.args.k c.requires.2

pub bounds-self-place : goal.bounds-self-place
unfolding sem_at
bounds-self-place c =
    c.requires.0.chained.held c.in-ToSem.k (c.loop-at.invariant.within c.in-ToSem.k c.in-ToSem.is) c.in-Some.place c.in-Some.is

pub loop-at-smaller-in-None : goal.loop-at-smaller-in-None
loop-at-smaller-in-None c = (freed c).1

pub loop-at-preserved-in-None : goal.loop-at-preserved-in-None
loop-at-preserved-in-None c = (freed c).0

pub loop-at-smaller : goal.loop-at-smaller
loop-at-smaller c = (held c).1

pub loop-at-preserved : goal.loop-at-preserved
loop-at-preserved c = (held c).0

pub returns-in-Met : goal.returns-in-Met
returns-in-Met c =
    let s = c.args.self.now in
    let g = Is c.args.i in
    let u = c.requires.0 in
    let table = leads_of s.tasks.now s.sems.now g in
    sym
    (ring_met s.tasks.now s.sems.now u.chained c.args.i c.args.k c.requires.2 u.sems_fit table (leads_linked s.tasks.now s.sems.now g) _
    (sym c.loop-at.invariant.same ∙ walked_stays 17 table c.loop-at.at (ended_is c.loop-at.at c.in_default.not-ToSem) ∙ c.in-Met.is))

pub returns-in_default-matches : goal.returns-in_default-matches
returns-in_default-matches c =
    let s = c.args.self.now in
    let g = Is c.args.i in
    let u = c.requires.0 in
    let table = leads_of s.tasks.now s.sems.now g in
    sym
    (ring_free s.tasks.now s.sems.now u.chained c.args.i c.args.k c.requires.2 u.sems_fit table (leads_linked s.tasks.now s.sems.now g)
    (λ e w.
    c.in_default-matches.not-Met e
    (sym (walked_stays 17 table c.loop-at.at (ended_is c.loop-at.at c.in_default.not-ToSem)) ∙ c.loop-at.invariant.same ∙ w)))
