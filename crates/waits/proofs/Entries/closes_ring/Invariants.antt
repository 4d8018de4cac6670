use Rattle.waits.specs.declared.scan.Lead.TheVariants.{ToSem}
use Rattle.waits.proofs.ScanLaws.{left, leads_of, OnChain}
use Rattle.waits.proofs.Entries.closes_ring.Given as goal

abbrev pub invariant-loop-at : goal.invariant-loop-at
invariant-loop-at l = OnChain l.self.tasks.now l.self.sems.now l.goal (ToSem l.fn.k) l.at

abbrev pub decreases-loop-at : goal.decreases-loop-at
decreases-loop-at l = left 17 (leads_of l.self.tasks.now l.self.sems.now l.goal) l.at
