use Prim.Native.Nat.{ℕ, ◌<◌, ◌≤◌}
use mathlib.Core.Path.{◌≡◌}
use lib.ListN.{length, get_or}
use Rattle.waits.specs.declared.scan.Lead.TheVariants.{Nobody}
use Rattle.waits.specs.Waits.{sem_at}
use Rattle.waits.specs.Scan.{led_by}
use Rattle.waits.proofs.Entries.leads.Given as goal

-- the semaphores before k lead where they do, and the others to nobody as yet
abbrev pub invariant-loop-k : goal.invariant-loop-k
invariant-loop-k l =
    (length l.link ≡ 16)
    × ((j : ℕ) → j < l.k → get_or l.link j Nobody ≡ led_by l.self.tasks.now l.goal (sem_at l.self.sems.now j).holder)
    × ((j : ℕ) → l.k ≤ j → get_or l.link j Nobody ≡ Nobody)
