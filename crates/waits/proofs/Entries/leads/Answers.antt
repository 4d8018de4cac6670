-- `Entries::leads` meets its contract: each semaphore that is held leads where its holder does, and a free one to nobody.
use Prim.Native.Nat.{ℕ}
use mathlib.Core.Path.{sym, ap, ◌∙◌}
use native.Mathlib.Omega.{arith}
use Rattle.waits.specs.declared.scan.Lead.{Lead}
use Rattle.waits.specs.Waits.{task_at, sem_at}
use Rattle.waits.specs.Scan.{led_by}
use Rattle.waits.proofs.ScanLaws.{none_is, filled_kept, filled_more}
use Rattle.waits.proofs.Entries.leads.Goals.{in-Some, in_default}
use Rattle.waits.proofs.Entries.leads.Goals as goal

pub bounds-self-place : goal.bounds-self-place
unfolding sem_at
bounds-self-place c = c.requires.chained.held c.loop-k.k c.loop-k-test.true c.in-Some.place c.in-Some.is

pub loop-k-preserved : goal.loop-k-preserved
unfolding led_by sem_at task_at
loop-k-preserved c =
    let s = c.args.self.now in
    let l = c.loop-k in
    let u = c.requires in
    let f : ℕ → Lead = λ j. led_by s.tasks.now c.args.goal (sem_at s.sems.now j).holder in
    elim c.match-entry.branch [
      | in-Some w ↦
          rw w.link-is
          (filled_more l.link f l.k w.led_by.result (omega arith) l.invariant
          (w.led_by.ensures ∙ sym (ap (led_by s.tasks.now c.args.goal) w.in-Some.is)))
      | in_default w ↦
          rw w.link-is
          (filled_kept l.link f l.k l.invariant (ap (led_by s.tasks.now c.args.goal) (none_is _ w.in_default.not-Some)))
    ]
