-- `Entries::scan` meets its contract: after i turns the best so far is the fold over the first i tasks, and over all of them that is the best that
-- meets the goal.
use Rattle.std.specs.Prelude.{ℕ, Some}
use mathlib.Core.Path.{refl, sym, ap, ◌∙◌}
use native.Mathlib.Omega.{arith}
use Rattle.waits.specs.Waits.{task_at}
use Rattle.waits.proofs.ScanLaws.{fold_to, fold_on, fold_behind, fold_unmet, fold_ahead, fold_all, follow_ends}
use Rattle.waits.proofs.Entries.scan.Goals.{in-Met, in_default}
use Rattle.waits.proofs.Entries.scan.Goals as goal

pub loop-i-init : goal.loop-i-init
unfolding fold_to
loop-i-init c = refl

pub loop-i-preserved-then-not-ahead : goal.loop-i-preserved-then-not-ahead
unfolding task_at
loop-i-preserved-then-not-ahead c =
    let s = c.args.self.now in
    let l = c.loop-i in
    fold_on s.tasks.now c.leads-link.result c.args.goal l.i l.best l.best l.invariant
    (sym (fold_behind l.best _ l.i _ (sym c.ahead.ensures ∙ c.if-not-ahead.true)))

pub led_to-requires : goal.led_to-requires
unfolding task_at
led_to-requires c =
    let s = c.args.self.now in
    let u = c.requires in (
      c.leads-link.ensures.long,
      follow_ends s.tasks.now s.sems.now c.args.goal u.chained c.leads-link.result c.leads-link.ensures.leads u.sems_fit
          c.loop-i.i c.loop-i-test.true,
    )

pub loop-i-preserved : goal.loop-i-preserved
unfolding task_at
loop-i-preserved c =
    let s = c.args.self.now in
    let l = c.loop-i in
    let ahead = sym c.ahead.ensures ∙ c.if-not-ahead.false in
    let on = fold_on s.tasks.now c.leads-link.result c.args.goal l.i l.best c.match-led_to.best l.invariant in
    elim c.match-led_to.branch [
      | in-Met w ↦ on (w.best-is ∙ ap (λ (d : ℕ). Some (record { deadline = d; queue = (task_at s.tasks.now l.i).queue; position = l.i; met = w.in-Met.met })) w.deadline_shown.ensures ∙ sym (fold_ahead l.best _ l.i _ _ (sym c.led_to.ensures ∙ w.in-Met.is) ahead))
      | in_default w ↦ on (w.best-is ∙ sym (fold_unmet l.best _ l.i _ (λ e q. w.in_default.not-Met e (c.led_to.ensures ∙ q))))
    ]

pub returns : goal.returns
returns c =
    let s = c.args.self.now in
    c.loop-i.invariant ∙ ap (fold_to s.tasks.now c.leads-link.result c.args.goal) (omega arith)
    ∙ fold_all s.tasks.now s.sems.now c.requires c.args.goal c.leads-link.result c.leads-link.ensures.leads _ (omega arith)
