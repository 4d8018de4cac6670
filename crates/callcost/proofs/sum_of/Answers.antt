use Rattle.std.proofs.Common.{arith, ℕ, ◌≡◌, ◌+◌, ◌*◌, ◌≤◌, ◌<◌, sym, subst, ap}
use Rattle.executive.specs.declared.state.State.{State}
use Rattle.executive.specs.Calls.{Step, moved}
use Rattle.executive.specs.Sound.{Sound}
use Rattle.image.proofs.RoundTrips.{sound_of}
use Rattle.rack.proofs.PlayLaws.{called_sound}
use Rattle.callcost.proofs.sum_of.Goals as goal
use Rattle.callcost.proofs.sum_of.Goals.{in-0, in-8, in-9, in_default+in-None, in_default+in-Some}

-- one record more keeps what the loop keeps
kept : (s s' : State) (sum sum' i : ℕ) → Sound s → s' ≡ s → i < 256 → sum ≤ i * 65535 → sum' ≤ sum + 65535
    → Sound s' × (i + 1 ≤ 256) × (sum' ≤ (i + 1) * 65535)
kept s s' sum sum' i sound e h u r = (subst Sound (sym e) sound, omega arith, omega arith)

pub loop-i-init : goal.loop-i-init
loop-i-init c = (sound_of c.args.image.now c.load-loaded.result c.load-loaded.ensures (λ i h. (c.type_inv.image i).fits), omega arith, omega arith)

pub loop-i-preserved : goal.loop-i-preserved
unfolding moved
loop-i-preserved c =
    let l = c.loop-i in
    let m = c.match-script-at in
    elim m.branch [
      | in-0 w ↦ kept l.state m.state l.sum m.sum l.i l.invariant.0 w.state-is c.loop-i-test.true l.invariant.2 (omega (arith, w.sum-is))
      | in-8 w ↦ kept l.state m.state l.sum m.sum l.i l.invariant.0 w.state-is c.loop-i-test.true l.invariant.2 (omega (arith, w.sum-is))
      | in-9 w ↦ kept l.state m.state l.sum m.sum l.i l.invariant.0 w.state-is c.loop-i-test.true l.invariant.2 (omega (arith, w.sum-is))
      | in_default+in-None w ↦ kept l.state m.state l.sum m.sum l.i l.invariant.0 w.state-is c.loop-i-test.true l.invariant.2 (omega (arith, w.sum-is))
      | in_default+in-Some w ↦
          let called = called_sound l.state c.args.script.now (l.i * 16) l.invariant.0 in
          let state = ap (λ (m : Step). m.state) (w.in-Some.ensures {u = tt}) in
          kept w.in-Some.moved.state m.state l.sum m.sum l.i (subst Sound (sym state) called) w.state-is c.loop-i-test.true l.invariant.2 (omega (arith, w.sum-is))
    ]
