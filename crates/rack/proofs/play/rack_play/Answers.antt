-- `rack::play::rack_play` meets its contract: a script that is cut, a buffer that is too short or an image that is refused leave the buffer.
use mathlib.Core.Path.{sym, ap, ◌∙◌}
use native.Mathlib.Omega.{arith}
use Rattle.executive.specs.Reading.{reading_by}
use Rattle.image.proofs.RoundTrips.{sound_of}
use Rattle.rack.proofs.PlayLaws.{played_odd, played_short, played_refused, played_all}
use Rattle.rack.proofs.play.rack_play.Goals as goal

pub returns-then-script-ne0 : goal.returns-then-script-ne0
returns-then-script-ne0 c = let a = c.args in played_odd a.image.now a.script.now a.out.now c.if-script-ne0.true

pub returns-then-out-count : goal.returns-then-out-count
returns-then-out-count c = let a = c.args in played_short a.image.now a.script.now a.out.now c.if-script-ne0.false c.if-out-count.true

pub returns-in-Err : goal.returns-in-Err
returns-in-Err c =
    let a = c.args in
    let s = c.load-loaded.result.state in
    played_refused a.image.now a.script.now a.out.now s _ c.if-script-ne0.false c.if-out-count.false (ap (reading_by s) (sym c.in-Err.is) ∙ c.load-loaded.ensures)

pub play_all-requires : goal.play_all-requires
play_all-requires c =
    let a = c.args in
    let l = c.load-loaded in
    let room = c.if-out-count.false in
    (sound_of a.image.now l.result l.ensures (λ i h. (c.type_inv.image i).fits), omega arith, omega arith)

pub returns : goal.returns
returns c =
    let a = c.args in
    let s = c.load-loaded.result.state in
    played_all a.image.now a.script.now a.out.now c.play_all.new.out s c.if-script-ne0.false c.if-out-count.false
    (ap (reading_by s) (sym c.in_default.is) ∙ c.load-loaded.ensures) c.play_all.ensures
