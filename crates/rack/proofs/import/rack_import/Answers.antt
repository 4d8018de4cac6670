-- `rack::import::rack_import` meets its contract: a refused list leaves the buffer, any other is written as an image.
use Prim.Native.Nat.{◌≤◌}
use mathlib.Core.Path.{sym, ap, subst, ◌∙◌}
use Rattle.executive.specs.Reading.{Reading, reading_by}
use Rattle.rack.specs.Boundary.{told}
use Rattle.rack.proofs.LoadCases.{read_refused, read_written}
use Rattle.image.specs.Writing.{write_number, written}
use Rattle.linux.specs.Lists.{read_of}
use Rattle.linux.proofs.ListTrips.{read_sound, read_place}
use Rattle.executive.specs.Sound.{Sound}
use Rattle.executive.proofs.ReadingLaws.{reading_state}
use native.Mathlib.Omega.{arith}
use Rattle.rack.proofs.import.rack_import.Goals as goal

pub with_place-requires : goal.with_place-requires
with_place-requires c =
    let e = (ap (reading_by c.read-read.result.state) (sym c.in-Err.is) ∙ c.read-read.ensures) in
    subst (λ (r : Reading). r.place ≤ 128) (sym e) (omega (arith, read_place c.args.list.now))

pub returns-in-Err : goal.returns-in-Err
unfolding told
returns-in-Err c =
    let a = c.args in
    read_refused (read_of a.list.now) told write_number written a.buf.now c.read-read.result.state c.in-Err.refused (ap (reading_by c.read-read.result.state) (sym c.in-Err.is) ∙ c.read-read.ensures) _ c.with_place.ensures

pub write-requires : goal.write-requires
write-requires c = (subst Sound (sym (ap (λ (r : Reading). r.state) c.read-read.ensures) ∙ reading_state c.read-read.result.state c.read-read.result.answer) (read_sound c.args.list.now)).sized

pub returns-in-Ok : goal.returns-in-Ok
returns-in-Ok c =
    let a = c.args in
    let w = c.write in
    read_written (read_of a.list.now) told write_number written a.buf.now c.read-read.result.state (ap (reading_by c.read-read.result.state) (sym c.in-Ok.is) ∙ c.read-read.ensures) w.new.buf _
    (c.told.ensures ∙ w.ensures.value) w.ensures.buf_after
