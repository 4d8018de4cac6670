-- `rack::rewrite::rack_rewrite` meets its contract: a refused load leaves the buffer, any other is written.
use mathlib.Core.Path.{sym, ap, ◌∙◌}
use native.Mathlib.Omega.{arith}
use Rattle.executive.specs.Reading.{reading_by}
use Rattle.rack.proofs.LoadCases.{read_refused, read_written}
use Rattle.image.specs.Loading.{load_of}
use Rattle.image.specs.Writing.{write_number, written}
use Rattle.image.proofs.RoundTrips.{sound_of}
use Rattle.rack.proofs.rewrite.rack_rewrite.Goals as goal

pub returns-in-Err : goal.returns-in-Err
returns-in-Err c =
    let a = c.args in
    read_refused (load_of a.image.now) (λ r. r.number) write_number written a.buf.now c.load-loaded.result.state c.in-Err.refused (ap (reading_by c.load-loaded.result.state) (sym c.in-Err.is) ∙ c.load-loaded.ensures) _ (omega (arith, c.number.ensures))

pub write-requires : goal.write-requires
write-requires c = (sound_of c.args.image.now c.load-loaded.result c.load-loaded.ensures (λ i h. (c.type_inv.image i).fits)).sized

pub returns-in-Ok : goal.returns-in-Ok
returns-in-Ok c =
    let a = c.args in
    let w = c.write in
    read_written (load_of a.image.now) (λ r. r.number) write_number written a.buf.now c.load-loaded.result.state (ap (reading_by c.load-loaded.result.state) (sym c.in-Ok.is) ∙ c.load-loaded.ensures) w.new.buf _
    (c.told.ensures ∙ w.ensures.value) w.ensures.buf_after
