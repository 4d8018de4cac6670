-- `rack::export::rack_export` meets its contract: a refused image leaves the list, any other is written as one.
use Prim.Native.Nat.{◌≤◌}
use mathlib.Core.Path.{sym, ap, subst, ◌∙◌}
use Rattle.executive.specs.Reading.{Reading, reading_by}
use Rattle.rack.specs.Boundary.{told}
use Rattle.rack.proofs.LoadCases.{read_refused, read_written}
use Rattle.image.specs.Loading.{load_of}
use Rattle.linux.specs.Writing.{list_number, list_written}
use Rattle.image.proofs.RoundTrips.{sound_of, load_place}
use Rattle.rack.proofs.export.rack_export.Goals as goal

pub with_place-requires : goal.with_place-requires
with_place-requires c =
    let e = (ap (reading_by c.load-loaded.result.state) (sym c.in-Err.is) ∙ c.load-loaded.ensures) in
    subst (λ (r : Reading). r.place ≤ 128) (sym e) (load_place c.args.image.now)

pub returns-in-Err : goal.returns-in-Err
unfolding told
returns-in-Err c =
    let a = c.args in
    read_refused (load_of a.image.now) told list_number list_written a.list.now c.load-loaded.result.state c.in-Err.refused (ap (reading_by c.load-loaded.result.state) (sym c.in-Err.is) ∙ c.load-loaded.ensures) _ c.with_place.ensures

pub write-requires : goal.write-requires
write-requires c = (sound_of c.args.image.now c.load-loaded.result c.load-loaded.ensures (λ i h. (c.type_inv.image i).fits)).sized

pub returns-in-Ok : goal.returns-in-Ok
returns-in-Ok c =
    let a = c.args in
    let w = c.write in
    read_written (load_of a.image.now) told list_number list_written a.list.now c.load-loaded.result.state (ap (reading_by c.load-loaded.result.state) (sym c.in-Ok.is) ∙ c.load-loaded.ensures) w.new.list _
    (c.told.ensures ∙ w.ensures.value) w.ensures.list_after
