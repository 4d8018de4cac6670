-- `image::load::load` meets its contract: 1 for a bad length, else the records decide.
use Prim.Native.Nat.{◌/◌}
use mathlib.Core.Path.{sym, ap, ◌∙◌}
use mathlib.Core.Bool.{false}
use lib.ListN.{length}
use Rattle.fields.proofs.PartLaws.{chunks_parts}
use Rattle.executive.specs.Reading.{reading_of}
use Rattle.image.specs.Loading.{fresh_table, load_from, load_records}
use Rattle.image.proofs.LoadLaws.{load_bad, load_good}
use Rattle.image.proofs.load.load.Goals as goal

pub returns-then-bad_length : goal.returns-then-bad_length
returns-then-bad_length c =
    ap reading_of c.refused.ensures ∙ sym (load_bad c.args.image.now (sym c.bad_length.ensures ∙ c.if-bad_length.true))

pub returns : goal.returns
unfolding load_records
returns c =
    let image = c.args.image.now in
    c.load_records.ensures
    ∙ (ap (load_from fresh_table false 0) (c.as_chunks.ensures.front ∙ chunks_parts 32 (length image / 32) image)
    ∙ sym (load_good image (sym c.bad_length.ensures ∙ c.if-bad_length.false)))
