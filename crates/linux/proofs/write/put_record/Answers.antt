-- `linux::write::put_record` meets its contract: zeros, then the fields.
use Prim.Native.Nat.{ℕ, ◌*◌}
use mathlib.Core.Path.{◌≡◌, ap, ◌∙◌}
use mathlib.Core.List.{List}
use lib.ListN.{replicate}
use Rattle.fields.specs.Fields.{put_at}
use Rattle.linux.proofs.WriteLaws.{attr_put}
use Rattle.linux.proofs.write.put_record.Goals as goal

pub returns : goal.returns
returns c =
    let t = c.args.task in
    let zeros : c.fill.new.part ≡ replicate 48 0 = c.fill.ensures ∙ ap (λ (n : ℕ). replicate n 0) c.requires in
    let sized = c.put.ensures ∙ ap (λ (l : List ℕ). put_at 4 l 0 48) zeros in
    let ruled = c.put-2.ensures ∙ ap (λ (l : List ℕ). put_at 4 l 4 6) sized in
    let timed = c.put-3.ensures ∙ ap (λ (l : List ℕ). put_at 8 l 24 (t.cost * 10)) ruled in
    let due = c.put-4.ensures ∙ ap (λ (l : List ℕ). put_at 8 l 32 (t.period * 10)) timed in
    c.put-5.ensures ∙ (ap (λ (l : List ℕ). put_at 8 l 40 (t.period * 10)) due ∙ attr_put t)
