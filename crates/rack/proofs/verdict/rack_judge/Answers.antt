-- `rack::verdict::rack_judge` meets its contract: a refused load has its head alone, any other an entry for each task; the rest is zero.
use mathlib.Core.Path.{◌≡◌, sym, ap, ◌∙◌}
use Rattle.std.specs.Prelude.{Ok, Err}
use Rattle.table.specs.Refusals.{number_of}
use Rattle.executive.specs.Reading.{reading_by}
use mathlib.Core.List.{◌++◌}
use native.Mathlib.Nat.{zero-add}
use native.Mathlib.Omega.{arith}
use Rattle.image.proofs.RoundTrips.{sound_of}
use lib.ListN.{length, take}
use lib.Seq.{length-take-le}
use Prim.Native.Nat.{◌≤◌}
use Rattle.executive.specs.declared.state.State.{State}
use Rattle.executive.specs.Sound.{Sized}
use Rattle.lines.specs.Lines.{Put}
use Rattle.lines.proofs.PutLaws.{put_more, put_length}
use Rattle.executive.specs.States.{tasks_of}
use Rattle.rack.specs.Boundary.{head_bytes, entries_bytes}
use Rattle.rack.proofs.ByteParts.{head_long}
use Rattle.rack.proofs.LoadCases.{judged_refused, judged_accepted, judged_put}
use Rattle.rack.proofs.verdict.rack_judge.Goals as goal

pub put_zeros-requires : goal.put_zeros-requires
put_zeros-requires c =
    let head = c.put_head-end.ensures in
    let r = c.in-Err.refused in
    let long = head_long c.number.result 0 r.place 0 0 in
    let e = head.ends in
    let n = put_length head in
    (omega arith, omega arith)

pub returns-in-Err : goal.returns-in-Err
returns-in-Err c =
    let a = c.args in
    let s = c.load-loaded.result.state in
    let r = c.in-Err.refused in
    judged_put a.image.now a.out.now c.put_head-end.new.out c.put_zeros.new.out (reading_by s (Err r)) (head_bytes (number_of r.refusal) 0 r.place 0 0)
    c.put_head-end.result (omega arith) (ap (reading_by s) (sym c.in-Err.is) ∙ c.load-loaded.ensures) (judged_refused s r)
    (rw c.number.ensures at c.put_head-end.ensures) c.put_zeros.ensures

pub judge-requires : goal.judge-requires
judge-requires c = sound_of c.args.image.now c.load-loaded.result c.load-loaded.ensures (λ i h. (c.type_inv.image i).fits)

pub shared_ref_as_front-put_entries : goal.shared_ref_as_front-put_entries
shared_ref_as_front-put_entries c =
    let z = (sound_of c.args.image.now c.load-loaded.result c.load-loaded.ensures (λ i h. (c.type_inv.image i).fits)).sized in omega arith

-- there are as many tasks as the state says
size : (s : State) → Sized s → (s.n ≤ 64) × (length (take s.n s.tasks) ≡ s.n)
size s z = (z.tasks_fit, length-take-le s.n s.tasks (omega (arith, z.tasks_length, z.tasks_fit)))

pub put_entries-end-requires : goal.put_entries-end-requires
put_entries-end-requires c =
    let k = size c.load-loaded.result.state (sound_of c.args.image.now c.load-loaded.result c.load-loaded.ensures (λ i h. (c.type_inv.image i).fits)).sized in
    let n = put_length c.put_head.ensures in
    (omega (arith, k), omega arith)

pub put_zeros-requires-2 : goal.put_zeros-requires-2
put_zeros-requires-2 c =
    let m = size c.load-loaded.result.state (sound_of c.args.image.now c.load-loaded.result c.load-loaded.ensures (λ i h. (c.type_inv.image i).fits)).sized in
    let n = put_length c.put_head.ensures in
    let k = put_length c.put_entries-end.ensures.0 in
    (omega (arith, m, c.put_entries-end.ensures.1), omega arith)

pub returns : goal.returns
unfolding tasks_of
returns c =
    let a = c.args in
    let v = c.told-verdict in
    let s = c.load-loaded.result.state in
    let head = head_bytes 0 v.result.number 0 v.result.task s.n in
    let entries = entries_bytes (tasks_of s) s.board in
    let put = c.put_head.ensures in
    let long : length head ≡ 8 = head_long 0 v.result.number 0 v.result.task s.n in
    let first : Put a.out.now 0 head c.put_head.new.out 8 = record { contents = put.contents; ends = sym (zero-add (length head) ∙ long) } in
    judged_put a.image.now a.out.now c.put_entries-end.new.out c.put_zeros-2.new.out (reading_by s (Ok tt)) (head ++ entries) c.put_entries-end.result
    (omega arith) (ap (reading_by s) (sym c.in_default.is) ∙ c.load-loaded.ensures) (judged_accepted s v.result (v.ensures ∙ c.judge.ensures))
    (put_more head entries first c.put_entries-end.ensures.0) c.put_zeros-2.ensures
