-- `image::write::put_entries` meets its contract: after i turns the first i records stand there, and behind them what stood there.
use Prim.Native.Nat.{ℕ, ◌+◌, ◌-◌, ◌*◌}
use mathlib.Core.Path.{◌≡◌, sym, ap, subst, ◌∙◌}
use mathlib.Core.List.{List, ◌++◌}
use native.Mathlib.Omega.{arith}
use lib.ListN.{length, get_or, take, drop}
use borrow.Rule.Slice.PartMut.{put_mid}
use Rattle.executive.specs.declared.state.State.{State}
use Rattle.executive.specs.Sound.{Sized}
use Rattle.fields.proofs.PartLaws.{Filled, filled_start, filled_end, filled_more}
use Rattle.image.proofs.WriteLaws.{Entry, of_task, of_sem, encode_entry, length_entry, entries_of, flat_entries, count_entries, entry_task, entry_sem}
use Rattle.image.proofs.write.put_entries.Goals as goal
use Rattle.image.proofs.write.put_entries.Goals.{then-i-n, else-i-n}

-- how long the whole part is
whole : (s : State) (part : List ℕ) → Sized s × (length part ≡ 32 * (s.n + s.m)) → length part ≡ 32 * length (entries_of s)
whole s part h = h.1 ∙ ap (λ (k : ℕ). 32 * k) (sym (count_entries s h.0))

pub overflow_add-count : goal.overflow_add-count
overflow_add-count c = omega (arith, c.requires.0.tasks_fit, c.requires.0.sems_fit)

pub loop-i-init : goal.loop-i-init
loop-i-init c = filled_start encode_entry 32 length_entry (entries_of c.args.state) c.args.part.now

-- a part cut at a place, with what is put at the front of what lies behind
cut : (part front behind : List ℕ) (at : ℕ) → (front ≡ take at part) × (behind ≡ drop at part) → (after r : List ℕ)
    → after ≡ front ++ (r ++ drop 32 behind) → after ≡ put_mid at (at + 32 - at) part r
cut part front behind at e after r is =
    let width : 32 ≡ at + 32 - at = omega arith in
    is
    ∙ (ap (λ (l : List ℕ). l ++ (r ++ drop 32 behind)) e.0
    ∙ (ap (λ (l : List ℕ). take at part ++ (r ++ drop 32 l)) e.1 ∙ ap (λ (k : ℕ). put_mid at k part r) width))

pub loop-i-preserved : goal.loop-i-preserved
loop-i-preserved c =
    let s = c.args.state in
    let before = c.args.part.now in
    let i = c.loop-i.i in
    let behind = c.split_at_mut-behind in
    let more =
    filled_more encode_entry 32 length_entry (entries_of s) before (whole s before c.requires) c.loop-i.part i c.loop-i.invariant
    (omega (arith, count_entries s c.requires.0, c.loop-i-test.true)) in
    let P : List ℕ → Type 0 = λ part. Filled encode_entry 32 length_entry (entries_of s) before part (i + 1) in
    let put : (d : Entry) (after r : List ℕ) → after ≡ behind.result.0.now ++ (r ++ drop 32 behind.result.1.now) → r ≡ encode_entry (get_or (entries_of s) i d) → P after =
    λ d after r is e. subst P (sym (cut c.loop-i.part behind.result.0.now behind.result.1.now (i * 32) (behind.ensures.front, behind.ensures.back) after r is)) (more d r e) in
    elim c.if-i-n.branch [
      | then-i-n w ↦ put (of_task _) c.if-i-n.part w.put_task.new.part w.part-is (w.put_task.ensures ∙ ap encode_entry (entry_task s c.requires.0 _ i w.if-i-n.true))
      | else-i-n w ↦
          put (of_sem _) c.if-i-n.part w.put_sem.new.part w.part-is
          (w.put_sem.ensures ∙ ap encode_entry (entry_sem s c.requires.0 _ i w.if-i-n.false c.loop-i-test.true))
    ]

pub returns : goal.returns
returns c =
    let s = c.args.state in
    let before = c.args.part.now in
    filled_end encode_entry 32 length_entry (entries_of s) before (whole s before c.requires) c.loop-i.part c.loop-i.i c.loop-i.invariant
    (omega (arith, count_entries s c.requires.0, c.loop-i-test.false))
    ∙ flat_entries s
