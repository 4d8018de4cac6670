-- `judging::judge::tested` meets its contract: each way out is one number of the ordered list.
use Prim.Native.Nat.{ℕ, ◌≤◌, ◌<◌}
use mathlib.Core.Path.{◌≡◌, refl, sym, subst, ◌∙◌}
use mathlib.Core.List.{List}
use native.Mathlib.Omega.{arith}
use lib.ListN.{length}
use Rattle.std.specs.Prelude.{Option, Some, None, Ok, Err}
use Rattle.table.specs.declared.Task.{Task}
use Rattle.judging.specs.declared.Row.{Row}
use Rattle.judging.specs.Ranges.{InRange, Common}
use Rattle.judging.specs.Verdicts.{shared_of, first_late}
use Rattle.judging.proofs.VerdictLaws.{
  shared_above,
  shared_within,
  shared_common,
  verdict_7,
  verdict_10,
  verdict_11,
  verdict_12,
  verdict_13,
  verdict_14,
  verdict_0,
  long_below,
  late_below,
}
use Rattle.judging.proofs.judge.tested.Goals as goal

-- where no place was found
nothing : (r f : Option ℕ) → ((i : ℕ) → r ≡ Some i → ⊥) → r ≡ f → f ≡ None
nothing (Some i) f none e = absurd (none i refl)
nothing None f none e = sym e

-- past 10 the shared period is a common multiple, in range
common : (g : List Row) (h last : ℕ) → last ≤ 2 → InRange g → Ok h ≡ shared_of g → Common g last h
common g h last l r e =
    let s = shared_within g h e in
    subst (λ (z : ℕ). Common g last z) (sym s.1) (shared_common g last l r s.0)

pub over_full-requires : goal.over_full-requires
over_full-requires c = (c.requires.0, common c.args.rows.now c.in-Ok.h 1 (omega arith) c.requires.0 c.in-Ok.ensures)

pub over_full-requires-2 : goal.over_full-requires-2
over_full-requires-2 c = (c.requires.0, common c.args.rows.now c.in-Ok.h 2 (omega arith) c.requires.0 c.in-Ok.ensures)

-- a place that is named is that of a task
long_inside : (tasks : List Task) (g : List Row) (i : ℕ) → length tasks ≡ length g → Err i ≡ shared_of g → i < length tasks
long_inside tasks g i n e = omega (arith, n, long_below g i (shared_above g i e))

late_inside : (tasks : List Task) (g : List Row) (queue i : ℕ) → length tasks ≡ length g → Some i ≡ first_late queue g → i < length tasks
late_inside tasks g queue i n e = omega (arith, n, late_below g queue i (sym e))

pub bounds-tasks-i : goal.bounds-tasks-i
bounds-tasks-i c = long_inside c.args.tasks.now c.args.rows.now c.in-Err.i c.requires.1 c.in-Err.ensures

pub offset_bounds-tasks-i : goal.offset_bounds-tasks-i
offset_bounds-tasks-i c = omega (arith, long_inside c.args.tasks.now c.args.rows.now c.in-Err.i c.requires.1 c.in-Err.ensures, c.requires.0.fit, c.requires.1)

pub bounds-tasks-i-in-Some : goal.bounds-tasks-i-in-Some
bounds-tasks-i-in-Some c = late_inside c.args.tasks.now c.args.rows.now _ c.in-Some.i c.requires.1 c.in-Some.ensures

pub offset_bounds-tasks-i-in-Some : goal.offset_bounds-tasks-i-in-Some
offset_bounds-tasks-i-in-Some c = omega (arith, late_inside c.args.tasks.now c.args.rows.now _ c.in-Some.i c.requires.1 c.in-Some.ensures, c.requires.0.fit, c.requires.1)

pub bounds-tasks-i-in-Some-fp : goal.bounds-tasks-i-in-Some-fp
bounds-tasks-i-in-Some-fp c = late_inside c.args.tasks.now c.args.rows.now _ c.in-Some-fp.i c.requires.1 c.in-Some-fp.ensures

pub offset_bounds-tasks-i-in-Some-fp : goal.offset_bounds-tasks-i-in-Some-fp
offset_bounds-tasks-i-in-Some-fp c = omega (arith, late_inside c.args.tasks.now c.args.rows.now _ c.in-Some-fp.i c.requires.1 c.in-Some-fp.ensures, c.requires.0.fit, c.requires.1)

-- what each way out answers
pub returns-then-is_empty : goal.returns-then-is_empty
returns-then-is_empty c = verdict_7 c.args.rows.now c.args.tasks.now (sym c.is_empty.ensures ∙ c.if-is_empty.true)

pub returns-in-Err : goal.returns-in-Err
returns-in-Err c =
    let a = c.args in
    let g = a.rows.now in
    verdict_10 g a.tasks.now (sym c.is_empty.ensures ∙ c.if-is_empty.false) _ (shared_above g _ c.in-Err.ensures)

pub returns-then-over_full : goal.returns-then-over_full
returns-then-over_full c =
    let a = c.args in
    let g = a.rows.now in
    let held = shared_within g c.in-Ok.h c.in-Ok.ensures in
    verdict_11 g a.tasks.now (sym c.is_empty.ensures ∙ c.if-is_empty.false) held.0 (sym c.over_full.ensures ∙ c.if-over_full.true)

pub returns-then-over_full-2 : goal.returns-then-over_full-2
returns-then-over_full-2 c =
    let a = c.args in
    let g = a.rows.now in
    let held = shared_within g c.in-Ok.h c.in-Ok.ensures in
    let dp1 = sym c.over_full.ensures ∙ c.if-over_full.false in
    verdict_12 g a.tasks.now (sym c.is_empty.ensures ∙ c.if-is_empty.false) held.0 dp1 (sym c.over_full-2.ensures ∙ c.if-over_full-2.true)

pub returns-in-Some : goal.returns-in-Some
returns-in-Some c =
    let a = c.args in
    let g = a.rows.now in
    let held = shared_within g c.in-Ok.h c.in-Ok.ensures in
    let dp1 = sym c.over_full.ensures ∙ c.if-over_full.false in
    let dp = sym c.over_full-2.ensures ∙ c.if-over_full-2.false in
    verdict_13 g a.tasks.now (sym c.is_empty.ensures ∙ c.if-is_empty.false) held.0 dp1 dp _ (sym c.in-Some.ensures)

pub returns-in-Some-fp : goal.returns-in-Some-fp
returns-in-Some-fp c =
    let a = c.args in
    let g = a.rows.now in
    let held = shared_within g c.in-Ok.h c.in-Ok.ensures in
    let dp1 = sym c.over_full.ensures ∙ c.if-over_full.false in
    let dp = sym c.over_full-2.ensures ∙ c.if-over_full-2.false in
    verdict_14 g a.tasks.now (sym c.is_empty.ensures ∙ c.if-is_empty.false) held.0 dp1 dp (nothing _ _ c.in_default.not-Some c.first_late-dp2.ensures) _ (sym c.in-Some-fp.ensures)

pub returns : goal.returns
returns c =
    let a = c.args in
    let g = a.rows.now in
    let held = shared_within g c.in-Ok.h c.in-Ok.ensures in
    let dp1 = sym c.over_full.ensures ∙ c.if-over_full.false in
    let dp = sym c.over_full-2.ensures ∙ c.if-over_full-2.false in
    verdict_0 g a.tasks.now (sym c.is_empty.ensures ∙ c.if-is_empty.false) held.0 dp1 dp (nothing _ _ c.in_default.not-Some c.first_late-dp2.ensures)
    (nothing _ _ c.in_default-fp.not-Some c.first_late-fp.ensures)
