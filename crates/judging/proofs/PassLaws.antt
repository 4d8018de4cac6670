-- The verdict of a well-formed table is 0 exactly if all five tests pass.
-- Assumes nothing.
use Prim.Native.Nat.{ℕ, suc, ◌≤◌, ◌<◌}
use mathlib.Core.Path.{◌≡◌, refl, sym, ap}
use mathlib.Core.Logic.{◌↔◌}
use mathlib.Core.Bool.{Bool, true, false, not, ◌&&◌}
use mathlib.Core.List.{List}
use native.Mathlib.Nat.{le_trans, pos_of_ne-zero}
use native.Mathlib.Omega.{arith}
use lib.Dec.{eqb}
use lib.ListN.{length}
use borrow.Author.Tests.{ltb-false, le-ltb, eqb-true, eq-eqb, ne_eqb, eqb-false}
use Rattle.table.specs.declared.Board.{Board}
use Rattle.table.specs.declared.Task.{Task}
use Rattle.table.specs.declared.Sem.{Sem}
use Rattle.table.specs.WellFormed.{WellFormed}
use Rattle.table.proofs.RefusalLaws.{first_of_zero}
use Rattle.judging.specs.declared.Row.{Row}
use Rattle.judging.specs.declared.Verdict.{Verdict}
use Rattle.judging.specs.Rows.{row_at, rows_of}
use Rattle.judging.specs.Periods.{shared_period, too_long, above_one, over_full}
use Rattle.judging.specs.Demands.{decided, time_dp2, time_fp}
use Rattle.judging.specs.Ranges.{InRange}
use Rattle.judging.specs.Verdicts.{
  first_below,
  first_long,
  late,
  first_late,
  number_of,
  verdict_by,
  verdict_of,
}
use Rattle.judging.specs.Passes.{AllFive, Passes}
use Rattle.judging.proofs.PeriodLaws.{shared_least}
use Rattle.judging.proofs.FirstLaws.{first_none, none_first, found_none}
use Rattle.judging.proofs.DemandLaws.{decided_yes, yes_decided}
use Rattle.judging.proofs.RowLaws.{rows_length, rows_range}
use Rattle.judging.proofs.VerdictLaws.{shared_common, verdict, verdict_0}
use Rattle.std.specs.Prelude.{None, is_some}

-- a late task, and one that is not
gate_open : (a b : Bool) → (a && not b) ≡ false → a ≡ true → b ≡ true
gate_open true true h e = refl
gate_open true false h e = let z : ◌≡◌ {A = ℕ} 0 1 = cc in absurd (omega arith)
gate_open false b h e = let z : ◌≡◌ {A = ℕ} 0 1 = cc in absurd (omega arith)

gate_shut : (a b : Bool) → (a ≡ true → b ≡ true) → (a && not b) ≡ false
gate_shut true b h = rw (h refl)
gate_shut false b h = refl

module _ (c : List Row) (r : InRange c) where
  positive : (j : ℕ) → j < length c → 0 < (row_at c j).period
  positive j h = omega (arith, (r.each j h).period_least)

  -- no task of a queue is late exactly if each has a time
  none_late : {P : ℕ → Type 0} (queue : ℕ) (d : (i : ℕ) → Dec (P i))
      → is_some (first_below (length c) (λ i. eqb (row_at c i).queue queue && not (decided (d i)))) ≡ false
      → (i : ℕ) → i < length c → (row_at c i).queue ≡ queue → P i
  none_late queue d e i h q =
      yes_decided (d i)
      (gate_open (eqb (row_at c i).queue queue) (decided (d i))
      (first_none (λ i. eqb (row_at c i).queue queue && not (decided (d i))) (length c) (found_none _ e) i h)
      (eq-eqb (row_at c i).queue queue q))

  late_none : {P : ℕ → Type 0} (queue : ℕ) (d : (i : ℕ) → Dec (P i)) → ((i : ℕ) → i < length c → (row_at c i).queue ≡ queue → P i)
      → first_below (length c) (λ i. eqb (row_at c i).queue queue && not (decided (d i))) ≡ None
  late_none queue d h =
      none_first (λ i. eqb (row_at c i).queue queue && not (decided (d i))) (length c)
      (λ i l.
      gate_shut (eqb (row_at c i).queue queue) (decided (d i)) (λ q. decided_yes (d i) (h i l (eqb-true (row_at c i).queue queue q))))

  -- a table whose number is 0 passes
  passes : number_of c ≡ 0 → (1 ≤ length c) × AllFive c
  unfolding number_of over_full above_one first_late late
  passes e =
      let p7 = first_of_zero 7 (eqb (length c) 0) _ (eqb-false 7 0 refl) e in
      let p10 = first_of_zero 10 (is_some (first_long c)) _ (eqb-false 10 0 refl) p7.1 in
      let p11 = first_of_zero 11 (over_full c 1) _ (eqb-false 11 0 refl) p10.1 in
      let p12 = first_of_zero 12 (over_full c 2) _ (eqb-false 12 0 refl) p11.1 in
      let p13 = first_of_zero 13 (is_some (first_late 2 c)) _ (eqb-false 13 0 refl) p12.1 in
      let p14 = first_of_zero 14 (is_some (first_late 3 c)) _ (eqb-false 14 0 refl) p13.1 in
      let long = found_none (first_long c) p10.0 in (
        pos_of_ne-zero (eqb-false (length c) 0 p7.0),
        record {
          shared = (
            shared_period c (length c),
            shared_least c (length c) positive,
            (shared_common c 2 (omega arith) r long).most,
          );
          dp1 = ltb-false _ _ p11.0;
          dp = ltb-false _ _ p12.0;
          times_dp2 = none_late 2 (time_dp2 c) p13.0;
          times_fp = none_late 3 (time_fp c) p14.0;
        },
      )

  -- a table that passes is given 0
  passed : (tasks : List Task) → 1 ≤ length c → AllFive c → verdict 0 0 ≡ verdict_by tasks c
  unfolding over_full above_one first_long too_long first_late late
  passed tasks some f =
      let h = f.shared.0 in
      let s = f.shared.1 in
      verdict_0 c tasks (ne_eqb (length c) 0 (λ z. omega arith))
      (none_first (too_long c) (length c)
      (λ i l.
      le-ltb 1000000000000 (shared_period c (suc i))
      (le_trans
      ((shared_least c (suc i) (λ j k. positive j (omega arith))).least h s.positive (λ j k q. s.common j (omega arith) q))
      f.shared.2)))
      (le-ltb _ _ f.dp1)
      (le-ltb _ _ f.dp)
      (late_none 2 (time_dp2 c) f.times_dp2)
      (late_none 3 (time_fp c) f.times_fp)

-- demand 2: the verdict of a table that may be loaded is 0 exactly if all five tests pass
pub passes_exactly : (tasks : List Task) (sems : List Sem) (board : Board) (present : Bool) → WellFormed tasks sems board present
    → ((verdict_of tasks board).number ≡ 0) ↔ Passes tasks board
unfolding verdict_of verdict_by
passes_exactly tasks sems board present wf =
    let c = rows_of tasks board in
    let r = rows_range tasks board sems present wf.tasks_fit (λ k. wf) in (
      λ e. (passes c r e).1,
      λ f. ap (λ (v : Verdict). v.number) (sym (passed c r tasks (omega (arith, wf.some, rows_length tasks board)) f)),
    )
