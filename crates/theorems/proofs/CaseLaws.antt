-- Every row of the table of cases holds. A row with a verdict is decided by computation, and the decision is proved right once, for all of them.
-- Assumes nothing.
use Prim.Native.Nat.{ℕ, zero, suc}
use mathlib.Core.Path.{◌≡◌, refl, sym, ◌∙◌}
use mathlib.Core.Bool.{Bool, true, false, ◌&&◌}
use mathlib.Core.List.{List, [], ◌∷◌, map}
use native.Mathlib.Omega.{arith}
use lib.Dec.{eqb, ltb}
use lib.ListN.{length, take, drop}
use borrow.Author.Tests.{eqb-true, ltb-true}
use Rattle.table.specs.declared.Board.{Board}
use Rattle.table.specs.declared.Task.{Task}
use Rattle.table.specs.Entries.{built_in, span_of}
use Rattle.table.specs.Refusals.{first_of}
use Rattle.table.specs.Sums.{every}
use Rattle.table.proofs.SumLaws.{both_left, both_right, every_at}
use Rattle.charges.specs.Charges.{counts_of, load_by, charge_of, load_of}
use Rattle.judging.specs.declared.Verdict.{Verdict}
use Rattle.judging.specs.declared.Row.{Row}
use Rattle.judging.specs.Rows.{blank_row, row_at, row_of, rows_of}
use Rattle.judging.specs.Periods.{plus, fractions, above_one, over_full}
use Rattle.judging.specs.Demands.{ceil, demand_dp2, demand_fp}
use Rattle.judging.specs.Verdicts.{first_below, name_of, verdict_of}
use Rattle.judging.proofs.FixedLaws.{
  forced,
  forced_row,
  forced_rows,
  forced_rows_lem,
  gcd_forced,
  lcm_forced,
  shared_forced,
  shared_forced_lem,
  long_from,
  fixed_from,
  fixed_up_to,
  fixed_late,
  fixed_by,
  fixed_by_lem,
}
use Rattle.theorems.specs.Spans.{guards}
use Rattle.theorems.specs.Cases.{Case, judged, shared, played, undone, Judged, Holds, cases, All}
use Rattle.theorems.proofs.PlayedCases.{p10_p12}

-- two lists of numbers are equal
same : List ℕ → List ℕ → Bool
same [] [] = true
same [] (y ∷ ys) = false
same (x ∷ xs) [] = false
same (x ∷ xs) (y ∷ ys) = eqb x y && same xs ys

same_true : (xs ys : List ℕ) → same xs ys ≡ true → xs ≡ ys
unfolding same
same_true [] [] h = refl
same_true [] (y ∷ ys) h = let z : ◌≡◌ {A = ℕ} 0 1 = cc in absurd (omega arith)
same_true (x ∷ xs) [] h = let z : ◌≡◌ {A = ℕ} 0 1 = cc in absurd (omega arith)
same_true (x ∷ xs) (y ∷ ys) h =
    let a : x ≡ y = eqb-true x y (both_left (eqb x y) (same xs ys) h) in
    let b : xs ≡ ys = same_true xs ys (both_right (eqb x y) (same xs ys) h) in
    cc

-- each task has a period
dated : List Row → Bool
dated rows = every (λ r. ltb 0 r.period) rows

-- the verdict, with the times decided in few steps
fixed_verdict : List Task → Board → Verdict
fixed_verdict tasks board = forced_rows (rows_of tasks board) (fixed_by tasks)

fixed_verdict_lem : (tasks : List Task) (board : Board) → dated (rows_of tasks board) ≡ true → fixed_verdict tasks board ≡ verdict_of tasks board
unfolding dated fixed_verdict verdict_of
fixed_verdict_lem tasks board h =
    let rows = rows_of tasks board in
    forced_rows_lem rows (fixed_by tasks)
    ∙ fixed_by_lem tasks rows (λ j k. ltb-true 0 (row_at rows j).period (every_at (λ r. ltb 0 r.period) rows h j k blank_row))

-- a row with a verdict is right
rightly : List Task → Board → List ℕ → ℕ → ℕ → Bool
rightly tasks board charges number task =
    dated (rows_of tasks board)
    && same (map (charge_of tasks board) tasks) charges
    && (eqb (fixed_verdict tasks board).number number && eqb (fixed_verdict tasks board).task task)

right : Case → Bool
right (judged tasks board charges number task) = rightly tasks board charges number task
right (shared tasks board charges number task period) =
    rightly tasks board charges number task && eqb (shared_forced (rows_of tasks board) (length tasks)) period
right (played table steps) = false
right (undone table steps others) = false

rightly_judged : (tasks : List Task) (board : Board) (charges : List ℕ) (number task : ℕ) → rightly tasks board charges number task ≡ true
    → Judged tasks board charges number task
unfolding rightly
rightly_judged tasks board charges number task h =
    let p = dated (rows_of tasks board) in
    let c = same (map (charge_of tasks board) tasks) charges in
    let v = fixed_verdict tasks board in
    let n = eqb v.number number in
    let t = eqb v.task task in
    let pc = both_left (p && c) (n && t) h in
    let nt = both_right (p && c) (n && t) h in
    let number_is : v.number ≡ number = eqb-true v.number number (both_left n t nt) in
    let task-is : v.task ≡ task = eqb-true v.task task (both_right n t nt) in (
      same_true (map (charge_of tasks board) tasks) charges (both_right p c pc),
      sym (fixed_verdict_lem tasks board (both_left p c pc)) ∙ (λ i. record { number = number_is i; task = task-is i }),
    )

right_holds : (c : Case) → right c ≡ true → Holds c
unfolding right
right_holds (judged tasks board charges number task) h = rightly_judged tasks board charges number task h
right_holds (shared tasks board charges number task period) h =
    let j = rightly tasks board charges number task in
    let c = rows_of tasks board in
    let s = eqb (shared_forced c (length tasks)) period in (
      rightly_judged tasks board charges number task (both_left j s h),
      sym (shared_forced_lem c (length tasks)) ∙ eqb-true (shared_forced c (length tasks)) period (both_right j s h),
    )
right_holds (played table steps) h = let z : ◌≡◌ {A = ℕ} 0 1 = cc in absurd (omega arith)
right_holds (undone table steps others) h = let z : ◌≡◌ {A = ℕ} 0 1 = cc in absurd (omega arith)

all_right : (l : List Case) → every right l ≡ true → All l
all_right [] h = tt
all_right (c ∷ rest) h = (right_holds c (both_left (right c) (every right rest) h), all_right rest (both_right (right c) (every right rest) h))

-- the first rows, and the rest
all_parts : (n : ℕ) (l : List Case) → All (take n l) → All (drop n l) → All l
all_parts zero l a b = b
all_parts (suc n) [] a b = tt
all_parts (suc n) (c ∷ rest) a b = (a.0, all_parts n rest a.1 b)

judged_rows : (every right (take 8 cases) ≡ true) × (every right guards ≡ true)
unfolding cases guards right rightly same dated fixed_verdict forced forced_row forced_rows gcd_forced lcm_forced shared_forced long_from fixed_from fixed_up_to fixed_late fixed_by counts_of load_by charge_of load_of plus fractions above_one over_full ceil demand_dp2 demand_fp first_below row_of rows_of name_of built_in span_of first_of
judged_rows = (refl, refl)

p1_p9 : All (take 8 cases)
p1_p9 = all_right (take 8 cases) judged_rows.0

-- the pulse guard
pub guard_rows : All guards
guard_rows = all_right guards judged_rows.1

-- P1 to P12
pub cases_hold : All cases
cases_hold = all_parts 8 cases p1_p9 p10_p12
