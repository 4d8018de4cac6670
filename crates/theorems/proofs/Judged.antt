-- Demand 1, "exactly when", for judging: the number is that of the first of 01's tests that fails, and the task that is named is the first at which it does.
-- Assumes nothing.
use Rattle.std.specs.Prelude.{Option, Some, None, is_some}
use Prim.Native.Nat.{ℕ, suc, ◌<◌}
use mathlib.Core.Path.{◌≡◌, refl, sym, ap, ◌∙◌}
use mathlib.Core.Logic.{◌↔◌, ◌≢◌}
use mathlib.Core.Bool.{Bool, true, false, not, ◌&&◌, ◌||◌}
use mathlib.Core.List.{List}
use native.Mathlib.Omega.{arith}
use lib.Dec.{eqb}
use lib.ListN.{length}
use borrow.Author.Tests.{eqb-true, eqb-false, eq-eqb, ne_eqb, ltb-true, lt-ltb}
use Rattle.table.specs.declared.Board.{Board}
use Rattle.table.specs.declared.Task.{Task}
use Rattle.table.proofs.SumLaws.{both, both_left, both_right}
use Rattle.judging.specs.declared.Row.{Row}
use Rattle.judging.specs.Rows.{row_at, rows_of}
use Rattle.judging.specs.Periods.{shared_period, too_long, fractions, above_one, over_full}
use Rattle.judging.specs.Demands.{time_dp2, time_fp, decided}
use Rattle.judging.specs.Verdicts.{
  first_below,
  first_long,
  late,
  first_late,
  number_of,
  place_of,
  name_of,
  verdict_by,
  verdict_of,
}
use Rattle.judging.proofs.RowLaws.{rows_length}
use Rattle.judging.proofs.FirstLaws as First
use Rattle.theorems.specs.Demands.{JudgeWhen, JudgeNames}
use Rattle.theorems.specs.When.{FirstThat}
use Rattle.theorems.specs.Verdicts.{Long, Over, LateDp2, LateFp, row_conditions, NamesFirst}
use Rattle.theorems.proofs.FirstLaws.{nothing_more, test_says, first_that, picked}

-- something is found exactly if the test holds somewhere
found_says : (n : ℕ) (test : ℕ → Bool) → (is_some (first_below n test) ≡ true) ↔ ((i : ℕ) × (i < n) × (test i ≡ true))
found_says n test = go (first_below n test) refl
  where
    go : (f : Option ℕ) → first_below n test ≡ f → (is_some (first_below n test) ≡ true) ↔ ((i : ℕ) × (i < n) × (test i ≡ true))
    go (Some i) e = (λ h. let r = First.first_found test n i e in (i, r.0, r.1), λ w. ap (is_some {T = ℕ}) e)
    go None e = (
      λ h. let z : ◌≡◌ {A = ℕ} 0 1 = let f : is_some {T = ℕ} None ≡ true = sym (ap (is_some {T = ℕ}) e) ∙ h in cc in absurd (omega arith),
      λ w. let none = First.first_none test n e w.0 w.1 in let yes = w.2 in let z : ◌≡◌ {A = ℕ} 0 1 = cc in absurd (omega arith),
    )

-- the same with the test in words
found_is : (n : ℕ) (test : ℕ → Bool) (P : ℕ → Type 0) → ((i : ℕ) → (test i ≡ true) ↔ P i) → (is_some (first_below n test) ≡ true) ↔ ((i : ℕ) × (i < n) × P i)
found_is n test P says =
    let f = found_says n test in
    (λ h. let w = f.0 h in (w.0, w.1, (says w.0).0 w.2), λ w. f.1 (w.0, w.1, (says w.0).1 w.2))

-- no time: not decided, and not so
no_time : {P : Type 0} (d : Dec P) → (not (decided d) ≡ true) ↔ (P → ⊥)
unfolding decided
no_time (yes p) = (λ h. let z : ◌≡◌ {A = ℕ} 0 1 = cc in absurd (omega arith), λ n. absurd (n p))
no_time (no n) = (λ h. n, λ m. refl)

late_says : {P : Type 0} (queue k : ℕ) (d : Dec P) → ((eqb queue k && not (decided d)) ≡ true) ↔ ((queue ≡ k) × (P → ⊥))
late_says queue k d = (
  λ h. (eqb-true queue k (both_left (eqb queue k) (not (decided d)) h), (no_time d).0 (both_right (eqb queue k) (not (decided d)) h)),
  λ w. both (eqb queue k) (not (decided d)) (eq-eqb queue k w.0) ((no_time d).1 w.1),
)

module _ (c : List Row) where
  full_says : (last : ℕ) → (over_full c last ≡ true) ↔ Over c last
  unfolding over_full above_one
  full_says last = let f = fractions c last (length c) in (ltb-true f.1 f.0, lt-ltb f.1 f.0)

  -- each test of a task in words
  long_says : (i : ℕ) → (too_long c i ≡ true) ↔ Long c i
  unfolding too_long
  long_says i = (ltb-true 1000000000000 (shared_period c (suc i)), lt-ltb 1000000000000 (shared_period c (suc i)))

  dp2_says : (i : ℕ) → (late 2 c i ≡ true) ↔ LateDp2 c i
  unfolding late
  dp2_says i = late_says (row_at c i).queue 2 (time_dp2 c i)

  fp_says : (i : ℕ) → (late 3 c i ≡ true) ↔ LateFp c i
  unfolding late
  fp_says i = late_says (row_at c i).queue 3 (time_fp c i)

  number_when : (k : ℕ) → (number_of c ≡ k) ↔ FirstThat (row_conditions c) k
  unfolding number_of first_long first_late
  number_when k =
      let n = length c in
      first_that
      (test_says (eqb-true n 0, eq-eqb n 0)
      (λ p7. test_says (found_is n (too_long c) (Long c) long_says)
      (λ p10. test_says (full_says 1)
      (λ p11. test_says (full_says 2)
      (λ p12. test_says (found_is n (late 2 c) (LateDp2 c) dp2_says)
      (λ p13. test_says (found_is n (late 3 c) (LateFp c) fp_says) (λ p14. nothing_more))))))) k

pub judge_when : JudgeWhen
unfolding verdict_of verdict_by
judge_when tasks board k = number_when (rows_of tasks board) k

module _ (tasks : List Task) (board : Board) where
  abbrev c : List Row
  c = rows_of tasks board

  -- a number whose test looks for a task names the first at which that test holds
  names : (number : ℕ) (test : ℕ → Bool) (P : ℕ → Type 0) → ((i : ℕ) → (test i ≡ true) ↔ P i)
      → place_of c number ≡ first_below (length c) test → is_some (first_below (length c) test) ≡ true
      → number_of c ≡ number → NamesFirst tasks P (verdict_of tasks board).task
  unfolding verdict_of verdict_by name_of
  names number test P says place some e = go (first_below (length c) test) refl some
    where
      go : (f : Option ℕ) → first_below (length c) test ≡ f → is_some f ≡ true → NamesFirst tasks P (name_of tasks (place_of c (number_of c)))
      go (Some i) k h =
          let r = First.first_found test (length c) i k in
          record {
            position = i;
            inside = omega (arith, r.0, rows_length tasks board);
            arises = (says i).0 r.1;
            none_before = λ j l p. let yes = (says j).1 p in let none = r.2 j l in let z : ◌≡◌ {A = ℕ} 0 1 = cc in omega arith;
            named = ap (λ (n : ℕ). name_of tasks (place_of c n)) e ∙ ap (name_of tasks) (place ∙ k);
          }
      go None k h = let z : ◌≡◌ {A = ℕ} 0 1 = cc in absurd (omega arith)

  -- and any other number names none
  names_none : number_of c ≢ 10 → number_of c ≢ 13 → number_of c ≢ 14 → (verdict_of tasks board).task ≡ 0
  unfolding verdict_of verdict_by place_of name_of
  names_none a b d = rw (ne_eqb (number_of c) 10 a, ne_eqb (number_of c) 13 b, ne_eqb (number_of c) 14 d)

-- the one test with its number holds
alone : (b : Bool) → (b || false) ≡ true → b ≡ true
alone true h = refl
alone false h = h

pub judge_names : JudgeNames
unfolding verdict_of verdict_by number_of place_of first_long first_late
judge_names tasks board =
    let c = rows_of tasks board in (
      λ e. names tasks board 10 (too_long c) (Long c) (long_says c) refl (alone _ (picked 10 _ e (eqb-false 10 0 refl))) e,
      λ e. names tasks board 13 (late 2 c) (LateDp2 c) (dp2_says c) refl (alone _ (picked 13 _ e (eqb-false 13 0 refl))) e,
      λ e. names tasks board 14 (late 3 c) (LateFp c) (fp_says c) refl (alone _ (picked 14 _ e (eqb-false 14 0 refl))) e,
      names_none tasks board,
    )
