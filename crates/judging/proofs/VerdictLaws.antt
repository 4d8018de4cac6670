-- The laws of the verdict: what each way out of judging answers, where it may point, and that answers told alike are one.
-- Assumes nothing.
use Prim.Native.Nat.{ℕ, zero, suc, ◌≤◌, ◌<◌}
use mathlib.Core.Path.{◌≡◌, refl, sym, ap, ◌∙◌}
use mathlib.Core.Bool.{true, false, cond}
use mathlib.Core.List.{List}
use native.Mathlib.Omega.{arith}
use lib.Dec.{eqb}
use lib.ListN.{length, get_or}
use borrow.Author.Tests.{ltb-false}
use Rattle.std.specs.Prelude.{Option, Some, None, Result, Ok, Err, ⊤}
use Rattle.table.specs.declared.Task.{Task}
use Rattle.table.specs.Entries.{blank_task}
use Rattle.table.specs.Refusals.{first_of}
use Rattle.judging.specs.declared.Row.{Row}
use Rattle.judging.specs.declared.Unfit.{Unfit}
use Rattle.judging.specs.declared.Unfit.TheVariants.{NoTask, SharedPeriod, Dp1OverFull, DpOverFull, Dp2NoTime, FpNoTime}
use Rattle.judging.specs.declared.Verdict.{Verdict}
use Rattle.judging.specs.Periods.{shared_period, too_long, over_full}
use Rattle.judging.specs.Ranges.{InRange, Common}
use Rattle.judging.specs.Verdicts.{
  first_long,
  shared_by,
  shared_of,
  late,
  first_late,
  number_of,
  place_of,
  name_of,
  verdict_by,
  told,
}
use Rattle.judging.proofs.FirstLaws.{first_none, first_found}
use Rattle.judging.proofs.PeriodLaws.{shared_least}

abbrev pub verdict : ℕ → ℕ → Verdict
verdict number task = record { number = number; task = task }

module _ (c : List Row) where
  -- the two cases of the answer about the shared period
  pub shared_above : (i : ℕ) → Err i ≡ shared_of c → first_long c ≡ Some i
  unfolding shared_of shared_by
  shared_above i h = go (first_long c) h
    where
      go : (f : Option ℕ) → Err i ≡ shared_by f (shared_period c (length c)) → f ≡ Some i
      go (Some j) k = cc
      go None k = let z : ◌≡◌ {A = ℕ} 0 1 = cc in absurd (omega arith)

  pub shared_within : (h : ℕ) → Ok h ≡ shared_of c → (first_long c ≡ None) × (h ≡ shared_period c (length c))
  unfolding shared_of shared_by
  shared_within h e = go (first_long c) e
    where
      go : (f : Option ℕ) → Ok h ≡ shared_by f (shared_period c (length c)) → (f ≡ None) × (h ≡ shared_period c (length c))
      go (Some j) k = let z : ◌≡◌ {A = ℕ} 0 1 = cc in absurd (omega arith)
      go None k = (refl, cc)

  -- a shared period that is not above 10^12 at any task is not
  shared_most : (n : ℕ) → ((i : ℕ) → i < n → too_long c i ≡ false) → shared_period c n ≤ 1000000000000
  unfolding too_long shared_period
  shared_most zero h = omega arith
  shared_most (suc n) h = ltb-false 1000000000000 (shared_period c (suc n)) (h n (omega arith))

  pub shared_common : (last : ℕ) → last ≤ 2 → InRange c → first_long c ≡ None
      → Common c last (shared_period c (length c))
  unfolding first_long
  shared_common last l r e =
      let s = shared_least c (length c) (λ j h. omega (arith, (r.each j h).period_least)) in
      record {
        positive = s.positive;
        most = shared_most (length c) (first_none (too_long c) (length c) e);
        multiple = λ j h q. s.common j h (omega arith);
      }

  -- what each way out answers: each module has one test passed more
  module _ (tasks : List Task) where
    pub verdict_7 : eqb (length c) 0 ≡ true → verdict 7 0 ≡ verdict_by tasks c
    unfolding verdict_by number_of place_of first_of name_of
    verdict_7 h = rw h

    module _ (p7 : eqb (length c) 0 ≡ false) where
      pub verdict_10 : (i : ℕ) → first_long c ≡ Some i → verdict 10 (get_or tasks i blank_task).number ≡ verdict_by tasks c
      unfolding verdict_by number_of place_of first_of name_of
      verdict_10 i h = rw (p7, h)

      module _ (p10 : first_long c ≡ None) where
        pub verdict_11 : over_full c 1 ≡ true → verdict 11 0 ≡ verdict_by tasks c
        unfolding verdict_by number_of place_of first_of name_of
        verdict_11 h = rw (p7, p10, h)

        module _ (p11 : over_full c 1 ≡ false) where
          pub verdict_12 : over_full c 2 ≡ true → verdict 12 0 ≡ verdict_by tasks c
          unfolding verdict_by number_of place_of first_of name_of
          verdict_12 h = rw (p7, p10, p11, h)

          module _ (p12 : over_full c 2 ≡ false) where
            pub verdict_13 : (i : ℕ) → first_late 2 c ≡ Some i → verdict 13 (get_or tasks i blank_task).number ≡ verdict_by tasks c
            unfolding verdict_by number_of place_of first_of name_of
            verdict_13 i h = rw (p7, p10, p11, p12, h)

            module _ (p13 : first_late 2 c ≡ None) where
              pub verdict_14 : (i : ℕ) → first_late 3 c ≡ Some i → verdict 14 (get_or tasks i blank_task).number ≡ verdict_by tasks c
              unfolding verdict_by number_of place_of first_of name_of
              verdict_14 i h = rw (p7, p10, p11, p12, p13, h)

              pub verdict_0 : first_late 3 c ≡ None → verdict 0 0 ≡ verdict_by tasks c
              unfolding verdict_by number_of place_of first_of name_of
              verdict_0 h = rw (p7, p10, p11, p12, p13, h)

  -- the place that is named is that of a task
  pub long_below : (i : ℕ) → first_long c ≡ Some i → i < length c
  unfolding first_long
  long_below i e = (first_found (too_long c) (length c) i e).0

  pub late_below : (queue i : ℕ) → first_late queue c ≡ Some i → i < length c
  unfolding first_late
  late_below queue i e = (first_found (late queue c) (length c) i e).0

-- two answers that are told alike are one
answer_of : Verdict → Result ⊤ Unfit
answer_of v =
    cond (eqb v.number 7) (Err NoTask) (cond (eqb v.number 10) (Err (SharedPeriod v.task)) (cond (eqb v.number 11) (Err Dp1OverFull) (cond (eqb v.number 12) (Err DpOverFull) (cond (eqb v.number 13) (Err (Dp2NoTime v.task)) (cond (eqb v.number 14) (Err (FpNoTime v.task)) (Ok tt))))))

answer_back : (a : Result ⊤ Unfit) → answer_of (told a) ≡ a
unfolding answer_of
answer_back (Ok x) = refl
answer_back (Err NoTask) = refl
answer_back (Err (SharedPeriod task)) = refl
answer_back (Err Dp1OverFull) = refl
answer_back (Err DpOverFull) = refl
answer_back (Err (Dp2NoTime task)) = refl
answer_back (Err (FpNoTime task)) = refl

pub told_apart : (a b : Result ⊤ Unfit) → told a ≡ told b → a ≡ b
told_apart a b e = sym (answer_back a) ∙ ap answer_of e ∙ answer_back b
