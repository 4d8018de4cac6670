-- The laws of the exact sums: times a common multiple of the periods, a sum of fractions is a sum of whole numbers.
-- Assumes nothing.
use Prim.Native.Nat.{ℕ, zero, suc, ◌+◌, ◌*◌, ◌-◌, ◌/◌, ◌∣◌, ◌≤◌, ◌<◌}
use mathlib.Core.Path.{◌≡◌, refl, ap, subst, ◌∙◌}
use mathlib.Core.Bool.{Bool, true, false, cond}
use mathlib.Core.List.{List}
use native.Mathlib.Nat.{
  mul-div_cancel',
  mul-pos,
  mul-lt-mul_of_pos_left,
  mul-le-mul_left,
  le_of_mul-le-mul_right,
  lt_of_mul-lt-mul_right,
  sub-add_cancel,
  div-lt_iff_lt-mul,
}
use native.Mathlib.Numerals.{add-one}
use native.Mathlib.Omega.{arith}
use lib.Dec.{leb, ltb}
use lib.ListN.{length}
use borrow.Author.Tests.{leb-true, ltb-true, ltb-false, lt-ltb, le-ltb, le-leb, lt-leb}
use Rattle.judging.specs.declared.Row.{Row}
use Rattle.judging.specs.Rows.{row_at}
use Rattle.judging.specs.Periods.{plus, fractions, above_one, over_full}

-- no denominator is 0
den_step : (t : Bool) (f : ℕ × ℕ) (c d : ℕ) → 0 < d → 0 < f.1 → 0 < (cond t (plus f (c, d)) f).1
unfolding plus
den_step true f c d h k = mul-pos k h
den_step false f c d h k = k

-- one fraction more
scaled_step : (h : ℕ) (t : Bool) (f : ℕ × ℕ) (c d s : ℕ) → (t ≡ true → d ∣ h) → f.0 * h ≡ f.1 * s
    → (cond t (plus f (c, d)) f).0 * h ≡ (cond t (plus f (c, d)) f).1 * (s + cond t (c * (h / d)) 0)
unfolding plus
scaled_step h true f c d s div k =
    let m : d * (h / d) ≡ h = mul-div_cancel' d (div refl) in
    omega (arith, ap (λ (z : ℕ). d * z) k, ap (λ (z : ℕ). f.1 * c * z) m)
scaled_step h false f c d s div k = omega (arith, k)

above_scaled : (h : ℕ) (f : ℕ × ℕ) (s : ℕ) → 0 < h → 0 < f.1 → f.0 * h ≡ f.1 * s → above_one f ≡ ltb h s
unfolding above_one
above_scaled h f s hp fp e = go (ltb h s) refl
  where
    go : (t : Bool) → ltb h s ≡ t → ltb f.1 f.0 ≡ t
    go true k =
        let a : f.1 * h < f.1 * s = mul-lt-mul_of_pos_left (ltb-true h s k) fp in
        lt-ltb f.1 f.0 (lt_of_mul-lt-mul_right h (omega (arith, e)))
    go false k =
        let a : f.1 * s ≤ f.1 * h = mul-le-mul_left f.1 (ltb-false h s k) in
        le-ltb f.1 f.0 (le_of_mul-le-mul_right (omega (arith, e)) hp)

module _ (c : List Row) (last h : ℕ) where
  -- the sum over the first tasks, times the common multiple h
  unfoldable pub scaled : ℕ → ℕ
  scaled zero = 0
  scaled (suc i) = scaled i + cond (leb (row_at c i).queue last) ((row_at c i).load * (h / (row_at c i).period)) 0

  pub scaled_start : 0 ≡ scaled 0
  unfolding scaled
  scaled_start = refl

  scaled_more : (i : ℕ) → scaled (i + 1) ≡ scaled i + cond (leb (row_at c i).queue last) ((row_at c i).load * (h / (row_at c i).period)) 0
  unfolding scaled
  scaled_more i = ap scaled (add-one i)

  -- a task of those queues more, and a task more of another
  pub scaled_in : (i : ℕ) → (row_at c i).queue ≤ last → scaled (i + 1) ≡ scaled i + (row_at c i).load * (h / (row_at c i).period)
  scaled_in i q = scaled_more i ∙ rw (le-leb (row_at c i).queue last q)

  pub scaled_out : (i : ℕ) → last < (row_at c i).queue → scaled (i + 1) ≡ scaled i
  scaled_out i q = scaled_more i ∙ rw (lt-leb (row_at c i).queue last q) (omega arith)

  scaled_far : (i k : ℕ) → scaled i ≤ scaled (k + i)
  unfolding scaled
  scaled_far i zero = omega (arith, ap scaled (native.Mathlib.Nat.zero-add i))
  scaled_far i (suc k) =
      let a : scaled i ≤ scaled (k + i) = scaled_far i k in
      let e : scaled (suc k + i) ≡ scaled (suc (k + i)) = ap scaled (native.Mathlib.Nat.suc-add k i) in
      omega arith

  pub scaled_mono : (i n : ℕ) → i ≤ n → scaled i ≤ scaled n
  scaled_mono i n l = subst (λ (m : ℕ). scaled i ≤ scaled m) (sub-add_cancel l) (scaled_far i (n - i))

  den_pos : (i : ℕ) → ((j : ℕ) → j < i → 0 < (row_at c j).period) → 0 < (fractions c last i).1
  unfolding fractions
  den_pos zero pos = omega arith
  den_pos (suc i) pos =
      den_step (leb (row_at c i).queue last) (fractions c last i) (row_at c i).load (row_at c i).period (pos i (omega arith))
      (den_pos i (λ j l. pos j (omega arith)))

  -- numerator times h is denominator times the scaled sum
  scaled_is : (i : ℕ) → ((j : ℕ) → j < i → (row_at c j).queue ≤ last → (row_at c j).period ∣ h)
      → (fractions c last i).0 * h ≡ (fractions c last i).1 * scaled i
  unfolding fractions scaled
  scaled_is zero div = omega arith
  scaled_is (suc i) div =
      scaled_step h (leb (row_at c i).queue last) (fractions c last i) (row_at c i).load (row_at c i).period (scaled i)
      (λ e. div i (omega arith) (leb-true (row_at c i).queue last e))
      (scaled_is i (λ j l q. div j (omega arith) q))

  -- the sum is above 1 exactly if the scaled sum is above h
  pub over_full_lem : 0 < h → ((j : ℕ) → j < length c → 0 < (row_at c j).period) → ((j : ℕ) → j < length c → (row_at c j).queue ≤ last → (row_at c j).period ∣ h)
      → over_full c last ≡ ltb h (scaled (length c))
  unfolding over_full
  over_full_lem hp pos div =
      above_scaled h (fractions c last (length c)) (scaled (length c)) hp (den_pos (length c) pos)
      (scaled_is (length c) div)
