-- The laws of the shared period: Euclid's steps give the greatest common divisor, and the running number is the least positive common multiple.
-- Assumes nothing.
use Prim.Native.Nat.{ℕ, zero, suc, ◌+◌, ◌*◌, ◌/◌, ◌%◌, ◌∣◌, ◌≤◌, ◌<◌}
use mathlib.Core.Path.{◌≡◌, refl, sym, ap, subst, ◌∙◌}
use mathlib.Core.Logic.{◌⊎◌, inl, inr}
use mathlib.Core.Bool.{Bool, true, false, cond}
use mathlib.Core.List.{List}
use native.Mathlib.Nat.{
  mod-lt,
  mul_comm,
  div-add-mod,
  not-suc-le-zero,
  le_of_suc-le-suc,
  eq-or-lt_of_le,
  le_of_dvd,
  dvd_refl,
  dvd-zero,
  dvd-mul_right,
  dvd-mul_right_of_dvd,
  dvd_trans,
  dvd-add_iff_right,
  dvd-mod_iff,
  mul-div_cancel',
  mul-dvd-mul_left,
  mul-dvd-mul_right,
  dvd_of_mul-dvd-mul_left,
  pos_of_dvd_of_pos,
  mul-pos,
  pos_of_ne-zero,
  div-lt_iff_lt-mul,
  le-div_iff_mul-le,
}
use native.Mathlib.Numerals.{add-one}
use native.Mathlib.Omega.{arith}
use lib.Dec.{eqb, leb, ltb}
use borrow.Author.Tests.{eqb-true, eqb-false, leb-true, leb-false, le-leb, lt-leb, lt-ltb, le-ltb, ne_eqb}
use Rattle.judging.specs.declared.Row.{Row}
use Rattle.judging.specs.Rows.{row_at}
use Rattle.judging.specs.Periods.{gcd_in, gcd_of, lcm_of, shared_period, IsSharedPeriod, too_long}

-- more steps than are needed change nothing
same_steps : (f g a b : ℕ) → b < f → b < g → gcd_in f a b ≡ gcd_in g a b
unfolding gcd_in
same_steps zero g a b hf hg = absurd (not-suc-le-zero hf)
same_steps (suc f) zero a b hf hg = absurd (not-suc-le-zero hg)
same_steps (suc f) (suc g) a b hf hg = go (eqb b 0) refl (same_steps f g b (a % b))
  where
    go : (t : Bool) → eqb b 0 ≡ t → (a % b < f → a % b < g → gcd_in f b (a % b) ≡ gcd_in g b (a % b))
        → cond t a (gcd_in f b (a % b)) ≡ cond t a (gcd_in g b (a % b))
    go true e rest = refl
    go false e rest =
        let p : 0 < b = pos_of_ne-zero (eqb-false b 0 e) in
        let m : a % b < b = mod-lt a p in
        rest (omega arith) (omega arith)

pub gcd_end : (a : ℕ) → gcd_of a 0 ≡ a
unfolding gcd_of gcd_in
gcd_end a = refl

pub gcd_step : (a b : ℕ) → 0 < b → gcd_of a b ≡ gcd_of b (a % b)
unfolding gcd_of gcd_in
gcd_step a b h =
    let ne : b ≡ 0 → ⊥ = λ e. omega arith in
    rw (ne_eqb b 0 ne) (same_steps b (suc (a % b)) b (a % b) (mod-lt a h) (omega arith))

-- a common divisor that every scaled common divisor divides
record Gcd (a b g : ℕ) : Type 0 where
  left : g ∣ a
  right : g ∣ b
  scaled : (c k : ℕ) → c ∣ a * k → c ∣ b * k → c ∣ g * k

gcd_in_is : (f a b : ℕ) → b < f → Gcd a b (gcd_in f a b)
unfolding gcd_in
gcd_in_is zero a b h = absurd (not-suc-le-zero h)
gcd_in_is (suc f) a b h = go (eqb b 0) refl (gcd_in_is f b (a % b))
  where
    go : (t : Bool) → eqb b 0 ≡ t → (a % b < f → Gcd b (a % b) (gcd_in f b (a % b))) → Gcd a b (cond t a (gcd_in f b (a % b)))
    go true e rest =
        record { left = dvd_refl a; right = subst (λ (x : ℕ). a ∣ x) (sym (eqb-true b 0 e)) (dvd-zero a); scaled = λ c k l r. l }
    go false e rest =
        let p : 0 < b = pos_of_ne-zero (eqb-false b 0 e) in
        let m : a % b < b = mod-lt a p in
        let g = rest (omega arith) in
        record {
          left = (dvd-mod_iff (gcd_in f b (a % b)) g.left).0 g.right;
          right = g.left;
          scaled =
              λ c k l r.
              let e2 : a * k ≡ b * k * (a / b) + (a % b) * k = omega (arith, ap (λ (x : ℕ). x * k) (div-add-mod a b)) in
              g.scaled c k r
              ((dvd-add_iff_right c (dvd-mul_right_of_dvd c r (a / b))).1 (subst (λ (x : ℕ). c ∣ x) e2 l));
        }

gcd_is : (a b : ℕ) → Gcd a b (gcd_of a b)
unfolding gcd_of
gcd_is a b = gcd_in_is (suc b) a b (omega arith)

module _ (a b : ℕ) (ha : 0 < a) (hb : 0 < b) where
  -- the greatest common divisor divides
  pub gcd_right : gcd_of a b * (b / gcd_of a b) ≡ b
  gcd_right = mul-div_cancel' (gcd_of a b) (gcd_is a b).right

  gcd_left : gcd_of a b * (a / gcd_of a b) ≡ a
  gcd_left = mul-div_cancel' (gcd_of a b) (gcd_is a b).left

  pub gcd_pos : 0 < gcd_of a b
  gcd_pos = pos_of_dvd_of_pos (gcd_is a b).left ha

  pub gcd_part_pos : 0 < b / gcd_of a b
  gcd_part_pos =
      pos_of_ne-zero (λ (e : b / gcd_of a b ≡ 0). omega (arith, gcd_right, ap (λ (x : ℕ). gcd_of a b * x) e))

  -- the least common multiple: positive, a multiple of both, and a divisor of every such
  pub lcm_pos : 0 < lcm_of a b
  unfolding lcm_of
  lcm_pos = mul-pos ha gcd_part_pos

  pub lcm_left : a ∣ lcm_of a b
  unfolding lcm_of
  lcm_left = dvd-mul_right a (b / gcd_of a b)

  pub lcm_right : b ∣ lcm_of a b
  unfolding lcm_of
  lcm_right =
      let x = a / gcd_of a b in
      let y = b / gcd_of a b in
      let e : b * x ≡ a * y = omega (arith, ap (λ (z : ℕ). z * y) gcd_left, ap (λ (z : ℕ). z * x) gcd_right) in
      subst (λ (z : ℕ). b ∣ z) e (dvd-mul_right b x)

  pub lcm_divides : (m : ℕ) → a ∣ m → b ∣ m → lcm_of a b ∣ m
  unfolding lcm_of
  lcm_divides m l r =
      let g = gcd_of a b in
      let y = b / gcd_of a b in
      let e : a * b ≡ g * (a * y) = omega (arith, ap (λ (z : ℕ). a * z) gcd_right) in
      let s : a * b ∣ g * m =
      (gcd_is a b).scaled (a * b) m (mul-dvd-mul_left b a r)
      (subst (λ (z : ℕ). a * b ∣ z) (mul_comm m b) (mul-dvd-mul_right a l b))
      in
      dvd_of_mul-dvd-mul_left (a * y) gcd_pos (subst (λ (z : ℕ). z ∣ g * m) e s)

-- what the running number is: it divides every common multiple
record Running (c : List Row) (tasks h : ℕ) : Type 0 where
  positive : 0 < h
  common : (j : ℕ) → j < tasks → (row_at c j).queue ≤ 2 → (row_at c j).period ∣ h
  divides : (m : ℕ) → ((j : ℕ) → j < tasks → (row_at c j).queue ≤ 2 → (row_at c j).period ∣ m) → h ∣ m

module _ (c : List Row) where
  -- a DP task more, and a task more that is none
  run_in : (i h : ℕ) → 0 < (row_at c i).period → (row_at c i).queue ≤ 2 → Running c i h → Running c (suc i) (lcm_of h (row_at c i).period)
  run_in i h pos dp r =
      record {
        positive = lcm_pos h (row_at c i).period r.positive pos;
        common = λ j k q. each j q (eq-or-lt_of_le (le_of_suc-le-suc k));
        divides =
            λ m k.
            lcm_divides h (row_at c i).period r.positive pos m (r.divides m (λ j l q. k j (omega arith) q)) (k i (omega arith) dp);
      }
    where
      each : (j : ℕ) → (row_at c j).queue ≤ 2 → (j ≡ i) ⊎ (j < i) → (row_at c j).period ∣ lcm_of h (row_at c i).period
      each j q (inl s) = subst (λ (z : ℕ). (row_at c z).period ∣ lcm_of h (row_at c i).period) (sym s) (lcm_right h (row_at c i).period r.positive pos)
      each j q (inr l) = dvd_trans (row_at c j).period (r.common j l q) (lcm_left h (row_at c i).period r.positive pos)

  run_out : (i h : ℕ) → 2 < (row_at c i).queue → Running c i h → Running c (suc i) h
  run_out i h fp r =
      record {
        positive = r.positive;
        common = λ j k q. each j q (eq-or-lt_of_le (le_of_suc-le-suc k));
        divides = λ m k. r.divides m (λ j l q. k j (omega arith) q);
      }
    where
      each : (j : ℕ) → (row_at c j).queue ≤ 2 → (j ≡ i) ⊎ (j < i) → (row_at c j).period ∣ h
      each j q (inl s) = let m : (row_at c j).queue ≡ (row_at c i).queue = ap (λ (k : ℕ). (row_at c k).queue) s in absurd (omega arith)
      each j q (inr l) = r.common j l q

  run_on : (t : Bool) (i h : ℕ) → leb (row_at c i).queue 2 ≡ t → 0 < (row_at c i).period → Running c i h
      → Running c (suc i) (cond t (lcm_of h (row_at c i).period) h)
  run_on true i h e pos r = run_in i h pos (leb-true (row_at c i).queue 2 e) r
  run_on false i h e pos r = run_out i h (leb-false (row_at c i).queue 2 e) r

  running : (i : ℕ) → ((j : ℕ) → j < i → 0 < (row_at c j).period) → Running c i (shared_period c i)
  unfolding shared_period
  running zero pos =
      record {
        positive = omega arith;
        common = λ j h q. absurd (not-suc-le-zero h);
        divides = λ m h. ∣ (m, omega arith) ∣₁;
      }
  running (suc i) pos =
      run_on (leb (row_at c i).queue 2) i (shared_period c i) refl (pos i (omega arith)) (running i (λ j h. pos j (omega arith)))

  -- the computed shared period is the least positive common multiple of the periods of the DP tasks
  pub shared_least : (i : ℕ) → ((j : ℕ) → j < i → 0 < (row_at c j).period) → IsSharedPeriod c i (shared_period c i)
  shared_least i pos =
      let r = running i pos in
      record { positive = r.positive; common = r.common; least = λ m k d. le_of_dvd k (r.divides m d) }

  -- a DP task more, by its part of the period that is not shared yet
  pub shared_in : (i h g : ℕ) → (row_at c i).queue ≤ 2 → h ≡ shared_period c i → g ≡ gcd_of h (row_at c i).period
      → h * ((row_at c i).period / g) ≡ shared_period c (i + 1)
  unfolding shared_period lcm_of
  shared_in i h g q e k =
      rw (add-one i, le-leb (row_at c i).queue 2 q)
      (ap (λ (z : ℕ). h * ((row_at c i).period / z)) k ∙ ap (λ (z : ℕ). z * ((row_at c i).period / gcd_of z (row_at c i).period)) e)

  -- a task more that is no DP task
  pub shared_out : (i : ℕ) → 2 < (row_at c i).queue → shared_period c (i + 1) ≡ shared_period c i
  unfolding shared_period
  shared_out i q = rw (add-one i, lt-leb (row_at c i).queue 2 q)

  pub shared_start : 1 ≡ shared_period c 0
  unfolding shared_period
  shared_start = refl

  pub shared_suc : (i h : ℕ) → h ≡ shared_period c i
      → cond (leb (row_at c i).queue 2) (lcm_of h (row_at c i).period) h ≡ shared_period c (suc i)
  unfolding shared_period
  shared_suc i h e = ap (λ (z : ℕ). cond (leb (row_at c i).queue 2) (lcm_of z (row_at c i).period) z) e

  pub long_test : (i g : ℕ) (t : Bool) → g ≡ shared_period c (suc i) → ltb 1000000000000 g ≡ t → too_long c i ≡ t
  unfolding too_long
  long_test i g t e h = ap (ltb 1000000000000) (sym e) ∙ h

  -- the test of 10
  pub too_long_lem : (i : ℕ) → 1000000000000 < shared_period c (i + 1) → too_long c i ≡ true
  unfolding too_long
  too_long_lem i h = lt-ltb 1000000000000 (shared_period c (suc i)) (rw (add-one i) at h)

  pub not_long : (i : ℕ) → shared_period c (i + 1) ≤ 1000000000000 → too_long c i ≡ false
  unfolding too_long
  not_long i h = le-ltb 1000000000000 (shared_period c (suc i)) (rw (add-one i) at h)

-- a limit is compared with a product by a quotient
pub product_above : (limit h part : ℕ) → 0 < part → limit / part < h → limit < h * part
product_above limit h part p l = (div-lt_iff_lt-mul {k = part} {x = limit} {y = h} p).0 l

pub product_within : (limit h part : ℕ) → 0 < part → h ≤ limit / part → h * part ≤ limit
product_within limit h part p l = (le-div_iff_mul-le {k = part} {x = h} {y = limit} p).0 l
