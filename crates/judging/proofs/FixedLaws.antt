-- A second way to decide whether there is a time: from 1, on to what is asked for, until that is no more. It takes few steps, so that cases compute.
-- Assumes nothing.
use Prim.Native.Nat.{ℕ, zero, suc, ◌+◌, ◌*◌, ◌/◌, ◌%◌, ◌≤◌, ◌<◌}
use mathlib.Core.Path.{◌≡◌, refl, sym, ap, ◌∙◌}
use mathlib.Core.Logic.{◌⊎◌, inl, inr}
use mathlib.Core.Bool.{Bool, true, false, cond, not, ◌&&◌}
use mathlib.Core.List.{List, [], ◌∷◌}
use native.Mathlib.Omega.{arith}
use lib.Dec.{eqb, leb, ltb}
use lib.ListN.{length}
use borrow.Author.Tests.{ltb-true, ltb-false, leb-true, leb-false}
use Rattle.std.specs.Prelude.{Option, Some, None, is_some}
use Rattle.table.specs.declared.Task.{Task}
use Rattle.table.specs.Refusals.{first_of}
use Rattle.judging.specs.declared.Row.{Row}
use Rattle.judging.specs.declared.Verdict.{Verdict}
use Rattle.judging.specs.Rows.{row_at}
use Rattle.judging.specs.Periods.{gcd_in, gcd_of, lcm_of, shared_period, too_long, over_full}
use Rattle.judging.specs.Demands.{demand_dp2, demand_fp, time_up_to, decided}
use Rattle.judging.specs.Verdicts.{
  first_below,
  first_long,
  late,
  first_late,
  number_of,
  place_of,
  name_of,
  verdict_by,
}
use Rattle.judging.proofs.DemandLaws.{decided_some, decided_none, demand_dp2_mono, demand_fp_mono, le_or_lt}
use Rattle.judging.proofs.FirstLaws.{first_same, first_start, first_hit, first_next}
use Rattle.judging.proofs.PeriodLaws.{shared_start, shared_suc, long_test}

-- a number is computed before it is used, so that it is computed once
unfoldable pub forced : {A : Type 0} → ℕ → (ℕ → A) → A
forced zero k = k zero
forced (suc n) k = k (suc n)

pub forced_is : {A : Type 0} (n : ℕ) (k : ℕ → A) → forced n k ≡ k n
unfolding forced
forced_is zero k = refl
forced_is (suc n) k = refl

unfoldable pub forced_row : {A : Type 0} → Row → (Row → A) → A
forced_row r k =
    forced r.period (λ p. forced r.load (λ l. forced r.span (λ s. forced r.queue (λ q. k (record { period = p; load = l; span = s; queue = q })))))

forced_row_lem : {A : Type 0} (r : Row) (k : Row → A) → forced_row r k ≡ k r
unfolding forced_row
forced_row_lem {A} r k =
    let queue : ℕ → ℕ → ℕ → ℕ → A = λ p l s q. k (record { period = p; load = l; span = s; queue = q }) in
    forced_is r.period (λ p. forced r.load (λ l. forced r.span (λ s. forced r.queue (queue p l s))))
    ∙ forced_is r.load (λ l. forced r.span (λ s. forced r.queue (queue r.period l s)))
    ∙ forced_is r.span (λ s. forced r.queue (queue r.period r.load s))
    ∙ forced_is r.queue (queue r.period r.load r.span)

unfoldable pub forced_rows : {A : Type 0} → List Row → (List Row → A) → A
forced_rows [] k = k []
forced_rows (x ∷ xs) k = forced_row x (λ y. forced_rows xs (λ ys. k (y ∷ ys)))

pub forced_rows_lem : {A : Type 0} (l : List Row) (k : List Row → A) → forced_rows l k ≡ k l
unfolding forced_rows
forced_rows_lem [] k = refl
forced_rows_lem (x ∷ xs) k = forced_row_lem x (λ y. forced_rows xs (λ ys. k (y ∷ ys))) ∙ forced_rows_lem xs (λ ys. k (x ∷ ys))

-- from t on, with so many steps left
unfoldable pub fixed_from : ℕ → (ℕ → ℕ) → ℕ → ℕ → Bool
fixed_from zero demand limit t = false
fixed_from (suc steps) demand limit t =
    cond (ltb limit t) false (forced (demand t) (λ d. cond (leb d t) true (fixed_from steps demand limit d)))

unfoldable pub fixed_up_to : (ℕ → ℕ) → ℕ → Bool
fixed_up_to demand limit = fixed_from (suc limit) demand limit 1

module _ (demand : ℕ → ℕ) (limit : ℕ) (rises : (s t : ℕ) → s ≤ t → demand s ≤ demand t) where
  -- no time before t is enough
  Before : ℕ → Type 0
  Before t = (s : ℕ) → 1 ≤ s → s < t → s < demand s

  before_next : (t : ℕ) → Before t → t < demand t → Before (demand t)
  unfolding Before
  before_next t b l s h k = go (le_or_lt t s)
    where
      go : (t ≤ s) ⊎ (s < t) → s < demand s
      go (inl m) = omega (arith, rises t s m)
      go (inr m) = b s h m

  fixed_from_lem : (steps t : ℕ) → 1 ≤ t → limit < t + steps → Before t → fixed_from steps demand limit t ≡ decided (time_up_to demand limit)
  unfolding fixed_from Before
  fixed_from_lem zero t h k b = sym (decided_none demand limit (λ s l m. b s l (omega arith)))
  fixed_from_lem (suc steps) t h k b =
      ap (cond (ltb limit t) false) (forced_is (demand t) (λ d. cond (leb d t) true (fixed_from steps demand limit d)))
      ∙ go (ltb limit t) (leb (demand t) t) refl refl (fixed_from_lem steps (demand t))
    where
      go : (x y : Bool) → ltb limit t ≡ x → leb (demand t) t ≡ y
          → (1 ≤ demand t → limit < demand t + steps → Before (demand t) → fixed_from steps demand limit (demand t) ≡ decided (time_up_to demand limit))
          → cond x false (cond y true (fixed_from steps demand limit (demand t))) ≡ decided (time_up_to demand limit)
      go true y e f rest =
          let above : limit < t = ltb-true limit t e in
          sym (decided_none demand limit (λ s l m. b s l (omega arith)))
      go false true e f rest = sym (decided_some demand limit t h (ltb-false limit t e) (leb-true (demand t) t f))
      go false false e f rest =
          let more : t < demand t = leb-false (demand t) t f in
          rest (omega arith) (omega arith) (before_next t b more)

  pub fixed_up_to_lem : fixed_up_to demand limit ≡ decided (time_up_to demand limit)
  unfolding fixed_up_to Before
  fixed_up_to_lem = fixed_from_lem (suc limit) 1 (omega arith) (omega arith) (λ s l m. absurd (omega arith))

-- the tests of 13 and 14 decided so
unfoldable pub fixed_late : ℕ → List Row → ℕ → Bool
fixed_late queue c i =
    let own = (row_at c i).period in
    eqb (row_at c i).queue queue && not (cond (eqb queue 2) (fixed_up_to (demand_dp2 c own) own) (fixed_up_to (demand_fp c i) (row_at c i).span))

late_same : (queue : ℕ) (c : List Row) (i : ℕ) → i < length c → ((j : ℕ) → j < length c → 0 < (row_at c j).period)
    → fixed_late queue c i ≡ late queue c i
unfolding fixed_late late
late_same queue c i h pos =
    let own = (row_at c i).period in
    rw (
      fixed_up_to_lem (demand_dp2 c own) own (λ s t l. demand_dp2_mono c own s t pos l),
      fixed_up_to_lem (demand_fp c i) (row_at c i).span (λ s t l. demand_fp_mono c i s t (λ j k. pos j (omega arith)) l),
    )

-- the least common multiple, each remainder computed once
unfoldable pub gcd_forced : ℕ → ℕ → ℕ → ℕ
gcd_forced zero a b = a
gcd_forced (suc steps) a b = cond (eqb b 0) a (forced (a % b) (λ r. gcd_forced steps b r))

gcd_forced_lem : (steps a b : ℕ) → gcd_forced steps a b ≡ gcd_in steps a b
unfolding gcd_forced gcd_in
gcd_forced_lem zero a b = refl
gcd_forced_lem (suc steps) a b =
    ap (cond (eqb b 0) a) (forced_is (a % b) (λ r. gcd_forced steps b r) ∙ gcd_forced_lem steps b (a % b))

unfoldable pub lcm_forced : ℕ → ℕ → ℕ
lcm_forced a b = a * (b / gcd_forced (suc b) a b)

lcm_forced_lem : (a b : ℕ) → lcm_forced a b ≡ lcm_of a b
unfolding lcm_forced lcm_of gcd_of
lcm_forced_lem a b = ap (λ (g : ℕ). a * (b / g)) (gcd_forced_lem (suc b) a b)

-- the shared period, each step computed once
unfoldable pub shared_forced : List Row → ℕ → ℕ
shared_forced c zero = 1
shared_forced c (suc i) = forced (shared_forced c i) (λ h. cond (leb (row_at c i).queue 2) (lcm_forced h (row_at c i).period) h)

pub shared_forced_lem : (c : List Row) (i : ℕ) → shared_forced c i ≡ shared_period c i
unfolding shared_forced shared_period
shared_forced_lem c zero = refl
shared_forced_lem c (suc i) =
    forced_is (shared_forced c i) (λ h. cond (leb (row_at c i).queue 2) (lcm_forced h (row_at c i).period) h)
    ∙ rw (shared_forced_lem c i, lcm_forced_lem (shared_period c i) (row_at c i).period)

-- the first task at which the shared period is too long, with the shared period so far
unfoldable pub long_from : List Row → ℕ → ℕ → ℕ → Option ℕ
long_from c zero i h = None
long_from c (suc k) i h =
    forced (cond (leb (row_at c i).queue 2) (lcm_forced h (row_at c i).period) h)
    (λ g. cond (ltb 1000000000000 g) (Some i) (long_from c k (suc i) g))

module _ (c : List Row) where
  long_from_lem : (n k i h : ℕ) → n ≡ i + k → h ≡ shared_period c i → first_below i (too_long c) ≡ None
      → long_from c k i h ≡ first_below n (too_long c)
  unfolding long_from
  long_from_lem n zero i h e s f = sym f ∙ ap (λ (m : ℕ). first_below m (too_long c)) (omega arith)
  long_from_lem n (suc k) i h e s f =
      forced_is (cond (leb (row_at c i).queue 2) (lcm_forced h (row_at c i).period) h) (λ g. cond (ltb 1000000000000 g) (Some i) (long_from c k (suc i) g))
      ∙ go (cond (leb (row_at c i).queue 2) (lcm_forced h (row_at c i).period) h) (ltb 1000000000000 (cond (leb (row_at c i).queue 2) (lcm_forced h (row_at c i).period) h))
      (ap (λ (l : ℕ). cond (leb (row_at c i).queue 2) l h) (lcm_forced_lem h (row_at c i).period) ∙ shared_suc c i h s) refl (long_from_lem n k (suc i))
    where
      go : (g : ℕ) (t : Bool) → g ≡ shared_period c (suc i) → ltb 1000000000000 g ≡ t
          → ((g : ℕ) → n ≡ suc i + k → g ≡ shared_period c (suc i) → first_below (suc i) (too_long c) ≡ None
          → long_from c k (suc i) g ≡ first_below n (too_long c))
          → cond t (Some i) (long_from c k (suc i) g) ≡ first_below n (too_long c)
      go g true es et rest = sym (first_hit (too_long c) n i (omega arith) (long_test c i g true es et) f)
      go g false es et rest = rest g (omega arith) es (first_next (too_long c) i (long_test c i g false es et) f)

-- the verdict
unfoldable pub fixed_by : List Task → List Row → Verdict
fixed_by tasks c =
    let n = length c in
    let long = long_from c n 0 1 in
    let dp2 = first_below n (fixed_late 2 c) in
    let fp = first_below n (fixed_late 3 c) in
    let number = first_of ((7, eqb n 0) ∷ (10, is_some long) ∷ (11, over_full c 1) ∷ (12, over_full c 2) ∷ (13, is_some dp2) ∷ (14, is_some fp) ∷ []) in
    record { number = number; task = name_of tasks (cond (eqb number 10) long (cond (eqb number 13) dp2 (cond (eqb number 14) fp None))) }

pub fixed_by_lem : (tasks : List Task) (c : List Row) → ((j : ℕ) → j < length c → 0 < (row_at c j).period) → fixed_by tasks c ≡ verdict_by tasks c
unfolding fixed_by verdict_by number_of place_of first_long first_late
fixed_by_lem tasks c pos =
    let n = length c in
    let same : (queue : ℕ) → first_below n (fixed_late queue c) ≡ first_below n (late queue c) =
    λ queue. first_same (fixed_late queue c) (late queue c) n (λ i h. late_same queue c i h pos)
    in
    let long : long_from c n 0 1 ≡ first_below n (too_long c) = long_from_lem c n n 0 1 (omega arith) (shared_start c) (first_start (too_long c)) in
    rw (long, same 2, same 3)
