-- The laws of ranges and of order: what the tests of a well-formed table say of its numbers.
-- Assumes nothing.
use Prim.Native.Nat.{ℕ, zero, suc, ◌≤◌, ◌<◌}
use mathlib.Core.Path.{◌≡◌, refl, sym, ap, ◌∙◌}
use mathlib.Core.Bool.{Bool, true, false, cond, not, ◌&&◌, ◌||◌}
use mathlib.Core.Logic.{◌⊎◌, inl, inr}
use mathlib.Core.List.{List, [], ◌∷◌, map}
use native.Mathlib.Nat.{le_of_suc-le-suc, not-suc-le-zero}
use native.Mathlib.Omega.{arith}
use lib.Dec.{leb, ltb, eqb}
use lib.ListN.{length, get_or, length-map}
use borrow.Author.Tests.{leb-true, le-leb, ltb-true, lt-ltb, eqb-true, eqb-false, eq-eqb, not-true}
use Rattle.table.specs.declared.Board.{Board}
use Rattle.table.specs.declared.Task.{Task}
use Rattle.table.specs.declared.Sem.{Sem}
use Rattle.table.specs.Entries.{built_in, span_of}
use Rattle.table.specs.Sums.{every, any}
use Rattle.table.specs.Entries.{loaded_task, loaded_sem}
use Rattle.table.specs.WellFormed.{
  within,
  due_in_range,
  task_in_range,
  sem_in_range,
  board_in_range,
  task_before,
  sem_before,
  ordered,
  used,
  used_once,
  WellFormed,
}
use Rattle.table.proofs.SumLaws.{both, both_left, both_right, either_right, any_none, any_map, every_map}

-- a value that lies within its bounds, and back
pub within_true : (least value most : ℕ) → within least value most ≡ true → (least ≤ value) × (value ≤ most)
unfolding within
within_true least value most h =
    (leb-true least value (both_left (leb least value) (leb value most) h), leb-true value most (both_right (leb least value) (leb value most) h))

pub true_within : (least value most : ℕ) → least ≤ value → value ≤ most → within least value most ≡ true
unfolding within
true_within least value most h k = both (leb least value) (leb value most) (le-leb least value h) (le-leb value most k)

-- a deadline in its range: none, or an FP task's, with room for the cost and before the period's end
abbrev pub DueRange : Task → Type 0
DueRange t = (t.due ≡ 0) ⊎ ((t.queue ≡ 3) × (t.cost ≤ t.due) × (t.due < t.period))

pub due_range : (t : Task) → due_in_range t ≡ true → DueRange t
unfolding due_in_range
due_range t h = none (eqb t.due 0) refl h
  where
    none : (z : Bool) → eqb t.due 0 ≡ z → (z || (eqb t.queue 3 && leb t.cost t.due && ltb t.due t.period)) ≡ true → DueRange t
    none true e h = inl (eqb-true t.due 0 e)
    none false e h =
        let q = eqb t.queue 3 in
        let c = leb t.cost t.due in
        let p = ltb t.due t.period in
        let qc = both_left (q && c) p h in
        inr (
          eqb-true t.queue 3 (both_left q c qc),
          leb-true t.cost t.due (both_right q c qc),
          ltb-true t.due t.period (both_right (q && c) p h),
        )

pub due_in_range_lem : (t : Task) → DueRange t → due_in_range t ≡ true
unfolding due_in_range
due_in_range_lem t (inl z) = simp (eq-eqb t.due 0 z)
due_in_range_lem t (inr own) =
    let q = eqb t.queue 3 in
    let c = leb t.cost t.due in
    let p = ltb t.due t.period in
    either_right (eqb t.due 0) (q && c && p)
    (both (q && c) p (both q c (eq-eqb t.queue 3 own.0) (le-leb t.cost t.due own.1)) (lt-ltb t.due t.period own.2))

-- a task in range, field by field
pub record TaskRange (t : Task) : Type 0 where
  pub queue_least : 1 ≤ t.queue
  pub queue_most : t.queue ≤ 3
  pub number_least : 1 ≤ t.number
  pub number_most : t.number ≤ 65535
  pub period_least : 1000 ≤ t.period
  pub period_most : t.period ≤ 100000000
  pub cost_least : 1 ≤ t.cost
  pub cost_most : t.cost ≤ t.period
  pub due : DueRange t

pub task_range : (t : Task) → task_in_range t ≡ true → TaskRange t
unfolding task_in_range
task_range t h =
    let q = within 1 t.queue 3 in
    let n = within 1 t.number 65535 in
    let p = within 1000 t.period 100000000 in
    let c = within 1 t.cost t.period in
    let d = due_in_range t in
    let qnpc = both_left (q && n && p && c) d h in
    let qnp = both_left (q && n && p) c qnpc in
    let qn = both_left (q && n) p qnp in
    let wq = within_true 1 t.queue 3 (both_left q n qn) in
    let wn = within_true 1 t.number 65535 (both_right q n qn) in
    let wp = within_true 1000 t.period 100000000 (both_right (q && n) p qnp) in
    let wc = within_true 1 t.cost t.period (both_right (q && n && p) c qnpc) in
    record {
      queue_least = wq.0;
      queue_most = wq.1;
      number_least = wn.0;
      number_most = wn.1;
      period_least = wp.0;
      period_most = wp.1;
      cost_least = wc.0;
      cost_most = wc.1;
      due = due_range t (both_right (q && n && p && c) d h);
    }

-- a deadline is no longer than the period, and the span that it gives has room for the cost and ends by the period
pub due_most : (t : Task) → TaskRange t → t.due ≤ t.period
due_most t r = by_case r.due
  where
    by_case : DueRange t → t.due ≤ t.period
    by_case (inl z) = omega arith
    by_case (inr own) = omega (arith, own.2)

pub span_range : (t : Task) → TaskRange t → (t.cost ≤ span_of t) × (span_of t ≤ t.period)
unfolding span_of
span_range t r = by_case (eqb t.due 0) refl r.due
  where
    by_case : (z : Bool) → eqb t.due 0 ≡ z → DueRange t → (t.cost ≤ cond z t.period t.due) × (cond z t.period t.due ≤ t.period)
    by_case true e d = (r.cost_most, omega arith)
    by_case false e (inl z) = absurd (eqb-false t.due 0 e z)
    by_case false e (inr own) = (own.1, omega (arith, own.2))

-- zero means the period
pub span_none : (t : Task) → t.due ≡ 0 → span_of t ≡ t.period
unfolding span_of
span_none t z = rw (eq-eqb t.due 0 z)

-- the figures of a board in range
pub record BoardRange (b : Board) : Type 0 where
  pub dp_block : b.dp_block ≤ 10000
  pub dp_unblock : b.dp_unblock ≤ 10000
  pub dp_select : b.dp_select ≤ 10000
  pub dp_select_task : b.dp_select_task ≤ 10000
  pub fp_block : b.fp_block ≤ 10000
  pub fp_block_task : b.fp_block_task ≤ 10000
  pub fp_unblock : b.fp_unblock ≤ 10000
  pub fp_select : b.fp_select ≤ 10000
  pub per_queue : b.per_queue ≤ 10000

pub board_range : (b : Board) → board_in_range b ≡ true → BoardRange b
unfolding board_in_range
board_range b h =
    let f1 = leb b.dp_block 10000 in
    let f2 = f1 && leb b.dp_unblock 10000 in
    let f3 = f2 && leb b.dp_select 10000 in
    let f4 = f3 && leb b.dp_select_task 10000 in
    let f5 = f4 && leb b.fp_block 10000 in
    let f6 = f5 && leb b.fp_block_task 10000 in
    let f7 = f6 && leb b.fp_unblock 10000 in
    let f8 = f7 && leb b.fp_select 10000 in
    let h8 = both_left f8 (leb b.per_queue 10000) h in
    let h7 = both_left f7 (leb b.fp_select 10000) h8 in
    let h6 = both_left f6 (leb b.fp_unblock 10000) h7 in
    let h5 = both_left f5 (leb b.fp_block_task 10000) h6 in
    let h4 = both_left f4 (leb b.fp_block 10000) h5 in
    let h3 = both_left f3 (leb b.dp_select_task 10000) h4 in
    let h2 = both_left f2 (leb b.dp_select 10000) h3 in
    let h1 = both_left f1 (leb b.dp_unblock 10000) h2 in
    record {
      dp_block = leb-true b.dp_block 10000 h1;
      dp_unblock = leb-true b.dp_unblock 10000 (both_right f1 (leb b.dp_unblock 10000) h2);
      dp_select = leb-true b.dp_select 10000 (both_right f2 (leb b.dp_select 10000) h3);
      dp_select_task = leb-true b.dp_select_task 10000 (both_right f3 (leb b.dp_select_task 10000) h4);
      fp_block = leb-true b.fp_block 10000 (both_right f4 (leb b.fp_block 10000) h5);
      fp_block_task = leb-true b.fp_block_task 10000 (both_right f5 (leb b.fp_block_task 10000) h6);
      fp_unblock = leb-true b.fp_unblock 10000 (both_right f6 (leb b.fp_unblock 10000) h7);
      fp_select = leb-true b.fp_select 10000 (both_right f7 (leb b.fp_select 10000) h8);
      per_queue = leb-true b.per_queue 10000 (both_right f8 (leb b.per_queue 10000) h);
    }

-- the built-in figures are in range (request e) moves the figures, and no proof but this one)
pub built_in_range : board_in_range built_in ≡ true
unfolding board_in_range built_in
built_in_range = refl

-- a number that stands first stands nowhere behind
twice : (t : Task) (rest : List Task) (d : Task) → used_once (t ∷ rest) ≡ true → (j : ℕ) → j < length rest
    → (get_or rest j d).number ≡ t.number → ⊥
unfolding used_once used
twice t rest d h j k e =
    let behind = any (λ u. eqb u.number t.number) rest in
    let n = not-true behind (both_left (not behind) (used_once rest) h) in
    let a : eqb (get_or rest j d).number t.number ≡ false = any_none (λ u. eqb u.number t.number) rest n j k d in
    let b : eqb (get_or rest j d).number t.number ≡ true = eq-eqb (get_or rest j d).number t.number e in
    let z : ◌≡◌ {A = ℕ} 0 1 = cc in
    omega arith

-- two tasks whose numbers are equal are one
pub once : (tasks : List Task) (d : Task) → used_once tasks ≡ true → (i j : ℕ) → i < length tasks → j < length tasks
    → (get_or tasks i d).number ≡ (get_or tasks j d).number → i ≡ j
unfolding used_once used
once [] d h i j hi hj e = absurd (not-suc-le-zero hi)
once (t ∷ rest) d h zero zero hi hj e = refl
once (t ∷ rest) d h zero (suc j) hi hj e = absurd (twice t rest d h j (le_of_suc-le-suc hj) (sym e))
once (t ∷ rest) d h (suc i) zero hi hj e = absurd (twice t rest d h i (le_of_suc-le-suc hi) e)
once (t ∷ rest) d h (suc i) (suc j) hi hj e =
    let behind = any (λ u. eqb u.number t.number) rest in
    ap suc (once rest d (both_right (not behind) (used_once rest) h) i j (le_of_suc-le-suc hi) (le_of_suc-le-suc hj) e)

-- a task whose fields lie in their ranges is in range, and so is a board
pub task_in_range_lem : (t : Task) → TaskRange t → task_in_range t ≡ true
unfolding task_in_range
task_in_range_lem t r =
    let q = within 1 t.queue 3 in
    let n = within 1 t.number 65535 in
    let p = within 1000 t.period 100000000 in
    let c = within 1 t.cost t.period in
    both (q && n && p && c) (due_in_range t)
    (both (q && n && p) c
    (both (q && n) p
    (both q n (true_within 1 t.queue 3 r.queue_least r.queue_most) (true_within 1 t.number 65535 r.number_least r.number_most))
    (true_within 1000 t.period 100000000 r.period_least r.period_most))
    (true_within 1 t.cost t.period r.cost_least r.cost_most))
    (due_in_range_lem t r.due)

pub board_in_range_lem : (b : Board) → BoardRange b → board_in_range b ≡ true
unfolding board_in_range
board_in_range_lem b r =
    simp (
      le-leb b.dp_block 10000 r.dp_block,
      le-leb b.dp_unblock 10000 r.dp_unblock,
      le-leb b.dp_select 10000 r.dp_select,
      le-leb b.dp_select_task 10000 r.dp_select_task,
      le-leb b.fp_block 10000 r.fp_block,
      le-leb b.fp_block_task 10000 r.fp_block_task,
      le-leb b.fp_unblock 10000 r.fp_unblock,
      le-leb b.fp_select 10000 r.fp_select,
      le-leb b.per_queue 10000 r.per_queue,
    )

-- a test that cannot hold does not
pub not_so : (b : Bool) → (b ≡ true → ⊥) → b ≡ false
not_so true h = absurd (h refl)
not_so false h = refl

-- the first two semaphores stand in order, and so do those behind
rising : (x y : Sem) (rest : List Sem) → ordered sem_before (x ∷ y ∷ rest) ≡ true → (x.number < y.number) × (ordered sem_before (y ∷ rest) ≡ true)
unfolding ordered sem_before
rising x y rest h =
    let first = ltb x.number y.number in
    (ltb-true x.number y.number (both_left first (ordered sem_before (y ∷ rest)) h), both_right first (ordered sem_before (y ∷ rest)) h)

-- a semaphore further on has the larger number
pub rises : (sems : List Sem) (d : Sem) → ordered sem_before sems ≡ true → (i j : ℕ) → i < j → j < length sems
    → (get_or sems i d).number < (get_or sems j d).number
rises [] d h i j less inside = absurd (not-suc-le-zero inside)
rises (x ∷ []) d h i zero less inside = absurd (not-suc-le-zero less)
rises (x ∷ []) d h i (suc j) less inside = absurd (not-suc-le-zero (le_of_suc-le-suc inside))
rises (x ∷ y ∷ rest) d h i zero less inside = absurd (not-suc-le-zero less)
rises (x ∷ y ∷ rest) d h zero (suc zero) less inside = (rising x y rest h).0
rises (x ∷ y ∷ rest) d h zero (suc (suc j)) less inside =
    let r = rising x y rest h in
    let on = rises (y ∷ rest) d r.1 zero (suc j) (omega arith) (le_of_suc-le-suc inside) in
    let now = r.0 in
    omega arith
rises (x ∷ y ∷ rest) d h (suc i) (suc j) less inside =
    rises (y ∷ rest) d (rising x y rest h).1 i j (le_of_suc-le-suc less) (le_of_suc-le-suc inside)

-- a function of the entries that an order does not see
ordered_map : {A : Type 0} (f : A → A) (before : A → A → Bool) → ((x y : A) → before (f x) (f y) ≡ before x y) → (l : List A)
    → ordered before (map f l) ≡ ordered before l
unfolding ordered
ordered_map f before same [] = refl
ordered_map f before same (x ∷ []) = refl
ordered_map f before same (x ∷ y ∷ rest) =
    ap (λ (b : Bool). b && ordered before (f y ∷ map f rest)) (same x y) ∙ ap (λ (b : Bool). before x y && b) (ordered_map f before same (y ∷ rest))

once_map : (l : List Task) → used_once (map loaded_task l) ≡ used_once l
unfolding used_once used
once_map [] = refl
once_map (x ∷ xs) =
    ap (λ (b : Bool). not b && used_once (map loaded_task xs)) (any_map loaded_task (λ t. eqb t.number x.number) xs)
    ∙ ap (λ (b : Bool). not (any (λ t. eqb t.number x.number) xs) && b) (once_map xs)

-- a table whose entries agree with those of a well-formed one in what is loaded, all but what a task does and when, and who holds a semaphore, is
-- well formed
pub well_formed_same : (tasks tasks' : List Task) (sems sems' : List Sem) (board : Board) (present : Bool) → map loaded_task tasks' ≡ map loaded_task tasks
    → map loaded_sem sems' ≡ map loaded_sem sems → WellFormed tasks sems board present → WellFormed tasks' sems' board present
unfolding due_in_range task_in_range task_before sem_in_range sem_before
well_formed_same tasks tasks' sems sems' board present t s w =
    let n : length tasks' ≡ length tasks = sym (length-map tasks' loaded_task) ∙ ap length t ∙ length-map tasks loaded_task in
    let m : length sems' ≡ length sems = sym (length-map sems' loaded_sem) ∙ ap length s ∙ length-map sems loaded_sem in
    record {
      some = omega (arith, w.some);
      tasks_fit = omega (arith, w.tasks_fit);
      sems_fit = omega (arith, w.sems_fit);
      task_ranges = alike loaded_task (every task_in_range) (every_map loaded_task task_in_range (λ x. refl)) tasks tasks' t ∙ w.task_ranges;
      task_order = alike loaded_task (ordered task_before) (ordered_map loaded_task task_before (λ x y. refl)) tasks tasks' t ∙ w.task_order;
      task_numbers = alike loaded_task used_once once_map tasks tasks' t ∙ w.task_numbers;
      sem_ranges = alike loaded_sem (every sem_in_range) (every_map loaded_sem sem_in_range (λ x. refl)) sems sems' s ∙ w.sem_ranges;
      sem_order = alike loaded_sem (ordered sem_before) (ordered_map loaded_sem sem_before (λ x y. refl)) sems sems' s ∙ w.sem_order;
      figures = w.figures;
      absent = w.absent;
    }
  where
    alike : {A : Type 0} (f : A → A) (test : List A → Bool) → ((l : List A) → test (map f l) ≡ test l) → (l l' : List A) → map f l' ≡ map f l
        → test l' ≡ test l
    alike f test sees l l' e = sym (sees l') ∙ ap test e ∙ sees l

-- so a table stays well formed with its entries as they are after loading
pub well_formed_loaded : (tasks : List Task) (sems : List Sem) (board : Board) (present : Bool) → WellFormed tasks sems board present
    → WellFormed (map loaded_task tasks) (map loaded_sem sems) board present
well_formed_loaded tasks sems board present w =
    well_formed_same tasks (map loaded_task tasks) sems (map loaded_sem sems) board present (again loaded_task (λ x. refl) tasks)
    (again loaded_sem (λ x. refl) sems) w
  where
    again : {A : Type 0} (f : A → A) → ((x : A) → f (f x) ≡ f x) → (l : List A) → map f (map f l) ≡ map f l
    again f same [] = refl
    again {A} f same (x ∷ xs) = ap (λ (y : A). y ∷ map f (map f xs)) (same x) ∙ ap (λ (l : List A). f x ∷ l) (again f same xs)
