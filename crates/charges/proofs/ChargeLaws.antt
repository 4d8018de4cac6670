-- The laws of charges: what counts are made of, and the bounds of a charge and a load.
-- Assumes nothing.
use Prim.Native.Nat.{ℕ, ◌+◌, ◌*◌, ◌-◌, ◌/◌, ◌≤◌, max}
use mathlib.Core.Path.{◌≡◌, refl, ap}
use mathlib.Core.Bool.{Bool, true, false, cond}
use mathlib.Core.List.{List, [], ◌∷◌}
use native.Mathlib.Nat.{mul-le-mul, max-le, add-sub_cancel_left}
use native.Mathlib.Omega.{arith}
use lib.Dec.{eqb, ltb}
use lib.ListN.{length}
use borrow.Author.Tests.{eqb-true}
use Rattle.table.specs.declared.Board.{Board}
use Rattle.table.specs.declared.Task.{Task}
use Rattle.table.specs.WellFormed.{board_in_range}
use Rattle.std.proofs.lemmas.List.Sums.{count_by-le-length, sum_by-cons}
use Rattle.table.proofs.OrderLaws.{BoardRange, board_range}
use Rattle.charges.specs.declared.Counts.{Counts}
use Rattle.charges.specs.Charges.{tasks_in, counts_of, choice_dp, choice_fp, sum_dp, sum_dp1, sum_dp2, choice_unblocked, sum_fp, charge_by, load_by, charge_of, load_of}

-- no task is in two queues
one_gate : (queue : ℕ) → cond (eqb queue 1) 1 0 + cond (eqb queue 2) 1 0 ≤ 1
one_gate queue = go (eqb queue 1) (eqb queue 2) refl refl
  where
    go : (a b : Bool) → eqb queue 1 ≡ a → eqb queue 2 ≡ b → cond a 1 0 + cond b 1 0 ≤ 1
    go true true h k = omega (arith, eqb-true queue 1 h, eqb-true queue 2 k)
    go true false h k = omega arith
    go false true h k = omega arith
    go false false h k = omega arith

dp_fit : (tasks : List Task) → tasks_in 1 tasks + tasks_in 2 tasks ≤ length tasks
dp_fit [] = omega arith
dp_fit (t ∷ rest) =
    let c : (k : ℕ) → tasks_in k (t ∷ rest) ≡ cond (eqb t.queue k) 1 0 + tasks_in k rest = λ k. sum_by-cons (λ (x : Task). cond (eqb x.queue k) 1 0) t rest in
    let a : cond (eqb t.queue 1) 1 0 + cond (eqb t.queue 2) 1 0 ≤ 1 = one_gate t.queue in
    let b : tasks_in 1 rest + tasks_in 2 rest ≤ length rest = dp_fit rest in
    omega (arith, c 1, c 2)

-- what a choice costs, where no count is above 64 and no figure above 10,000
record Small (c : Counts) : Type 0 where
  board : BoardRange c.board
  n : c.n ≤ 64
  q : c.q ≤ 64
  r : c.r ≤ 64
  k : c.k ≤ 3
  m : c.m ≤ 64

choice_small : (c : Counts) (j : ℕ) → Small c → j ≤ 64 → choice_dp c j ≤ 680000
choice_small c j s h =
    let a : j * c.board.dp_select_task ≤ 64 * 10000 = mul-le-mul h s.board.dp_select_task in
    let b : c.k * c.board.per_queue ≤ 3 * 10000 = mul-le-mul s.k s.board.per_queue in
    omega (arith, s.board.dp_select)

choice_fp_small : (c : Counts) → Small c → choice_fp c ≤ 680000
choice_fp_small c s =
    let b : c.k * c.board.per_queue ≤ 3 * 10000 = mul-le-mul s.k s.board.per_queue in
    omega (arith, s.board.fp_select)

dp_small : (c : Counts) (i j : ℕ) → Small c → i ≤ 64 → j ≤ 64 → sum_dp c i j ≤ 3000000
dp_small c i j s h k = omega (arith, choice_small c i s h, choice_small c j s k, s.board)

unblocked_small : (c : Counts) → Small c → choice_unblocked c ≤ 680000
unblocked_small c s = go (ltb 0 c.r)
  where
    go : (t : Bool) → cond t (choice_dp c c.m) (choice_fp c) ≤ 680000
    go true = choice_small c c.m s s.m
    go false = choice_fp_small c s

fp_small : (c : Counts) → Small c → sum_fp c ≤ 3000000
fp_small c s =
    let e : c.n - c.r ≤ 64 = omega (arith, s.n) in
    let a : (c.n - c.r) * c.board.fp_block_task ≤ 64 * 10000 = mul-le-mul e s.board.fp_block_task in
    omega (arith, choice_fp_small c s, unblocked_small c s, s.board)

charge_small : (c : Counts) (t : Task) → Small c → charge_by c t ≤ 900000000
charge_small c t s = go (eqb t.queue 1) (eqb t.queue 2)
  where
    go : (a b : Bool) → (3 * cond a (sum_dp1 c) (cond b (sum_dp2 c) (sum_fp c)) + 1) / 2 ≤ 900000000
    go true b = omega (arith, dp_small c c.m c.q s s.m s.q)
    go false true = omega (arith, dp_small c c.r c.m s s.r s.m)
    go false false = omega (arith, fp_small c s)

counts_small : (tasks : List Task) (board : Board) → length tasks ≤ 64 → board_in_range board ≡ true → Small (counts_of tasks board)
unfolding counts_of
counts_small tasks board h b =
    let q : tasks_in 1 tasks ≤ length tasks = count_by-le-length (λ t. eqb t.queue 1) tasks in
    let f : tasks_in 1 tasks + tasks_in 2 tasks ≤ length tasks = dp_fit tasks in
    record {
      board = board_range board b;
      n = h;
      q = omega arith;
      r = omega arith;
      k = count_by-le-length (λ queue. ltb 0 (tasks_in queue tasks)) (1 ∷ 2 ∷ 3 ∷ []);
      m = max-le (omega arith) (omega arith);
    }

-- the bound of a charge, and of a load, in a table that may be loaded: what judging needs to know of either
pub charge_bound : (tasks : List Task) (board : Board) (t : Task) → length tasks ≤ 64 → board_in_range board ≡ true → charge_of tasks board t ≤ 900000000
unfolding charge_of
charge_bound tasks board t h b = charge_small (counts_of tasks board) t (counts_small tasks board h b)

pub load_bound : (tasks : List Task) (board : Board) (t : Task) → length tasks ≤ 64 → board_in_range board ≡ true → t.cost ≤ 100000000
    → load_of tasks board t ≤ 1000000000
unfolding load_of load_by charge_of
load_bound tasks board t h b cost = omega (arith, charge_bound tasks board t h b)

-- the counts, made of how many tasks each queue has
pub counts_made : (tasks : List Task) (board : Board) (n q s f k m : ℕ) → n ≡ length tasks → q ≡ tasks_in 1 tasks → s ≡ tasks_in 2 tasks → f ≡ tasks_in 3 tasks
    → k ≡ cond (ltb 0 q) 1 0 + cond (ltb 0 s) 1 0 + cond (ltb 0 f) 1 0 → m ≡ max q s
    → ◌≡◌ {A = Counts} (record { board = board; n = n; q = q; r = q + s; k = k; m = m }) (counts_of tasks board)
unfolding counts_of
counts_made tasks board n q s f k m hn hq hs hf hk hm =
    let kk : k ≡ 0 + cond (ltb 0 (tasks_in 1 tasks)) 1 0 + cond (ltb 0 (tasks_in 2 tasks)) 1 0 + cond (ltb 0 (tasks_in 3 tasks)) 1 0 =
    rw (hk, hq, hs, hf) (omega arith)
    in
    let mm : m ≡ max (tasks_in 1 tasks) (tasks_in 1 tasks + tasks_in 2 tasks - tasks_in 1 tasks) =
    rw (hm, hq, hs, add-sub_cancel_left (tasks_in 1 tasks) (tasks_in 2 tasks))
    in
    λ i. record { board = board; n = hn i; q = hq i; r = hq i + hs i; k = kk i; m = mm i }

-- what counts that are those of a table give: the load among its tasks
pub load_of_lem : (c : Counts) (tasks : List Task) (board : Board) (t : Task) → c ≡ counts_of tasks board → load_by c t ≡ load_of tasks board t
unfolding load_of
load_of_lem c tasks board t e = ap (λ (x : Counts). load_by x t) e
