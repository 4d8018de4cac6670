-- The charge and the load of a task (01, "Charges").
use Rattle.std.specs.Prelude.{ℕ, ◌+◌, ◌*◌, ◌-◌, ◌/◌, max, cond, List, [], ◌∷◌, eqb, ltb, length, count_by}
use Rattle.table.specs.declared.Board.{Board}
use Rattle.table.specs.declared.Task.{Task}
use Rattle.charges.specs.declared.Counts.{Counts}

-- how many tasks a queue has
abbrev pub tasks_in : ℕ → List Task → ℕ
tasks_in queue tasks = count_by (λ t. eqb t.queue queue) tasks

-- 01, "Charges": n tasks, q in DP1, r in DP1 and DP2 together, k queues that are not empty, m the larger of q and r − q
unfoldable pub counts_of : List Task → Board → Counts
counts_of tasks board =
    record {
      board = board;
      n = length tasks;
      q = tasks_in 1 tasks;
      r = tasks_in 1 tasks + tasks_in 2 tasks;
      k = count_by (λ queue. ltb 0 (tasks_in queue tasks)) (1 ∷ 2 ∷ 3 ∷ []);
      m = max (tasks_in 1 tasks) (tasks_in 1 tasks + tasks_in 2 tasks - tasks_in 1 tasks);
    }

-- 01, "Charges": a DP choice over j tasks costs DP select + j × per task + k × per queue
abbrev pub choice_dp : Counts → ℕ → ℕ
choice_dp c j = c.board.dp_select + j * c.board.dp_select_task + c.k * c.board.per_queue

-- 01, "Charges": an FP choice costs FP select + k × per queue
abbrev pub choice_fp : Counts → ℕ
choice_fp c = c.board.fp_select + c.k * c.board.per_queue

-- 01, "Charges", sums, DP1 and DP2: DP block + a choice + DP unblock + a choice, over so many tasks each
abbrev pub sum_dp : Counts → ℕ → ℕ → ℕ
sum_dp c blocked unblocked = c.board.dp_block + choice_dp c blocked + c.board.dp_unblock + choice_dp c unblocked

-- DP1: DP block + choice over m + DP unblock + choice over q
abbrev pub sum_dp1 : Counts → ℕ
sum_dp1 c = sum_dp c c.m c.q

-- DP2: DP block + choice over r + DP unblock + choice over m
abbrev pub sum_dp2 : Counts → ℕ
sum_dp2 c = sum_dp c c.r c.m

-- FP: choice over m if r > 0, else FP choice
abbrev pub choice_unblocked : Counts → ℕ
choice_unblocked c = cond (ltb 0 c.r) (choice_dp c c.m) (choice_fp c)

-- FP: FP block + (n − r) × per task + FP choice + FP unblock + that choice
abbrev pub sum_fp : Counts → ℕ
sum_fp c = c.board.fp_block + (c.n - c.r) * c.board.fp_block_task + choice_fp c + c.board.fp_unblock + choice_unblocked c

-- a task's sum is that of its own queue
abbrev pub sum_by : Counts → Task → ℕ
sum_by c t = cond (eqb t.queue 1) (sum_dp1 c) (cond (eqb t.queue 2) (sum_dp2 c) (sum_fp c))

-- 01, "Charges": the charge is 3/2 of the sum, rounded up to a whole tick
abbrev pub charge_by : Counts → Task → ℕ
charge_by c t = (3 * sum_by c t + 1) / 2

-- 01, "Charges": a task's load is cost plus its own queue's charge
unfoldable pub load_by : Counts → Task → ℕ
load_by c t = t.cost + charge_by c t

-- the charge of a task among these tasks, at these figures
unfoldable pub charge_of : List Task → Board → Task → ℕ
charge_of tasks board t = charge_by (counts_of tasks board) t

-- the load of a task among these tasks, at these figures
unfoldable pub load_of : List Task → Board → Task → ℕ
load_of tasks board t = load_by (counts_of tasks board) t
