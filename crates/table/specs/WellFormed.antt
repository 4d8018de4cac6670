-- What it is for a table to be well formed: the ranges and the order of 01, "The image".
use Rattle.std.specs.Prelude.{ℕ, ◌≤◌, ◌≡◌, Bool, true, false, not, ◌&&◌, ◌||◌, List, [], ◌∷◌, leb, ltb, eqb, length}
use Rattle.table.specs.declared.Board.{Board}
use Rattle.table.specs.declared.Task.{Task}
use Rattle.table.specs.declared.Sem.{Sem}
use Rattle.table.specs.Entries.{built_in}
use Rattle.table.specs.Sums.{every, any}

-- a field's value lies from the least to the most
unfoldable pub within : ℕ → ℕ → ℕ → Bool
within least value most = leb least value && leb value most

-- 02, a): the deadline in a task's record is zero, or lies from the cost to one less than the period, and only in FP
unfoldable pub due_in_range : Task → Bool
due_in_range t = eqb t.due 0 || (eqb t.queue 3 && leb t.cost t.due && ltb t.due t.period)

-- 01, "The image", kind 1: queue 1 to 3; number 1 to 65,535; period 1,000 to 100,000,000 ticks; cost 1 to the period; and its deadline
unfoldable pub task_in_range : Task → Bool
task_in_range t =
    within 1 t.queue 3
    && within 1 t.number 65535
    && within 1000 t.period 100000000
    && within 1 t.cost t.period
    && due_in_range t

-- 01, "The image", kind 3: number 1 to 65,535
unfoldable pub sem_in_range : Sem → Bool
sem_in_range s = within 1 s.number 65535

-- 01, "The image", kind 2: nine figures, each 0 to 10,000
unfoldable pub board_in_range : Board → Bool
board_in_range b =
    leb b.dp_block 10000
    && leb b.dp_unblock 10000
    && leb b.dp_select 10000
    && leb b.dp_select_task 10000
    && leb b.fp_block 10000
    && leb b.fp_block_task 10000
    && leb b.fp_unblock 10000
    && leb b.fp_select 10000
    && leb b.per_queue 10000

-- 01, "The image", order: tasks by rising period, equal periods by rising number, queues never falling
unfoldable pub task_before : Task → Task → Bool
task_before a b =
    leb a.queue b.queue
    && (ltb a.period b.period || (eqb a.period b.period && ltb a.number b.number))

-- 01, "The image", order: semaphores by rising number
unfoldable pub sem_before : Sem → Sem → Bool
sem_before a b = ltb a.number b.number

-- each entry stands after the one before it
unfoldable pub ordered : {A : Type 0} → (A → A → Bool) → List A → Bool
ordered before [] = true
ordered before (x ∷ []) = true
ordered before (x ∷ y ∷ rest) = before x y && ordered before (y ∷ rest)

-- 01, "Numbers that come back", 8: some task has this number already
unfoldable pub used : ℕ → List Task → Bool
used number tasks = any (λ t. eqb t.number number) tasks

-- no task's number is used twice
unfoldable pub used_once : List Task → Bool
used_once [] = true
used_once (t ∷ rest) = not (used t.number rest) && used_once rest

-- 01, "What the executive covers", "The image" and "Numbers that come back": a table that may be loaded, its figures, and whether a board
-- record was there
pub record WellFormed (tasks : List Task) (sems : List Sem) (board : Board) (present : Bool) : Type 0 where
  pub some : 1 ≤ length tasks
  pub tasks_fit : length tasks ≤ 64
  pub sems_fit : length sems ≤ 16
  pub task_ranges : every task_in_range tasks ≡ true
  pub task_order : ordered task_before tasks ≡ true
  pub task_numbers : used_once tasks ≡ true
  pub sem_ranges : every sem_in_range sems ≡ true
  pub sem_order : ordered sem_before sems ≡ true
  pub figures : board_in_range board ≡ true
  pub absent : present ≡ false → board ≡ built_in
