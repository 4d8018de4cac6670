-- The laws of a table and its state: each gives the other back, an entry more in the one is an entry more in the other, and the state of a
-- well-formed table, as it is after loading, is sound.
-- Assumes nothing.
use Rattle.std.specs.Prelude.{Option, Some, None}
use Prim.Native.Nat.{ℕ, zero, suc, ◌+◌, ◌-◌, ◌≤◌, ◌<◌}
use mathlib.Core.Path.{◌≡◌, refl, sym, ap, ◌∙◌, subst}
use mathlib.Core.Bool.{Bool, true}
use mathlib.Core.List.{List, [], ◌∷◌, ◌++◌, map, map-append, map-map}
use native.Mathlib.Numerals.{add-one}
use native.Mathlib.Omega.{arith}
use lib.ListN.{length, get_or, take, drop, set, replicate, length-append, length-map, length-replicate, take-append-drop, get_or-map}
use lib.Seq.{take_at, drop_at, set-append_seam, append_snoc, length-take-le}
use Rattle.table.specs.declared.Task.{Task}
use Rattle.table.specs.declared.Sem.{Sem}
use Rattle.table.specs.declared.Board.{Board}
use Rattle.table.specs.Entries.{blank_task, blank_sem, loaded_task, loaded_sem}
use Rattle.table.proofs.OrderLaws.{well_formed_loaded}
use Rattle.executive.specs.declared.state.State.{State}
use Rattle.executive.specs.States.{tasks_of, sems_of, empty_state}
use Rattle.waits.specs.Waits.{task_at, sem_at, waits_for, holder_of, waits_on, here}
use Rattle.executive.specs.Sound.{Sized, Sound}
use Rattle.executive.specs.Calls.{with_task, with_sem, with_tasks, with_sems}
use Rattle.executive.specs.Tables.{Table, WellFormedTable, add_task, add_sem, add_board, loaded_table, state_of, table_of, as_loaded}

-- entries, then blanks to the length of an array: how long they are, and one entry more
module _ {A : Type 0} where
  pub length_more : (l : List A) (x : A) → length l + 1 ≡ length (l ++ x ∷ [])
  length_more l x = sym (length-append l (x ∷ []))

  pub length_padded : (l : List A) (b : A) (k : ℕ) → length l ≤ k → length (l ++ replicate (k - length l) b) ≡ k
  length_padded l b k h = length-append l (replicate (k - length l) b) ∙ rw (length-replicate (k - length l) b) (omega arith)

  pub padded_set : (l : List A) (x b : A) (k : ℕ) → length l < k
      → set (l ++ replicate (k - length l) b) (length l) x ≡ (l ++ x ∷ []) ++ replicate (k - length (l ++ x ∷ [])) b
  padded_set l x b k h =
      let more : k - length l ≡ suc (k - suc (length l)) = omega arith in
      let less : length (l ++ x ∷ []) ≡ suc (length l) = length-append l (x ∷ []) ∙ add-one (length l) in
      ap (λ (n : ℕ). set (l ++ replicate n b) (length l) x) more
      ∙ (set-append_seam l b (replicate (k - suc (length l)) b) x
      ∙ (sym (append_snoc l x (replicate (k - suc (length l)) b)) ∙ ap (λ (n : ℕ). (l ++ x ∷ []) ++ replicate (k - n) b) (sym less)))

-- the state with other counts, and with other figures: how a state is changed in place while a table is read
unfoldable pub with_counts : State → ℕ → ℕ → State
with_counts s n m = record { tasks = s.tasks; sems = s.sems; n = n; m = m; last = s.last; board = s.board; present = s.present }

unfoldable pub with_board : State → Board → Bool → State
with_board s b flag = record { tasks = s.tasks; sems = s.sems; n = s.n; m = s.m; last = s.last; board = b; present = flag }

unfoldable pub grow_task : State → Task → State
grow_task s x = with_counts (with_task s s.n x) (s.n + 1) s.m

unfoldable pub grow_sem : State → Sem → State
grow_sem s x = with_counts (with_sem s s.m x) s.n (s.m + 1)

-- a state, and another with the same fields
same_state : (s u : State) → s.tasks ≡ u.tasks → s.sems ≡ u.sems → s.n ≡ u.n → s.m ≡ u.m → s.last ≡ u.last → s.board ≡ u.board
    → s.present ≡ u.present → s ≡ u
same_state s u a b c d e f g = λ i. record { tasks = a i; sems = b i; n = c i; m = d i; last = e i; board = f i; present = g i }

-- a state that was changed so is the state of the table that was changed alike
pub state_task : (t : Table) (x : Task) → length t.tasks < 64 → grow_task (state_of t) x ≡ state_of (add_task t x)
unfolding grow_task with_counts with_tasks state_of add_task
state_task t x h =
    same_state (grow_task (state_of t) x) (state_of (add_task t x)) (padded_set t.tasks x blank_task 64 h) refl (length_more t.tasks x) refl refl refl refl

pub state_sem : (t : Table) (x : Sem) → length t.sems < 16 → grow_sem (state_of t) x ≡ state_of (add_sem t x)
unfolding grow_sem with_counts with_sems state_of add_sem
state_sem t x h =
    same_state (grow_sem (state_of t) x) (state_of (add_sem t x)) refl (padded_set t.sems x blank_sem 16 h) refl (length_more t.sems x) refl refl refl

pub state_board : (t : Table) (b : Board) → with_board (state_of t) b true ≡ state_of (add_board t b)
unfolding with_board state_of add_board
state_board t b = refl

-- the state of a table has that table
pub state_tasks : (t : Table) → tasks_of (state_of t) ≡ t.tasks
unfolding tasks_of state_of
state_tasks t = take_at t.tasks (replicate (64 - length t.tasks) blank_task) (length t.tasks) refl

pub state_sems : (t : Table) → sems_of (state_of t) ≡ t.sems
unfolding sems_of state_of
state_sems t = take_at t.sems (replicate (16 - length t.sems) blank_sem) (length t.sems) refl

-- a table and another with the same entries and figures
pub same_table : (t u : Table) → t.tasks ≡ u.tasks → t.sems ≡ u.sems → t.board ≡ u.board → t.present ≡ u.present → t ≡ u
same_table t u a b c d = λ i. record { tasks = a i; sems = b i; board = c i; present = d i }

pub state_table : (t : Table) → table_of (state_of t) ≡ t
unfolding table_of state_of
state_table t = same_table (table_of (state_of t)) t (state_tasks t) (state_sems t) refl refl

-- a table as it is after loading stays so, and is well formed where the table is
pub loaded_again : (t : Table) → loaded_table (loaded_table t) ≡ loaded_table t
unfolding loaded_table
loaded_again t =
    same_table (loaded_table (loaded_table t)) (loaded_table t) (map-map loaded_task loaded_task t.tasks) (map-map loaded_sem loaded_sem t.sems) refl refl

pub loaded_well : (t : Table) → WellFormedTable t → WellFormedTable (loaded_table t)
unfolding loaded_table
loaded_well t w = well_formed_loaded t.tasks t.sems t.board t.present w

-- the state after loading is that of the table after loading
module _ {A : Type 0} (f : A → A) (b : A) (blank : f b ≡ b) where
  map_replicate : (k : ℕ) → map f (replicate k b) ≡ replicate k b
  map_replicate zero = refl
  map_replicate (suc k) = ap (λ (x : A). x ∷ map f (replicate k b)) blank ∙ ap (λ (l : List A). b ∷ l) (map_replicate k)

  module _ (l : List A) (k n : ℕ) (long : length l ≡ k) (fits : n ≤ k) where
    map_count : n ≡ length (map f (take n l))
    map_count = sym (length-map (take n l) f ∙ length-take-le n l (omega arith))

    map_padded : drop n l ≡ replicate (k - n) b → map f l ≡ map f (take n l) ++ replicate (k - length (map f (take n l))) b
    map_padded rest =
        ap (map f) (sym (take-append-drop n l))
        ∙ (map-append f (take n l) (drop n l)
        ∙ (ap (λ (r : List A). map f (take n l) ++ map f r) rest
        ∙ (ap (λ (r : List A). map f (take n l) ++ r) (map_replicate (k - n))
        ∙ ap (λ (j : ℕ). map f (take n l) ++ replicate (k - j) b) map_count)))

pub as_loaded_lem : (s : State) → Sound s → as_loaded s ≡ state_of (loaded_table (table_of s))
unfolding as_loaded state_of loaded_table table_of tasks_of sems_of
as_loaded_lem s sound =
    let z = sound.sized in
    same_state (as_loaded s) (state_of (loaded_table (table_of s)))
    (map_padded loaded_task blank_task refl s.tasks 64 s.n z.tasks_length z.tasks_fit sound.tasks_blank)
    (map_padded loaded_sem blank_sem refl s.sems 16 s.m z.sems_length z.sems_fit sound.sems_blank)
    (map_count loaded_task blank_task refl s.tasks 64 s.n z.tasks_length z.tasks_fit)
    (map_count loaded_sem blank_sem refl s.sems 16 s.m z.sems_length z.sems_fit) refl refl refl

-- after loading no semaphore is held, and every task is idle
loaded_holder : (l : List Sem) (k : ℕ) → map loaded_sem l ≡ l → (sem_at l k).holder ≡ None
unfolding sem_at
loaded_holder l k h =
    ap (λ (x : Sem). x.holder) (ap (λ (m : List Sem). get_or m k blank_sem) (sym h) ∙ get_or-map loaded_sem l k blank_sem)

loaded_status : (l : List Task) (i : ℕ) → map loaded_task l ≡ l → waits_for (task_at l i).status ≡ None
unfolding task_at waits_for
loaded_status l i h =
    ap (λ (x : Task). waits_for x.status) (ap (λ (m : List Task). get_or m i blank_task) (sym h) ∙ get_or-map loaded_task l i blank_task)

not_found : {A : Type 0} (x : Option ℕ) (i : ℕ) → x ≡ None → x ≡ Some i → A
not_found x i h k = let z : ◌≡◌ {A = ℕ} 0 1 = cc in absurd (omega arith)

pub state_sized : (t : Table) → length t.tasks ≤ 64 → length t.sems ≤ 16 → Sized (state_of t)
unfolding state_of
state_sized t n m =
    record {
      tasks_length = length_padded t.tasks blank_task 64 n;
      sems_length = length_padded t.sems blank_sem 16 m;
      tasks_fit = n;
      sems_fit = m;
    }

-- so the state of a well-formed table, as it is after loading, is sound
pub state_sound : (t : Table) → WellFormedTable t → loaded_table t ≡ t → Sound (state_of t)
unfolding state_of table_of tasks_of sems_of loaded_table holder_of waits_on
state_sound t well loaded =
    let free : (k : ℕ) → (sem_at (sems_of (state_of t)) k).holder ≡ None =
    λ k. ap (λ (l : List Sem). (sem_at l k).holder) (state_sems t) ∙ loaded_holder t.sems k (ap (λ (u : Table). u.sems) loaded) in
    let idle : (i : ℕ) → waits_for (task_at (tasks_of (state_of t)) i).status ≡ None =
    λ i. ap (λ (l : List Task). waits_for (task_at l i).status) (state_tasks t) ∙ loaded_status t.tasks i (ap (λ (u : Table). u.tasks) loaded) in
    record {
      sized = state_sized t well.tasks_fit well.sems_fit;
      tasks_blank = drop_at t.tasks (replicate (64 - length t.tasks) blank_task) (length t.tasks) refl;
      sems_blank = drop_at t.sems (replicate (16 - length t.sems) blank_sem) (length t.sems) refl;
      none = λ h. absurd (omega (arith, well.some));
      table = λ h. subst WellFormedTable (sym (state_table t)) well;
      holders = λ k h i e. not_found ((sem_at (sems_of (state_of t)) k).holder) i (free k) e;
      waits = λ i h k e. not_found (waits_for (task_at (tasks_of (state_of t)) i).status) k (idle i) e;
      chains = λ i h. here (ap (holder_of (sems_of (state_of t))) (idle i));
      time = omega arith;
    }

-- and so is the empty state
pub empty_sound : Sound empty_state
unfolding empty_state tasks_of sems_of
empty_sound =
    record {
      sized = record { tasks_length = refl; sems_length = refl; tasks_fit = omega arith; sems_fit = omega arith };
      tasks_blank = refl;
      sems_blank = refl;
      none = λ h. refl;
      table = λ h. absurd (omega arith);
      holders = λ k h i e. absurd (omega arith);
      waits = λ i h k e. absurd (omega arith);
      chains = λ i h. absurd (omega arith);
      time = omega arith;
    }
