-- The table that a load has read so far: it fits, and its entries are in their ranges, in order, and as they are after loading. A record that
-- is not refused keeps all of this.
-- Assumes nothing.
use Prim.Native.Nat.{ℕ, ◌≤◌, ◌<◌}
use mathlib.Core.Path.{◌≡◌, refl, sym, ap, ◌∙◌}
use mathlib.Core.Bool.{Bool, true, false, not, ◌&&◌, ◌||◌}
use mathlib.Core.List.{List, [], ◌∷◌, ◌++◌, map, map-append}
use native.Mathlib.Omega.{arith}
use lib.Dec.{eqb, ltb}
use lib.ListN.{length, length-append}
use borrow.Author.Tests.{eqb-false, ne_eqb, leb-false, ltb-false, not-true, not-false}
use Rattle.table.specs.declared.Task.{Task}
use Rattle.table.specs.declared.Sem.{Sem}
use Rattle.table.specs.declared.Board.{Board}
use Rattle.table.specs.Entries.{built_in, loaded_task, loaded_sem}
use Rattle.table.specs.Sums.{every, any}
use Rattle.table.specs.WellFormed.{task_in_range, sem_in_range, board_in_range, task_before, sem_before, ordered, used, used_once}
use Rattle.table.proofs.SumLaws.{both, both_left, both_right, neither, every_append, any_append}
use Rattle.table.proofs.OrderLaws.{built_in_range}
use Rattle.executive.specs.Tables.{Table, WellFormedTable, add_task, add_sem, add_board, loaded_table}
use Rattle.executive.proofs.TableLaws.{same_table}
use Rattle.table.specs.declared.refusals.Refusal.{Refusal}
use Rattle.records.specs.declared.Record.{Record}
use Rattle.std.specs.Prelude.{Result, Ok}
use Rattle.records.specs.declared.Record.TheVariants.{Task as TaskRecord, Board as BoardRecord, Sem as SemRecord}
use Rattle.records.proofs.RecordLaws.{Said, erased, task, board, sem, unknown, bad}
use Rattle.image.specs.Loading.{fresh_table, taken, follows, order_broken, number_twice, too_many}
use Rattle.image.proofs.LoadLaws.{Passed}

-- entries that a table may have, of one kind: at most so many, each in its range, each after the one before, each as it is after loading
pub record Listed {A : Type 0} (in_range : A → Bool) (before : A → A → Bool) (loaded : A → A) (most : ℕ) (l : List A) : Type 0 where
  pub few : length l ≤ most
  pub ranges : every in_range l ≡ true
  pub order : ordered before l ≡ true
  pub same : map loaded l ≡ l

module _ {A : Type 0} (before : A → A → Bool) where
  -- an ordered list with one entry more that follows, and back
  ordered_more : (l : List A) (x : A) → ordered before l ≡ true → follows before l x ≡ true → ordered before (l ++ x ∷ []) ≡ true
  unfolding ordered follows
  ordered_more [] x h k = refl
  ordered_more (y ∷ []) x h k = both (before y x) true k refl
  ordered_more (y ∷ z ∷ rest) x h k =
      both (before y z) (ordered before (z ∷ (rest ++ x ∷ []))) (both_left (before y z) (ordered before (z ∷ rest)) h)
      (ordered_more (z ∷ rest) x (both_right (before y z) (ordered before (z ∷ rest)) h) k)

  ordered_at : (l : List A) (x : A) (xs : List A) → ordered before (l ++ x ∷ xs) ≡ true → follows before l x ≡ true
  unfolding ordered follows
  ordered_at [] x xs h = refl
  ordered_at (y ∷ []) x xs h = both_left (before y x) (ordered before (x ∷ xs)) h
  ordered_at (y ∷ z ∷ rest) x xs h = ordered_at (z ∷ rest) x xs (both_right (before y z) (ordered before (z ∷ (rest ++ x ∷ xs))) h)

-- the entry at the seam of two lists is left as it is, where all are
same_at_seam : {A : Type 0} (f : A → A) (l : List A) (x : A) (xs : List A) → map f (l ++ x ∷ xs) ≡ l ++ x ∷ xs → f x ≡ x
same_at_seam f [] x xs h = cc
same_at_seam f (y ∷ l) x xs h = same_at_seam f l x xs (cc)

-- what is asked of an entry that comes behind the others
pub record Next {A : Type 0} (in_range : A → Bool) (before : A → A → Bool) (loaded : A → A) (most : ℕ) (l : List A) (x : A) : Type 0 where
  pub room : length l < most
  pub range : in_range x ≡ true
  pub after : follows before l x ≡ true
  pub idle : loaded x ≡ x

module _ {A : Type 0} (in_range : A → Bool) (before : A → A → Bool) (loaded : A → A) (most : ℕ) (l : List A) (x : A) where
  listed_more : Listed in_range before loaded most l → Next in_range before loaded most l x → Listed in_range before loaded most (l ++ x ∷ [])
  listed_more h k =
      let n = length-append l (x ∷ []) in
      let room = k.room in
      record {
        few = omega arith;
        ranges = every_append in_range l (x ∷ []) ∙ both (every in_range l) (in_range x && true) h.ranges (both (in_range x) true k.range refl);
        order = ordered_more before l x h.order k.after;
        same = map-append loaded l (x ∷ []) ∙ (ap (λ (m : List A). m ++ loaded x ∷ []) h.same ∙ ap (λ (y : A). l ++ y ∷ []) k.idle);
      }

  -- each entry of such a list has it
  pub listed_at : (xs : List A) → Listed in_range before loaded most (l ++ x ∷ xs) → Next in_range before loaded most l x
  listed_at xs h =
      let n = length-append l (x ∷ xs) in
      let few = h.few in
      record {
        room = omega arith;
        range = both_left (in_range x) (every in_range xs) (both_right (every in_range l) (in_range x && every in_range xs) (sym (every_append in_range l (x ∷ xs)) ∙ h.ranges));
        after = ordered_at before l x xs h.order;
        idle = same_at_seam loaded l x xs h.same;
      }

-- numbers that are used once, with one more that is new, and back
once_more : (l : List Task) (x : Task) → used_once l ≡ true → used x.number l ≡ false → used_once (l ++ x ∷ []) ≡ true
unfolding used_once used
once_more [] x h k = refl
once_more (y ∷ l) x h k =
    let test : Task → Bool = λ t. eqb t.number y.number in
    let other = neither (eqb y.number x.number) (any (λ t. eqb t.number x.number) l) k in
    let free : any test l ≡ false = not-true (any test l) (both_left (not (any test l)) (used_once l) h) in
    let apart : eqb x.number y.number ≡ false = ne_eqb x.number y.number (λ e. eqb-false y.number x.number other.0 (sym e)) in
    let none : any test (l ++ x ∷ []) ≡ false = any_append test l (x ∷ []) ∙ (ap (λ (b : Bool). b || (test x || false)) free ∙ ap (λ (b : Bool). b || false) apart) in
    both (not (any test (l ++ x ∷ []))) (used_once (l ++ x ∷ [])) (ap not none)
    (once_more l x (both_right (not (any test l)) (used_once l) h) other.1)

pub used_before_lem : (l : List Task) (x : Task) (xs : List Task) → used_once (l ++ x ∷ xs) ≡ true → used x.number l ≡ false
unfolding used_once used
used_before_lem [] x xs h = refl
used_before_lem (y ∷ l) x xs h =
    let test : Task → Bool = λ t. eqb t.number y.number in
    let behind = l ++ x ∷ xs in
    let free : any test behind ≡ false = not-true (any test behind) (both_left (not (any test behind)) (used_once behind) h) in
    let here = neither (any test l) (test x || any test xs) (sym (any_append test l (x ∷ xs)) ∙ free) in
    let apart : eqb y.number x.number ≡ false =
    ne_eqb y.number x.number (λ e. eqb-false x.number y.number (neither (test x) (any test xs) here.1).0 (sym e)) in
    ap (λ (b : Bool). b || any (λ t. eqb t.number x.number) l) apart ∙ used_before_lem l x xs (both_right (not (any test behind)) (used_once behind) h)

abbrev pub ListedTasks : List Task → Type 0
ListedTasks = Listed task_in_range task_before loaded_task 64

abbrev pub ListedSems : List Sem → Type 0
ListedSems = Listed sem_in_range sem_before loaded_sem 16

-- the table so far
pub record Growing (t : Table) : Type 0 where
  pub tasks : ListedTasks t.tasks
  pub numbers : used_once t.tasks ≡ true
  pub sems : ListedSems t.sems
  pub figures : board_in_range t.board ≡ true
  pub absent : t.present ≡ false → t.board ≡ built_in

pub growing_start : Growing fresh_table
unfolding fresh_table ordered used_once
growing_start =
    record {
      tasks = record { few = omega arith; ranges = refl; order = refl; same = refl };
      numbers = refl;
      sems = record { few = omega arith; ranges = refl; order = refl; same = refl };
      figures = built_in_range;
      absent = λ h. refl;
    }

none_there : (n : ℕ) → ltb 0 n ≡ false → n ≡ 0
none_there n h = let none = ltb-false 0 n h in omega arith

-- what a task that is not refused has passed: no semaphore was there yet, it stands after the last task, and its number is new
module _ {erased : Bool} (t : Table) where
  pub task_passed : (x : Task) → Passed erased t (Ok (TaskRecord x))
      → (length t.sems ≡ 0) × (follows task_before t.tasks x ≡ true) × (used x.number t.tasks ≡ false) × (length t.tasks < 64)
  unfolding order_broken number_twice too_many
  task_passed x p =
      let parts = neither (ltb 0 (length t.sems)) (not (follows task_before t.tasks x)) p.in_order in (
        none_there (length t.sems) parts.0,
        not-false (follows task_before t.tasks x) parts.1,
        p.new,
        leb-false 64 (length t.tasks) p.room,
      )

  pub sem_passed : (x : Sem) → Passed erased t (Ok (SemRecord x)) → (follows sem_before t.sems x ≡ true) × (length t.sems < 16)
  unfolding order_broken too_many
  sem_passed x p = (not-false (follows sem_before t.sems x) p.in_order, leb-false 16 (length t.sems) p.room)

  -- a board record that is not refused is the first record
  pub board_passed : (b : Board) → Passed erased t (Ok (BoardRecord b)) → (t.present ≡ false) × (length t.tasks ≡ 0) × (length t.sems ≡ 0)
  unfolding order_broken
  board_passed b p =
      let two = neither (t.present || ltb 0 (length t.tasks)) (ltb 0 (length t.sems)) p.in_order in
      let one = neither t.present (ltb 0 (length t.tasks)) two.0 in
      (one.0, none_there (length t.tasks) one.1, none_there (length t.sems) two.1)

-- a record that is not refused keeps the table well formed so far
pub grow : (t : Table) {erased : Bool} {r : List ℕ} {d : Result Record Refusal} → Growing t → Said r d → Passed erased t d → Growing (taken t d)
unfolding taken add_task add_sem add_board
grow t g (erased h) p = g
grow t g (task {t = x} same range idle) p =
    let passes = task_passed t x p in
    record {
      tasks =
          listed_more task_in_range task_before loaded_task 64 t.tasks x g.tasks
          (record { room = passes.3; range = range; after = passes.1; idle = idle });
      numbers = once_more t.tasks x g.numbers passes.2;
      sems = g.sems;
      figures = g.figures;
      absent = g.absent;
    }
grow t g (board {b = b} same range) p =
    record {
      tasks = g.tasks;
      numbers = g.numbers;
      sems = g.sems;
      figures = range;
      absent = λ h. let z : ◌≡◌ {A = ℕ} 0 1 = cc in absurd (omega arith);
    }
grow t g (sem {s = x} same range idle) p =
    let passes = sem_passed t x p in
    record {
      tasks = g.tasks;
      numbers = g.numbers;
      sems =
          listed_more sem_in_range sem_before loaded_sem 16 t.sems x g.sems
          (record { room = passes.1; range = range; after = passes.0; idle = idle });
      figures = g.figures;
      absent = g.absent;
    }
grow t g unknown p = g
grow t g bad p = g

-- a table so far that has a task is well formed, and as it is after loading; and back
pub growing_well : (t : Table) → Growing t → 1 ≤ length t.tasks → WellFormedTable t
growing_well t g h =
    record {
      some = h;
      tasks_fit = g.tasks.few;
      sems_fit = g.sems.few;
      task_ranges = g.tasks.ranges;
      task_order = g.tasks.order;
      task_numbers = g.numbers;
      sem_ranges = g.sems.ranges;
      sem_order = g.sems.order;
      figures = g.figures;
      absent = g.absent;
    }

pub growing_loaded : (t : Table) → Growing t → loaded_table t ≡ t
unfolding loaded_table
growing_loaded t g = same_table (loaded_table t) t g.tasks.same g.sems.same refl refl

pub well_growing : (t : Table) → WellFormedTable t → loaded_table t ≡ t → Growing t
unfolding loaded_table
well_growing t w l =
    record {
      tasks = record { few = w.tasks_fit; ranges = w.task_ranges; order = w.task_order; same = ap (λ (u : Table). u.tasks) l };
      numbers = w.task_numbers;
      sems = record { few = w.sems_fit; ranges = w.sem_ranges; order = w.sem_order; same = ap (λ (u : Table). u.sems) l };
      figures = w.figures;
      absent = w.absent;
    }
