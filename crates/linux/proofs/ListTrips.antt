-- What a list that is accepted makes of its records, and both trips of lists: the theorems of this crate, over the definitions that the contracts of
-- `read` and `write` cite.
--     read_ended                        an accepted list: its tasks are well formed, and are exactly those of its records
--     read_sound                        the state that reading hands back is sound
--     refused_empty                     a refused list hands back the empty state
--     read_place                        a place is at most 64
--     read_flat                         reading the records of tasks in DP1 that are numbered from 1 gives those tasks back
-- Assumes nothing.
use Prim.Native.Nat.{ℕ, zero, suc, ◌+◌, ◌/◌, ◌%◌, ◌≤◌, ◌<◌}
use mathlib.Core.Path.{◌≡◌, refl, sym, ap, subst, ◌∙◌}
use mathlib.Core.Logic.{◌≢◌, ◌⊎◌, inl, inr}
use mathlib.Core.Bool.{Bool, true, false, ◌&&◌, ◌||◌, and-false}
use mathlib.Core.List.{List, [], ◌∷◌, ◌++◌, map, map-append, append_assoc, append-nil}
use native.Mathlib.Nat.{add-zero, le_of_suc-le-suc, not-suc-le-zero}
use native.Mathlib.Omega.{arith}
use lib.Dec.{eqb, leb, ltb}
use lib.ListN.{length, get_or, length-append, length-map}
use borrow.Author.Tests.{eqb-true, eqb-false, leb-true, le-leb, ltb-true, lt-ltb, le-ltb}
use Rattle.fields.specs.Parts.{parts_of, flat}
use Rattle.fields.proofs.PartLaws.{length_flat, parts_flat}
use Rattle.table.specs.declared.Task.{Task}
use Rattle.table.specs.Entries.{blank_task, loaded_task}
use Rattle.table.specs.Sums.{every}
use Rattle.table.specs.WellFormed.{task_in_range, task_before, ordered}
use Rattle.table.proofs.OrderLaws.{task_range, built_in_range, not_so}
use Rattle.table.proofs.SumLaws.{both, both_left, both_right, every_at, every_append, any_map, none_any, every_weaker}
use Rattle.executive.specs.States.{empty_state}
use Rattle.executive.specs.Sound.{Sound}
use Rattle.executive.specs.Reading.{Reading, accepted_load, finished_load}
use Rattle.executive.specs.Tables.{WellFormedTable, loaded_table, state_of}
use Rattle.executive.proofs.ReadingLaws.{finished_some, finished_none, accepted_end}
use Rattle.executive.proofs.TableLaws.{same_table, state_sound, empty_sound}
use Rattle.linux.specs.declared.read.Attr.{Attr}
use Rattle.linux.specs.Attrs.{attr_in, attr_refusal, task_of}
use Rattle.linux.specs.Lists.{inserted, list_table, read_from, records_of, read_records, read_of}
use Rattle.linux.specs.Writing.{encode_attr}
use Rattle.linux.proofs.InsertLaws.{Has, has_new, has_old, has_back, length_inserted, inserted_last}
use Rattle.linux.proofs.PlaceLaws.{again}
use Rattle.linux.proofs.ListLaws.{Growing, growing_start, grow, Passed, passed, read_stop, read_go, read_odd, read_whole}
use Rattle.linux.proofs.AttrLaws.{attr_of, attr_in_lem, attr_passes, attr_task}
use Rattle.linux.proofs.WriteLaws.{length_attr}

-- the table of such tasks is well formed, and as it is after loading
pub growing_well : (tasks : List Task) → Growing tasks → 1 ≤ length tasks → WellFormedTable (list_table tasks)
unfolding list_table ordered
growing_well tasks g some =
    record {
      some = some;
      tasks_fit = g.fits;
      sems_fit = omega arith;
      task_ranges = g.ranges;
      task_order = g.order;
      task_numbers = g.once;
      sem_ranges = refl;
      sem_order = refl;
      figures = built_in_range;
      absent = λ e. refl;
    }

pub growing_loaded : (tasks : List Task) → Growing tasks → loaded_table (list_table tasks) ≡ list_table tasks
unfolding list_table loaded_table
growing_loaded tasks g = same_table (loaded_table (list_table tasks)) (list_table tasks) (same tasks g.plain) refl refl refl
  where
    again_loaded : (l : List Task) → map loaded_task (map again l) ≡ map again l
    again_loaded [] = refl
    again_loaded (t ∷ ts) = ap (λ (m : List Task). again t ∷ m) (again_loaded ts)

    same : (l : List Task) → map again l ≡ l → map loaded_task l ≡ l
    same l e = ap (map loaded_task) (sym e) ∙ (again_loaded l ∙ e)

-- a reading that is accepted from a place on: what its tasks are
pub record Ended (tasks : List Task) (at : ℕ) (rs : List (List ℕ)) (answer : Reading) : Type 0 where
  pub all : List Task
  pub growing : Growing all
  pub count : length all ≡ at + length rs
  pub some : 1 ≤ length all
  pub same : answer ≡ accepted_load (state_of (list_table all))
  -- no record is refused
  pub each : (i : ℕ) → i < length rs → Passed (at + i) (attr_in (get_or rs i []))
  -- the table has the task of each record, and those that were there before, and no other
  pub kept : (t : Task) → Has tasks blank_task t → Has all blank_task t
  pub has : (i : ℕ) → i < length rs → Has all blank_task (task_of (at + i) (attr_in (get_or rs i [])))
  pub from : (t : Task) → Has all blank_task t → Has tasks blank_task t ⊎ ((i : ℕ) × (i < length rs) × (t ≡ task_of (at + i) (attr_in (get_or rs i []))))

-- the tasks behind a record that is not refused
pub grown : (tasks : List Task) (at : ℕ) (a : Attr) → Growing tasks → at ≡ length tasks → Passed (length tasks) a → Growing (inserted task_before (task_of at a) tasks)
grown tasks at a g e p = subst (λ (k : ℕ). Growing (inserted task_before (task_of k a) tasks)) (sym e) (grow tasks g a p)

ended_on : (tasks : List Task) (at : ℕ) (r : List ℕ) (rest : List (List ℕ)) (answer : Reading) → Passed at (attr_in r)
    → Ended (inserted task_before (task_of at (attr_in r)) tasks) (suc at) rest answer → Ended tasks at (r ∷ rest) answer
ended_on tasks at r rest answer p e =
    let x = task_of at (attr_in r) in
    let next : (i : ℕ) → suc at + i ≡ at + suc i = λ i. omega arith in
    record {
      all = e.all;
      growing = e.growing;
      count = e.count ∙ next (length rest);
      some = e.some;
      same = e.same;
      each = λ i h. each i h;
      kept = λ t h. e.kept t (has_old task_before x blank_task tasks t h);
      has = λ i h. has i h;
      from = λ t h. from t (e.from t h);
    }
  where
    each : (i : ℕ) → i < suc (length rest) → Passed (at + i) (attr_in (get_or (r ∷ rest) i []))
    each zero h = subst (λ (k : ℕ). Passed k (attr_in r)) (sym (add-zero at)) p
    each (suc i) h = subst (λ (k : ℕ). Passed k (attr_in (get_or rest i []))) (omega arith) (e.each i (le_of_suc-le-suc h))

    has : (i : ℕ) → i < suc (length rest) → Has e.all blank_task (task_of (at + i) (attr_in (get_or (r ∷ rest) i [])))
    has zero h =
        subst (λ (k : ℕ). Has e.all blank_task (task_of k (attr_in r))) (sym (add-zero at))
        (e.kept (task_of at (attr_in r)) (has_new task_before (task_of at (attr_in r)) blank_task tasks))
    has (suc i) h = subst (λ (k : ℕ). Has e.all blank_task (task_of k (attr_in (get_or rest i [])))) (omega arith) (e.has i (le_of_suc-le-suc h))

    from : (t : Task)
        → Has (inserted task_before (task_of at (attr_in r)) tasks) blank_task t ⊎ ((i : ℕ) × (i < length rest) × (t ≡ task_of (suc at + i) (attr_in (get_or rest i []))))
        → Has tasks blank_task t ⊎ ((i : ℕ) × (i < suc (length rest)) × (t ≡ task_of (at + i) (attr_in (get_or (r ∷ rest) i []))))
    from t (inl h) =
        elim (has_back task_before (task_of at (attr_in r)) blank_task tasks t h) [
          | inl new ↦ inr (0, omega arith, new ∙ ap (λ (k : ℕ). task_of k (attr_in r)) (sym (add-zero at)))
          | inr old ↦ inl old
        ]
    from t (inr w) =
        let less = w.1 in
        inr (suc w.0, omega arith, w.2 ∙ ap (λ (k : ℕ). task_of k (attr_in (get_or rest w.0 []))) (omega arith))

ended_from : (rs : List (List ℕ)) (tasks : List Task) (at : ℕ) → Growing tasks → at ≡ length tasks → (read_from tasks at rs).number ≡ 0
    → Ended tasks at rs (read_from tasks at rs)
unfolding read_from state_of list_table
ended_from [] tasks at g e h =
    let some = accepted_end (state_of (list_table tasks)) at h in
    record {
      all = tasks;
      growing = g;
      count = omega arith;
      some = some;
      same = finished_some (state_of (list_table tasks)) at some;
      each = λ i k. absurd (not-suc-le-zero k);
      kept = λ t k. k;
      has = λ i k. absurd (not-suc-le-zero k);
      from = λ t k. inl k;
    }
ended_from (r ∷ rest) tasks at g e h = go (eqb refusal 0) refl (λ g' more accepted. ended_from rest after (suc at) g' more accepted)
  where
    refusal : ℕ
    refusal = attr_refusal (length tasks) (attr_in r)

    after : List Task
    after = inserted task_before (task_of at (attr_in r)) tasks

    go : (b : Bool) → eqb refusal 0 ≡ b
        → (Growing after → suc at ≡ length after → (read_from after (suc at) rest).number ≡ 0 → Ended after (suc at) rest (read_from after (suc at) rest))
        → Ended tasks at (r ∷ rest) (read_from tasks at (r ∷ rest))
    go true z next =
        let none = eqb-true refusal 0 z in
        let p = passed (length tasks) (attr_in r) none in
        let on = read_go tasks at r rest none in
        let more = length_inserted task_before (task_of at (attr_in r)) tasks in
        subst (Ended tasks at (r ∷ rest)) (sym on)
        (ended_on tasks at r rest _ (subst (λ (k : ℕ). Passed k (attr_in r)) (sym e) p)
        (next (grown tasks at (attr_in r) g e p) (omega arith) (sym (ap (λ (l : Reading). l.number) on) ∙ h)))
    go false z next =
        let some = eqb-false refusal 0 z in
        absurd (some (sym (ap (λ (l : Reading). l.number) (read_stop tasks at r rest some)) ∙ h))

-- the length of an accepted list
pub accepted_length : (list : List ℕ) → (read_of list).number ≡ 0 → length list % 48 ≡ 0
accepted_length list h = go (eqb (length list % 48) 0) refl
  where
    go : (b : Bool) → eqb (length list % 48) 0 ≡ b → length list % 48 ≡ 0
    go true e = eqb-true (length list % 48) 0 e
    go false e =
        let forty : ◌≡◌ {A = ℕ} 40 0 = sym (ap (λ (l : Reading). l.number) (read_odd list (eqb-false (length list % 48) 0 e))) ∙ h in
        absurd (omega arith)

pub read_ended : (list : List ℕ) → (read_of list).number ≡ 0 → Ended [] 0 (records_of list) (read_of list)
unfolding read_records
read_ended list h =
    let same = read_whole list (accepted_length list h) in
    subst (Ended [] 0 (records_of list)) (sym same)
    (ended_from (records_of list) [] 0 growing_start refl (sym (ap (λ (l : Reading). l.number) same) ∙ h))

-- a reading hands back the empty state, or its answer is 0; and its place is at most 64
record Answered (l : Reading) : Type 0 where
  empty : (l.number ≡ 0) ⊎ (l.state ≡ empty_state)
  place : l.place ≤ 64

answered_at : (rs : List (List ℕ)) (tasks : List Task) (at : ℕ) → Growing tasks → at ≡ length tasks → Answered (read_from tasks at rs)
unfolding read_from
answered_at [] tasks at g e = go (eqb (state_of (list_table tasks)).n 0) refl
  where
    go : (b : Bool) → eqb (state_of (list_table tasks)).n 0 ≡ b → Answered (finished_load (state_of (list_table tasks)) at)
    go true z =
        subst Answered (sym (finished_none (state_of (list_table tasks)) at (eqb-true (state_of (list_table tasks)).n 0 z)))
        (record { empty = inr refl; place = omega (arith, g.fits) })
    go false z =
        let some : (state_of (list_table tasks)).n ≡ 0 → ⊥ = eqb-false (state_of (list_table tasks)).n 0 z in
        subst Answered (sym (finished_some (state_of (list_table tasks)) at (omega arith))) (record { empty = inl refl; place = omega arith })
answered_at (r ∷ rest) tasks at g e = go (eqb refusal 0) refl (λ g' more. answered_at rest after (suc at) g' more)
  where
    refusal : ℕ
    refusal = attr_refusal (length tasks) (attr_in r)

    after : List Task
    after = inserted task_before (task_of at (attr_in r)) tasks

    go : (b : Bool) → eqb refusal 0 ≡ b → (Growing after → suc at ≡ length after → Answered (read_from after (suc at) rest)) → Answered (read_from tasks at (r ∷ rest))
    go true z next =
        let none = eqb-true refusal 0 z in
        let more = length_inserted task_before (task_of at (attr_in r)) tasks in
        subst Answered (sym (read_go tasks at r rest none)) (next (grown tasks at (attr_in r) g e (passed (length tasks) (attr_in r) none)) (omega arith))
    go false z next =
        subst Answered (sym (read_stop tasks at r rest (eqb-false refusal 0 z))) (record { empty = inr refl; place = omega (arith, g.fits) })

answered_list : (list : List ℕ) → Answered (read_of list)
unfolding read_records
answered_list list = go (eqb (length list % 48) 0) refl
  where
    go : (b : Bool) → eqb (length list % 48) 0 ≡ b → Answered (read_of list)
    go true e =
        subst Answered (sym (read_whole list (eqb-true (length list % 48) 0 e))) (answered_at (records_of list) [] 0 growing_start refl)
    go false e =
        subst Answered (sym (read_odd list (eqb-false (length list % 48) 0 e))) (record { empty = inr refl; place = omega arith })

pub read_place : (list : List ℕ) → (read_of list).place ≤ 64
read_place list = (answered_list list).place

-- a refused list hands back the empty state
pub refused_empty : (list : List ℕ) → (read_of list).number ≢ 0 → (read_of list).state ≡ empty_state
refused_empty list h = go (answered_list list).empty
  where
    go : ((read_of list).number ≡ 0) ⊎ ((read_of list).state ≡ empty_state) → (read_of list).state ≡ empty_state
    go (inl e) = absurd (h e)
    go (inr e) = e

-- the state that reading hands back is sound
pub read_sound : (list : List ℕ) → Sound (read_of list).state
read_sound list = go (answered_list list).empty
  where
    go : ((read_of list).number ≡ 0) ⊎ ((read_of list).state ≡ empty_state) → Sound (read_of list).state
    go (inl h) =
        let e = read_ended list h in
        subst Sound (sym (ap (λ (l : Reading). l.state) e.same))
        (state_sound (list_table e.all) (growing_well e.all e.growing e.some) (growing_loaded e.all e.growing))
    go (inr h) = subst Sound (sym h) empty_sound

-- numbers that go on from a count, one by one
abbrev pub Counted : ℕ → List Task → Type 0
Counted count [] = Unit
Counted count (t ∷ ts) = (t.number ≡ suc count) × Counted (suc count) ts

pub counted_from : (l : List Task) (count : ℕ) (d : Task) → ((i : ℕ) → i < length l → (get_or l i d).number ≡ suc (count + i)) → Counted count l
counted_from [] count d h = tt
counted_from (t ∷ ts) count d h =
    (h 0 (omega arith) ∙ ap suc (add-zero count), counted_from ts (suc count) d (λ i k. h (suc i) (omega arith) ∙ omega arith))

-- a task that stands no later, by period and number
earlier : Task → Task → Bool
earlier x y = leb y.period x.period && ltb y.number x.number

earlier_not : (x y : Task) → earlier x y ≡ true → task_before x y ≡ false
unfolding earlier task_before
earlier_not x y h =
    let p = leb-true y.period x.period (both_left (leb y.period x.period) (ltb y.number x.number) h) in
    let n = ltb-true y.number x.number (both_right (leb y.period x.period) (ltb y.number x.number) h) in
    not_so (task_before x y) (λ e. clash p n (both_right (leb x.queue y.queue) (ltb x.period y.period || (eqb x.period y.period && ltb x.number y.number)) e))
  where
    clash : y.period ≤ x.period → y.number < x.number → (ltb x.period y.period || (eqb x.period y.period && ltb x.number y.number)) ≡ true → ⊥
    clash p n e =
        let a = le-ltb x.period y.period p in
        let b = le-ltb x.number y.number (omega arith) in
        let z : (ltb x.period y.period || (eqb x.period y.period && ltb x.number y.number)) ≡ false =
        rw (a, b) (and-false (eqb x.period y.period)) in
        let no : ◌≡◌ {A = ℕ} 0 1 = cc in
        omega arith

-- a table's next task has no shorter period
period_rises : (x y : Task) → task_before x y ≡ true → x.period ≤ y.period
unfolding task_before
period_rises x y h =
    go (ltb x.period y.period) refl
    (both_right (leb x.queue y.queue) (ltb x.period y.period || (eqb x.period y.period && ltb x.number y.number)) h)
  where
    go : (b : Bool) → ltb x.period y.period ≡ b → (b || (eqb x.period y.period && ltb x.number y.number)) ≡ true → x.period ≤ y.period
    go true e k = let less = ltb-true x.period y.period e in omega arith
    go false e k =
        let same = eqb-true x.period y.period (both_left (eqb x.period y.period) (ltb x.number y.number) k) in
        omega arith

earlier_on : (x y t : Task) → x.period ≤ y.period → x.number < y.number → earlier x t ≡ true → earlier y t ≡ true
unfolding earlier
earlier_on x y t p n h =
    let a = leb-true t.period x.period (both_left (leb t.period x.period) (ltb t.number x.number) h) in
    let b = ltb-true t.number x.number (both_right (leb t.period x.period) (ltb t.number x.number) h) in
    both (leb t.period y.period) (ltb t.number y.number) (le-leb t.period y.period (omega arith)) (lt-ltb t.number y.number (omega arith))

-- what is asked of the tasks that are left, behind those that were read
abbrev Follows : List Task → List Task → Type 0
Follows done [] = Unit
Follows done (x ∷ rest) = every (earlier x) done ≡ true

follows_on : (done : List Task) (x : Task) (rest : List Task) → ordered task_before (x ∷ rest) ≡ true → Counted (length done) (x ∷ rest)
    → Follows done (x ∷ rest) → Follows (done ++ x ∷ []) rest
unfolding ordered earlier
follows_on done x [] o c f = tt
follows_on done x (y ∷ rest) o c f =
    let p = period_rises x y (both_left (task_before x y) (ordered task_before (y ∷ rest)) o) in
    let a = c.0 in
    let b = c.1.0 in
    let n : x.number < y.number = omega arith in
    every_append (earlier y) done (x ∷ [])
    ∙ both (every (earlier y) done) (every (earlier y) (x ∷ [])) (every_weaker (earlier x) (earlier y) (λ t. earlier_on x y t p n) done f) (self p n)
  where
    self : x.period ≤ y.period → x.number < y.number → every (earlier y) (x ∷ []) ≡ true
    self p n = rw (le-leb x.period y.period p, lt-ltb x.number y.number n)

ordered_rest : (x : Task) (rest : List Task) → ordered task_before (x ∷ rest) ≡ true → ordered task_before rest ≡ true
unfolding ordered
ordered_rest x [] h = refl
ordered_rest x (y ∷ rest) h = both_right (task_before x y) (ordered task_before (y ∷ rest)) h

-- reading the records of such tasks adds each behind those before it
replayed : (rest done : List Task) → length done + length rest ≤ 64 → 1 ≤ length done + length rest → every task_in_range rest ≡ true
    → ((i : ℕ) → i < length rest → (get_or rest i blank_task).queue ≡ 1) → ordered task_before rest ≡ true → Counted (length done) rest → Follows done rest
    → read_from (map loaded_task done) (length done) (map encode_attr rest) ≡ accepted_load (state_of (list_table (map loaded_task (done ++ rest))))
unfolding read_from earlier state_of list_table
replayed [] done fits some ranges queues order counted follows =
    let n = length-map done loaded_task in
    finished_some (state_of (list_table (map loaded_task done))) (length done) (omega arith)
    ∙ ap (λ (l : List Task). accepted_load (state_of (list_table (map loaded_task l)))) (sym (append-nil done))
replayed (x ∷ rest) done fits some ranges queues order counted follows =
    let before = map loaded_task done in
    let n : length before ≡ length done = length-map done loaded_task in
    let r = task_range x (both_left (task_in_range x) (every task_in_range rest) ranges) in
    let attr : attr_in (encode_attr x) ≡ attr_of x = attr_in_lem x r in
    let none : attr_refusal (length before) (attr_in (encode_attr x)) ≡ 0 =
    ap (attr_refusal (length before)) attr ∙ attr_passes x r (length before) (omega arith) in
    let same : task_of (length done) (attr_in (encode_attr x)) ≡ loaded_task x =
    ap (task_of (length done)) attr ∙ attr_task x r (length done) counted.0 (queues 0 (omega arith)) in
    let last : inserted task_before (loaded_task x) before ≡ before ++ loaded_task x ∷ [] =
    inserted_last task_before (loaded_task x) before
    (any_map loaded_task (task_before (loaded_task x)) done
    ∙ none_any (λ y. task_before (loaded_task x) (loaded_task y)) done blank_task
    (λ i h. earlier_not (loaded_task x) (loaded_task (get_or done i blank_task)) (every_at (earlier x) done follows i h blank_task))) in
    let longer : length (done ++ x ∷ []) ≡ suc (length done) = length-append done (x ∷ []) ∙ omega arith in
    let next = replayed rest (done ++ x ∷ []) (omega arith) (omega arith) (both_right (task_in_range x) (every task_in_range rest) ranges)
    (λ i h. queues (suc i) (omega arith)) (ordered_rest x rest order) (subst (λ (k : ℕ). Counted k rest) (sym longer) counted.1)
    (follows_on done x rest order counted follows) in
    read_go before (length done) (encode_attr x) (map encode_attr rest) none
    ∙ (ap (λ (t : Task). read_from (inserted task_before t before) (suc (length done)) (map encode_attr rest)) same
    ∙ (ap (λ (l : List Task). read_from l (suc (length done)) (map encode_attr rest)) (last ∙ sym (map-append loaded_task done (x ∷ [])))
    ∙ (ap (λ (k : ℕ). read_from (map loaded_task (done ++ x ∷ [])) k (map encode_attr rest)) (sym longer)
    ∙ (next ∙ ap (λ (l : List Task). accepted_load (state_of (list_table (map loaded_task l)))) (append_assoc done (x ∷ []) rest)))))

-- the records of a list of tasks, one behind the other, and what reading them gives
pub read_flat : (tasks : List Task) → length tasks ≤ 64 → 1 ≤ length tasks → every task_in_range tasks ≡ true
    → ((i : ℕ) → i < length tasks → (get_or tasks i blank_task).queue ≡ 1) → ordered task_before tasks ≡ true
    → ((i : ℕ) → i < length tasks → (get_or tasks i blank_task).number ≡ suc i)
    → read_of (flat encode_attr tasks) ≡ accepted_load (state_of (list_table (map loaded_task tasks)))
unfolding read_records parts_of
read_flat tasks fits some ranges queues order numbers =
    let list = flat encode_attr tasks in
    let n = length_flat encode_attr 48 length_attr tasks in
    let count : length list / 48 ≡ length tasks + 0 = omega arith in
    let parts : parts_of 48 (length list / 48) list ≡ map encode_attr tasks =
    ap (λ (k : ℕ). parts_of 48 k list) count
    ∙ (ap (parts_of 48 (length tasks + 0)) (sym (append-nil list)) ∙ (parts_flat encode_attr 48 length_attr tasks 0 [] ∙ append-nil (map encode_attr tasks))) in
    read_whole list (omega arith)
    ∙ (ap (read_from [] 0) parts
    ∙ replayed tasks [] (omega arith) (omega arith) ranges queues order
    (counted_from tasks 0 blank_task (λ i h. numbers i h ∙ omega arith)) (nobody tasks))
  where
    nobody : (l : List Task) → Follows [] l
    nobody [] = tt
    nobody (x ∷ rest) = refl
