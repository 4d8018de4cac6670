-- The sentences of 02, b), shown: each statement of specs/Lists.antt under its name in lower case.
-- Assumes nothing.
use Prim.Native.Nat.{ℕ, suc, ◌+◌, ◌-◌, ◌*◌, ◌/◌, ◌%◌, ◌≤◌, ◌<◌}
use mathlib.Core.Path.{◌≡◌, refl, sym, ap, subst, ◌∙◌}
use mathlib.Core.Logic.{◌↔◌, ◌≢◌, ◌⊎◌, inl, inr}
use mathlib.Core.Bool.{Bool, true, false, cond, not, ◌&&◌, ◌||◌}
use mathlib.Core.List.{List, [], ◌∷◌, ◌++◌, map}
use native.Mathlib.Nat.{zero-add, not-suc-le-zero}
use native.Mathlib.Numerals.{add-one}
use native.Mathlib.Omega.{arith}
use lib.Dec.{eqb, leb}
use lib.ListN.{length, get_or}
use borrow.Author.Tests.{eqb-true, eqb-false, eq-eqb, ne_eqb, leb-true, leb-false, le-leb, not-true, not-false}
use Rattle.fields.specs.Fields.{put_at, Bytes}
use Rattle.fields.specs.Parts.{flat}
use Rattle.fields.proofs.PartLaws.{nothing, length_parts, parts_bytes}
use Rattle.table.specs.declared.Task.{Task}
use Rattle.table.specs.Entries.{blank_task, loaded_task, loaded_sem}
use Rattle.table.specs.Sums.{any}
use Rattle.table.specs.WellFormed.{within, task_before}
use Rattle.table.proofs.OrderLaws.{not_so}
use Rattle.table.proofs.RefusalLaws.{answered_refused}
use Rattle.table.proofs.SumLaws.{both_left, both_right, either_right, none_any, every_at}
use Rattle.waits.specs.Waits.{task_at}
use Rattle.executive.specs.declared.state.State.{State}
use Rattle.executive.specs.Reading.{Reading}
use Rattle.executive.specs.States.{tasks_of, sems_of}
use Rattle.executive.specs.Sound.{Sound}
use Rattle.executive.specs.Reading.{accepted_load}
use Rattle.executive.specs.Tables.{loaded_table, state_of, table_of}
use Rattle.executive.proofs.LookupLaws.{tasks_count, sems_count}
use Rattle.executive.proofs.TableLaws.{same_table, state_tasks, as_loaded_lem, state_sound}
use Rattle.linux.specs.declared.read.Attr.{Attr}
use Rattle.linux.specs.Attrs.{attr_in, ticks_up, ticks_down, period_of, period_ticks, cost_ticks, bad_size, other_policy, bad_times, attr_refusal, task_of}
use Rattle.linux.specs.Lists.{inserted, list_table, read_from, records_of, read_records, read_of}
use Rattle.linux.specs.Writing.{encode_attr, outside_dp1, no_list, list_number, list_written}
use Rattle.linux.proofs.AttrLaws.{up_least, down_most, raw_back, raw_times, task_raw}
use Rattle.linux.proofs.InsertLaws.{length_inserted}
use Rattle.linux.proofs.ListLaws.{lower, Growing, growing_start, Passed, passed, Times, times_of, read_odd, read_whole}
use Rattle.linux.proofs.ListTrips as Trips
use Rattle.linux.proofs.WriteLaws.{list_done, fits_list}
use Rattle.theorems.specs.Lists
use Rattle.theorems.specs.Lists.{
  size_in,
  policy_in,
  flags_in,
  nice_in,
  priority_in,
  runtime_in,
  deadline_in,
  period_in,
  RoundsUp,
  RoundsDown,
  UnequalTimes,
  OutsideRanges,
  attr_conditions,
  ListGiven,
  IsListed,
  ListedTable,
  rounded,
}
use Rattle.theorems.specs.When.{FirstThat}
use Rattle.theorems.proofs.Exactly.{some_says}
use Rattle.theorems.proofs.FirstLaws.{nothing_more, test_says, first_that, either}
use Rattle.theorems.proofs.ReadingWhen.{Comes-with, same_load, end_when, step_when}
use Rattle.theorems.proofs.Shown.{comes_sound}

-- a value is not the one that is wanted
other_says : (value wanted : ℕ) → (not (eqb value wanted) ≡ true) ↔ (value ≢ wanted)
other_says value wanted = (λ h. eqb-false value wanted (not-true (eqb value wanted) h), λ h. ap not (ne_eqb value wanted h))

-- 41, in 02's words
policy_says : (r : List ℕ) → (other_policy (attr_in r) ≡ true) ↔ ((policy_in r ≢ 6) ⊎ ((flags_in r ≢ 0) ⊎ ((nice_in r ≢ 0) ⊎ (priority_in r ≢ 0))))
unfolding other_policy attr_in
policy_says r =
    let p = not (eqb (policy_in r) 6) in
    let f = not (eqb (flags_in r) 0) in
    let n = not (eqb (nice_in r) 0) in
    let last = either (p || f || n) (not (eqb (priority_in r) 0)) in
    let third = either (p || f) n in
    let second = either p f in (
      λ h. elim (last.0 h) [
        | inl pfn ↦ elim (third.0 pfn) [
          | inl pf ↦ elim (second.0 pf) [ inl a ↦ inl ((other_says (policy_in r) 6).0 a) | inr b ↦ inr (inl ((other_says (flags_in r) 0).0 b)) ]
          | inr c ↦ inr (inr (inl ((other_says (nice_in r) 0).0 c)))
        ]
        | inr d ↦ inr (inr (inr ((other_says (priority_in r) 0).0 d)))
      ],
      λ w. elim w [
        | inl a ↦ last.1 (inl (third.1 (inl (second.1 (inl ((other_says (policy_in r) 6).1 a))))))
        | inr v ↦ elim v [
          | inl b ↦ last.1 (inl (third.1 (inl (second.1 (inr ((other_says (flags_in r) 0).1 b))))))
          | inr u ↦ elim u [
            | inl c ↦ last.1 (inl (third.1 (inr ((other_says (nice_in r) 0).1 c))))
            | inr d ↦ last.1 (inr ((other_says (priority_in r) 0).1 d))
          ]
        ]
      ],
    )

-- 42, its first half: where the times are not unequal, the period that is meant is the deadline
unequal_says : (r : List ℕ) → (not (eqb (period_of (attr_in r)) (deadline_in r)) ≡ true) ↔ UnequalTimes r
unfolding period_of attr_in
unequal_says r = go (eqb (period_in r) 0) refl
  where
    go : (b : Bool) → eqb (period_in r) 0 ≡ b → (not (eqb (cond b (deadline_in r) (period_in r)) (deadline_in r)) ≡ true) ↔ UnequalTimes r
    go true e = (
      λ h. absurd ((other_says (deadline_in r) (deadline_in r)).0 h refl),
      λ w. absurd (w.0 (eqb-true (period_in r) 0 e)),
    )
    go false e = (
      λ h. (eqb-false (period_in r) 0 e, (other_says (period_in r) (deadline_in r)).0 h),
      λ w. (other_says (period_in r) (deadline_in r)).1 w.1,
    )

-- and its second: what lies outside the ranges
outside : ℕ → ℕ → Bool
outside period cost = not (within 1000 period 100000000 && within 1 cost period)

outside_says : (period cost : ℕ) → (outside period cost ≡ true) ↔ ((period < 1000) ⊎ ((100000000 < period) ⊎ ((cost < 1) ⊎ (period < cost))))
unfolding outside within
outside_says period cost = (there (leb 1000 period) (leb period 100000000) (leb 1 cost) (leb cost period) refl refl refl refl, back)
  where
    there : (a b c d : Bool) → leb 1000 period ≡ a → leb period 100000000 ≡ b → leb 1 cost ≡ c → leb cost period ≡ d
        → not ((a && b) && (c && d)) ≡ true → (period < 1000) ⊎ ((100000000 < period) ⊎ ((cost < 1) ⊎ (period < cost)))
    there false b c d ea eb ec ed h = inl (leb-false 1000 period ea)
    there true false c d ea eb ec ed h = inr (inl (leb-false period 100000000 eb))
    there true true false d ea eb ec ed h = inr (inr (inl (leb-false 1 cost ec)))
    there true true true false ea eb ec ed h = inr (inr (inr (leb-false cost period ed)))
    there true true true true ea eb ec ed h = let z : ◌≡◌ {A = ℕ} 0 1 = cc in absurd (omega arith)

    back : (period < 1000) ⊎ ((100000000 < period) ⊎ ((cost < 1) ⊎ (period < cost)))
        → not ((leb 1000 period && leb period 100000000) && (leb 1 cost && leb cost period)) ≡ true
    back w =
        ap not
        (not_so ((leb 1000 period && leb period 100000000) && (leb 1 cost && leb cost period))
        (λ h.
        let p = both_left (leb 1000 period && leb period 100000000) (leb 1 cost && leb cost period) h in
        let c = both_right (leb 1000 period && leb period 100000000) (leb 1 cost && leb cost period) h in
        let p1 = leb-true 1000 period (both_left (leb 1000 period) (leb period 100000000) p) in
        let p2 = leb-true period 100000000 (both_right (leb 1000 period) (leb period 100000000) p) in
        let c1 = leb-true 1 cost (both_left (leb 1 cost) (leb cost period) c) in
        let c2 = leb-true cost period (both_right (leb 1 cost) (leb cost period) c) in
        elim w [ inl a ↦ omega arith | inr v ↦ elim v [ inl b ↦ omega arith | inr u ↦ elim u [ inl d ↦ omega arith | inr e ↦ omega arith ] ] ]))

-- rounding has one answer
up_one : (ns ticks : ℕ) → RoundsUp ns ticks → ticks ≡ ticks_up ns
up_one ns ticks h =
    let g = up_least ns in
    let a = g.0 in
    let b = g.1 in
    let c = h.0 in
    let d = h.1 in
    omega arith

down_one : (ns ticks : ℕ) → RoundsDown ns ticks → ticks ≡ ticks_down ns
down_one ns ticks h =
    let g = down_most ns in
    let a = g.0 in
    let b = g.1 in
    let c = h.0 in
    let d = h.1 in
    omega arith

times_says : (r : List ℕ) → (bad_times (attr_in r) ≡ true) ↔ (UnequalTimes r ⊎ OutsideRanges r)
unfolding bad_times outside period_ticks cost_ticks attr_in
times_says r = go (not (eqb (period_of a) (deadline_in r))) refl
  where
    a : Attr
    a = attr_in r

    first : Bool
    first = not (eqb (period_of a) (deadline_in r))

    second : Bool
    second = outside (period_ticks a) (cost_ticks a)

    ranges : period_of a ≡ deadline_in r → (second ≡ true) ↔ OutsideRanges r
    ranges e = (
      λ h period cost p c.
          (outside_says period cost).0
          (ap (λ (k : ℕ). outside k cost) (down_one (deadline_in r) period p ∙ ap ticks_down (sym e))
          ∙ (ap (outside (period_ticks a)) (up_one (runtime_in r) cost c) ∙ h)),
      λ w. (outside_says (period_ticks a) (cost_ticks a)).1
          (w (period_ticks a) (cost_ticks a) (subst (λ (k : ℕ). RoundsDown k (period_ticks a)) e (down_most (period_of a))) (up_least (runtime_in r))),
    )

    go : (b : Bool) → first ≡ b → ((first || second) ≡ true) ↔ (UnequalTimes r ⊎ OutsideRanges r)
    go true e = (λ h. inl ((unequal_says r).0 e), λ w. ap (λ (b : Bool). b || second) e)
    go false e =
        let same = ranges (eqb-true (period_of a) (deadline_in r) (not-false (eqb (period_of a) (deadline_in r)) e)) in (
          λ h. inr (same.0 (ap (λ (b : Bool). b || second) (sym e) ∙ h)),
          λ w. elim w [
            | inl u ↦ let t = (unequal_says r).1 u in let z : ◌≡◌ {A = ℕ} 0 1 = cc in absurd (omega arith)
            | inr o ↦ either_right first second (same.1 o)
          ],
        )

-- a record, in the order 40, 41, 42, 6
attr_when : (at : ℕ) (r : List ℕ) (k : ℕ) → (attr_refusal at (attr_in r) ≡ k) ↔ FirstThat (attr_conditions at r) k
unfolding attr_refusal bad_size attr_in
attr_when at r k =
    first_that
    (test_says (other_says (size_in r) 48)
    (λ b. test_says (policy_says r) (λ c. test_says (times_says r) (λ d. test_says (leb-true 64 at, le-leb 64 at) (λ e. nothing_more))))) k

-- the records from the front
given_when : (rs : List (List ℕ)) (tasks : List Task) (at : ℕ) → Growing tasks → at ≡ length tasks → (k place : ℕ)
    → Comes-with (read_from tasks at rs) k place ↔ ListGiven at rs k place
unfolding read_from state_of list_table
given_when [] tasks at g e k place =
    subst
    (λ (n : ℕ). Comes-with (read_from tasks at []) k place ↔ (((n ≡ 0) × (k ≡ 7) × (place ≡ at)) ⊎ ((n ≢ 0) × (k ≡ 0) × (place ≡ 0))))
    (sym e) (end_when (state_of (list_table tasks)) at k place)
given_when (r ∷ rest) tasks at g e k place =
    let a = attr_in r in
    let after = inserted task_before (task_of at a) tasks in
    step_when (attr_refusal (length tasks) a) at (attr_conditions at r) (read_from after (suc at) rest) (ListGiven (suc at) rest k place) k place
    (subst (λ (n : ℕ). (j : ℕ) → (attr_refusal n a ≡ j) ↔ FirstThat (attr_conditions at r) j) e (attr_when at r))
    (λ none. let more = length_inserted task_before (task_of at a) tasks in
    given_when rest after (suc at) (Trips.grown tasks at a g e (passed (length tasks) a none)) (omega arith) k place)

pub list_when : Lists.ListWhen
unfolding read_records
list_when list k place = go (eqb (length list % 48) 0) refl
  where
    go : (b : Bool) → eqb (length list % 48) 0 ≡ b
        → Comes-with (read_of list) k place
        ↔ (((length list % 48 ≢ 0) × (k ≡ 40) × (place ≡ 0)) ⊎ ((length list % 48 ≡ 0) × ListGiven 0 (records_of list) k place))
    go true e =
        let whole = eqb-true (length list % 48) 0 e in
        let l = read_whole list whole in
        let rest = given_when (records_of list) [] 0 growing_start refl k place in (
          λ h. inr (whole, rest.0 (same_load l h)),
          λ w. elim w [ inl v ↦ absurd (v.0 whole) | inr v ↦ same_load (sym l) (rest.1 v.1) ],
        )
    go false e =
        let odd = eqb-false (length list % 48) 0 e in
        let l = read_odd list odd in (
          λ h. let g = same_load l h in inl (odd, sym g.0, sym g.1),
          λ w. elim w [ inl v ↦ same_load (sym l) (sym v.1, sym v.2) | inr v ↦ absurd (odd v.0) ],
        )

-- 43, in 02's words
unfit_says : (s : State) → Sound s → (bytes : ℕ)
    → (no_list s bytes ≡ true) ↔ (((i : ℕ) × (i < s.n) × ((task_at (tasks_of s) i).queue ≢ 1)) ⊎ (bytes ≢ 48 * s.n))
unfolding no_list outside_dp1 task_at
unfit_says s sound bytes =
    let n = tasks_count s sound.sized in
    let some = some_says outside_dp1 (λ t. t.queue ≢ 1) (λ t. other_says t.queue 1) blank_task (tasks_of s) in
    let e = either (any outside_dp1 (tasks_of s)) (not (eqb bytes (48 * length (tasks_of s)))) in
    let o = other_says bytes (48 * length (tasks_of s)) in (
      λ t. elim (e.0 t) [
        | inl q ↦ let w = some.0 q in let less = w.1 in inl (w.0, omega arith, w.2)
        | inr l ↦ inr (λ z. o.0 l (z ∙ omega arith))
      ],
      λ w. e.1
          (elim w [
            | inl q ↦ let less = q.1 in inl (some.1 (q.0, omega arith, q.2))
            | inr l ↦ inr (o.1 (λ z. l (z ∙ omega arith)))
          ]),
    )

pub list_write_when : Lists.ListWriteWhen
unfolding list_number
list_write_when s h bytes k =
    first_that
    (test_says (eqb-true s.n 0, eq-eqb s.n 0) (λ some. test_says (unfit_says s (comes_sound s h) bytes) (λ fits. nothing_more))) k

pub refused_list : Lists.RefusedList
refused_list = Trips.refused_empty

pub refused_list_write : Lists.RefusedListWrite
unfolding list_written
refused_list_write s buffer h = answered_refused (list_number s (length buffer)) (λ number. buffer) _ h

-- the task of a record whose times are right
listed_so : (place : ℕ) (r : List ℕ) (t : Task) → Times (attr_in r) → t ≡ task_of place (attr_in r) → IsListed place r t
unfolding task_of cost_ticks period_ticks attr_in
listed_so place r t times e =
    subst (IsListed place r) (sym e)
    (record {
      number = sym (add-one place);
      queue = refl;
      cost = up_least (runtime_in r);
      period = subst (λ (k : ℕ). RoundsDown k (period_ticks (attr_in r))) times.equal (down_most (period_of (attr_in r)));
      due = refl;
      deadline = refl;
      status = refl;
    })

pub list_table_lem : Lists.ListTable
unfolding state_of list_table task_at
list_table_lem list h = subst (ListedTable list) (sym (ap (λ (l : Reading). l.state) e.same)) made
  where
    e : Trips.Ended [] 0 (records_of list) (read_of list)
    e = Trips.read_ended list h

    s : State
    s = state_of (list_table e.all)

    all : tasks_of s ≡ e.all
    all = state_tasks (list_table e.all)

    count : s.n ≡ length (records_of list)
    count = e.count ∙ zero-add (length (records_of list))

    record_at : ℕ → List ℕ
    record_at place = get_or (records_of list) place []

    is : (place : ℕ) → place < length (records_of list) → (t : Task) → t ≡ task_of (0 + place) (attr_in (record_at place)) → IsListed place (record_at place) t
    is place less t same =
        listed_so place (record_at place) t (times_of (attr_in (record_at place)) (e.each place less).times)
        (same ∙ ap (λ (k : ℕ). task_of k (attr_in (record_at place))) (zero-add place))

    made : ListedTable list s
    made =
        record {
          well_formed = (state_sound (list_table e.all) (Trips.growing_well e.all e.growing e.some) (Trips.growing_loaded e.all e.growing)).table e.some;
          count = count;
          has = λ place less.
              let w = e.has place (omega (arith, count)) in
              let inside = w.1 in
              (w.0, omega arith, is place (omega (arith, count)) _ (ap (λ (l : List Task). get_or l w.0 blank_task) all ∙ w.2));
          no_other = λ i less.
              elim (e.from (get_or e.all i blank_task) (i, less, refl)) [
                | inl none ↦ absurd (not-suc-le-zero none.1)
                | inr w ↦ let inside = w.1 in
                    (w.0, omega (arith, count), is w.0 w.1 _ (ap (λ (l : List Task). get_or l i blank_task) all ∙ w.2))
              ];
          no_sems = refl;
          no_board = refl;
        }

-- a table whose numbers are 1 to n in order, with neither semaphores nor a board record, as it is after loading
plain_table : (s : State) → Sound s → 1 ≤ s.n → s.m ≡ 0 → s.present ≡ false → loaded_table (table_of s) ≡ list_table (map loaded_task (tasks_of s))
unfolding loaded_table table_of list_table
plain_table s sound some none absent =
    let sems = nothing (sems_of s) (sems_count s sound.sized ∙ none) in
    same_table (loaded_table (table_of s)) (list_table (map loaded_task (tasks_of s))) refl (ap (map loaded_sem) sems) ((sound.table some).absent absent) absent

pub read_after_write : Lists.ReadAfterWrite
unfolding task_at outside_dp1
read_after_write s h some queues numbers none absent buffer long =
    let sound = comes_sound s h in
    let n = tasks_count s sound.sized in
    let tasks = tasks_of s in
    let well = sound.table some in
    let inside : any outside_dp1 tasks ≡ false = none_any outside_dp1 tasks blank_task (λ i k. ap not (eq-eqb (get_or tasks i blank_task).queue 1 (queues i (omega arith)))) in
    let done = list_done s buffer (λ e. omega arith) (fits_list s (length buffer) inside (long ∙ omega arith)) in (
      done.0,
      ap read_of done.1
          ∙ (Trips.read_flat tasks (omega (arith, sound.sized.tasks_fit)) (omega arith) well.task_ranges (λ i k. queues i (omega arith)) well.task_order
          (λ i k. numbers i (omega arith) ∙ add-one i)
          ∙ ap accepted_load (ap state_of (sym (plain_table s sound some none absent)) ∙ sym (as_loaded_lem s sound))),
    )

-- one encoding of entries and another that agrees with it
flat_same : {A : Type 0} (f g : A → List ℕ) (d : A) (l : List A) → ((i : ℕ) → i < length l → f (get_or l i d) ≡ g (get_or l i d)) → flat f l ≡ flat g l
unfolding flat
flat_same f g d [] h = refl
flat_same f g d (x ∷ xs) h =
    ap (λ (m : List ℕ). m ++ flat f xs) (h 0 (omega arith)) ∙ ap (λ (m : List ℕ). g x ++ m) (flat_same f g d xs (λ i k. h (suc i) (omega arith)))

-- a record that is not refused, written again: it, with its times rounded
record_again : (place : ℕ) (r : List ℕ) → length r ≡ 48 → Bytes r → Passed place (attr_in r)
    → encode_attr (task_of place (attr_in r)) ≡ rounded r (task_of place (attr_in r)).cost (task_of place (attr_in r)).period
unfolding task_of
record_again place r long bytes p =
    let a = attr_in r in
    let cost = cost_ticks a * 10 in
    let period = period_ticks a * 10 in
    task_raw place a p.size p.policy
    ∙ (sym (raw_times a cost period period) ∙ ap (λ (m : List ℕ). put_at 8 (put_at 8 (put_at 8 m 24 cost) 32 period) 40 period) (raw_back r long bytes))

number_less : (place : ℕ) (a : Attr) → place ≡ (task_of place a).number - 1
unfolding task_of
number_less place a = omega arith

in_first : (tasks : List Task) → Growing tasks → (i : ℕ) → i < length tasks → (get_or tasks i blank_task).queue ≡ 1
unfolding lower
in_first tasks g i h =
    let t = get_or tasks i blank_task in
    eqb-true t.queue 1 (both_left (eqb t.queue 1) (leb t.number (length tasks)) (every_at (lower (length tasks)) tasks g.lows i h blank_task))

pub write_after_read : Lists.WriteAfterRead
unfolding state_of list_table outside_dp1
write_after_read list bytes h buffer long =
    subst
    (λ (u : State). (list_number u (length buffer) ≡ 0)
    × (list_written u buffer ≡ flat (λ t. rounded (get_or (records_of list) (t.number - 1) []) t.cost t.period) (tasks_of u)))
    (sym (ap (λ (l : Reading). l.state) e.same)) made
  where
    e : Trips.Ended [] 0 (records_of list) (read_of list)
    e = Trips.read_ended list h

    s : State
    s = state_of (list_table e.all)

    all : tasks_of s ≡ e.all
    all = state_tasks (list_table e.all)

    whole : length list ≡ 48 * (length list / 48)
    whole = let even = Trips.accepted_length list h in omega arith

    count : length e.all ≡ length list / 48
    count = e.count ∙ (zero-add (length (records_of list)) ∙ length_parts 48 (length list / 48) list)

    again : Task → List ℕ
    again t = rounded (get_or (records_of list) (t.number - 1) []) t.cost t.period

    -- the record of a task's number
    same : (i : ℕ) → i < length e.all → encode_attr (get_or e.all i blank_task) ≡ again (get_or e.all i blank_task)
    same i less =
        elim (e.from (get_or e.all i blank_task) (i, less, refl)) [
          | inl none ↦ absurd (not-suc-le-zero none.1)
          | inr w ↦ at_place w.0 w.1 (get_or e.all i blank_task) w.2
        ]
      where
        at_place : (place : ℕ) → place < length (records_of list) → (t : Task) → t ≡ task_of (0 + place) (attr_in (get_or (records_of list) place []))
            → encode_attr t ≡ again t
        at_place place inside t so =
            let r = get_or (records_of list) place [] in
            let t0 = task_of place (attr_in r) in
            let task : t ≡ t0 = so ∙ ap (λ (k : ℕ). task_of k (attr_in r)) (zero-add place) in
            let parts = parts_bytes 48 (length list / 48) list whole bytes place (omega (arith, length_parts 48 (length list / 48) list)) in
            let p = subst (λ (k : ℕ). Passed k (attr_in r)) (zero-add place) (e.each place inside) in
            let there : place ≡ t0.number - 1 = number_less place (attr_in r) in
            ap encode_attr task
            ∙ (record_again place r parts.0 parts.1 p
            ∙ (ap (λ (k : ℕ). rounded (get_or (records_of list) k []) t0.cost t0.period) there ∙ ap again (sym task)))

    made : (list_number s (length buffer) ≡ 0)
        × (list_written s buffer ≡ flat again (tasks_of s))
    made =
        let queues : any outside_dp1 (tasks_of s) ≡ false =
        ap (any outside_dp1) all ∙ none_any outside_dp1 e.all blank_task (λ i k. ap not (eq-eqb (get_or e.all i blank_task).queue 1 (in_first e.all e.growing i k))) in
        let some = e.some in
        let n = ap length all in
        let done = list_done s buffer (λ z. omega arith) (fits_list s (length buffer) queues (omega (arith, long, whole, count))) in
        (done.0, done.1 ∙ (ap (flat encode_attr) all ∙ (flat_same encode_attr again blank_task e.all same ∙ ap (flat again) (sym all))))
