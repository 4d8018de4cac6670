-- Demand 1, "exactly when", for loading: the number is that of the first condition that holds, of the first record of which one does.
-- Assumes nothing.
use Prim.Native.Nat.{ℕ, suc, ◌/◌, ◌%◌, ◌≤◌, ◌<◌}
use mathlib.Core.Path.{◌≡◌, refl, sym, ap, subst, ◌∙◌}
use mathlib.Core.Logic.{◌↔◌, ◌≢◌, ◌⊎◌, inl, inr}
use mathlib.Core.Bool.{Bool, true, false, not, ◌&&◌, ◌||◌, and-false, or-true}
use mathlib.Core.List.{List, [], ◌∷◌, ◌++◌}
use native.Mathlib.Omega.{arith}
use lib.Dec.{eqb, leb, ltb}
use lib.ListN.{length, get_or, length-append}
use borrow.Author.Tests.{eqb-true, eqb-false, eq-eqb, ne_eqb, leb-true, leb-false, le-leb, lt-leb, ltb-true, ltb-false, lt-ltb, le-ltb, not-true}
use Rattle.table.specs.declared.Board.{Board}
use Rattle.table.specs.declared.Task.{Task}
use Rattle.table.specs.declared.Sem.{Sem}
use Rattle.table.specs.Entries.{blank_task}
use Rattle.table.specs.Refusals.{number_of}
use Rattle.table.proofs.RefusalLaws.{number_apart}
use Rattle.table.specs.WellFormed.{task_before, sem_before, used}
use Rattle.executive.specs.Tables.{Table, add_task, add_sem, add_board, state_of}
use Rattle.table.specs.declared.refusals.Refusal.{Refusal}
use Rattle.table.specs.declared.refusals.Refusal.TheVariants.{UnknownKind, OutOfRange}
use Rattle.records.specs.declared.Record.{Record}
use Rattle.std.specs.Prelude.{Result, Ok, Err}
use Rattle.records.specs.declared.Record.TheVariants.{Erased, Task as TaskRecord, Board as BoardRecord, Sem as SemRecord}
use Rattle.records.specs.Records.{decoded}
use Rattle.records.proofs.RecordLaws.{Plain, plain}
use Rattle.image.specs.Loading.{
  fresh_table,
  taken,
  erased_after,
  used_after,
  refused_as,
  follows,
  order_broken,
  number_twice,
  too_many,
  refusal_of,
  load_from,
  records_in,
  bad_length,
  load_records,
  load_of,
}
use Rattle.image.proofs.LoadLaws.{load_bad, load_good, Passed, passed}
use Rattle.theorems.specs.When.{FirstThat}
use Rattle.theorems.specs.Loads.{IsLast, NotAfter, OrderBroken, NumberTwice, TooMany, record_conditions, Given, BadLength, GivenFor}
use Rattle.theorems.proofs.Exactly.{some_says}
use Rattle.theorems.proofs.FirstLaws.{nothing_more, test_says, first_that, either}
use Rattle.theorems.proofs.ReadingWhen.{Comes-with, same_load, end_when, step_when}

-- each test of a record says what its condition says
used_says : (erased : Bool) (d : Result Record Refusal) → (used_after erased d ≡ true) ↔ ((erased ≡ true) × (d ≢ (Ok Erased)))
unfolding used_after
used_says erased (Ok Erased) = (λ h. let z : ◌≡◌ {A = ℕ} 0 1 = cc in absurd (omega arith), λ w. absurd (w.1 refl))
used_says erased (Ok (TaskRecord x)) = (λ h. (h, λ e. let z : ◌≡◌ {A = ℕ} 0 1 = cc in omega arith), λ w. w.0)
used_says erased (Ok (BoardRecord b)) = (λ h. (h, λ e. let z : ◌≡◌ {A = ℕ} 0 1 = cc in omega arith), λ w. w.0)
used_says erased (Ok (SemRecord x)) = (λ h. (h, λ e. let z : ◌≡◌ {A = ℕ} 0 1 = cc in omega arith), λ w. w.0)
used_says erased (Err why) = (λ h. (h, λ e. let z : ◌≡◌ {A = ℕ} 0 1 = cc in omega arith), λ w. w.0)

refused_says : (why : Refusal) (d : Result Record Refusal) → (refused_as (number_of why) d ≡ true) ↔ (d ≡ Err why)
unfolding refused_as
refused_says why (Ok said) = (λ h. let z : ◌≡◌ {A = ℕ} 0 1 = cc in absurd (omega arith), λ e. let z : ◌≡◌ {A = ℕ} 0 1 = cc in absurd (omega arith))
refused_says why (Err other) = (
  λ h. ap (λ (r : Refusal). Err r) (number_apart other why (eqb-true (number_of other) (number_of why) h)),
  λ e. let same : other ≡ why = cc in eq-eqb (number_of other) (number_of why) (ap number_of same),
)

-- one entry stands after another, or it does not
module _ (y x : Task) where
  task_says : (task_before y x ≡ false) ↔ NotAfter x y
  unfolding task_before
  task_says = (
    there (leb y.queue x.queue) (ltb y.period x.period) (eqb y.period x.period) (ltb y.number x.number) refl refl refl refl,
    λ w. elim w [
      | inl q ↦ simp (lt-leb y.queue x.queue q)
      | inr v ↦ elim v [
        | inl p ↦ simp (le-ltb y.period x.period (omega arith), ne_eqb y.period x.period (λ e. omega arith), and-false)
        | inr n ↦ simp (le-ltb y.period x.period (omega (arith, n.0)), le-ltb y.number x.number (omega (arith, n.1)), and-false)
      ]
    ],
  )
    where
      there : (a b c d : Bool) → leb y.queue x.queue ≡ a → ltb y.period x.period ≡ b → eqb y.period x.period ≡ c → ltb y.number x.number ≡ d
          → (a && (b || (c && d))) ≡ false → NotAfter x y
      there false b c d ea eb ec ed h = inl (leb-false y.queue x.queue ea)
      there true true c d ea eb ec ed h = let z : ◌≡◌ {A = ℕ} 0 1 = cc in absurd (omega arith)
      there true false true true ea eb ec ed h = let z : ◌≡◌ {A = ℕ} 0 1 = cc in absurd (omega arith)
      there true false true false ea eb ec ed h = inr (inr (sym (eqb-true y.period x.period ec), ltb-false y.number x.number ed))
      there true false false d ea eb ec ed h =
          let p = ltb-false y.period x.period eb in
          let q : x.period ≢ y.period = λ e. eqb-false y.period x.period ec (sym e) in
          inr (inl (omega arith))

sem_says : (y x : Sem) → (sem_before y x ≡ false) ↔ (x.number ≤ y.number)
unfolding sem_before
sem_says y x = (ltb-false y.number x.number, le-ltb y.number x.number)

-- an entry may not follow exactly if the last of those before it does not stand before it
module _ {A : Type 0} (before : A → A → Bool) where
  last_more : (others : List A) (y x : A) → follows before (others ++ y ∷ []) x ≡ before y x
  unfolding follows
  last_more [] y x = refl
  last_more (z ∷ []) y x = refl
  last_more (z ∷ w ∷ others) y x = last_more (w ∷ others) y x

  follows_says : (P : A → A → Type 0) → ((y x : A) → (before y x ≡ false) ↔ P x y) → (l : List A) (x : A)
      → (not (follows before l x) ≡ true) ↔ ((y : A) × IsLast l y × P x y)
  unfolding follows
  follows_says P says l x = (there l, λ w. back w.0 w.1.0 w.1.1 w.2)
    where
      there : (l : List A) → not (follows before l x) ≡ true → (y : A) × IsLast l y × P x y
      there [] h = let z : ◌≡◌ {A = ℕ} 0 1 = cc in absurd (omega arith)
      there (y ∷ []) h = (y, ([], refl), (says y x).0 (not-true (before y x) h))
      there (y ∷ z ∷ rest) h = let w = there (z ∷ rest) h in (w.0, (y ∷ w.1.0, ap (λ (m : List A). y ∷ m) w.1.1), w.2)

      back : (y : A) (others : List A) → l ≡ others ++ y ∷ [] → P x y → not (follows before l x) ≡ true
      back y others e p = ap (λ (m : List A). not (follows before m x)) e ∙ ap not (last_more others y x ∙ (says y x).1 p)

-- where a load stands: at place 0 nothing was read, and later something was, or an erased record came before
record Stood (t : Table) (erased : Bool) (at : ℕ) : Type 0 where
  first : at ≡ 0 → (t.present ≡ false) × (length t.tasks ≡ 0) × (length t.sems ≡ 0)
  later : at ≢ 0 → erased ≡ false → (t.present ≡ true) ⊎ ((0 < length t.tasks) ⊎ (0 < length t.sems))

stood_start : Stood fresh_table false 0
unfolding fresh_table
stood_start = record { first = λ h. (refl, refl, refl); later = λ h e. absurd (h refl) }

stood_on : (t : Table) (e : Bool) (at : ℕ) (d : Result Record Refusal) → Plain d → Passed e t d → Stood (taken t d) (erased_after e d) (suc at)
unfolding taken add_task add_sem add_board erased_after refused_as
stood_on t e at (Ok Erased) plain p =
    record { first = λ h. absurd (omega arith); later = λ h e. let z : ◌≡◌ {A = ℕ} 0 1 = cc in absurd (omega arith) }
stood_on t e at (Ok (TaskRecord x)) plain p =
    record { first = λ h. absurd (omega arith); later = λ h e. let n = length-append t.tasks (x ∷ []) in inr (inl (omega arith)) }
stood_on t e at (Ok (BoardRecord b)) plain p = record { first = λ h. absurd (omega arith); later = λ h e. inl refl }
stood_on t e at (Ok (SemRecord x)) plain p =
    record { first = λ h. absurd (omega arith); later = λ h e. let n = length-append t.sems (x ∷ []) in inr (inr (omega arith)) }
stood_on t e at (Err why) plain p =
    elim plain [
      | inl z ↦ absurd (eqb-false (number_of why) 2 p.known (ap number_of z))
      | inr z ↦ absurd (eqb-false (number_of why) 4 p.in_range (ap number_of z))
    ]

-- 5
module _ (t : Table) (at : ℕ) where
  -- what is no entry breaks no order
  unordered : (d : Result Record Refusal) → ((b : Board) → d ≢ Ok (BoardRecord b)) → ((x : Task) → d ≢ Ok (TaskRecord x)) → ((x : Sem) → d ≢ Ok (SemRecord x)) → OrderBroken t at d → ⊥
  unordered d no_board no_task no_sem w =
      elim w [ inl a ↦ no_board a.0 a.1 | inr v ↦ elim v [ inl b ↦ no_task b.0 b.1 | inr c ↦ no_sem c.0 c.1 ] ]

  -- a board record breaks it exactly if it is not the first record
  board_says : (e : Bool) → Stood t e at → e ≡ false → ((t.present || ltb 0 (length t.tasks) || ltb 0 (length t.sems)) ≡ true) ↔ (at ≢ 0)
  board_says e stood clear = (
    λ h z.
        let f = stood.first z in
        let none = f.1 in
        let free = f.2 in
        let no : (t.present || ltb 0 (length t.tasks) || ltb 0 (length t.sems)) ≡ false =
        simp (f.0, le-ltb 0 (length t.tasks) (omega arith), le-ltb 0 (length t.sems) (omega arith)) in
        let z : ◌≡◌ {A = ℕ} 0 1 = cc in
        omega arith,
    λ h. elim (stood.later h clear) [
      | inl p ↦ simp p
      | inr v ↦ elim v [ inl n ↦ simp (lt-ltb 0 (length t.tasks) n, or-true) | inr m ↦ simp (lt-ltb 0 (length t.sems) m, or-true) ]
    ],
  )

  task_order_lem : (x : Task) → ((ltb 0 (length t.sems) || not (follows task_before t.tasks x)) ≡ true)
      ↔ ((0 < length t.sems) ⊎ ((y : Task) × IsLast t.tasks y × NotAfter x y))
  task_order_lem x =
      let e = either (ltb 0 (length t.sems)) (not (follows task_before t.tasks x)) in
      let f = follows_says task_before NotAfter task_says t.tasks x in (
        λ h. elim (e.0 h) [ inl a ↦ inl (ltb-true 0 (length t.sems) a) | inr b ↦ inr (f.0 b) ],
        λ w. e.1 (elim w [ inl a ↦ inl (lt-ltb 0 (length t.sems) a) | inr b ↦ inr (f.1 b) ]),
      )

  order_says : (e : Bool) → Stood t e at → (d : Result Record Refusal) → used_after e d ≡ false → (order_broken t d ≡ true) ↔ OrderBroken t at d
  unfolding order_broken used_after
  order_says e stood (Ok Erased) clear = (
    λ h. let z : ◌≡◌ {A = ℕ} 0 1 = cc in absurd (omega arith),
    λ w. absurd (unordered (Ok Erased) (λ x e. let z : ◌≡◌ {A = ℕ} 0 1 = cc in omega arith) (λ x e. let z : ◌≡◌ {A = ℕ} 0 1 = cc in omega arith) (λ x e. let z : ◌≡◌ {A = ℕ} 0 1 = cc in omega arith) w),
  )
  order_says e stood (Ok (BoardRecord b)) clear =
      let says = board_says e stood clear in (
        λ h. inl (b, refl, says.0 h),
        λ w. elim w [
          | inl a ↦ says.1 a.2
          | inr v ↦ elim v [
            | inl c ↦ let e = c.1 in let z : ◌≡◌ {A = ℕ} 0 1 = cc in absurd (omega arith)
            | inr c ↦ let e = c.1 in let z : ◌≡◌ {A = ℕ} 0 1 = cc in absurd (omega arith)
          ]
        ],
      )
  order_says e stood (Ok (TaskRecord x)) clear = (
    λ h. inr (inl (x, refl, (task_order_lem x).0 h)),
    λ w. elim w [
      | inl a ↦ let e = a.1 in let z : ◌≡◌ {A = ℕ} 0 1 = cc in absurd (omega arith)
      | inr v ↦ elim v [
        | inl b ↦ let e = b.1 in
            let same : b.0 ≡ x = cc in
            (task_order_lem x).1 (subst (λ (u : Task). (0 < length t.sems) ⊎ ((y : Task) × IsLast t.tasks y × NotAfter u y)) same b.2)
        | inr c ↦ let e = c.1 in let z : ◌≡◌ {A = ℕ} 0 1 = cc in absurd (omega arith)
      ]
    ],
  )
  order_says e stood (Ok (SemRecord x)) clear =
      let f = follows_says sem_before (λ x y. x.number ≤ y.number) sem_says t.sems x in (
        λ h. inr (inr (x, refl, f.0 h)),
        λ w. elim w [
          | inl a ↦ let e = a.1 in let z : ◌≡◌ {A = ℕ} 0 1 = cc in absurd (omega arith)
          | inr v ↦ elim v [
            | inl b ↦ let e = b.1 in let z : ◌≡◌ {A = ℕ} 0 1 = cc in absurd (omega arith)
            | inr c ↦ let e = c.1 in
                let same : c.0 ≡ x = cc in
                f.1 (subst (λ (u : Sem). (y : Sem) × IsLast t.sems y × (u.number ≤ y.number)) same c.2)
          ]
        ],
      )
  order_says e stood (Err why) clear = (
    λ h. let z : ◌≡◌ {A = ℕ} 0 1 = cc in absurd (omega arith),
    λ w. absurd (unordered (Err why) (λ x e. let z : ◌≡◌ {A = ℕ} 0 1 = cc in omega arith) (λ x e. let z : ◌≡◌ {A = ℕ} 0 1 = cc in omega arith) (λ x e. let z : ◌≡◌ {A = ℕ} 0 1 = cc in omega arith) w),
  )

-- 8
used_so : (tasks : List Task) (number : ℕ) → (used number tasks ≡ true) ↔ ((i : ℕ) × (i < length tasks) × ((get_or tasks i blank_task).number ≡ number))
unfolding used
used_so tasks number =
    some_says (λ t. eqb t.number number) (λ t. t.number ≡ number) (λ t. (eqb-true t.number number, eq-eqb t.number number)) blank_task tasks

twice_says : (t : Table) (d : Result Record Refusal) → (number_twice t d ≡ true) ↔ NumberTwice t d
unfolding number_twice
twice_says t (Ok Erased) = (λ h. let z : ◌≡◌ {A = ℕ} 0 1 = cc in absurd (omega arith), λ w. let e = w.1 in let z : ◌≡◌ {A = ℕ} 0 1 = cc in absurd (omega arith))
twice_says t (Ok (TaskRecord y)) = (
  λ h. (y, refl, (used_so t.tasks y.number).0 h),
  λ w. let e = w.1 in let same : y ≡ w.0 = cc in ap (λ (x : Task). used x.number t.tasks) same ∙ (used_so t.tasks w.0.number).1 w.2,
)
twice_says t (Ok (BoardRecord b)) = (λ h. let z : ◌≡◌ {A = ℕ} 0 1 = cc in absurd (omega arith), λ w. let e = w.1 in let z : ◌≡◌ {A = ℕ} 0 1 = cc in absurd (omega arith))
twice_says t (Ok (SemRecord x)) = (λ h. let z : ◌≡◌ {A = ℕ} 0 1 = cc in absurd (omega arith), λ w. let e = w.1 in let z : ◌≡◌ {A = ℕ} 0 1 = cc in absurd (omega arith))
twice_says t (Err why) = (λ h. let z : ◌≡◌ {A = ℕ} 0 1 = cc in absurd (omega arith), λ w. let e = w.1 in let z : ◌≡◌ {A = ℕ} 0 1 = cc in absurd (omega arith))

-- 6: what is neither a task nor a semaphore is not one too many
few : (t : Table) (d : Result Record Refusal) → ((x : Task) → d ≢ Ok (TaskRecord x)) → ((x : Sem) → d ≢ Ok (SemRecord x)) → TooMany t d → ⊥
few t d no_task no_sem (inl w) = no_task w.0 w.1
few t d no_task no_sem (inr w) = no_sem w.0 w.1

many_says : (t : Table) (d : Result Record Refusal) → (too_many t d ≡ true) ↔ TooMany t d
unfolding too_many
many_says t (Ok Erased) = (
  λ h. let z : ◌≡◌ {A = ℕ} 0 1 = cc in absurd (omega arith),
  λ w. absurd (few t (Ok Erased) (λ x e. let z : ◌≡◌ {A = ℕ} 0 1 = cc in omega arith) (λ x e. let z : ◌≡◌ {A = ℕ} 0 1 = cc in omega arith) w),
)
many_says t (Ok (TaskRecord y)) = (
  λ h. inl (y, refl, leb-true 64 (length t.tasks) h),
  λ w. elim w [ inl v ↦ le-leb 64 (length t.tasks) v.2 | inr v ↦ let e = v.1 in let z : ◌≡◌ {A = ℕ} 0 1 = cc in absurd (omega arith) ],
)
many_says t (Ok (BoardRecord b)) = (
  λ h. let z : ◌≡◌ {A = ℕ} 0 1 = cc in absurd (omega arith),
  λ w. absurd (few t (Ok (BoardRecord b)) (λ x e. let z : ◌≡◌ {A = ℕ} 0 1 = cc in omega arith) (λ x e. let z : ◌≡◌ {A = ℕ} 0 1 = cc in omega arith) w),
)
many_says t (Ok (SemRecord y)) = (
  λ h. inr (y, refl, leb-true 16 (length t.sems) h),
  λ w. elim w [ inl v ↦ let e = v.1 in let z : ◌≡◌ {A = ℕ} 0 1 = cc in absurd (omega arith) | inr v ↦ le-leb 16 (length t.sems) v.2 ],
)
many_says t (Err why) = (
  λ h. let z : ◌≡◌ {A = ℕ} 0 1 = cc in absurd (omega arith),
  λ w. absurd (few t (Err why) (λ x e. let z : ◌≡◌ {A = ℕ} 0 1 = cc in omega arith) (λ x e. let z : ◌≡◌ {A = ℕ} 0 1 = cc in omega arith) w),
)

record_when : (t : Table) (e : Bool) (at : ℕ) → Stood t e at → (d : Result Record Refusal) (k : ℕ) → (refusal_of e t d ≡ k) ↔ FirstThat (record_conditions t e at d) k
unfolding refusal_of
record_when t e at stood d k =
    first_that
    (test_says (used_says e d)
    (λ clear. test_says (refused_says UnknownKind d)
    (λ b. test_says (refused_says OutOfRange d)
    (λ c. test_says (order_says t at e stood d clear)
    (λ g. test_says (twice_says t d)
    (λ l. test_says (many_says t d) (λ m. nothing_more))))))) k

-- a record, and what follows it
records_when : (t : Table) (erased : Bool) (at : ℕ) (records : List (List ℕ)) → Stood t erased at → (k place : ℕ)
    → Comes-with (load_from t erased at records) k place ↔ Given t erased at records k place
unfolding load_from state_of
records_when t erased at [] stood k place = end_when (state_of t) at k place
records_when t erased at (r ∷ rest) stood k place =
    let d = decoded r in
    step_when (refusal_of erased t d) at (record_conditions t erased at d) (load_from (taken t d) (erased_after erased d) (suc at) rest)
    (Given (taken t d) (erased_after erased d) (suc at) rest k place) k place (record_when t erased at stood d)
    (λ none. records_when (taken t d) (erased_after erased d) (suc at) rest (stood_on t erased at d (plain r) (passed erased t d none)) k place)

-- the length
pub length_says : (bytes : ℕ) → (bad_length bytes ≡ true) ↔ ((bytes % 32 ≢ 0) ⊎ (4096 < bytes))
unfolding bad_length
length_says bytes =
    let e = either (not (eqb (bytes % 32) 0)) (ltb 4096 bytes) in (
      λ h. elim (e.0 h) [ inl a ↦ inl (eqb-false (bytes % 32) 0 (not-true (eqb (bytes % 32) 0) a)) | inr b ↦ inr (ltb-true 4096 bytes b) ],
      λ w. e.1 (elim w [ inl a ↦ inl (ap not (ne_eqb (bytes % 32) 0 a)) | inr b ↦ inr (lt-ltb 4096 bytes b) ]),
    )

image_when : (image : List ℕ) (k place : ℕ) (bad : Bool) → bad_length (length image) ≡ bad
    → Comes-with (load_of image) k place ↔ GivenFor image k place
unfolding load_records
image_when image k place true e =
    let l = load_bad image e in (
      λ h. let g = same_load l h in inl ((length_says (length image)).0 e, sym g.0, sym g.1),
      λ w. elim w [
        | inl v ↦ same_load (sym l) (sym v.1, sym v.2)
        | inr v ↦ absurd (v.0 ((length_says (length image)).0 e))
      ],
    )
image_when image k place false e =
    let l = load_good image e in
    let good : BadLength image → ⊥ = λ b. let t = (length_says (length image)).1 b in let z : ◌≡◌ {A = ℕ} 0 1 = cc in omega arith in
    let rest = records_when fresh_table false 0 (records_in (length image / 32) image) stood_start k place in (
      λ h. inr (good, rest.0 (same_load l h)),
      λ w. elim w [ inl v ↦ absurd (good v.0) | inr v ↦ same_load (sym l) (rest.1 v.1) ],
    )

pub load_when : (image : List ℕ) (k place : ℕ) → (((load_of image).number ≡ k) × ((load_of image).place ≡ place)) ↔ GivenFor image k place
load_when image k place = image_when image k place (bad_length (length image)) refl
