-- The laws of a load that has come to a place: what is left, from here, gives the whole answer.
-- Assumes nothing.
use Prim.Native.Nat.{ℕ, suc, ◌+◌, ◌-◌, ◌%◌, ◌≤◌, ◌<◌}
use mathlib.Core.Path.{◌≡◌, refl, sym, ap, subst, ◌∙◌}
use mathlib.Core.Logic.{◌≢◌}
use mathlib.Core.Bool.{Bool, true, false, not}
use mathlib.Core.List.{List, [], ◌∷◌, ◌++◌, map, map-append}
use native.Mathlib.Numerals.{add-one}
use native.Mathlib.Omega.{arith}
use lib.Dec.{eqb, ltb}
use lib.ListN.{length, get_or, take, drop, set, replicate, length-map, drop_of_length-le}
use lib.Seq.{take_at, drop-cons}
use borrow.Author.Tests.{leb-false, eq-eqb, eqb-true, ltb-false, not-false, le-ltb}
use Rattle.table.specs.declared.Task.{Task}
use Rattle.table.specs.declared.Sem.{Sem}
use Rattle.table.specs.declared.Board.{Board}
use Rattle.table.specs.Entries.{built_in}
use Rattle.table.specs.Refusals.{first_of, answered}
use Rattle.table.specs.Sums.{any}
use Rattle.table.specs.WellFormed.{used}
use Rattle.table.proofs.RefusalLaws.{answered_refused, answered_done, first_of_zero, first_of_here, first_of_past, first_of_none}
use Rattle.table.proofs.SumLaws.{any_map, neither}
use Rattle.executive.specs.declared.state.State.{State}
use Rattle.executive.specs.States.{empty_state}
use Rattle.executive.specs.Tables.{Table, add_task, add_sem, add_board, state_of}
use Rattle.executive.proofs.TableLaws.{length_more, length_padded, padded_set, with_board, grow_task, grow_sem, state_task, state_sem, state_board}
use Rattle.table.specs.declared.refusals.Refusal.{Refusal}
use Rattle.records.specs.declared.Record.{Record}
use Rattle.std.specs.Prelude.{Result, Ok, Err}
use Rattle.records.specs.declared.Record.TheVariants.{Erased, Task as TaskRecord, Board as BoardRecord, Sem as SemRecord}
use Rattle.records.specs.Records.{decoded}
use Rattle.image.specs.declared.load.Front.{Front}
use Rattle.executive.specs.Reading.{refused_load, finished_load}
use Rattle.image.specs.Loading.{fresh_table, taken, erased_after, refusal_of, used_after, refused_as, order_broken, number_twice, too_many, load_from, bad_length, load_records, load_of}
use Rattle.image.specs.Fronts.{front_of, front_after, front_refusal}
use Rattle.image.proofs.FrontLaws.{front_after_lem, front_decides}

-- a record that is refused ends the load, and one that is not goes into the table
module _ (t : Table) (erased : Bool) (at : ℕ) (r : List ℕ) (rest : List (List ℕ)) where
  pub load_stop : refusal_of erased t (decoded r) ≢ 0 → load_from t erased at (r ∷ rest) ≡ refused_load (refusal_of erased t (decoded r)) at
  unfolding load_from
  load_stop h =
      answered_refused (refusal_of erased t (decoded r)) (λ k. refused_load k at)
      (load_from (taken t (decoded r)) (erased_after erased (decoded r)) (suc at) rest) h

  pub load_go : refusal_of erased t (decoded r) ≡ 0
      → load_from t erased at (r ∷ rest) ≡ load_from (taken t (decoded r)) (erased_after erased (decoded r)) (suc at) rest
  unfolding load_from
  load_go h =
      answered_done (refusal_of erased t (decoded r)) (λ k. refused_load k at)
      (load_from (taken t (decoded r)) (erased_after erased (decoded r)) (suc at) rest) h

-- what a record that is not refused has passed
pub record Passed (erased : Bool) (t : Table) (d : Result Record Refusal) : Type 0 where
  pub not_after : used_after erased d ≡ false
  pub known : refused_as 2 d ≡ false
  pub in_range : refused_as 4 d ≡ false
  pub in_order : order_broken t d ≡ false
  pub new : number_twice t d ≡ false
  pub room : too_many t d ≡ false

pub passed : (erased : Bool) (t : Table) (d : Result Record Refusal) → refusal_of erased t d ≡ 0 → Passed erased t d
unfolding refusal_of
passed erased t d h =
    let six : List (ℕ × Bool) = (6, too_many t d) ∷ [] in
    let eight : List (ℕ × Bool) = (8, number_twice t d) ∷ six in
    let five : List (ℕ × Bool) = (5, order_broken t d) ∷ eight in
    let four : List (ℕ × Bool) = (4, refused_as 4 d) ∷ five in
    let two : List (ℕ × Bool) = (2, refused_as 2 d) ∷ four in
    let a = first_of_zero 3 (used_after erased d) two (λ e. omega arith) h in
    let b = first_of_zero 2 (refused_as 2 d) four (λ e. omega arith) a.1 in
    let c = first_of_zero 4 (refused_as 4 d) five (λ e. omega arith) b.1 in
    let g = first_of_zero 5 (order_broken t d) eight (λ e. omega arith) c.1 in
    let k = first_of_zero 8 (number_twice t d) six (λ e. omega arith) g.1 in
    let l = first_of_zero 6 (too_many t d) [] (λ e. omega arith) k.1 in
    record { not_after = a.0; known = b.0; in_range = c.0; in_order = g.0; new = k.0; room = l.0 }

-- a record that passed every test is not refused
pub passes : (erased : Bool) (t : Table) (d : Result Record Refusal) → Passed erased t d → refusal_of erased t d ≡ 0
unfolding refusal_of first_of
passes erased t d p = simp (p.not_after, p.known, p.in_range, p.in_order, p.new, p.room)

-- the numbers of the tasks so far, as the loop keeps them
abbrev pub numbers_of : List Task → List ℕ
numbers_of tasks = map (λ t. t.number) tasks ++ replicate (64 - length tasks) 0

pub numbers_more : (tasks : List Task) (x : Task) → length tasks < 64 → set (numbers_of tasks) (length tasks) x.number ≡ numbers_of (tasks ++ x ∷ [])
numbers_more tasks x h =
    let ns = map (λ t. t.number) tasks in
    let n : length ns ≡ length tasks = length-map tasks (λ t. t.number) in
    let grown : map (λ t. t.number) (tasks ++ x ∷ []) ≡ ns ++ x.number ∷ [] = map-append (λ t. t.number) tasks (x ∷ []) in
    let longer : length (ns ++ x.number ∷ []) ≡ length (tasks ++ x ∷ []) = sym (length_more ns x.number) ∙ (ap (λ (k : ℕ). k + 1) n ∙ length_more tasks x) in
    ap (λ (k : ℕ). set (ns ++ replicate (64 - k) 0) k x.number) (sym n)
    ∙ (padded_set ns x.number 0 64 (omega arith)
    ∙ (ap (λ (k : ℕ). (ns ++ x.number ∷ []) ++ replicate (64 - k) 0) longer
    ∙ ap (λ (l : List ℕ). l ++ replicate (64 - length (tasks ++ x ∷ [])) 0) (sym grown)))

-- a number is among those that the loop keeps exactly if a task has it
pub numbers_used : (tasks : List Task) (k : ℕ) → k ≡ length tasks → (number : ℕ) → any (λ x. eqb x number) (take k (numbers_of tasks)) ≡ used number tasks
unfolding used
numbers_used tasks k e number =
    let ns = map (λ t. t.number) tasks in
    let n : length ns ≡ k = length-map tasks (λ t. t.number) ∙ sym e in
    ap (any (λ x. eqb x number)) (take_at ns (replicate (64 - length tasks) 0) k n) ∙ any_map (λ t. t.number) (λ x. eqb x number) tasks

-- the table fits into the state's arrays
pub record Fits (t : Table) : Type 0 where
  pub tasks : length t.tasks ≤ 64
  pub sems : length t.sems ≤ 16

fits_on : (t : Table) (d : Result Record Refusal) → Fits t → too_many t d ≡ false → Fits (taken t d)
unfolding taken add_task add_sem add_board too_many
fits_on t (Ok Erased) f h = f
fits_on t (Ok (TaskRecord x)) f h =
    let more = length_more t.tasks x in
    let less : length t.tasks < 64 = leb-false 64 (length t.tasks) h in
    record { tasks = omega arith; sems = f.sems }
fits_on t (Ok (BoardRecord b)) f h = record { tasks = f.tasks; sems = f.sems }
fits_on t (Ok (SemRecord x)) f h =
    let more = length_more t.sems x in
    let less : length t.sems < 16 = leb-false 16 (length t.sems) h in
    record { tasks = f.tasks; sems = omega arith }
fits_on t (Err why) f h = f

-- a load that has come to the record at a place
pub record Come (records : List (List ℕ)) (state : State) (given : List ℕ) (front : Front) (place : ℕ) : Type 0 where
  pub table : Table
  pub erased : Bool
  pub same : state ≡ state_of table
  pub numbers : given ≡ numbers_of table.tasks
  pub front_so : front ≡ front_of erased table
  pub fits : Fits table
  pub goes : load_from table erased place (drop place records) ≡ load_from fresh_table false 0 records

-- before the first record the state is the empty one with the built-in figures
pub come_start : (records : List (List ℕ)) (state : State) (figures : Board) (front : Front) → state ≡ empty_state → figures ≡ built_in
    → front ≡ front_of false fresh_table → Come records (with_board state figures state.present) (replicate 64 0) front 0
unfolding with_board empty_state fresh_table state_of
come_start records state figures front s b f =
    record {
      table = fresh_table;
      erased = false;
      same = ap (λ (u : State). with_board u figures u.present) s ∙ ap (λ (g : Board). with_board empty_state g false) b;
      numbers = refl;
      front_so = f;
      fits = record { tasks = omega arith; sems = omega arith };
      goes = refl;
    }

length_numbers : (tasks : List Task) → length tasks ≤ 64 → length (numbers_of tasks) ≡ 64
length_numbers tasks h =
    let ns = map (λ t. t.number) tasks in
    let n : length ns ≡ length tasks = length-map tasks (λ t. t.number) in
    ap (λ (k : ℕ). length (ns ++ replicate (64 - k) 0)) (sym n) ∙ length_padded ns 0 64 (omega arith)

-- the same state and the same numbers, named otherwise
pub come_at : {records : List (List ℕ)} {state state' : State} {given given' : List ℕ} {front : Front} {place : ℕ} → state' ≡ state → given' ≡ given
    → Come records state given front place → Come records state' given' front place
come_at {records} {state} {state'} {given} {given'} {front} {place} s g come =
    subst (λ (u : State). Come records u given' front place) (sym s) (subst (λ (l : List ℕ). Come records state l front place) (sym g) come)

-- how long the loop's lists are, and what its front counts
module _ {records : List (List ℕ)} {state : State} {given : List ℕ} {front : Front} {place : ℕ} (c : Come records state given front place) where
  pub come_given : (state.n ≤ 64) × (length given ≡ 64)
  unfolding state_of
  come_given =
      let n = ap (λ (s : State). s.n) c.same in
      (omega (arith, c.fits.tasks), ap length c.numbers ∙ length_numbers c.table.tasks c.fits.tasks)

  pub come_front : (front.n ≤ 64) × (front.m ≤ 16)
  come_front =
      let n = ap (λ (f : Front). f.n) c.front_so in
      let m = ap (λ (f : Front). f.m) c.front_so in
      (omega (arith, c.fits.tasks), omega (arith, c.fits.sems))

-- a turn of the loop: the record at a place that the load has come to
pub record Turn (records : List (List ℕ)) (state : State) (given : List ℕ) (front : Front) (place : ℕ) (number : ℕ) : Type 0 where
  pub come : Come records state given front place
  pub more : place < length records
  pub judged : number ≡ front_refusal front (λ k. any (λ x. eqb x k) (take state.n given)) (decoded (get_or records place []))

module _ {records : List (List ℕ)} {state : State} {given : List ℕ} {front : Front} {place number : ℕ} (turn : Turn records state given front place number) where
  abbrev r : List ℕ
  r = get_or records place []

  abbrev table : Table
  table = turn.come.table

  abbrev erased : Bool
  erased = turn.come.erased

  abbrev others : List (List ℕ)
  others = drop (suc place) records

  count_n : state.n ≡ length table.tasks
  unfolding state_of
  count_n = ap (λ (s : State). s.n) turn.come.same

  count_m : state.m ≡ length table.sems
  unfolding state_of
  count_m = ap (λ (s : State). s.m) turn.come.same

  -- what the loop found of the record is what the table says of it
  judged_so : number ≡ refusal_of erased table (decoded r)
  judged_so =
      let test : ℕ → Bool = λ k. any (λ x. eqb x k) (take state.n given) in
      turn.judged
      ∙ (ap (λ (f : Front). front_refusal f test (decoded r)) turn.come.front_so
      ∙ front_decides erased table test
      (λ k. ap (λ (l : List ℕ). any (λ x. eqb x k) (take state.n l)) turn.come.numbers ∙ numbers_used table.tasks state.n count_n k) (decoded r))

  goes_on_with : load_from table erased place (r ∷ others) ≡ load_from fresh_table false 0 records
  goes_on_with = ap (load_from table erased place) (sym (drop-cons records place [] turn.more)) ∙ turn.come.goes

  pub come_refused : number ≢ 0 → refused_load number place ≡ load_from fresh_table false 0 records
  come_refused h =
      ap (λ (k : ℕ). refused_load k place) judged_so ∙ (sym (load_stop table erased place r others (λ z. h (judged_so ∙ z))) ∙ goes_on_with)

  module _ (none : number ≡ 0) where
    -- what the record passed
    come_passed : Passed erased table (decoded r)
    come_passed = passed erased table (decoded r) (sym judged_so ∙ none)

    come_on : (state' : State) → state' ≡ state_of (taken table (decoded r)) → (given' : List ℕ) → given' ≡ numbers_of (taken table (decoded r)).tasks
        → (front' : Front) → front' ≡ front_after front (decoded r) → Come records state' given' front' (place + 1)
    come_on state' s given' g front' f =
        let go = load_go table erased place r others (sym judged_so ∙ none) in
        record {
          table = taken table (decoded r);
          erased = erased_after erased (decoded r);
          same = s;
          numbers = g;
          front_so = f ∙ (ap (λ (h : Front). front_after h (decoded r)) turn.come.front_so ∙ front_after_lem erased table (decoded r));
          fits = fits_on table (decoded r) turn.come.fits come_passed.room;
          goes =
              ap (λ (k : ℕ). load_from (taken table (decoded r)) (erased_after erased (decoded r)) k (drop k records)) (add-one place)
              ∙ (sym go ∙ goes_on_with);
        }

    -- kind by kind: there is room for the entry, and the load goes on with the state that has it
    pub task_room : (x : Task) → decoded r ≡ Ok (TaskRecord x) → state.n < 64
    unfolding too_many
    task_room x k =
        let less : length table.tasks < 64 = leb-false 64 (length table.tasks) (ap (too_many table) (sym k) ∙ come_passed.room) in
        omega (arith, count_n)

    pub sem_room : (x : Sem) → decoded r ≡ Ok (SemRecord x) → state.m < 16
    unfolding too_many
    sem_room x k =
        let less : length table.sems < 16 = leb-false 16 (length table.sems) (ap (too_many table) (sym k) ∙ come_passed.room) in
        omega (arith, count_m)

    module _ (front' : Front) (f : front' ≡ front_after front (decoded r)) where
      pub come_task : (x : Task) → decoded r ≡ Ok (TaskRecord x) → Come records (grow_task state x) (set given state.n x.number) front' (place + 1)
      unfolding taken add_task
      come_task x k =
          let room : length table.tasks < 64 = omega (arith, task_room x k, count_n) in
          come_on (grow_task state x)
          (ap (λ (s : State). grow_task s x) turn.come.same ∙ (state_task table x room ∙ ap (λ (y : Result Record Refusal). state_of (taken table y)) (sym k)))
          (set given state.n x.number)
          (ap (λ (l : List ℕ). set l state.n x.number) turn.come.numbers
          ∙ (ap (λ (i : ℕ). set (numbers_of table.tasks) i x.number) count_n
          ∙ (numbers_more table.tasks x room ∙ ap (λ (y : Result Record Refusal). numbers_of (taken table y).tasks) (sym k)))) front' f

      pub come_sem : (x : Sem) → decoded r ≡ Ok (SemRecord x) → Come records (grow_sem state x) given front' (place + 1)
      unfolding taken add_sem
      come_sem x k =
          come_on (grow_sem state x)
          (ap (λ (s : State). grow_sem s x) turn.come.same
          ∙ (state_sem table x (omega (arith, sem_room x k, count_m)) ∙ ap (λ (y : Result Record Refusal). state_of (taken table y)) (sym k)))
          given (turn.come.numbers ∙ ap (λ (y : Result Record Refusal). numbers_of (taken table y).tasks) (sym k)) front' f

      pub come_board : (b : Board) → decoded r ≡ Ok (BoardRecord b) → Come records (with_board state b true) given front' (place + 1)
      unfolding taken add_board
      come_board b k =
          come_on (with_board state b true)
          (ap (λ (s : State). with_board s b true) turn.come.same ∙ (state_board table b ∙ ap (λ (y : Result Record Refusal). state_of (taken table y)) (sym k)))
          given (turn.come.numbers ∙ ap (λ (y : Result Record Refusal). numbers_of (taken table y).tasks) (sym k)) front' f

      -- an erased record leaves the table as it is
      pub come_erased : decoded r ≡ Ok Erased → Come records state given front' (place + 1)
      unfolding taken
      come_erased k =
          come_on state (turn.come.same ∙ ap (λ (y : Result Record Refusal). state_of (taken table y)) (sym k))
          given (turn.come.numbers ∙ ap (λ (y : Result Record Refusal). numbers_of (taken table y).tasks) (sym k)) front' f

-- behind the last record the state so far is what is handed back
pub come_end : {records : List (List ℕ)} {state : State} {given : List ℕ} {front : Front} {place : ℕ} (c : Come records state given front place)
    → place ≡ length records → finished_load state (length records) ≡ load_from fresh_table false 0 records
unfolding load_from
come_end {records} {state} {given} {front} {place} c h =
    ap (λ (s : State). finished_load s (length records)) c.same
    ∙ (ap (finished_load (state_of c.table)) (sym h)
    ∙ (ap (load_from c.table c.erased place) (sym (drop_of_length-le records {i = place} (omega arith))) ∙ c.goes))

-- an image of bad length is refused with 1; else the records decide
pub load_bad : (image : List ℕ) → bad_length (length image) ≡ true → load_of image ≡ refused_load 1 0
unfolding load_of
load_bad image h =
    ap (λ (k : ℕ). answered k (λ k. refused_load k 0) (load_records image)) (first_of_here 1 (bad_length (length image)) [] h)
    ∙ answered_refused 1 (λ k. refused_load k 0) (load_records image) (λ e. omega arith)

pub load_good : (image : List ℕ) → bad_length (length image) ≡ false → load_of image ≡ load_records image
unfolding load_of
load_good image h =
    answered_done (first_of ((1, bad_length (length image)) ∷ [])) (λ k. refused_load k 0) (load_records image)
    (first_of_past 1 (bad_length (length image)) [] h ∙ first_of_none)

-- a length that is bad, and one that is not
pub length_good : (bytes : ℕ) → bad_length bytes ≡ false → (bytes % 32 ≡ 0) × (bytes ≤ 4096)
unfolding bad_length
length_good bytes h =
    let parts = neither (not (eqb (bytes % 32) 0)) (ltb 4096 bytes) h in
    (eqb-true (bytes % 32) 0 (not-false (eqb (bytes % 32) 0) parts.0), ltb-false 4096 bytes parts.1)

pub length_right : (bytes : ℕ) → bytes % 32 ≡ 0 → bytes ≤ 4096 → bad_length bytes ≡ false
unfolding bad_length
length_right bytes h k = simp (eq-eqb (bytes % 32) 0 h, le-ltb 4096 bytes k)
