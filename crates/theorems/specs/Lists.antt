-- 02, b): tables from Linux rigs, sentence by sentence. Each is shown under the same name, in lower case, in proofs/Listed.antt.
use Rattle.std.specs.Prelude.{ℕ, suc, ◌+◌, ◌-◌, ◌*◌, ◌%◌, ◌≤◌, ◌<◌, ◌≡◌, ◌↔◌, ◌≢◌, ◌⊎◌, false, List, [], ◌∷◌, length, get_or}
use Rattle.fields.specs.Fields.{read_at, put_at, Bytes}
use Rattle.fields.specs.Parts.{flat}
use Rattle.table.specs.declared.Task.{Task}
use Rattle.table.specs.declared.Status.TheVariants.{Idle}
use Rattle.table.specs.WellFormed.{WellFormed}
use Rattle.waits.specs.Waits.{task_at}
use Rattle.executive.specs.declared.state.State.{State}
use Rattle.executive.specs.States.{empty_state, tasks_of, sems_of}
use Rattle.executive.specs.Reading.{accepted_load}
use Rattle.executive.specs.Tables.{as_loaded}
use Rattle.linux.specs.Lists.{records_of, read_of}
use Rattle.linux.specs.Writing.{list_number, list_written}
use Rattle.theorems.specs.Comes.{Comes}
use Rattle.theorems.specs.When.{FirstThat}

-- "48 bytes each, little-endian, size, policy, flags, nice, priority, runtime, deadline, period, in nanoseconds"
abbrev pub size_in : List ℕ → ℕ
size_in r = read_at 4 r 0

abbrev pub policy_in : List ℕ → ℕ
policy_in r = read_at 4 r 4

abbrev pub flags_in : List ℕ → ℕ
flags_in r = read_at 8 r 8

abbrev pub nice_in : List ℕ → ℕ
nice_in r = read_at 4 r 16

abbrev pub priority_in : List ℕ → ℕ
priority_in r = read_at 4 r 20

abbrev pub runtime_in : List ℕ → ℕ
runtime_in r = read_at 8 r 24

abbrev pub deadline_in : List ℕ → ℕ
deadline_in r = read_at 8 r 32

abbrev pub period_in : List ℕ → ℕ
period_in r = read_at 8 r 40

-- "Runtime rounds up to a tick, periods down": so many ticks of 10 ns
abbrev pub RoundsUp : ℕ → ℕ → Type 0
RoundsUp ns ticks = (ns ≤ 10 * ticks) × (10 * ticks < ns + 10)

abbrev pub RoundsDown : ℕ → ℕ → Type 0
RoundsDown ns ticks = (10 * ticks ≤ ns) × (ns < 10 * ticks + 10)

-- "a period of zero means the deadline, and otherwise both are equal"
abbrev pub UnequalTimes : List ℕ → Type 0
UnequalTimes r = (period_in r ≢ 0) × (period_in r ≢ deadline_in r)

-- "rounded values outside 01's ranges": the period from 1,000 to 100,000,000 ticks, the cost from 1 to the period
abbrev pub OutsideRanges : List ℕ → Type 0
OutsideRanges r =
    (period cost : ℕ) → RoundsDown (deadline_in r) period → RoundsUp (runtime_in r) cost
    → (period < 1000) ⊎ ((100000000 < period) ⊎ ((cost < 1) ⊎ (period < cost)))

-- "per record: 40 for .. a size field not 48; 41 policy, flags, nice or priority; 42 unequal times, in nanoseconds, or rounded values outside 01's
-- ranges; 6": a 65th task, at place 64
abbrev pub attr_conditions : ℕ → List ℕ → List (ℕ × Type 0)
attr_conditions at r =
    (40, size_in r ≢ 48)
    ∷ (41, (policy_in r ≢ 6) ⊎ ((flags_in r ≢ 0) ⊎ ((nice_in r ≢ 0) ⊎ (priority_in r ≢ 0))))
    ∷ (42, UnequalTimes r ⊎ OutsideRanges r)
    ∷ (6, 64 ≤ at)
    ∷ []

-- the records from the front: reading stops at the first of which a condition holds, with that number and the record's place; behind the last it is 7,
-- with the count of records, where there is none; and else 0, with place 0
abbrev pub ListGiven : ℕ → List (List ℕ) → ℕ → ℕ → Type 0
ListGiven at [] k place = ((at ≡ 0) × (k ≡ 7) × (place ≡ at)) ⊎ ((at ≢ 0) × (k ≡ 0) × (place ≡ 0))
ListGiven at (r ∷ rest) k place =
    ((k ≢ 0) × FirstThat (attr_conditions at r) k × (place ≡ at)) ⊎ (FirstThat (attr_conditions at r) 0 × ListGiven (suc at) rest k place)

-- "Refusals, after the list's length and then per record": reading gives number k with place p exactly if ..
abbrev pub ListWhen : Type 0
ListWhen =
    (list : List ℕ) (k place : ℕ)
    → (((read_of list).number ≡ k) × ((read_of list).place ≡ place))
    ↔ (((length list % 48 ≢ 0) × (k ≡ 40) × (place ≡ 0)) ⊎ ((length list % 48 ≡ 0) × ListGiven 0 (records_of list) k place))

-- "when writing, 7, then 43 for a task outside DP1 or a buffer not of exactly 48 bytes a task"
abbrev pub ListWriteWhen : Type 0
ListWriteWhen =
    (s : State) → Comes s → (bytes k : ℕ)
    → (list_number s bytes ≡ k)
    ↔ FirstThat
    ((7, s.n ≡ 0) ∷ (43, ((i : ℕ) × (i < s.n) × ((task_at (tasks_of s) i).queue ≢ 1)) ⊎ (bytes ≢ 48 * s.n)) ∷ [])
    k

-- "the empty state as in 01": a refused list hands it back. A refused write leaves every byte
abbrev pub RefusedList : Type 0
RefusedList = (list : List ℕ) → (read_of list).number ≢ 0 → (read_of list).state ≡ empty_state

abbrev pub RefusedListWrite : Type 0
RefusedListWrite = (s : State) (buffer : List ℕ) → list_number s (length buffer) ≢ 0 → list_written s buffer ≡ buffer

-- the task that a record at a place becomes: "Task numbers are places in the list from 1", "as a DP1 table", idle and with no deadline of its own
pub record IsListed (place : ℕ) (r : List ℕ) (t : Task) : Type 0 where
  pub number : t.number ≡ place + 1
  pub queue : t.queue ≡ 1
  pub cost : RoundsUp (runtime_in r) t.cost
  pub period : RoundsDown (deadline_in r) t.period
  pub due : t.due ≡ 0
  pub deadline : t.deadline ≡ 0
  pub status : t.status ≡ Idle

-- "Read such a list as a DP1 table .. the table is then put in order. No board record is made": the table is well formed, so its tasks stand in 01's
-- order; it has as many tasks as the list has records; each record's task is there, and each task is that of a record
pub record ListedTable (list : List ℕ) (s : State) : Type 0 where
  pub well_formed : WellFormed (tasks_of s) (sems_of s) s.board s.present
  pub count : s.n ≡ length (records_of list)
  pub has : (place : ℕ) → place < s.n → (i : ℕ) × (i < s.n) × IsListed place (get_or (records_of list) place []) (task_at (tasks_of s) i)
  pub no_other : (i : ℕ) → i < s.n → (place : ℕ) × (place < s.n) × IsListed place (get_or (records_of list) place []) (task_at (tasks_of s) i)
  pub no_sems : s.m ≡ 0
  pub no_board : s.present ≡ false

abbrev pub ListTable : Type 0
ListTable = (list : List ℕ) → (read_of list).number ≡ 0 → ListedTable list (read_of list).state

-- "Reading a written list gives the table back if its numbers were 1 to n in order and it has neither semaphores nor a board record", for a table
-- whose tasks are all in DP1
abbrev pub ReadAfterWrite : Type 0
ReadAfterWrite =
    (s : State) → Comes s → 1 ≤ s.n → ((i : ℕ) → i < s.n → (task_at (tasks_of s) i).queue ≡ 1)
    → ((i : ℕ) → i < s.n → (task_at (tasks_of s) i).number ≡ i + 1) → s.m ≡ 0 → s.present ≡ false
    → (buffer : List ℕ) → length buffer ≡ 48 * s.n
    → (list_number s (length buffer) ≡ 0) × (read_of (list_written s buffer) ≡ accepted_load (as_loaded s))

-- a record with its times rounded, "writing puts the period in both times", and no other byte changed
abbrev pub rounded : List ℕ → ℕ → ℕ → List ℕ
rounded r cost period = put_at 8 (put_at 8 (put_at 8 r 24 (cost * 10)) 32 (period * 10)) 40 (period * 10)

-- a list that was read, written out, is the list with its times rounded and in table order: for each task of the table, the record of its number
abbrev pub WriteAfterRead : Type 0
WriteAfterRead =
    (list : List ℕ) → Bytes list → (read_of list).number ≡ 0 → (buffer : List ℕ) → length buffer ≡ length list
    → let s = (read_of list).state in
    (list_number s (length buffer) ≡ 0)
    × (list_written s buffer
    ≡ flat (λ t. rounded (get_or (records_of list) (t.number - 1) []) t.cost t.period) (tasks_of s))
