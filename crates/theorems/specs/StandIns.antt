-- The stand-ins that 01 shuts out ("How tight the statements are"): of each, a property that it has, over any loader, judge or dispatcher.
use Rattle.std.specs.Prelude.{ℕ, ◌≡◌, ◌≢◌, List, [], ◌∷◌, ◌++◌, Some}
use Rattle.table.specs.declared.Board.{Board}
use Rattle.table.specs.declared.Task.{Task}
use Rattle.table.specs.Places.{sem_place}
use Rattle.executive.specs.declared.state.State.{State}
use Rattle.executive.specs.Calls.{Step}
use Rattle.executive.specs.Calls.{Stands}
use Rattle.executive.specs.States.{tasks_of, sems_of}
use Rattle.waits.specs.Waits.{task_at, holder_of, waits_on}
use Rattle.executive.specs.Calls.{stands_of}
use Rattle.executive.specs.Reading.{Reading}
use Rattle.executive.specs.Tables.{Table}
use Rattle.judging.specs.declared.Verdict.{Verdict}
use Rattle.theorems.specs.Histories.{Call, acquire, called, after}
use Rattle.theorems.specs.Cases.{loaded, runs}

-- a loader that refuses everything
abbrev pub RefusesAll : (List ℕ → Reading) → Type 0
RefusesAll load = (image : List ℕ) → (load image).number ≢ 0

-- a judge that refuses everything
abbrev pub PassesNone : (List Task → Board → Verdict) → Type 0
PassesNone judge = (tasks : List Task) (board : Board) → (judge tasks board).number ≢ 0

-- one verdict for all: the number is the same, whichever task is named beside it
abbrev pub OneVerdict : (List Task → Board → Verdict) → Type 0
OneVerdict judge = (tasks others : List Task) (board : Board) → (judge tasks board).number ≡ (judge others board).number

-- one chosen task for all: on a table, after any two lists of calls, it is the same task that runs, if one runs at all
abbrev pub OneChoice : (Table → List Call → ℕ) → Type 0
OneChoice choice =
    (table : Table) (calls others : List Call) → choice table calls ≢ 0 → choice table others ≢ 0 → choice table calls ≡ choice table others

-- a dispatcher whose state never moves: every call on a loaded state hands that state back
abbrev pub NeverMoves : (State → Call → Step) → Type 0
NeverMoves call = (table : Table) (c : Call) → (call (loaded table) c).state ≡ loaded table

-- one that passes standing on for the first waiter and afterwards only keeps the old order: where the task at j waits on the one at i already,
-- and an acquire of a semaphore that the one at i holds is answered 90, the standing of the one at i is as it was
abbrev pub KeepsFirst : (Table → List Call → ℕ → Stands) → Type 0
KeepsFirst standing =
    (table : Table) (calls : List Call) (number i j : ℕ)
    → let s = after (loaded table) calls in
    waits_on (tasks_of s) (sems_of s) j ≡ Some i
    → holder_of (sems_of s) (sem_place (sems_of s) number) ≡ Some i
    → (called s (acquire number)).answer ≡ 90
    → standing table (calls ++ (acquire number ∷ [])) (task_at (tasks_of s) i).number ≡ standing table calls (task_at (tasks_of s) i).number

-- what the executive chooses, and the standing that it gives, after calls on a loaded table
unfoldable pub choice_after : Table → List Call → ℕ
choice_after table calls = runs (after (loaded table) calls)

unfoldable pub standing_after : Table → List Call → ℕ → Stands
standing_after table calls number = stands_of (after (loaded table) calls) number
