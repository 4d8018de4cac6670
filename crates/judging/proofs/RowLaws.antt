-- The laws of the rows that judging works on: there is one for each task, and they are in range.
-- Assumes nothing.
use Prim.Native.Nat.{ℕ, ◌+◌, ◌≤◌, ◌<◌}
use mathlib.Core.Path.{◌≡◌, sym, ap, ◌∙◌}
use mathlib.Core.Bool.{Bool}
use mathlib.Core.List.{List, [], ◌∷◌, ◌++◌, map, map-append}
use native.Mathlib.Nat.{le_trans}
use native.Mathlib.Numerals.{add-one}
use native.Mathlib.Omega.{arith}
use lib.ListN.{length, get_or, take, set, length-map}
use lib.Seq.{take-suc, take-suc-set}
use Rattle.std.proofs.lemmas.List.{get_or-map}
use Rattle.table.specs.declared.Board.{Board}
use Rattle.table.specs.declared.Task.{Task}
use Rattle.table.specs.declared.Sem.{Sem}
use Rattle.table.specs.Entries.{blank_task}
use Rattle.table.specs.WellFormed.{WellFormed, task_in_range}
use Rattle.table.proofs.SumLaws.{every_at}
use Rattle.table.proofs.OrderLaws.{TaskRange, task_range, span_range}
use Rattle.charges.proofs.ChargeLaws.{load_bound}
use Rattle.judging.specs.Rows.{blank_row, row_at, row_of, rows_of}
use Rattle.judging.specs.Ranges.{RowInRange, InRange}

-- one entry more of what is made entry by entry
pub entry_more : {A B : Type 0} (f : A → B) (l : List A) (r : List B) (i : ℕ) (d : A) → i < length l → i < length r → take i r ≡ map f (take i l)
    → take (i + 1) (set r i (f (get_or l i d))) ≡ map f (take (i + 1) l)
entry_more {B = B} f l r i d hl hr e =
    ap (λ (k : ℕ). take k (set r i (f (get_or l i d)))) (add-one i) ∙ take-suc-set r i (f (get_or l i d)) hr
    ∙ ap (λ (x : List B). x ++ (f (get_or l i d) ∷ [])) e
    ∙ sym (ap (λ (k : ℕ). map f (take k l)) (add-one i) ∙ ap (map f) (take-suc l i d hl) ∙ map-append f (take i l) (get_or l i d ∷ []))

module _ (tasks : List Task) (board : Board) where
  -- there is a row for each task
  pub rows_length : length (rows_of tasks board) ≡ length tasks
  unfolding rows_of
  rows_length = length-map tasks (row_of tasks board)

  pub row_is : (j : ℕ) → j < length tasks → row_at (rows_of tasks board) j ≡ row_of tasks board (get_or tasks j blank_task)
  unfolding rows_of
  row_is j h = get_or-map (row_of tasks board) tasks j blank_task blank_row h

  -- they are in range, if the table has a task and is well formed or if it has none
  pub rows_range : (sems : List Sem) (present : Bool) → length tasks ≤ 64 → (1 ≤ length tasks → WellFormed tasks sems board present)
      → InRange (rows_of tasks board)
  unfolding row_of
  rows_range sems present fit wf = record { fit = omega (arith, rows_length); each = λ j h. each j (omega (arith, rows_length)) }
    where
      each : (j : ℕ) → j < length tasks → RowInRange (row_at (rows_of tasks board) j)
      each j h =
          let formed : WellFormed tasks sems board present = wf (omega arith) in
          let t = get_or tasks j blank_task in
          let range : TaskRange t = task_range t (every_at task_in_range tasks formed.task_ranges j h blank_task) in
          rw (row_is j h)
          (record {
            period_least = range.period_least;
            period_most = range.period_most;
            load = load_bound tasks board t fit formed.figures (le_trans range.cost_most range.period_most);
            span = le_trans (span_range t range).1 range.period_most;
          })
