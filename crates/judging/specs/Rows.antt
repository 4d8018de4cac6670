-- The rows of a table: the queue, the period, the load and the span of each task, in table order. Every test of judging speaks of these lists.
use Rattle.std.specs.Prelude.{ℕ, List, map, get_or}
use Rattle.table.specs.declared.Board.{Board}
use Rattle.table.specs.declared.Task.{Task}
use Rattle.table.specs.Entries.{span_of}
use Rattle.charges.specs.Charges.{load_of}
use Rattle.judging.specs.declared.Row.{Row}

-- the row at a position, and one of zeros behind the last
abbrev pub blank_row : Row
blank_row = record { period = 0; load = 0; span = 0; queue = 0 }

abbrev pub row_at : List Row → ℕ → Row
row_at rows i = get_or rows i blank_row

-- the row of a task among these, at these figures; the load is that of 01, "Charges", the span that of 02, a)
unfoldable pub row_of : List Task → Board → Task → Row
row_of tasks board t = record { period = t.period; load = load_of tasks board t; span = span_of t; queue = t.queue }

-- the rows of these tasks
unfoldable pub rows_of : List Task → Board → List Row
rows_of tasks board = map (row_of tasks board) tasks
