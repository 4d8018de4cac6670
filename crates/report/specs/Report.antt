-- What the checking program prints (01, "Bench figures").
use Rattle.std.specs.Prelude.{ℕ, ◌≤◌, ◌≡◌, cond, List, [], ◌∷◌, ◌++◌, eqb, ltb, length}
use Rattle.std.proofs.lemmas.List.Edits.{sets}
use Rattle.table.specs.declared.Board.{Board}
use Rattle.table.specs.declared.Task.{Task}
use Rattle.lines.specs.Lines.{line_of}
use Rattle.executive.specs.declared.state.State.{State}
use Rattle.executive.specs.States.{tasks_of}
use Rattle.charges.specs.declared.Counts.{Counts}
use Rattle.charges.specs.Charges.{counts_of, charge_by}
use Rattle.judging.specs.declared.Verdict.{Verdict}
use Rattle.judging.specs.Verdicts.{verdict_of}
use Rattle.executive.specs.Reading.{Reading}
use Rattle.image.specs.Loading.{load_of}

-- the words `task`, `verdict` and `image`
unfoldable pub task_word : List ℕ
task_word = 116 ∷ 97 ∷ 115 ∷ 107 ∷ []

unfoldable pub verdict_word : List ℕ
verdict_word = 118 ∷ 101 ∷ 114 ∷ 100 ∷ 105 ∷ 99 ∷ 116 ∷ []

unfoldable pub image_word : List ℕ
image_word = 105 ∷ 109 ∷ 97 ∷ 103 ∷ 101 ∷ []

-- it prints for each task `task`, number, queue, charge
unfoldable pub line_by : Counts → Task → List ℕ
line_by counts t = line_of task_word (t.number ∷ t.queue ∷ charge_by counts t ∷ [])

unfoldable pub lines_by : Counts → List Task → List ℕ
lines_by counts [] = []
lines_by counts (t ∷ rest) = line_by counts t ++ lines_by counts rest

unfoldable pub task_lines : List Task → Board → List ℕ
task_lines tasks board = lines_by (counts_of tasks board) tasks

-- last `verdict`, number, task
unfoldable pub verdict_line : Verdict → List ℕ
verdict_line v = line_of verdict_word (v.number ∷ v.task ∷ [])

-- a refused image prints only `image`, number, place
unfoldable pub image_line : Reading → List ℕ
image_line l = line_of image_word (l.number ∷ l.place ∷ [])

unfoldable pub state_lines : State → List ℕ
state_lines s = task_lines (tasks_of s) s.board ++ verdict_line (verdict_of (tasks_of s) s.board)

-- the whole output for an image
unfoldable pub report_of : List ℕ → List ℕ
report_of image = cond (eqb (load_of image).number 0) (state_lines (load_of image).state) (image_line (load_of image))

-- what is in the lent buffer afterwards, and where the output ends, inside of it; a buffer below 4,402 bytes is left as it was, and 0 comes back
pub record Reported (image before after : List ℕ) (end : ℕ) : Type 0 where
  pub contents : after ≡ cond (ltb (length before) 4402) before (sets before 0 (report_of image))
  pub ends : end ≡ cond (ltb (length before) 4402) 0 (length (report_of image))
  pub inside : end ≤ length before
