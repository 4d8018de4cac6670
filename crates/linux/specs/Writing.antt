-- Writing a DP1 table as a list (02, b)).
use Rattle.std.specs.Prelude.{ℕ, ◌*◌, Bool, not, ◌||◌, List, [], ◌∷◌, ◌++◌, eqb, length, replicate}
use Rattle.fields.specs.Fields.{bytes_of}
use Rattle.fields.specs.Parts.{flat}
use Rattle.table.specs.declared.Task.{Task}
use Rattle.table.specs.Refusals.{first_of, answered}
use Rattle.table.specs.Sums.{any}
use Rattle.executive.specs.declared.state.State.{State}
use Rattle.executive.specs.States.{tasks_of}

-- 02, b), "writing puts the period in both times": size 48, policy 6; flags, nice and priority zero; the cost, and the period in both times, in nanoseconds
unfoldable pub encode_attr : Task → List ℕ
encode_attr t =
    bytes_of 4 48
    ++ (bytes_of 4 6 ++ (replicate 16 0 ++ (bytes_of 8 (t.cost * 10) ++ (bytes_of 8 (t.period * 10) ++ bytes_of 8 (t.period * 10)))))

-- a task outside DP1
unfoldable pub outside_dp1 : Task → Bool
outside_dp1 t = not (eqb t.queue 1)

-- 02, b), 43: "a task outside DP1 or a buffer not of exactly 48 bytes a task"
unfoldable pub no_list : State → ℕ → Bool
no_list s bytes = any outside_dp1 (tasks_of s) || not (eqb bytes (48 * length (tasks_of s)))

-- 02, b), "when writing, 7, then 43"
unfoldable pub list_number : State → ℕ → ℕ
list_number s bytes = first_of ((7, eqb s.n 0) ∷ (43, no_list s bytes) ∷ [])

-- records in table order; semaphores and a board record are left out. A refusal leaves every byte
unfoldable pub list_written : State → List ℕ → List ℕ
list_written s list = answered (list_number s (length list)) (λ number. list) (flat encode_attr (tasks_of s))
