-- Writing: the records, then 255 in every byte that remains (01, "The image").
use Rattle.std.specs.Prelude.{ℕ, ◌-◌, Bool, cond, ◌||◌, List, [], ◌∷◌, ◌++◌, eqb, ltb, length, replicate, Option, None, Some}
use Rattle.fields.specs.Parts.{flat}
use Rattle.table.specs.declared.Board.{Board}
use Rattle.table.specs.Refusals.{first_of, answered}
use Rattle.executive.specs.declared.state.State.{State}
use Rattle.executive.specs.Tables.{Table, table_of}
use Rattle.records.specs.Records.{encode_task, encode_board, encode_sem}
use Rattle.image.specs.Loading.{bad_length}

-- 01, "The image", order: the board record, if one was there; then the tasks; then the semaphores
unfoldable pub encoded : Table → List ℕ
encoded t = cond t.present (encode_board t.board) [] ++ (flat encode_task t.tasks ++ flat encode_sem t.sems)

-- the board record, or nothing
abbrev pub board_bytes : Option Board → List ℕ
board_bytes None = []
board_bytes (Some b) = encode_board b

-- 9: buffer length not a multiple of 32, above 4,096, or too short
unfoldable pub bad_buffer : State → ℕ → Bool
bad_buffer s bytes = bad_length bytes || ltb bytes (length (encoded (table_of s)))

-- 01, "Numbers that come back": on the empty state writing gives 7, before it checks 9
unfoldable pub write_number : State → ℕ → ℕ
write_number s bytes = first_of ((7, eqb s.n 0) ∷ (9, bad_buffer s bytes) ∷ [])

-- 01, "The image": the records, then 255 in every byte that remains. A refused write leaves the buffer as it was
unfoldable pub written : State → List ℕ → List ℕ
written s buffer =
    answered (write_number s (length buffer)) (λ number. buffer)
    (encoded (table_of s) ++ replicate (length buffer - length (encoded (table_of s))) 255)
