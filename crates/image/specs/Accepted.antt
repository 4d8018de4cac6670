-- What is accepted, said without the loader.
use Rattle.std.specs.Prelude.{ℕ, ◌*◌, ◌≤◌, ◌≡◌, List, ◌++◌, length, replicate}
use Rattle.executive.specs.Tables.{Table, WellFormedTable}
use Rattle.image.specs.Writing.{encoded}

-- an image is accepted if it is the encoding of a well-formed table, followed by erased records only, and not above 4,096 bytes
pub record Accepted (image : List ℕ) : Type 0 where
  pub table : Table
  pub well_formed : WellFormedTable table
  pub erased : ℕ
  pub bytes : image ≡ encoded table ++ replicate (32 * erased) 255
  pub fits : length image ≤ 4096
