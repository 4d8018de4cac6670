-- The lines of the checking program (01, "Bench figures": `task`, number, queue, charge; `verdict`, number, task; `image`, number, place).
use Rattle.std.specs.Prelude.{ℕ, zero, suc, ◌+◌, ◌/◌, ◌%◌, ◌≡◌, cond, List, [], ◌∷◌, ◌++◌, ltb, length}
use Rattle.std.proofs.lemmas.List.Edits.{sets}

-- the digit of a number below ten: 48 is `0`
abbrev pub digit : ℕ → ℕ
digit n = 48 + n

-- the decimal digits of a number, so many at the most
unfoldable pub decimal_in : ℕ → ℕ → List ℕ
decimal_in zero n = []
decimal_in (suc more) n = cond (ltb n 10) (digit n ∷ []) (decimal_in more (n / 10) ++ (digit (n % 10) ∷ []))

-- the decimal digits of a number below 2^64, which has twenty at the most
unfoldable pub decimal : ℕ → List ℕ
decimal n = decimal_in 20 n

-- each number behind a blank, which is 32
unfoldable pub numbered : List ℕ → List ℕ
numbered [] = []
numbered (n ∷ rest) = (32 ∷ decimal n) ++ numbered rest

-- a line: a word, the numbers, and the line's end, which is 10
unfoldable pub line_of : List ℕ → List ℕ → List ℕ
line_of word numbers = word ++ (numbered numbers ++ (10 ∷ []))

-- bytes put into a buffer at a place, where they end, and every other byte as it was
pub record Put (before : List ℕ) (at : ℕ) (bytes after : List ℕ) (end : ℕ) : Type 0 where
  pub contents : after ≡ sets before at bytes
  pub ends : end ≡ at + length bytes
