-- Little-endian numbers of any width in a list of bytes (01, "The image": "little-endian").
use Rattle.std.specs.Prelude.{ℕ, zero, suc, ◌+◌, ◌*◌, ◌/◌, ◌%◌, ◌<◌, Bool, List, [], ◌∷◌, ◌++◌, eqb, length, get_or, take, drop}
use Rattle.std.specs.List.{list_all}

-- the number that the bytes are, the first byte counting least
unfoldable pub value_of : List ℕ → ℕ
value_of [] = 0
value_of (b ∷ bs) = b + value_of bs * 256

-- the bytes of a number, as many as the width says
unfoldable pub bytes_of : ℕ → ℕ → List ℕ
bytes_of zero value = []
bytes_of (suc width) value = value % 256 ∷ bytes_of width (value / 256)

-- the number of this width that stands at a place
unfoldable pub read_at : ℕ → List ℕ → ℕ → ℕ
read_at width bytes at = value_of (take width (drop at bytes))

-- the bytes with a number of this width put at a place
unfoldable pub put_at : ℕ → List ℕ → ℕ → ℕ → List ℕ
put_at width bytes at value = take at bytes ++ (bytes_of width value ++ drop (at + width) bytes)

-- every byte of the part is b
unfoldable pub all_are : ℕ → List ℕ → Bool
all_are b = list_all (λ x. eqb x b)

-- what a lent slice of u8 holds
abbrev pub Bytes : List ℕ → Type 0
Bytes l = (i : ℕ) → i < length l → get_or l i 0 < 256
