-- Records of one width, one behind the other in a list of bytes (01, "The image": records of 32 bytes; 02, b): 48 bytes each).
use Rattle.std.specs.Prelude.{ℕ, zero, suc, List, [], ◌∷◌, ◌++◌, take, drop}

-- the records of a width, as many as the count says
unfoldable pub parts_of : ℕ → ℕ → List ℕ → List (List ℕ)
parts_of width zero bytes = []
parts_of width (suc count) bytes = take width bytes ∷ parts_of width count (drop width bytes)

-- the records of a list of entries
unfoldable pub flat : {A : Type 0} → (A → List ℕ) → List A → List ℕ
flat encode [] = []
flat encode (x ∷ xs) = encode x ++ flat encode xs
