-- When a number is given: the first of an operation's conditions that holds, in the order in which document 01 lists them.
use Rattle.std.specs.Prelude.{ℕ, ◌≡◌, ◌⊎◌, List, [], ◌∷◌}

-- 01, "Numbers that come back": k is the number of the first condition that holds, and 0 where none does
abbrev pub FirstThat : List (ℕ × Type 0) → ℕ → Type 0
FirstThat [] k = k ≡ 0
FirstThat (c ∷ rest) k = (c.1 × (k ≡ c.0)) ⊎ ((c.1 → ⊥) × FirstThat rest k)
