-- Tests over the entries of a list.
use Rattle.std.specs.Prelude.{Bool, List}
use Rattle.std.specs.List.{list_all, list_any}

-- every entry passes the test, and some entry does: the library's
abbrev pub every : {A : Type 0} → (A → Bool) → List A → Bool
every = list_all

abbrev pub any : {A : Type 0} → (A → Bool) → List A → Bool
any = list_any
