-- States that come from loading and calls, and what a list of calls does.
use Rattle.std.specs.Prelude.{ℕ, ◌≡◌, Bool, cond, ◌||◌, List, [], ◌∷◌, eqb}
use Rattle.executive.specs.declared.state.State.{State}
use Rattle.executive.specs.Calls.{Step}
use Rattle.executive.specs.Calls.{release_of, signal_of, withdraw_of, acquire_of, give_of, complete_of, block_of}

-- 01, "Dispatch": the calls, with what each is given
pub data Call : Type 0 where
  release : ℕ → ℕ → Call
  signal : ℕ → Call
  withdraw : ℕ → Call
  acquire : ℕ → Call
  give : ℕ → Call
  complete : Call
  block : Call

-- 01, "Dispatch": each call hands back the next state and a number
unfoldable pub called : State → Call → Step
called s (release number time) = release_of s number time
called s (signal number) = signal_of s number
called s (withdraw number) = withdraw_of s number
called s (acquire number) = acquire_of s number
called s (give number) = give_of s number
called s complete = complete_of s
called s block = block_of s

-- the state after a list of calls
unfoldable pub after : State → List Call → State
after s [] = s
after s (c ∷ rest) = after (called s c).state rest

-- the number that each call of a list gets
unfoldable pub answers_to : State → List Call → List ℕ
answers_to s [] = []
answers_to s (c ∷ rest) = (called s c).answer ∷ answers_to (called s c).state rest

-- 01, "Numbers that come back": 0 is done, and 90 is not a refusal
unfoldable pub is_accepted : ℕ → Bool
is_accepted number = eqb number 0 || eqb number 90

-- the accepted calls of a list alone
unfoldable pub accepted_of : State → List Call → List Call
accepted_of s [] = []
accepted_of s (c ∷ rest) =
    cond (is_accepted (called s c).answer) (c ∷ accepted_of (called s c).state rest) (accepted_of (called s c).state rest)

-- the accepted numbers of a list alone
unfoldable pub accepted_numbers : List ℕ → List ℕ
accepted_numbers [] = []
accepted_numbers (k ∷ rest) = cond (is_accepted k) (k ∷ accepted_numbers rest) (accepted_numbers rest)

-- 01, "Numbers that come back": the numbers that each call may give, beside 0
unfoldable pub numbers_of : Call → List ℕ
numbers_of (release number time) = 20 ∷ 23 ∷ 22 ∷ []
numbers_of (signal number) = 20 ∷ 24 ∷ []
numbers_of (withdraw number) = 20 ∷ 25 ∷ []
numbers_of (acquire number) = 26 ∷ 21 ∷ 28 ∷ 90 ∷ []
numbers_of (give number) = 26 ∷ 21 ∷ 29 ∷ []
numbers_of complete = 26 ∷ 27 ∷ []
numbers_of block = 26 ∷ []

-- a number is 0 or one of these
pub data Among (k : ℕ) : List ℕ → Type 0 where
  zero_done : {l : List ℕ} → k ≡ 0 → Among k l
  this_one : {j : ℕ} {l : List ℕ} → k ≡ j → Among k (j ∷ l)
  a_later : {j : ℕ} {l : List ℕ} → Among k l → Among k (j ∷ l)
