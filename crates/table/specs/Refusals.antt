-- Refusals as an ordered list, as document 01 prints them.
use Rattle.std.specs.Prelude.{ℕ, Bool, cond, List, [], ◌∷◌, eqb, Result, Ok, Err}
use Rattle.table.specs.declared.refusals.Refusal.{Refusal}
use Rattle.table.specs.declared.refusals.Refusal.TheVariants.{
  ImageLength,
  UnknownKind,
  UsedAfterErased,
  OutOfRange,
  OrderBroken,
  TooMany,
  NoTask,
  NumberTwice,
  BufferLength,
  SharedPeriod,
  Dp1OverFull,
  DpOverFull,
  Dp2NoTime,
  FpNoTime,
  UnknownTask,
  UnknownSem,
  TimeRefused,
  NotIdle,
  NoEventWait,
  NoSemWait,
  NobodyRuns,
  StillHolds,
  Ring,
  NotHeld,
  ListSize,
  ListPolicy,
  ListTimes,
  NoList,
}

-- 01, "Numbers that come back": "the first that applies". The number of the first test that holds, 0 where none does
unfoldable pub first_of : List (ℕ × Bool) → ℕ
first_of [] = 0
first_of (r ∷ rest) = cond r.1 r.0 (first_of rest)

-- what a call answers: a refusal where the number is not 0, else what the call does
unfoldable pub answered : {A : Type 0} → ℕ → (ℕ → A) → A → A
answered number refused done = cond (eqb number 0) done (refused number)

-- 01, "Numbers that come back", and 02: the number of each refusal
abbrev pub number_of : Refusal → ℕ
number_of ImageLength = 1
number_of UnknownKind = 2
number_of UsedAfterErased = 3
number_of OutOfRange = 4
number_of OrderBroken = 5
number_of TooMany = 6
number_of NoTask = 7
number_of NumberTwice = 8
number_of BufferLength = 9
number_of SharedPeriod = 10
number_of Dp1OverFull = 11
number_of DpOverFull = 12
number_of Dp2NoTime = 13
number_of FpNoTime = 14
number_of UnknownTask = 20
number_of UnknownSem = 21
number_of TimeRefused = 22
number_of NotIdle = 23
number_of NoEventWait = 24
number_of NoSemWait = 25
number_of NobodyRuns = 26
number_of StillHolds = 27
number_of Ring = 28
number_of NotHeld = 29
number_of ListSize = 40
number_of ListPolicy = 41
number_of ListTimes = 42
number_of NoList = 43

-- 0 is done; else the number of the refusal
abbrev pub told : {A : Type 0} → Result A Refusal → ℕ
told (Ok x) = 0
told (Err r) = number_of r
