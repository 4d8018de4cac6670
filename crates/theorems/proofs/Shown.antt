-- The user's three demands, shown: each statement of specs/Demands.antt under its name in lower case.
-- Assumes nothing.
use Rattle.std.specs.Prelude.{Option, Some, None}
use Prim.Native.Nat.{ℕ, ◌%◌, ◌<◌}
use mathlib.Core.Path.{◌≡◌, refl, sym, ap, subst, ◌∙◌}
use mathlib.Core.Logic.{◌↔◌, ◌≢◌, ◌⊎◌, inl, inr}
use mathlib.Core.Bool.{true}
use mathlib.Core.List.{List, [], ◌∷◌}
use native.Mathlib.Omega.{arith}
use lib.Dec.{ltb}
use lib.ListN.{length}
use borrow.Author.Tests.{eqb-true, eq-eqb, ltb-true, lt-ltb}
use Rattle.table.proofs.RefusalLaws.{answered_refused}
use Rattle.executive.specs.declared.state.State.{State}
use Rattle.executive.specs.States.{tasks_of, sems_of}
use Rattle.executive.specs.Sound.{Sound}
use Rattle.waits.specs.declared.standing.Rank.{Rank}
use Rattle.waits.specs.Standing.{standing_of, running_of, number_at}
use Rattle.waits.specs.Reaches.{IsStanding}
use Rattle.executive.specs.Tables.{table_of}
use Rattle.kept.proofs.SoundCalls.{
  release_sound,
  signal_sound,
  withdraw_sound,
  acquire_sound,
  give_sound,
  complete_sound,
  block_sound,
}
use Rattle.executive.proofs.SoundLaws.{tasks_length_lem, chained, ranges, runs_below}
use Rattle.waits.proofs.DispatchLaws as Dispatch
use Rattle.judging.proofs.PassLaws as Pass
use Rattle.image.specs.Loading.{bad_length}
use Rattle.image.specs.Writing.{encoded, bad_buffer, write_number, written}
use Rattle.image.proofs.RoundTrips as Trips
use Rattle.linux.proofs.ListTrips as ListTrips
use Rattle.theorems.specs.Comes.{Comes, loaded, listed, from_call}
use Rattle.theorems.specs.Demands
use Rattle.theorems.specs.Histories.{
  Call,
  release,
  signal,
  withdraw,
  acquire,
  give,
  complete,
  block,
  called,
  after,
  accepted_of,
}
use Rattle.theorems.proofs.Exactly as Exactly
use Rattle.theorems.proofs.FirstLaws.{nothing_more, test_says, first_that, either}
use Rattle.theorems.proofs.Judged as Judged
use Rattle.theorems.proofs.LoadedWhen as LoadedWhen
use Rattle.theorems.proofs.Numbers as Numbers
use Rattle.theorems.proofs.Replay as Replay
use Rattle.theorems.proofs.Undone as Undo

-- each call keeps a sound state sound
call_sound : (s : State) → Sound s → (c : Call) → Sound (called s c).state
unfolding called
call_sound s sound (release number time) = release_sound s sound number time
call_sound s sound (signal number) = signal_sound s sound number
call_sound s sound (withdraw number) = withdraw_sound s sound number
call_sound s sound (acquire number) = acquire_sound s sound number
call_sound s sound (give number) = give_sound s sound number
call_sound s sound complete = complete_sound s sound
call_sound s sound block = block_sound s sound

pub comes_sound : Demands.ComesSound
comes_sound s (loaded image bytes) = Trips.loaded_sound image bytes
comes_sound s (listed list bytes) = ListTrips.read_sound list
comes_sound s (from_call {s = before} c h) = call_sound before (comes_sound before h) c

pub comes_well_formed : Demands.ComesWellFormed
comes_well_formed s h = (comes_sound s h).table

-- every state after a list of calls comes too
comes_after : (s : State) → Comes s → (calls : List Call) → Comes (after s calls)
unfolding after
comes_after s h [] = h
comes_after s h (c ∷ rest) = comes_after (called s c).state (from_call c h) rest

pub call_numbers : Demands.CallNumbers
call_numbers s h c = Numbers.call_numbers s (comes_sound s h) c

pub call_when : Demands.CallWhen
call_when s h c k = Exactly.call_when s (comes_sound s h) c k

pub refused_same : Demands.RefusedSame
refused_same s c h = Replay.refused_same s c h

pub refused_write : Demands.RefusedWrite
unfolding written
refused_write s buffer h = answered_refused (write_number s (length buffer)) (λ number. buffer) _ h

-- the tests of a buffer's length in 01's words
bad_says : (s : State) (bytes : ℕ)
    → (bad_buffer s bytes ≡ true) ↔ ((bytes % 32 ≢ 0) ⊎ ((4096 < bytes) ⊎ (bytes < length (encoded (table_of s)))))
unfolding bad_buffer
bad_says s bytes =
    let e = either (bad_length bytes) (ltb bytes (length (encoded (table_of s)))) in
    let l = LoadedWhen.length_says bytes in (
      λ h. elim (e.0 h) [
        | inl a ↦ elim (l.0 a) [ inl x ↦ inl x | inr y ↦ inr (inl y) ]
        | inr c ↦ inr (inr (ltb-true bytes (length (encoded (table_of s))) c))
      ],
      λ w. e.1
          (elim w [
            | inl x ↦ inl (l.1 (inl x))
            | inr v ↦ elim v [ inl y ↦ inl (l.1 (inr y)) | inr z ↦ inr (lt-ltb bytes (length (encoded (table_of s))) z) ]
          ]),
    )

pub write_when : Demands.WriteWhen
unfolding write_number
write_when s bytes k =
    first_that
    (test_says (eqb-true s.n 0, eq-eqb s.n 0) (λ some. test_says (bad_says s bytes) (λ good. nothing_more))) k

pub load_when : Demands.LoadWhen
load_when = LoadedWhen.load_when

pub judge_when : Demands.JudgeWhen
judge_when = Judged.judge_when

pub judge_names : Demands.JudgeNames
judge_names = Judged.judge_names

pub refused_load_lem : Demands.RefusedLoad
refused_load_lem = Trips.refused_empty

pub accepted_exactly : Demands.AcceptedExactly
accepted_exactly image bytes = (Trips.loads_accepted image bytes, Trips.accepted_loads image)

pub write_after_load : Demands.WriteAfterLoad
write_after_load = Trips.rewritten

pub load_after_write : Demands.LoadAfterWrite
load_after_write s h some buffer n = Trips.reloaded s (comes_sound s h) some buffer n

pub passes_exactly : Demands.PassesExactly
passes_exactly s h some = Pass.passes_exactly (tasks_of s) (sems_of s) s.board s.present (comes_well_formed s h some)

pub runs_best : Demands.RunsBest
runs_best s h i e =
    let sound = comes_sound s h in
    let l = tasks_length_lem s sound in
    let b = Dispatch.runs_is (tasks_of s) (sems_of s) i e in
    (runs_below s sound i e, b.passes, λ j k r. b.best j (omega arith) r)

-- the answer of running is 0 exactly if nobody runs: a task's number is not 0
runs_zero : (s : State) → Sound s → (f : Option ℕ) → running_of (tasks_of s) (sems_of s) ≡ f
    → (number_at (tasks_of s) (running_of (tasks_of s) (sems_of s)) ≡ 0) ↔ (running_of (tasks_of s) (sems_of s) ≡ None)
unfolding number_at
runs_zero s sound None q = (λ e. q, λ e. rw q)
runs_zero s sound (Some i) q = (
  λ e.
      let r = (ranges s sound i (runs_below s sound i q)).number_least in
      let n = sym (ap (number_at (tasks_of s)) q) ∙ e in
      absurd (omega arith),
  λ e. let z : ◌≡◌ {A = ℕ} 0 1 = cc in absurd (omega arith),
)

pub runs_none : Demands.RunsNone
runs_none s h =
    let sound = comes_sound s h in
    let l = tasks_length_lem s sound in
    let zero = runs_zero s sound (running_of (tasks_of s) (sems_of s)) refl in (
      λ e j k. Dispatch.runs_none (tasks_of s) (sems_of s) (zero.0 e) j (omega arith),
      λ w. zero.1 (Dispatch.none_runs (tasks_of s) (sems_of s) (λ j k. w j (omega arith))),
    )

pub replayed : Demands.Replayed
replayed s calls = (Replay.replay_state s calls, Replay.replay_answers s calls)

pub afresh : Demands.Afresh
afresh s h calls i below r =
    let t = after s (accepted_of s calls) in
    let sound = comes_sound t (comes_after s h (accepted_of s calls)) in
    let l = tasks_length_lem t sound in
    let same : standing_of (tasks_of t) (sems_of t) i ≡ standing_of (tasks_of (after s calls)) (sems_of (after s calls)) i =
    ap (λ (x : State). standing_of (tasks_of x) (sems_of x) i) (Replay.replay_state s calls) in
    let is = Dispatch.standing_is (tasks_of t) (sems_of t) (chained t sound) i (omega arith) in (
      λ w. Dispatch.standing_one (tasks_of t) (sems_of t) i r (standing_of (tasks_of t) (sems_of t) i) w is ∙ same,
      λ e. subst (λ (x : Rank). IsStanding (tasks_of t) (sems_of t) i x) (same ∙ sym e) is,
    )

pub standing_when : Demands.StandingWhen
standing_when s h number a = Exactly.standing_when s (comes_sound s h) number a

pub nobody_waits : Demands.NobodyWaits
nobody_waits s h i below none =
    let sound = comes_sound s h in
    let l = tasks_length_lem s sound in
    Dispatch.nobody_waits (tasks_of s) (sems_of s) (chained s sound) i (omega arith) (λ j k e. none j (omega arith) e)

pub undone : Demands.Undone
undone s h sem n calls pulses = Undo.undone s (comes_sound s h) sem n calls pulses
