-- The calls of a script, told by their first byte, and a script played record by record.
-- Assumes nothing.
use Prim.Native.Nat.{ℕ, suc, ◌+◌, ◌-◌, ◌*◌, ◌/◌, ◌%◌, ◌≤◌, ◌<◌}
use mathlib.Core.Path.{◌≡◌, refl, sym, ap, subst, ◌∙◌}
use mathlib.Core.Logic.{inl, inr, ⊎_elim}
use mathlib.Core.Bool.{Bool, true, false, cond}
use mathlib.Core.List.{List, [], ◌++◌, append_assoc, append-nil}
use native.Mathlib.Nat.{sub-zero}
use native.Mathlib.Omega.{arith}
use lib.Dec.{eqb}
use lib.ListN.{length, get_or}
use lib.Seq.{sets}
use borrow.Author.Tests.{eqb-false, lt-ltb, le-ltb, eq-eqb, ne_eqb}
use Rattle.fields.specs.Fields.{read_at}
use Rattle.lines.specs.Lines.{Put}
use Rattle.lines.proofs.PutLaws.{put_none, put_more}
use Rattle.table.proofs.SumLaws.{either_way}
use Rattle.executive.specs.declared.state.State.{State}
use Rattle.executive.specs.States.{tasks_of, sems_of}
use Rattle.executive.specs.Sound.{Sound}
use Rattle.waits.specs.Standing.{number_at, running_of}
use Rattle.executive.specs.Calls.{
  Step,
  Stands,
  moved,
  stands_of,
  release_of,
  signal_of,
  withdraw_of,
  acquire_of,
  give_of,
  complete_of,
  block_of,
}
use Rattle.kept.proofs.RefusedLaws.{
  Same,
  release_same,
  signal_same,
  withdraw_same,
  acquire_same,
  give_same,
  complete_same,
  block_same,
}
use Rattle.kept.proofs.SoundCalls.{
  release_sound,
  signal_sound,
  withdraw_sound,
  acquire_sound,
  give_sound,
  complete_sound,
  block_sound,
}
use Rattle.rack.specs.Boundary.{called_by, played_part, part_of, play_from, not_played, Played}
use Rattle.std.specs.Prelude.{Ok, Err, Option, None, Some}
use Rattle.std.specs.Option.{option_map, unwrap_or}
use Rattle.table.specs.declared.Task.{Task}
use Rattle.waits.specs.Waits.{task_at}
use Rattle.table.specs.declared.refusals.Refusal.{Refusal}
use Rattle.table.specs.Refusals.{number_of}
use Rattle.table.proofs.RefusalLaws.{number_not_zero, number_not_waits}
use Rattle.executive.specs.declared.loaded.Refused.{Refused}
use Rattle.executive.specs.Reading.{Reading, reading_by}
use Rattle.image.specs.Loading.{load_of}
use Rattle.rack.proofs.ByteParts.{part_long}

module _ (s : State) (script : List ℕ) (at : ℕ) where
  pub called_release : (number time : ℕ) → get_or script at 0 ≡ 1 → number ≡ read_at 2 script (at + 2) → time ≡ read_at 8 script (at + 8)
      → release_of s number time ≡ called_by s script at
  unfolding called_by
  called_release number time e p q = rw (e, p, q)

  pub called_signal : (number : ℕ) → get_or script at 0 ≡ 2 → number ≡ read_at 2 script (at + 2) → signal_of s number ≡ called_by s script at
  unfolding called_by
  called_signal number e p = rw (e, p)

  pub called_withdraw : (number : ℕ) → get_or script at 0 ≡ 3 → number ≡ read_at 2 script (at + 2) → withdraw_of s number ≡ called_by s script at
  unfolding called_by
  called_withdraw number e p = rw (e, p)

  pub called_acquire : (number : ℕ) → get_or script at 0 ≡ 4 → number ≡ read_at 2 script (at + 2) → acquire_of s number ≡ called_by s script at
  unfolding called_by
  called_acquire number e p = rw (e, p)

  pub called_give : (number : ℕ) → get_or script at 0 ≡ 5 → number ≡ read_at 2 script (at + 2) → give_of s number ≡ called_by s script at
  unfolding called_by
  called_give number e p = rw (e, p)

  pub called_complete : get_or script at 0 ≡ 6 → complete_of s ≡ called_by s script at
  unfolding called_by
  called_complete e = rw e

  pub called_block : get_or script at 0 ≡ 7 → block_of s ≡ called_by s script at
  unfolding called_by
  called_block e = rw e

  -- any other byte is no call
  pub called_none : (get_or script at 0 ≡ 1 → ⊥) → (get_or script at 0 ≡ 2 → ⊥) → (get_or script at 0 ≡ 3 → ⊥) → (get_or script at 0 ≡ 4 → ⊥)
      → (get_or script at 0 ≡ 5 → ⊥) → (get_or script at 0 ≡ 6 → ⊥) → (get_or script at 0 ≡ 7 → ⊥) → moved s 255 ≡ called_by s script at
  unfolding called_by
  called_none a b c d e f g =
      let x = get_or script at 0 in
      rw (ne_eqb x 1 a, ne_eqb x 2 b, ne_eqb x 3 c, ne_eqb x 4 d, ne_eqb x 5 e, ne_eqb x 6 f, ne_eqb x 7 g)

-- a call that is refused hands back the very state, and an unknown one too
abbrev Kept : State → Step → Type 0
Kept s m = (m.answer ≡ 0 → ⊥) → (m.answer ≡ 90 → ⊥) → m.state ≡ s

kept : (s : State) (m : Step) → Same s m → Kept s m
kept s m (inl e) n w = absurd (n e)
kept s m (inr e) n w = e

pub refused_kept : (s : State) (script : List ℕ) (at : ℕ) → Kept s (called_by s script at)
unfolding called_by moved
refused_kept s script at =
    let x = get_or script at 0 in
    let number = read_at 2 script (at + 2) in
    either_way (Kept s) (eqb x 1) _ _ (kept s _ (release_same s number (read_at 8 script (at + 8))))
    (either_way (Kept s) (eqb x 2) _ _ (kept s _ (signal_same s number))
    (either_way (Kept s) (eqb x 3) _ _ (kept s _ (withdraw_same s number))
    (either_way (Kept s) (eqb x 4) _ _ (λ n w. ⊎_elim (λ e. absurd (w e)) (λ e. kept s (acquire_of s number) e n w) (acquire_same s number))
    (either_way (Kept s) (eqb x 5) _ _ (kept s _ (give_same s number))
    (either_way (Kept s) (eqb x 6) _ _ (kept s _ (complete_same s))
    (either_way (Kept s) (eqb x 7) _ _ (kept s _ (block_same s)) (λ n w. refl)))))))

-- the same of a refusal's number
pub kept_by : (s : State) (script : List ℕ) (at : ℕ) (t : State) (r : Refusal) → moved t (number_of r) ≡ called_by s script at
    → s ≡ (called_by s script at).state
unfolding moved
kept_by s script at t r e =
    let answer = ap (λ (m : Step). m.answer) e in
    sym (refused_kept s script at (λ h. eqb-false (number_of r) 0 (number_not_zero r) (answer ∙ h)) (λ h. eqb-false (number_of r) 90 (number_not_waits r) (answer ∙ h)))

choose_sound : (b : Bool) (x y : Step) → Sound x.state → Sound y.state → Sound (cond b x y).state
choose_sound true x y h k = h
choose_sound false x y h k = k

pub called_sound : (s : State) (script : List ℕ) (at : ℕ) → Sound s → Sound (called_by s script at).state
unfolding called_by moved
called_sound s script at h =
    let x = get_or script at 0 in
    let number = read_at 2 script (at + 2) in
    choose_sound (eqb x 1) _ _ (release_sound s h number (read_at 8 script (at + 8)))
    (choose_sound (eqb x 2) _ _ (signal_sound s h number)
    (choose_sound (eqb x 3) _ _ (withdraw_sound s h number)
    (choose_sound (eqb x 4) _ _ (acquire_sound s h number)
    (choose_sound (eqb x 5) _ _ (give_sound s h number)
    (choose_sound (eqb x 6) _ _ (complete_sound s h)
    (choose_sound (eqb x 7) _ _ (block_sound s h) h))))))

part_of_length : (script : List ℕ) (at : ℕ) (m : Step) → length (part_of script at m) ≡ 32
unfolding part_of
part_of_length script at m =
    part_long m.answer (number_at (tasks_of m.state) (running_of (tasks_of m.state) (sems_of m.state))) (stands_of m.state (read_at 2 script (at + 4)))

-- what has been put so far, and what is still to be played from here, make the whole
pub record Playing (from : State) (script : List ℕ) (count : ℕ) (before after : List ℕ) (state : State) (i : ℕ) : Type 0 where
  pub inside : i ≤ count
  pub sound : Sound state
  pub done : List ℕ
  pub put : Put before 0 done after (i * 32)
  pub whole : done ++ play_from state script (i * 16) (count - i) ≡ play_from from script 0 count

pub playing_start : (from : State) (script : List ℕ) (count : ℕ) (out : List ℕ) → Sound from → Playing from script count out out from 0
playing_start from script count out sound =
    record {
      inside = omega arith;
      sound = sound;
      done = [];
      put = put_none out 0;
      whole = ap (play_from from script 0) (sub-zero count);
    }

-- one record more
pub playing_on : (from : State) (script : List ℕ) (count : ℕ) (before after next : List ℕ) (state state' : State) (i end : ℕ)
    → Playing from script count before after state i → i < count → state' ≡ (called_by state script (i * 16)).state
    → Put after (i * 32) (part_of script (i * 16) (called_by state script (i * 16))) next end → Playing from script count before next state' (i + 1)
unfolding play_from
playing_on from script count before after next state state' i end p h same put =
    let m = called_by state script (i * 16) in
    let part = part_of script (i * 16) m in
    let more : count - i ≡ suc (count - (i + 1)) = omega arith in
    let at : i * 16 + 16 ≡ (i + 1) * 16 = omega arith in
    let long : length part ≡ 32 = part_of_length script (i * 16) m in
    let all = put_more p.done part p.put put in
    let e = put.ends in
    let f = all.ends in
    record {
      inside = omega arith;
      sound = subst Sound (sym same) (called_sound state script (i * 16) p.sound);
      done = p.done ++ part;
      put = record { contents = all.contents; ends = omega arith };
      whole =
          append_assoc p.done part (play_from state' script ((i + 1) * 16) (count - (i + 1)))
          ∙ (ap (λ (l : List ℕ). p.done ++ (part ++ l))
          (ap (λ (x : State). play_from x script ((i + 1) * 16) (count - (i + 1))) same
          ∙ ap (λ (k : ℕ). play_from m.state script k (count - (i + 1))) (sym at))
          ∙ (ap (λ (k : ℕ). p.done ++ play_from state script (i * 16) k) (sym more) ∙ p.whole));
    }

-- the number of the task that runs, or 0
named : (tasks : List Task) (runs : Option ℕ) → unwrap_or (option_map (λ i. (task_at tasks i).number) runs) 0 ≡ number_at tasks runs
unfolding number_at
named tasks None = refl
named tasks (Some i) = refl

-- the part of a record, from what was asked of the state after the call
pub part_put : (s : State) (script : List ℕ) (at : ℕ) (state : State) (answer : ℕ) (runs : Option ℕ) (stands : Stands) (ask : ℕ)
    → state ≡ (called_by s script at).state → answer ≡ (called_by s script at).answer
    → runs ≡ option_map (λ i. (task_at (tasks_of state) i).number) (running_of (tasks_of state) (sems_of state)) → stands ≡ stands_of state ask
    → ask ≡ read_at 2 script (at + 4) → {a b : List ℕ} {place end : ℕ} → Put a place (played_part answer (unwrap_or runs 0) stands) b end
    → Put a place (part_of script at (called_by s script at)) b end
unfolding part_of
part_put s script at state answer runs stands ask e f g h k p =
    let m = called_by s script at in
    let running : unwrap_or runs 0 ≡ number_at (tasks_of m.state) (running_of (tasks_of m.state) (sems_of m.state)) =
    ap (λ (o : Option ℕ). unwrap_or o 0) g
    ∙ (named (tasks_of state) (running_of (tasks_of state) (sems_of state)) ∙ ap (λ (x : State). number_at (tasks_of x) (running_of (tasks_of x) (sems_of x))) e) in
    let standing : stands ≡ stands_of m.state (read_at 2 script (at + 4)) = h ∙ (ap (λ (x : State). stands_of x ask) e ∙ ap (stands_of m.state) k) in
    rw (f, running, standing) at p

-- at the end all is put
pub playing_end : (from : State) (script : List ℕ) (count : ℕ) (before after : List ℕ) (state : State) (i : ℕ)
    → Playing from script count before after state i → count ≤ i → Put before 0 (play_from from script 0 count) after (count * 32)
unfolding play_from
playing_end from script count before after state i p h =
    let n : i ≡ count = let a = p.inside in omega arith in
    let none : count - i ≡ 0 = omega arith in
    let all : p.done ≡ play_from from script 0 count =
    sym (append-nil p.done) ∙ (ap (λ (k : ℕ). p.done ++ play_from state script (i * 16) k) (sym none) ∙ p.whole) in
    rw (all, n) at p.put

-- a script that is not played leaves the buffer as it was
played_not : (image script out : List ℕ) → not_played image script out ≡ true → Played image script out out 0
played_not image script out h = record { contents = rw h; number = rw h }

pub played_odd : (image script out : List ℕ) → (length script % 16 ≡ 0 → ⊥) → Played image script out out 0
unfolding not_played
played_odd image script out h = played_not image script out (rw (ne_eqb (length script % 16) 0 h))

pub played_short : (image script out : List ℕ) → length script % 16 ≡ 0 → length out / 32 < length script / 16 → Played image script out out 0
unfolding not_played
played_short image script out h k = played_not image script out (rw (eq-eqb (length script % 16) 0 h, lt-ltb (length out / 32) (length script / 16) k))

pub played_refused : (image script out : List ℕ) (s : State) (r : Refused Refusal) → length script % 16 ≡ 0 → length script / 16 ≤ length out / 32
    → reading_by s (Err r) ≡ load_of image → Played image script out out 0
unfolding not_played
played_refused image script out s r h k e =
    played_not image script out
    (rw (
      eq-eqb (length script % 16) 0 h,
      le-ltb (length out / 32) (length script / 16) k,
      ← e,
      number_not_zero r.refusal,
    ))

-- else it is played
pub played_all : (image script out after : List ℕ) (s : State) → length script % 16 ≡ 0 → length script / 16 ≤ length out / 32
    → reading_by s (Ok tt) ≡ load_of image → Put out 0 (play_from s script 0 (length script / 16)) after (length script / 16 * 32)
    → Played image script out after (length script / 16)
unfolding not_played
played_all image script out after s h k e p =
    let no : not_played image script out ≡ false = rw (eq-eqb (length script % 16) 0 h, le-ltb (length out / 32) (length script / 16) k, ← e) in
    record {
      contents = rw no (p.contents ∙ ap (λ (x : Reading). sets out 0 (play_from x.state script 0 (length script / 16))) e);
      number = rw no;
    }
