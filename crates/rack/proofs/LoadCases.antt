-- What the boundary answers where a load is refused, and where it is not.
-- Assumes nothing.
use Prim.Native.Nat.{ℕ, ◌-◌, ◌≤◌, ◌<◌}
use mathlib.Core.Path.{◌≡◌, sym, ap, subst, ◌∙◌}
use mathlib.Core.List.{List, ◌++◌}
use native.Mathlib.Nat.{zero-add}
use lib.ListN.{length, replicate}
use lib.Seq.{sets}
use borrow.Author.Tests.{lt-ltb, le-ltb}
use Rattle.std.specs.Prelude.{Ok, Err}
use Rattle.table.specs.declared.refusals.Refusal.{Refusal}
use Rattle.table.specs.Refusals.{number_of}
use Rattle.table.proofs.RefusalLaws.{number_not_zero}
use Rattle.executive.specs.declared.loaded.Refused.{Refused}
use Rattle.executive.specs.Reading.{Reading, reading_by}
use Rattle.image.specs.Loading.{load_of}
use Rattle.lines.specs.Lines.{Put}
use Rattle.lines.proofs.PutLaws.{put_more}
use Rattle.executive.specs.declared.state.State.{State}
use Rattle.executive.specs.States.{tasks_of}
use Rattle.judging.specs.declared.Verdict.{Verdict}
use Rattle.judging.specs.Verdicts.{verdict_of}
use Rattle.rack.specs.Boundary.{head_bytes, entries_bytes, accepted_bytes, judged_bytes, judged_all, Judged, ReadThenWritten}

-- what comes of a reading, refused or not
module _ (read : Reading) (refusal : Reading → ℕ) (write_by : State → ℕ → ℕ) (leaves : State → List ℕ → List ℕ) (before : List ℕ) (s : State) where
  pub read_refused : (r : Refused Refusal) → reading_by s (Err r) ≡ read → (result : ℕ) → result ≡ refusal (reading_by s (Err r))
      → ReadThenWritten read (refusal read) write_by leaves before before result
  read_refused r e result h =
      subst (λ (x : Reading). ReadThenWritten x (refusal x) write_by leaves before before result) e
      (record { contents = rw (number_not_zero r.refusal); number = rw (number_not_zero r.refusal) h })

  pub read_written : reading_by s (Ok tt) ≡ read → (after : List ℕ) (result : ℕ) → result ≡ write_by s (length before) → after ≡ leaves s before
      → ReadThenWritten read (refusal read) write_by leaves before after result
  read_written e after result n c =
      subst (λ (x : Reading). ReadThenWritten x (refusal x) write_by leaves before after result) e (record { contents = c; number = n })

-- a buffer that is too short is left as it was
pub judged_short : (image before : List ℕ) → length before < 1032 → Judged image before before 0
judged_short image before h = record { contents = rw (lt-ltb (length before) 1032 h); number = rw (lt-ltb (length before) 1032 h) }

-- the bytes of a load that is refused, and of one that is not
pub judged_refused : (s : State) (r : Refused Refusal) → judged_bytes (reading_by s (Err r)) ≡ head_bytes (number_of r.refusal) 0 r.place 0 0
unfolding judged_bytes
judged_refused s r = rw (number_not_zero r.refusal)

pub judged_accepted : (s : State) (v : Verdict) → v ≡ verdict_of (tasks_of s) s.board
    → judged_bytes (reading_by s (Ok tt)) ≡ head_bytes 0 v.number 0 v.task s.n ++ entries_bytes (tasks_of s) s.board
unfolding judged_bytes accepted_bytes
judged_accepted s v e = ap (accepted_bytes (reading_by s (Ok tt))) (sym e)

-- the bytes put, and zeros behind them
pub judged_put : (image before mid after : List ℕ) (l : Reading) (bytes : List ℕ) (end : ℕ) → 1032 ≤ length before → l ≡ load_of image → judged_bytes l ≡ bytes
    → Put before 0 bytes mid end → Put mid end (replicate (1032 - end) 0) after 1032 → Judged image before after end
unfolding judged_all
judged_put image before mid after l bytes end h e f p q =
    let same : bytes ≡ judged_bytes (load_of image) = sym f ∙ ap judged_bytes e in
    let long : end ≡ length bytes = p.ends ∙ zero-add (length bytes) in
    let all : bytes ++ replicate (1032 - end) 0 ≡ judged_all (load_of image) =
    ap (λ (k : ℕ). bytes ++ replicate (1032 - k) 0) long ∙ ap (λ (b : List ℕ). b ++ replicate (1032 - length b) 0) same in
    record {
      contents = rw (le-ltb (length before) 1032 h) ((put_more bytes (replicate (1032 - end) 0) p q).contents ∙ ap (sets before 0) all);
      number = rw (le-ltb (length before) 1032 h) (long ∙ ap length same);
    }
