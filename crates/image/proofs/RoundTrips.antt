-- The round trips of the image, and what is accepted: the theorems of this crate, over the definitions that the contracts of `load` and
-- `write` cite.
--     accepted_loads, loads_accepted    an image loads with 0 exactly if it is accepted, said without the loader
--     rewritten                         write after load: a buffer of the image's length gets that image back, a longer one 255 behind it
--     reloaded                          load after write: what is written loads with 0, and gives the state as after loading
--     loaded_sound, sound_of            the state that loading hands back is sound
--     refused_empty                     a refused load hands back the empty state
--     load_place                        a place is at most 128
-- Assumes nothing.
use Prim.Native.Nat.{ℕ, suc, ◌+◌, ◌-◌, ◌*◌, ◌/◌, ◌%◌, ◌≤◌}
use mathlib.Core.Path.{◌≡◌, refl, sym, ap, ◌∙◌, subst}
use mathlib.Core.Logic.{◌≢◌, ◌⊎◌, inl, inr}
use mathlib.Core.Bool.{Bool, true, false, cond}
use mathlib.Core.List.{List, [], ◌∷◌, ◌++◌, map, append_assoc}
use native.Mathlib.Omega.{arith}
use lib.Dec.{eqb, ltb}
use lib.ListN.{length, replicate, length-append, length-replicate, replicate-append-replicate}
use borrow.Author.Tests.{eqb-true, eqb-false, ltb-false}
use Rattle.table.specs.declared.refusals.Refusal.{Refusal}
use Rattle.table.specs.Entries.{loaded_task, loaded_sem}
use Rattle.table.proofs.RefusalLaws.{first_of_zero}
use Rattle.table.proofs.SumLaws.{neither}
use Rattle.executive.specs.declared.state.State.{State}
use Rattle.executive.specs.States.{empty_state}
use Rattle.executive.specs.Sound.{Sound}
use Rattle.executive.specs.Tables.{Table, WellFormedTable, loaded_table, state_of, table_of, as_loaded}
use Rattle.executive.proofs.TableLaws.{state_table, loaded_well, loaded_again, as_loaded_lem, state_sound, empty_sound}
use Rattle.executive.proofs.ReadingLaws.{finished_none, finished_some, reading_state}
use Rattle.fields.specs.Fields.{Bytes}
use Rattle.fields.specs.Parts.{flat}
use Rattle.fields.proofs.PartLaws.{length_parts, flat_map}
use Rattle.records.specs.Records.{decoded, encode_task, encode_board, encode_sem}
use Rattle.executive.specs.Reading.{Reading, reading_of}
use Rattle.executive.specs.declared.loaded.Loaded.{Loaded}
use Rattle.executive.specs.Reading.{accepted_load, finished_load}
use Rattle.image.specs.Loading.{fresh_table, taken, erased_after, refusal_of, load_from, records_in, bad_length, load_records, load_of}
use Rattle.image.specs.Writing.{encoded, bad_buffer, write_number, written}
use Rattle.image.specs.Accepted.{Accepted}
use Rattle.image.proofs.LoadLaws.{load_bad, load_good, load_stop, load_go, length_good, length_right}
use Rattle.image.proofs.WriteLaws.{length_table, write_good, buffer_right}
use Rattle.image.proofs.GrowLaws.{growing_start, growing_well, growing_loaded, well_growing}
use Rattle.image.proofs.ReplayLaws.{erased_bytes, replayed, Ended, ended_of}

-- the length of an accepted image is not bad
accepted_length : (image : List ℕ) → (load_of image).number ≡ 0 → bad_length (length image) ≡ false
accepted_length image h = go (bad_length (length image)) refl
  where
    go : (b : Bool) → bad_length (length image) ≡ b → bad_length (length image) ≡ false
    go true e = let one : ◌≡◌ {A = ℕ} 1 0 = sym (ap (λ (l : Reading). l.number) (load_bad image e)) ∙ h in absurd (omega arith)
    go false e = e

-- what an accepted image was
ended : (image : List ℕ) → Bytes image → (load_of image).number ≡ 0 → Ended fresh_table image (load_of image)
unfolding load_records
ended image bytes h =
    let good = accepted_length image h in
    let long = length_good (length image) good in
    let same = load_good image good in
    subst (λ (l : Reading). Ended fresh_table image l) (sym same)
    (ended_of (length image / 32) image fresh_table 0 growing_start (omega arith) bytes (sym (ap (λ (l : Reading). l.number) same) ∙ h))

ended_bytes : (image : List ℕ) {answer : Reading} (e : Ended fresh_table image answer) → image ≡ encoded e.table ++ erased_bytes (32 * e.gone)
unfolding fresh_table encoded flat
ended_bytes image e = e.bytes

-- how many records a table with erased ones behind it has
gate : (b : Bool) → cond b 32 0 ≡ 32 * cond b 1 0
gate true = refl
gate false = refl

length_image : (t : Table) (e : ℕ) → length (encoded t ++ erased_bytes (32 * e)) ≡ 32 * (cond t.present 1 0 + (length t.tasks + (length t.sems + e)))
length_image t e =
    let a = length-append (encoded t) (erased_bytes (32 * e)) in
    let b = length_table t in
    let c = length-replicate {A = ℕ} (32 * e) 255 in
    let d = gate t.present in
    omega arith

-- the bytes of a table do not tell what its tasks do and who holds its semaphores
loaded_bytes : (t : Table) → encoded (loaded_table t) ≡ encoded t
unfolding encoded loaded_table encode_task encode_sem
loaded_bytes t =
    let b = cond t.present (encode_board t.board) [] in
    ap (λ (m : List ℕ). b ++ (m ++ flat encode_sem (map loaded_sem t.sems))) (flat_map encode_task loaded_task (λ x. refl) t.tasks)
    ∙ ap (λ (m : List ℕ). b ++ (flat encode_task t.tasks ++ m)) (flat_map encode_sem loaded_sem (λ x. refl) t.sems)

-- the encoding of a well-formed table, with erased records behind it, loads to that table
encoded_loads : (t : Table) → WellFormedTable t → (e : ℕ) → length (encoded t ++ erased_bytes (32 * e)) ≤ 4096
    → load_of (encoded t ++ erased_bytes (32 * e)) ≡ accepted_load (state_of (loaded_table t))
unfolding load_records
encoded_loads t well e fits =
    let u = loaded_table t in
    let same : encoded t ++ erased_bytes (32 * e) ≡ encoded u ++ erased_bytes (32 * e) = ap (λ (l : List ℕ). l ++ erased_bytes (32 * e)) (sym (loaded_bytes t)) in
    let image = encoded u ++ erased_bytes (32 * e) in
    let n = length_image u e in
    let long : length image ≤ 4096 = subst (λ (l : List ℕ). length l ≤ 4096) same fits in
    let good = loaded_well t well in
    ap load_of same
    ∙ (load_good image (length_right (length image) (omega arith) long)
    ∙ replayed u (well_growing u good (loaded_again t)) good.some e (length image / 32) (omega arith))

-- a table with a task, as a state
some_task : (t : Table) → 1 ≤ length t.tasks → (state_of t).n ≡ 0 → ⊥
unfolding state_of
some_task t some h = omega arith

-- the table of a sound state with a task is well formed
table_well : (s : State) → Sound s → 1 ≤ s.n → WellFormedTable (table_of s)
unfolding table_of
table_well s sound some = sound.table some

-- a load hands back the empty state, or its answer is 0
records_empty : (rs : List (List ℕ)) (t : Table) (e : Bool) (place : ℕ) → ((load_from t e place rs).number ≡ 0) ⊎ ((load_from t e place rs).state ≡ empty_state)
unfolding load_from
records_empty [] t e place = go (eqb (state_of t).n 0) refl
  where
    go : (b : Bool) → eqb (state_of t).n 0 ≡ b → ((finished_load (state_of t) place).number ≡ 0) ⊎ ((finished_load (state_of t) place).state ≡ empty_state)
    go true z = inr (ap (λ (l : Reading). l.state) (finished_none (state_of t) place (eqb-true (state_of t).n 0 z)))
    go false z =
        let some : (state_of t).n ≡ 0 → ⊥ = eqb-false (state_of t).n 0 z in
        inl (ap (λ (l : Reading). l.number) (finished_some (state_of t) place (omega arith)))
records_empty (r ∷ rs) t e place = go (eqb number 0) refl (records_empty rs (taken t (decoded r)) (erased_after e (decoded r)) (suc place))
  where
    number : ℕ
    number = refusal_of e t (decoded r)

    behind : Reading
    behind = load_from (taken t (decoded r)) (erased_after e (decoded r)) (suc place) rs

    go : (b : Bool) → eqb number 0 ≡ b → (behind.number ≡ 0) ⊎ (behind.state ≡ empty_state)
        → ((load_from t e place (r ∷ rs)).number ≡ 0) ⊎ ((load_from t e place (r ∷ rs)).state ≡ empty_state)
    go true z rest = subst (λ (l : Reading). (l.number ≡ 0) ⊎ (l.state ≡ empty_state)) (sym (load_go t e place r rs (eqb-true number 0 z))) rest
    go false z rest = inr (ap (λ (l : Reading). l.state) (load_stop t e place r rs (eqb-false number 0 z)))

image_empty : (image : List ℕ) → ((load_of image).number ≡ 0) ⊎ ((load_of image).state ≡ empty_state)
unfolding load_records
image_empty image = go (bad_length (length image)) refl
  where
    go : (b : Bool) → bad_length (length image) ≡ b → ((load_of image).number ≡ 0) ⊎ ((load_of image).state ≡ empty_state)
    go true e = inr (ap (λ (l : Reading). l.state) (load_bad image e))
    go false e =
        subst (λ (l : Reading). (l.number ≡ 0) ⊎ (l.state ≡ empty_state)) (sym (load_good image e))
        (records_empty (records_in (length image / 32) image) fresh_table false 0)

-- a place is at most the count of the records, of which an image has 128 at most
records_place : (rs : List (List ℕ)) (t : Table) (e : Bool) (at : ℕ) → (load_from t e at rs).place ≤ at + length rs
unfolding load_from
records_place [] t e at = go (eqb (state_of t).n 0) refl
  where
    go : (b : Bool) → eqb (state_of t).n 0 ≡ b → (finished_load (state_of t) at).place ≤ at + 0
    go true z = let none = ap (λ (l : Reading). l.place) (finished_none (state_of t) at (eqb-true (state_of t).n 0 z)) in omega arith
    go false z =
        let some : (state_of t).n ≡ 0 → ⊥ = eqb-false (state_of t).n 0 z in
        let zero = ap (λ (l : Reading). l.place) (finished_some (state_of t) at (omega arith)) in
        omega arith
records_place (r ∷ rs) t e at = go (eqb number 0) refl (records_place rs (taken t (decoded r)) (erased_after e (decoded r)) (suc at))
  where
    number : ℕ
    number = refusal_of e t (decoded r)

    go : (b : Bool) → eqb number 0 ≡ b → (load_from (taken t (decoded r)) (erased_after e (decoded r)) (suc at) rs).place ≤ suc at + length rs
        → (load_from t e at (r ∷ rs)).place ≤ at + suc (length rs)
    go true z rest = let same = ap (λ (l : Reading). l.place) (load_go t e at r rs (eqb-true number 0 z)) in omega arith
    go false z rest = let same = ap (λ (l : Reading). l.place) (load_stop t e at r rs (eqb-false number 0 z)) in omega arith

pub load_place : (image : List ℕ) → (load_of image).place ≤ 128
unfolding load_records
load_place image = go (bad_length (length image)) refl
  where
    go : (b : Bool) → bad_length (length image) ≡ b → (load_of image).place ≤ 128
    go true e = let same = ap (λ (l : Reading). l.place) (load_bad image e) in omega arith
    go false e =
        let same = ap (λ (l : Reading). l.place) (load_good image e) in
        let count = length_parts 32 (length image / 32) image in
        let within = records_place (records_in (length image / 32) image) fresh_table false 0 in
        let short = (length_good (length image) e).1 in
        omega arith

-- what is accepted, said without the loader, loads with 0
pub accepted_loads : (image : List ℕ) → Accepted image → (load_of image).number ≡ 0
accepted_loads image a =
    let fits : length (encoded a.table ++ erased_bytes (32 * a.erased)) ≤ 4096 = subst (λ (l : List ℕ). length l ≤ 4096) a.bytes a.fits in
    ap (λ (l : List ℕ). (load_of l).number) a.bytes ∙ ap (λ (l : Reading). l.number) (encoded_loads a.table a.well_formed a.erased fits)

-- and what loads with 0 is accepted
pub loads_accepted : (image : List ℕ) → Bytes image → (load_of image).number ≡ 0 → Accepted image
loads_accepted image bytes h =
    let e = ended image bytes h in
    record {
      table = e.table;
      well_formed = growing_well e.table e.growing e.some;
      erased = e.gone;
      bytes = ended_bytes image e;
      fits = (length_good (length image) (accepted_length image h)).1;
    }

-- write after load: the image comes back, byte for byte, whatever the buffer held, with 255 in every byte behind it
pub rewritten : (image : List ℕ) → Bytes image → (load_of image).number ≡ 0 → (buffer : List ℕ) → length buffer % 32 ≡ 0 → length buffer ≤ 4096
    → length image ≤ length buffer
    → (write_number (load_of image).state (length buffer) ≡ 0)
    × (written (load_of image).state buffer ≡ image ++ replicate (length buffer - length image) 255)
rewritten image bytes h buffer whole-records short fits =
    let e = ended image bytes h in
    let s = state_of e.table in
    let state : (load_of image).state ≡ s = ap (λ (l : Reading). l.state) e.same in
    let done = encoded e.table in
    let same : encoded (table_of s) ≡ done = ap encoded (state_table e.table) in
    let long : length image ≡ length done + 32 * e.gone =
    ap length (ended_bytes image e) ∙ (length-append done (erased_bytes (32 * e.gone)) ∙ ap (λ (k : ℕ). length done + k) (length-replicate (32 * e.gone) 255)) in
    let room : length (encoded (table_of s)) ≤ length buffer = rw same (omega arith) in
    let good = write_good s buffer (some_task e.table e.some) (buffer_right s (length buffer) (length_right (length buffer) whole-records short) room) in
    let behind : 32 * e.gone + (length buffer - length image) ≡ length buffer - length done = omega arith in (
      ap (λ (u : State). write_number u (length buffer)) state ∙ good.0,
      ap (λ (u : State). written u buffer) state
          ∙ (good.1
          ∙ (ap (λ (l : List ℕ). l ++ erased_bytes (length buffer - length l)) same
          ∙ (ap (λ (k : ℕ). done ++ erased_bytes k) (sym behind)
          ∙ (ap (λ (l : List ℕ). done ++ l) (sym (replicate-append-replicate (32 * e.gone) (length buffer - length image) 255))
          ∙ (sym (append_assoc done (erased_bytes (32 * e.gone)) (erased_bytes (length buffer - length image)))
          ∙ ap (λ (l : List ℕ). l ++ erased_bytes (length buffer - length image)) (sym (ended_bytes image e))))))),
    )

-- load after write: for every sound state with a task, what an accepted write leaves loads with 0, and gives the state as after loading
pub reloaded : (s : State) → Sound s → 1 ≤ s.n → (buffer : List ℕ) → write_number s (length buffer) ≡ 0 → load_of (written s buffer) ≡ accepted_load (as_loaded s)
unfolding write_number bad_buffer
reloaded s sound some buffer h =
    let t = table_of s in
    let done = encoded t in
    let seven = first_of_zero 7 (eqb s.n 0) ((9, bad_buffer s (length buffer)) ∷ []) (λ e. omega arith) h in
    let nine = first_of_zero 9 (bad_buffer s (length buffer)) [] (λ e. omega arith) seven.1 in
    let right = neither (bad_length (length buffer)) (ltb (length buffer) (length done)) nine.0 in
    let long = length_good (length buffer) right.0 in
    let room : length done ≤ length buffer = ltb-false (length buffer) (length done) right.1 in
    let good = write_good s buffer (λ e. omega arith) nine.0 in
    let e = (length buffer - length done) / 32 in
    let parts = length_table t in
    let whole-records = gate t.present in
    let behind : length buffer - length done ≡ 32 * e = omega arith in
    let image : written s buffer ≡ done ++ erased_bytes (32 * e) = good.1 ∙ ap (λ (k : ℕ). done ++ erased_bytes k) behind in
    let fits : length (done ++ erased_bytes (32 * e)) ≤ 4096 =
    omega (arith, length-append done (erased_bytes (32 * e)), length-replicate {A = ℕ} (32 * e) 255) in
    ap load_of image ∙ (encoded_loads t (table_well s sound some) e fits ∙ ap accepted_load (sym (as_loaded_lem s sound)))

-- a refused load hands back the empty state
pub refused_empty : (image : List ℕ) → (load_of image).number ≢ 0 → (load_of image).state ≡ empty_state
refused_empty image h = go (image_empty image)
  where
    go : ((load_of image).number ≡ 0) ⊎ ((load_of image).state ≡ empty_state) → (load_of image).state ≡ empty_state
    go (inl e) = absurd (h e)
    go (inr e) = e

-- the state that loading hands back is sound
pub loaded_sound : (image : List ℕ) → Bytes image → Sound (load_of image).state
loaded_sound image bytes = go (image_empty image)
  where
    go : ((load_of image).number ≡ 0) ⊎ ((load_of image).state ≡ empty_state) → Sound (load_of image).state
    go (inl h) =
        let e = ended image bytes h in
        subst Sound (sym (ap (λ (l : Reading). l.state) e.same)) (state_sound e.table (growing_well e.table e.growing e.some) (growing_loaded e.table e.growing))
    go (inr h) = subst Sound (sym h) empty_sound

-- the same of what a load answered
pub sound_of : (image : List ℕ) (l : Loaded Refusal) → reading_of l ≡ load_of image → Bytes image → Sound l.state
sound_of image l e bytes =
    subst Sound (sym (ap (λ (r : Reading). r.state) e) ∙ reading_state l.state l.answer) (loaded_sound image bytes)
