-- Each call keeps a sound state sound.
-- Assumes nothing.
use Rattle.std.specs.Prelude.{Option, Some, None}
use Prim.Native.Nat.{ℕ, ◌≤◌, ◌<◌}
use mathlib.Core.Path.{◌≡◌, refl, sym, ap, subst, ◌∙◌}
use mathlib.Core.Logic.{◌≢◌, ◌⊎◌, inl, inr, ⊎_elim}
use mathlib.Core.Bool.{Bool, true, false}
use mathlib.Core.List.{List, map}
use native.Mathlib.Omega.{arith}
use lib.Dec.{eqb}
use lib.ListN.{length, get_or, take, drop, set, length-set}
use lib.Seq.{get_or-set_same, get_or-set_other, take-set-lt, drop-set-lt}
use borrow.Author.Tests.{eqb-true, eqb-false}
use Rattle.table.specs.declared.Task.{Task}
use Rattle.table.specs.declared.Sem.{Sem}
use Rattle.table.specs.declared.Status.{Status}
use Rattle.table.specs.declared.Status.TheVariants.{Idle}
use Rattle.table.specs.Entries.{blank_task, blank_sem, with_status, with_deadline, with_holder, loaded_task, loaded_sem}
use Rattle.table.specs.WellFormed.{WellFormed}
use Rattle.table.proofs.SumLaws.{map_set}
use Rattle.table.proofs.OrderLaws.{well_formed_same}
use Rattle.waits.specs.Waits.{task_at, sem_at, waits_for, holder_of, waits_on, Ends}
use Rattle.waits.specs.Reaches.{Reaches}
use Rattle.waits.proofs.ChainLaws.{waits_held, waits_none}
use Rattle.waits.proofs.StandingLaws.{waits_below}
use Rattle.executive.specs.declared.state.State.{State}
use Rattle.executive.specs.States.{empty_state, tasks_of, sems_of}
use Rattle.executive.specs.Sound.{Sound}
use Rattle.executive.specs.Calls.{with_tasks, with_sems, with_task, with_sem}
use Rattle.executive.proofs.SoundLaws.{tasks_length_lem, sems_length_lem}

-- a chain that ends does so still, where each task on it waits on whom it did, or ends a chain by itself
pub ends_kept : (tasks tasks' : List Task) (sems sems' : List Sem)
    → ((j : ℕ) → Ends tasks' sems' j ⊎ (waits_on tasks' sems' j ≡ waits_on tasks sems j)) → (j : ℕ) → Ends tasks sems j → Ends tasks' sems' j
ends_kept tasks tasks' sems sems' h j (Ends.here e) = ⊎_elim (λ x. x) (λ q. Ends.here (q ∙ e)) (h j)
ends_kept tasks tasks' sems sems' h j (Ends.there {j = k} e rest) =
    let r = ends_kept tasks tasks' sems sems' h k rest in ⊎_elim (λ x. x) (λ q. Ends.there (q ∙ e) r) (h j)

-- the same for a chain that does not pass the one task which waits on another
pub ends_past : (tasks tasks' : List Task) (sems sems' : List Sem) (i : ℕ)
    → ((j : ℕ) → j ≢ i → waits_on tasks' sems' j ≡ waits_on tasks sems j) → (j : ℕ) → (Reaches tasks sems i j → ⊥) → Ends tasks sems j → Ends tasks' sems' j
ends_past tasks tasks' sems sems' i h j past (Ends.here e) =
    Ends.here (h j (λ q. past (subst (λ (x : ℕ). Reaches tasks sems i x) (sym q) Reaches.here)) ∙ e)
ends_past tasks tasks' sems sems' i h j past (Ends.there {j = k} e rest) =
    Ends.there (h j (λ q. past (subst (λ (x : ℕ). Reaches tasks sems i x) (sym q) Reaches.here)) ∙ e)
    (ends_past tasks tasks' sems sems' i h k (λ r. past (Reaches.there e r)) rest)

-- whom a task waits on goes by what it does, and by who holds that
pub on_same : (tasks tasks' : List Task) (sems : List Sem) (j : ℕ) → task_at tasks' j ≡ task_at tasks j → waits_on tasks' sems j ≡ waits_on tasks sems j
unfolding waits_on
on_same tasks tasks' sems j e = ap (λ (t : Task). holder_of sems (waits_for t.status)) e

module _ (s : State) (sound : Sound s) where
  -- a task's entry that is replaced
  module _ (i : ℕ) (h : i < s.n) (y : Task) where
    pub tasks_set : tasks_of (with_task s i y) ≡ set (tasks_of s) i y
    unfolding tasks_of with_tasks
    tasks_set = take-set-lt s.n s.tasks i y h

    pub task_set_same : task_at (tasks_of (with_task s i y)) i ≡ y
    unfolding task_at
    task_set_same =
        let l = tasks_length_lem s sound in
        ap (λ (t : List Task). get_or t i blank_task) tasks_set ∙ get_or-set_same (tasks_of s) i y blank_task (omega arith)

    pub task_set_other : (j : ℕ) → j ≢ i → task_at (tasks_of (with_task s i y)) j ≡ task_at (tasks_of s) j
    unfolding task_at
    task_set_other j ne = ap (λ (t : List Task). get_or t j blank_task) tasks_set ∙ get_or-set_other (tasks_of s) i j y blank_task ne

  -- a semaphore's entry that is replaced
  module _ (k : ℕ) (h : k < s.m) (y : Sem) where
    pub sems_set : sems_of (with_sem s k y) ≡ set (sems_of s) k y
    unfolding sems_of with_sems
    sems_set = take-set-lt s.m s.sems k y h

    pub sem_set_same : sem_at (sems_of (with_sem s k y)) k ≡ y
    unfolding sem_at
    sem_set_same =
        let l = sems_length_lem s sound in
        ap (λ (t : List Sem). get_or t k blank_sem) sems_set ∙ get_or-set_same (sems_of s) k y blank_sem (omega arith)

    pub sem_set_other : (j : ℕ) → j ≢ k → sem_at (sems_of (with_sem s k y)) j ≡ sem_at (sems_of s) j
    unfolding sem_at
    sem_set_other j ne = ap (λ (t : List Sem). get_or t j blank_sem) sems_set ∙ get_or-set_other (sems_of s) k j y blank_sem ne

  -- other task entries, which agree with the old ones, entry by entry, in what the table says
  module _ (tasks : List Task) (some : 1 ≤ s.n) (long : length tasks ≡ 64) (behind : drop s.n tasks ≡ drop s.n s.tasks)
      (same : map loaded_task (take s.n tasks) ≡ map loaded_task (tasks_of s)) where
    pub tasks_kept : ((k : ℕ) → k < s.m → (i : ℕ) → (sem_at (sems_of s) k).holder ≡ Some i → (task_at (take s.n tasks) i).status ≢ Idle)
        → ((i : ℕ) → i < s.n → (k : ℕ) → waits_for (task_at (take s.n tasks) i).status ≡ Some k
        → (k < s.m) × ((j : ℕ) × ((sem_at (sems_of s) k).holder ≡ Some j)))
        → ((i : ℕ) → i < s.n → Ends (take s.n tasks) (sems_of s) i)
        → Sound (with_tasks s tasks)
    unfolding with_tasks tasks_of sems_of
    tasks_kept awake waiting ending =
        let z = sound.sized in
        record {
          sized = record { tasks_length = long; sems_length = z.sems_length; tasks_fit = z.tasks_fit; sems_fit = z.sems_fit };
          tasks_blank = behind ∙ sound.tasks_blank;
          sems_blank = sound.sems_blank;
          none = λ e. absurd (omega arith);
          table = λ e. well_formed_same (tasks_of s) (take s.n tasks) (sems_of s) (sems_of s) s.board s.present same refl (sound.table some);
          holders = λ k hk i e. ((sound.holders k hk i e).0, awake k hk i e);
          waits = waiting;
          chains = ending;
          time = sound.time;
        }

  -- one task that does something else, or has another deadline
  module _ (i : ℕ) (h : i < s.n) (at : ℕ) (now : Status) where
    abbrev pub Changed : State
    Changed = with_task s i (with_status (with_deadline (task_at (tasks_of s) i) at) now)

    pub task_kept : ((k : ℕ) → k < s.m → (sem_at (sems_of s) k).holder ≡ Some i → now ≢ Idle)
        → ((k : ℕ) → waits_for now ≡ Some k → (k < s.m) × ((j : ℕ) × ((sem_at (sems_of s) k).holder ≡ Some j)))
        → ((j : ℕ) → j < s.n → Ends (tasks_of Changed) (sems_of s) j) → Sound Changed
    unfolding tasks_of with_tasks
    task_kept busy waiting ending =
        tasks_kept (set s.tasks i y) (omega arith) (length-set s.tasks i y ∙ sound.sized.tasks_length) (drop-set-lt s.n s.tasks i y h) alike
        (λ k hk j e. awake k hk j e (eqb j i) refl)
        (λ j hj k e. held j hj k e (eqb j i) refl)
        ending
      where
        y : Task
        y = with_status (with_deadline (task_at (tasks_of s) i) at) now

        alike : map loaded_task (take s.n (set s.tasks i y)) ≡ map loaded_task (tasks_of s)
        alike =
            unfold task_at in
            ap (map loaded_task) (take-set-lt s.n s.tasks i y h) ∙ map_set loaded_task (take s.n s.tasks) i y blank_task refl

        awake : (k : ℕ) → k < s.m → (j : ℕ) → (sem_at (sems_of s) k).holder ≡ Some j → (b : Bool) → eqb j i ≡ b
            → (task_at (take s.n (set s.tasks i y)) j).status ≢ Idle
        awake k hk j e true q =
            let same = eqb-true j i q in
            λ idle.
            busy k hk (e ∙ ap Some same)
            (sym (ap (λ (t : Task). t.status) (task_set_same i h y)) ∙ ap (λ (x : ℕ). (task_at (tasks_of Changed) x).status) (sym same) ∙ idle)
        awake k hk j e false q =
            λ idle. (sound.holders k hk j e).1 (sym (ap (λ (t : Task). t.status) (task_set_other i h y j (eqb-false j i q))) ∙ idle)

        held : (j : ℕ) → j < s.n → (k : ℕ) → waits_for (task_at (take s.n (set s.tasks i y)) j).status ≡ Some k → (b : Bool) → eqb j i ≡ b
            → (k < s.m) × ((x : ℕ) × ((sem_at (sems_of s) k).holder ≡ Some x))
        held j hj k e true q =
            waiting k
            (sym (ap (λ (t : Task). waits_for t.status) (task_set_same i h y))
            ∙ ap (λ (x : ℕ). waits_for (task_at (tasks_of Changed) x).status) (sym (eqb-true j i q)) ∙ e)
        held j hj k e false q =
            sound.waits j hj k (sym (ap (λ (t : Task). waits_for t.status) (task_set_other i h y j (eqb-false j i q))) ∙ e)

    -- where it waits for no semaphore then
    pub calm_kept : waits_for now ≡ None → ((k : ℕ) → k < s.m → (sem_at (sems_of s) k).holder ≡ Some i → now ≢ Idle) → Sound Changed
    calm_kept calm busy =
        task_kept busy (λ k e. let z : ◌≡◌ {A = ℕ} 0 1 = cc in absurd (omega arith))
        (λ j hj. ends_kept (tasks_of s) (tasks_of Changed) (sems_of s) (sems_of s) (λ x. end x (eqb x i) refl) j (sound.chains j hj))
      where
        y : Task
        y = with_status (with_deadline (task_at (tasks_of s) i) at) now

        end : (x : ℕ) (b : Bool) → eqb x i ≡ b → Ends (tasks_of Changed) (sems_of s) x ⊎ (waits_on (tasks_of Changed) (sems_of s) x ≡ waits_on (tasks_of s) (sems_of s) x)
        end x true q =
            inl
            (Ends.here
            (waits_none (tasks_of Changed) (sems_of s) x
            (ap (λ (j : ℕ). waits_for (task_at (tasks_of Changed) j).status) (eqb-true x i q)
            ∙ ap (λ (t : Task). waits_for t.status) (task_set_same i h y) ∙ calm)))
        end x false q = inr (on_same (tasks_of s) (tasks_of Changed) (sems_of s) x (task_set_other i h y x (eqb-false x i q)))

    -- where it waits for a semaphore whose holder does not reach it
    pub wait_kept : (k j : ℕ) → waits_for now ≡ Some k → now ≢ Idle → k < s.m → (sem_at (sems_of s) k).holder ≡ Some j
        → (Reaches (tasks_of s) (sems_of s) i j → ⊥) → Sound Changed
    wait_kept k j on awake hk by past =
        task_kept (λ x hx e. awake)
        (λ x e. let same : k ≡ x = cc in
        (subst (λ (v : ℕ). v < s.m) same hk, (j, subst (λ (v : ℕ). (sem_at (sems_of s) v).holder ≡ Some j) same by)))
        (λ x hx. ends_kept (tasks_of s) (tasks_of Changed) (sems_of s) (sems_of s) (λ v. end v (eqb v i) refl) x (sound.chains x hx))
      where
        y : Task
        y = with_status (with_deadline (task_at (tasks_of s) i) at) now

        others : (v : ℕ) → v ≢ i → waits_on (tasks_of Changed) (sems_of s) v ≡ waits_on (tasks_of s) (sems_of s) v
        others v ne = on_same (tasks_of s) (tasks_of Changed) (sems_of s) v (task_set_other i h y v ne)

        end : (v : ℕ) (b : Bool) → eqb v i ≡ b → Ends (tasks_of Changed) (sems_of s) v ⊎ (waits_on (tasks_of Changed) (sems_of s) v ≡ waits_on (tasks_of s) (sems_of s) v)
        end v true q =
            inl
            (Ends.there
            (waits_held (tasks_of Changed) (sems_of s) v k
            (ap (λ (x : ℕ). waits_for (task_at (tasks_of Changed) x).status) (eqb-true v i q)
            ∙ ap (λ (t : Task). waits_for t.status) (task_set_same i h y) ∙ on)
            ∙ by)
            (ends_past (tasks_of s) (tasks_of Changed) (sems_of s) (sems_of s) i others j past (sound.chains j (sound.holders k hk j by).0)))
        end v false q = inr (others v (eqb-false v i q))

  -- a semaphore that is held otherwise
  module _ (k : ℕ) (h : k < s.m) (now : Option ℕ) where
    abbrev pub Handed : State
    Handed = with_sem s k (with_holder (sem_at (sems_of s) k) now)

    pub sem_kept : ((i : ℕ) → now ≡ Some i → (i < s.n) × ((task_at (tasks_of s) i).status ≢ Idle))
        → ((i : ℕ) → i < s.n → waits_for (task_at (tasks_of s) i).status ≡ Some k
        → ((j : ℕ) × (now ≡ Some j)) × Ends (tasks_of s) (sems_of Handed) i)
        → Sound Handed
    unfolding with_sems tasks_of
    sem_kept holder waiter =
        let z = sound.sized in
        record {
          sized =
              record {
                tasks_length = z.tasks_length;
                sems_length = length-set s.sems k y ∙ z.sems_length;
                tasks_fit = z.tasks_fit;
                sems_fit = z.sems_fit;
              };
          tasks_blank = sound.tasks_blank;
          sems_blank = drop-set-lt s.m s.sems k y h ∙ sound.sems_blank;
          none = λ e. absurd (some e);
          table = λ e. subst (λ (t : List Sem). WellFormed (tasks_of s) t s.board s.present) (sym (sems_set k h y)) (formed e);
          holders = λ j hj i e. held j hj i e (eqb j k) refl;
          waits = λ i hi j e. waits i hi j e (eqb j k) refl;
          chains = λ i hi. ends_kept (tasks_of s) (tasks_of s) (sems_of s) (sems_of Handed) end i (sound.chains i hi);
          time = sound.time;
        }
      where
        y : Sem
        y = with_holder (sem_at (sems_of s) k) now

        some : s.n ≡ 0 → ⊥
        some e =
            let q = ap (λ (x : State). x.m) (sound.none e) in
            let r : empty_state.m ≡ 0 = unfold empty_state in refl in
            omega arith

        formed : 1 ≤ s.n → WellFormed (tasks_of s) (set (sems_of s) k y) s.board s.present
        formed e =
            unfold sem_at in
            well_formed_same (tasks_of s) (tasks_of s) (sems_of s) (set (sems_of s) k y) s.board s.present refl
            (map_set loaded_sem (sems_of s) k y blank_sem refl) (sound.table e)

        held : (j : ℕ) → j < s.m → (i : ℕ) → (sem_at (sems_of Handed) j).holder ≡ Some i → (b : Bool) → eqb j k ≡ b
            → (i < s.n) × ((task_at (tasks_of s) i).status ≢ Idle)
        held j hj i e true q =
            holder i
            (sym (ap (λ (x : Sem). x.holder) (sem_set_same k h y))
            ∙ ap (λ (x : ℕ). (sem_at (sems_of Handed) x).holder) (sym (eqb-true j k q)) ∙ e)
        held j hj i e false q =
            sound.holders j hj i (sym (ap (λ (x : Sem). x.holder) (sem_set_other k h y j (eqb-false j k q))) ∙ e)

        waits : (i : ℕ) → i < s.n → (j : ℕ) → waits_for (task_at (tasks_of s) i).status ≡ Some j → (b : Bool) → eqb j k ≡ b
            → (j < s.m) × ((x : ℕ) × ((sem_at (sems_of Handed) j).holder ≡ Some x))
        waits i hi j e true q =
            let same = eqb-true j k q in
            let w = (waiter i hi (e ∙ ap Some same)).0 in (
              (sound.waits i hi j e).0,
              (
                w.0,
                ap (λ (x : ℕ). (sem_at (sems_of Handed) x).holder) same ∙ ap (λ (x : Sem). x.holder) (sem_set_same k h y) ∙ w.1,
              ),
            )
        waits i hi j e false q =
            let w = sound.waits i hi j e in
            (w.0, (w.1.0, ap (λ (x : Sem). x.holder) (sem_set_other k h y j (eqb-false j k q)) ∙ w.1.1))

        end : (x : ℕ) → Ends (tasks_of s) (sems_of Handed) x ⊎ (waits_on (tasks_of s) (sems_of Handed) x ≡ waits_on (tasks_of s) (sems_of s) x)
        end x = go (waits_for (task_at (tasks_of s) x).status) refl
          where
            go : (f : Option ℕ) → waits_for (task_at (tasks_of s) x).status ≡ f
                → Ends (tasks_of s) (sems_of Handed) x ⊎ (waits_on (tasks_of s) (sems_of Handed) x ≡ waits_on (tasks_of s) (sems_of s) x)
            go None e = inl (Ends.here (waits_none (tasks_of s) (sems_of Handed) x e))
            go (Some j) e = at (eqb j k) refl
              where
                at : (b : Bool) → eqb j k ≡ b
                    → Ends (tasks_of s) (sems_of Handed) x ⊎ (waits_on (tasks_of s) (sems_of Handed) x ≡ waits_on (tasks_of s) (sems_of s) x)
                at true q =
                    let below = waits_below (tasks_of s) x j e in
                    let l = tasks_length_lem s sound in
                    inl (waiter x (omega arith) (e ∙ ap Some (eqb-true j k q))).1
                at false q =
                    inr
                    (waits_held (tasks_of s) (sems_of Handed) x j e
                    ∙ ap (λ (y : Sem). y.holder) (sem_set_other k h y j (eqb-false j k q))
                    ∙ sym (waits_held (tasks_of s) (sems_of s) x j e))
