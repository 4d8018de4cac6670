-- The laws of standing: what is computed is the standing of the closure, and the one scan finds the task of best standing.
-- Assumes nothing.
use Rattle.std.specs.Prelude.{Option, Some, None}
use Prim.Native.Nat.{ℕ, suc, ◌≤◌, ◌<◌}
use mathlib.Core.Path.{◌≡◌, refl, sym, ap, subst, ◌∙◌}
use mathlib.Core.Bool.{Bool, true, false}
use mathlib.Core.List.{List}
use native.Mathlib.Omega.{arith}
use lib.Dec.{ltb, eqb}
use lib.ListN.{length, get_or-eq_default}
use borrow.Author.Tests.{ltb-true, ltb-false, eqb-true, eq-eqb}
use Rattle.table.specs.declared.Task.{Task}
use Rattle.table.specs.declared.Sem.{Sem}
use Rattle.table.specs.declared.Status.{Status}
use Rattle.table.specs.declared.Status.TheVariants.{Idle, Ready, Event, Waits}
use Rattle.table.specs.Entries.{blank_task}
use Rattle.waits.specs.declared.scan.Goal.{Goal}
use Rattle.waits.specs.declared.scan.Goal.TheVariants.{Is, WaitsFor}
use Rattle.waits.specs.declared.scan.Lead.{Lead}
use Rattle.waits.specs.declared.scan.Lead.TheVariants.{Nobody, ToSem, Met}
use Rattle.waits.specs.declared.scan.Best.{Best}
use Rattle.waits.specs.Waits.{task_at, sem_at, waits_for, Chained}
use Rattle.waits.specs.Standing.{found_and, found_or, own_of, reaches, best_among, standing_of, is_ready, ready_at, waiter_at, running_of, heir_of, closes_ring}
use Rattle.waits.specs.Reaches.{Reaches}
use Rattle.waits.specs.Scan.{takes, taken_at, onward, meets, met_by, to_met, led_by, Linked, winner_of, best_for, as_best, met_found, scan_of, walked, ended}
use Rattle.waits.proofs.RankLaws.{better_total, own_once, IsBest, best_is, best_none, best_some, best_nothing, best_only, best_same}
use Rattle.waits.proofs.ChainLaws.{Long, waits_held, waits_none, on_held, long_once, chain, reached_below, reaches_true, true_reaches}
use Rattle.waits.proofs.ScanLaws.{meets_is, Apart, is_met, walked_step, walked_stays, walked_meets}

-- something was found, or nothing
pub some_found : (f : Option ℕ) → found_and (λ _. true) f ≡ true → (i : ℕ) × (f ≡ Some i)
unfolding found_and
some_found None e = let z : ◌≡◌ {A = ℕ} 0 1 = cc in absurd (omega arith)
some_found (Some i) e = (i, refl)

pub found_some : (f : Option ℕ) (i : ℕ) → f ≡ Some i → found_and (λ _. true) f ≡ true
unfolding found_and
found_some f i e = rw e

-- a status that is ready waits for nothing
pub ready_waits : (now : Status) → is_ready now ≡ true → waits_for now ≡ None
unfolding is_ready waits_for
ready_waits Idle e = refl
ready_waits Ready e = refl
ready_waits Event e = refl
ready_waits (Waits k) e = let z : ◌≡◌ {A = ℕ} 0 1 = cc in absurd (omega arith)

-- a semaphore that was found to be k is k
pub found_same : (f : Option ℕ) (k : ℕ) → found_and (λ at. eqb at k) f ≡ true → f ≡ Some k
unfolding found_and
found_same None k e = let z : ◌≡◌ {A = ℕ} 0 1 = cc in absurd (omega arith)
found_same (Some at) k e = ap Some (eqb-true at k e)

-- who waits for a semaphore is a task that there is
pub waits_below : (tasks : List Task) (a k : ℕ) → waits_for (task_at tasks a).status ≡ Some k → a < length tasks
unfolding task_at waits_for
waits_below tasks a k w = go (ltb a (length tasks)) refl
  where
    go : (b : Bool) → ltb a (length tasks) ≡ b → a < length tasks
    go true e = ltb-true a (length tasks) e
    go false e =
        let d = get_or-eq_default tasks blank_task {n = a} (ltb-false a (length tasks) e) in
        let n : waits_for (task_at tasks a).status ≡ None = ap (λ (t : Task). waits_for t.status) d in
        let z : ◌≡◌ {A = ℕ} 0 1 = cc in
        absurd (omega arith)

module _ (tasks : List Task) (sems : List Sem) (c : Chained tasks sems) where
  -- the chain of who is reached is not longer
  reached_long : {b h d : ℕ} → Reaches tasks sems b h → Long tasks sems h d → (e : ℕ) × Long tasks sems b e × (e ≤ d)
  reached_long {d = d} (Reaches.here) l = (d, l, omega arith)
  reached_long {h = h} (Reaches.there w r) (Long.done n) =
      let q = waits_none tasks sems h n in let z : ◌≡◌ {A = ℕ} 0 1 = cc in absurd (omega arith)
  reached_long {h = h} (Reaches.there {k = k} w r) (Long.more {k = at} {j = next} {d = d} v by l) =
      let q = sym (waits_held tasks sems h at v) ∙ w in
      let same : next ≡ k = cc in
      let s = reached_long r (subst (λ (x : ℕ). Long tasks sems x d) same l) in
      let less = s.2 in
      (s.0, s.1, omega arith)

  -- no task that a goal takes reaches another that it takes
  pub apart_ready : Apart tasks sems Goal.Ready
  unfolding taken_at takes
  apart_ready a b ta tb (Reaches.here) = refl
  apart_ready a b ta tb (Reaches.there w r) =
      let n = waits_none tasks sems a (ready_waits (task_at tasks a).status ta) in let z : ◌≡◌ {A = ℕ} 0 1 = cc in absurd (omega arith)

  pub apart_is : (i : ℕ) → Apart tasks sems (Is i)
  unfolding taken_at takes
  apart_is i a b ta tb r = eqb-true a i ta ∙ sym (eqb-true b i tb)

  pub apart_waits : (k : ℕ) → Apart tasks sems (WaitsFor k)
  unfolding taken_at takes
  apart_waits k a b ta tb (Reaches.here) = refl
  apart_waits k a b ta tb (Reaches.there {k = h} w r) =
      let fa = found_same (waits_for (task_at tasks a).status) k ta in
      let fb = found_same (waits_for (task_at tasks b).status) k tb in
      let o = on_held tasks sems c a h (waits_below tasks a k fa) w in
      let q = o.1 in
      let same : o.0 ≡ k = cc in
      let by : (sem_at sems k).holder ≡ Some h = subst (λ (x : ℕ). (sem_at sems x).holder ≡ Some h) same o.3 in
      let l = chain tasks sems c h o.4 in
      let s = reached_long r l.1 in
      let less = s.2 in
      let ring = long_once tasks sems s.1 (Long.more fb by l.1) in
      absurd (omega arith)

  -- the standing of a task is the own standing of the best that reaches it
  pub standing_at : (i : ℕ) → i < length tasks
      → (w : ℕ) × (standing_of tasks sems i ≡ own_of tasks w) × IsBest (reaches tasks sems i) (own_of tasks) (length tasks) w
      × (best_among (reaches tasks sems i) (own_of tasks) (length tasks) ≡ Some w)
  unfolding standing_of found_or
  standing_at i h =
      let s = best_some (reaches tasks sems i) (own_of tasks) (length tasks) i h (reaches_true tasks sems c i i h Reaches.here) in
      (s.0, rw s.1, best_is (reaches tasks sems i) (own_of tasks) (length tasks) s.0 s.1, s.1)

  module _ (goal : Goal) (apart : Apart tasks sems goal) where
    test : ℕ → Bool
    test j = found_and (λ _. true) (met_by tasks sems goal j)

    -- who reaches a task that the goal takes meets it
    pub reached_met : (e j : ℕ) → j < length tasks → taken_at tasks goal e ≡ true → reaches tasks sems e j ≡ true → met_by tasks sems goal j ≡ Some e
    unfolding met_by
    reached_met e j h t r =
        let l = chain tasks sems c j h in
        let b = l.2 in
        is_met tasks sems goal apart (suc (length sems)) t (true_reaches tasks sems c e j r) l.1 (omega arith)

    met_reached : (e j : ℕ) → j < length tasks → met_by tasks sems goal j ≡ Some e
        → (taken_at tasks goal e ≡ true) × (reaches tasks sems e j ≡ true) × (e < length tasks)
    unfolding met_by
    met_reached e j h m =
        let r = meets_is tasks sems goal (suc (length sems)) j e m in
        (r.0, reaches_true tasks sems c e j h r.1, reached_below tasks sems c e j h r.1)

    -- no two tasks that the goal takes share a standing
    pub taken_once : (i j : ℕ) → i < length tasks → j < length tasks → taken_at tasks goal i ≡ true → taken_at tasks goal j ≡ true
        → standing_of tasks sems i ≡ standing_of tasks sems j → i ≡ j
    taken_once i j hi hj ti tj e =
        let a = standing_at i hi in
        let b = standing_at j hj in
        let same : a.0 ≡ b.0 = own_once tasks a.0 b.0 (sym a.1 ∙ e ∙ b.1) in
        let p = reached_met i a.0 a.2.below ti a.2.passes in
        let q = reached_met j b.0 b.2.below tj b.2.passes in
        let r = ap (met_by tasks sems goal) same in
        cc

    -- the task that the best one meets is of best standing
    champion_at : (w e : ℕ) → IsBest test (own_of tasks) (length tasks) w → met_by tasks sems goal w ≡ Some e
        → IsBest (taken_at tasks goal) (standing_of tasks sems) (length tasks) e
    unfolding test
    champion_at w e best met =
        let r = met_reached e w best.below met in
        let s = standing_at e r.2 in
        let meets-e = reached_met e s.0 s.2.below r.0 s.2.passes in
        let u = s.2.best w best.below r.1 in
        let v = best.best s.0 s.2.below (found_some (met_by tasks sems goal s.0) e meets-e) in
        let own : standing_of tasks sems e ≡ own_of tasks w = s.1 ∙ better_total (own_of tasks s.0) (own_of tasks w) v u in
        record {
          below = r.2;
          passes = r.0;
          best = λ j h t.
              let o = standing_at j h in
              let m = reached_met j o.0 o.2.below t o.2.passes in
              rw (o.1, own) (best.best o.0 o.2.below (found_some (met_by tasks sems goal o.0) j m));
        }

    -- the task of best standing that the goal takes is what the best own standing among those that meet the goal leads to
    pub champion : best_among (taken_at tasks goal) (standing_of tasks sems) (length tasks)
        ≡ onward (met_by tasks sems goal) (winner_of tasks sems goal (length tasks))
    unfolding winner_of onward test
    champion = go (winner_of tasks sems goal (length tasks)) refl
      where
        go : (f : Option ℕ) → best_among test (own_of tasks) (length tasks) ≡ f
            → best_among (taken_at tasks goal) (standing_of tasks sems) (length tasks)
            ≡ onward (met_by tasks sems goal) (best_among test (own_of tasks) (length tasks))
        go None e =
            rw e
            (best_nothing (taken_at tasks goal) (standing_of tasks sems) (length tasks)
            (λ j h. none j h (taken_at tasks goal j) refl))
          where
            none : (j : ℕ) → j < length tasks → (t : Bool) → taken_at tasks goal j ≡ t → taken_at tasks goal j ≡ false
            none j h false t = t
            none j h true t =
                let m = reached_met j j h t (reaches_true tasks sems c j j h Reaches.here) in
                let yes = found_some (met_by tasks sems goal j) j m in
                let no = best_none test (own_of tasks) (length tasks) e j h in
                let z : ◌≡◌ {A = ℕ} 0 1 = cc in
                absurd (omega arith)
        go (Some w) e =
            let best = best_is test (own_of tasks) (length tasks) w e in
            let m = some_found (met_by tasks sems goal w) best.passes in
            rw e
            (best_only (taken_at tasks goal) (standing_of tasks sems) (length tasks) m.0 (champion_at w m.0 best m.1) taken_once
            ∙ sym m.1)

    -- what the scan hands back tells that task
    pub scan_found : met_found (scan_of tasks sems goal) ≡ best_among (taken_at tasks goal) (standing_of tasks sems) (length tasks)
    unfolding winner_of test best_for found_or onward
    scan_found = go (winner_of tasks sems goal (length tasks)) refl ∙ sym champion
      where
        go : (f : Option ℕ) → best_among test (own_of tasks) (length tasks) ≡ f
            → met_found (best_for tasks sems goal (best_among test (own_of tasks) (length tasks)))
            ≡ onward (met_by tasks sems goal) (best_among test (own_of tasks) (length tasks))
        go None e = rw e
        go (Some w) e =
            let m = some_found (met_by tasks sems goal w) (best_is test (own_of tasks) (length tasks) w e).passes in
            rw (e, m.1)

-- what the scan hands back for each goal, and where the table of links leads
module _ (tasks : List Task) (sems : List Sem) (c : Chained tasks sems) where
  -- the running task
  pub scanned_runs : met_found (scan_of tasks sems Goal.Ready) ≡ running_of tasks sems
  unfolding running_of ready_at taken_at takes
  scanned_runs = scan_found tasks sems c Goal.Ready (apart_ready tasks sems c)

  -- the heir
  pub scanned_heir : (k : ℕ) → met_found (scan_of tasks sems (WaitsFor k)) ≡ heir_of tasks sems k
  unfolding heir_of waiter_at taken_at takes
  scanned_heir k = scan_found tasks sems c (WaitsFor k) (apart_waits tasks sems c k)

  -- who meets a task is who reaches it
  is_reaches : (i j : ℕ) → j < length tasks → found_and (λ _. true) (met_by tasks sems (Is i) j) ≡ reaches tasks sems i j
  unfolding taken_at takes met_by
  is_reaches i j hj = go (reaches tasks sems i j) refl (met_by tasks sems (Is i) j) refl
    where
      go : (b : Bool) → reaches tasks sems i j ≡ b → (f : Option ℕ) → met_by tasks sems (Is i) j ≡ f
          → found_and (λ _. true) (met_by tasks sems (Is i) j) ≡ reaches tasks sems i j
      go true r f m =
          found_some (met_by tasks sems (Is i) j) i (reached_met tasks sems c (Is i) (apart_is tasks sems c i) i j hj (eq-eqb i i refl) r)
          ∙ sym r
      go false r None m = ap (found_and (λ _. true)) m ∙ nothing ∙ sym r
        where
          nothing : found_and (λ _. true) None ≡ false
          nothing = unfold found_and in refl
      go false r (Some e) m =
          let q = meets_is tasks sems (Is i) (suc (length sems)) j e m in
          let same : e ≡ i = eqb-true e i q.0 in
          let yes = reaches_true tasks sems c i j hj (subst (λ (x : ℕ). Reaches tasks sems x j) same q.1) in
          let z : ◌≡◌ {A = ℕ} 0 1 = cc in
          absurd (omega arith)

  -- the standing of a task
  pub scanned_standing : (i : ℕ) → i < length tasks → (best : Option Best) → best ≡ scan_of tasks sems (Is i)
      → (b : Best) × (best ≡ Some b) × (b.position < length tasks) × (own_of tasks b.position ≡ standing_of tasks sems i)
  unfolding winner_of best_for own_of
  scanned_standing i h best e =
      let w = standing_at tasks sems c i h in
      let same = best_same (λ j. found_and (λ _. true) (met_by tasks sems (Is i) j)) (reaches tasks sems i) (own_of tasks) (length tasks)
      (λ j hj. is_reaches i j hj) in
      let wins = same ∙ w.3 in
      (as_best (task_at tasks w.0) w.0 (found_or w.0 (met_by tasks sems (Is i) w.0)), e ∙ ap (best_for tasks sems (Is i)) wins, w.2.below, sym w.1)

  -- the ring that an acquire would close shows in the table
  module _ (i k : ℕ) (hk : k < length sems) (small : length sems ≤ 16) (link : List Lead) (linked : Linked tasks sems (Is i) link) where
    is_met_lead : Lead → Bool
    is_met_lead Nobody = false
    is_met_lead (ToSem at) = false
    is_met_lead (Met e) = true

    met_found_lem : (f : Option ℕ) → is_met_lead (to_met f) ≡ found_and (λ _. true) f
    unfolding is_met_lead found_and
    met_found_lem None = refl
    met_found_lem (Some e) = refl

    ring_code : (r : Option ℕ) → (sem_at sems k).holder ≡ r → closes_ring tasks sems i k ≡ is_met_lead (walked 17 link (ToSem k))
    unfolding closes_ring found_and led_by ended is_met_lead
    ring_code None e =
        let w = walked_step 16 link k (omega arith) ∙ ap (walked 16 link) (linked k hk ∙ ap (led_by tasks (Is i)) e)
        ∙ walked_stays 16 link Nobody refl in
        rw (e, w)
    ring_code (Some j) e =
        let below = c.held k hk j e in
        let h = chain tasks sems c j below in
        let short = h.2 in
        let w = walked_meets tasks sems (Is i) c link linked small 17 (suc (length sems)) k hk e h.1 (omega arith) (omega arith) in
        rw e (sym (is_reaches i j below) ∙ sym (met_found_lem (met_by tasks sems (Is i) j)) ∙ ap is_met_lead (met ∙ sym w))
      where
        met : to_met (met_by tasks sems (Is i) j) ≡ to_met (meets tasks sems (Is i) (suc (length sems)) j)
        met = unfold met_by in refl

    -- it closes exactly if the table leads to the task
    pub ring_met : (e : ℕ) → walked 17 link (ToSem k) ≡ Met e → closes_ring tasks sems i k ≡ true
    unfolding is_met_lead
    ring_met e w = ring_code ((sem_at sems k).holder) refl ∙ ap is_met_lead w

    pub ring_free : ((e : ℕ) → walked 17 link (ToSem k) ≡ Met e → ⊥) → closes_ring tasks sems i k ≡ false
    unfolding is_met_lead
    ring_free never = ring_code ((sem_at sems k).holder) refl ∙ go (walked 17 link (ToSem k)) never
      where
        go : (l : Lead) → ((e : ℕ) → l ≡ Met e → ⊥) → is_met_lead l ≡ false
        go Nobody h = refl
        go (ToSem at) h = refl
        go (Met e) h = absurd (h e refl)
