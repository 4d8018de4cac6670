-- The laws of the scan: what the table of links leads to, and what the fold over the tasks keeps.
-- Assumes nothing.
use Rattle.std.specs.Prelude.{Option, Some, None}
use Prim.Native.Nat.{ℕ, zero, suc, ◌+◌, ◌≤◌, ◌<◌}
use mathlib.Core.Path.{◌≡◌, refl, sym, ap, subst, ◌∙◌}
use mathlib.Core.Bool.{Bool, true, false, cond, ◌&&◌, ◌||◌}
use mathlib.Core.List.{List, map}
use native.Mathlib.Numerals.{add-one}
use native.Mathlib.Omega.{arith}
use lib.Dec.{ltb, eqb}
use lib.ListN.{length, get_or, set, length-set}
use lib.Seq.{get_or-set_same, get_or-set_other}
use borrow.Author.Count.{below_more}
use borrow.Author.Tests.{lt-ltb, le-ltb, ltb-true}
use Rattle.table.specs.declared.Task.{Task}
use Rattle.table.specs.declared.Sem.{Sem}
use Rattle.table.specs.Entries.{blank_sem}
use Rattle.std.proofs.Math.ListN.{get_or-map}
use Rattle.waits.specs.declared.scan.Goal.{Goal}
use Rattle.waits.specs.declared.scan.Lead.{Lead}
use Rattle.waits.specs.declared.scan.Lead.TheVariants.{Nobody, ToSem, Met}
use Rattle.waits.specs.declared.scan.Best.{Best}
use Rattle.waits.specs.Waits.{task_at, sem_at, waits_for, waits_on, Chained, Used}
use Rattle.waits.specs.Standing.{found_and, found_or, own_of, shown_deadline, better, preferred, best_among}
use Rattle.waits.specs.Reaches.{Reaches}
use Rattle.waits.specs.Scan.{to_sem, to_met, led_by, Linked, walked, ended, takes, taken_at, holder_leads, led_to, onward, meets, met_by, as_best, is_ahead, winner_of, best_for}
use Rattle.waits.proofs.RankLaws.{best_is}
use Rattle.waits.proofs.ChainLaws.{Long, waits_held, waits_none, chain}

-- where nothing is found there is none
pub none_is : (f : Option ℕ) → ((k : ℕ) → f ≡ Some k → ⊥) → f ≡ None
none_is None h = refl
none_is (Some k) h = absurd (h k refl)

-- what the best so far becomes with the next task
unfoldable pub folded : Option Best → Task → ℕ → Lead → Option Best
folded best t i Nobody = best
folded best t i (ToSem k) = best
folded best t i (Met e) = cond (is_ahead best t) (Some (as_best t i e)) best

-- the best so far over the first tasks, each with where the table leads it
unfoldable pub fold_to : List Task → List Lead → Goal → ℕ → Option Best
fold_to tasks link goal zero = None
fold_to tasks link goal (suc i) = folded (fold_to tasks link goal i) (task_at tasks i) i (led_to link goal (task_at tasks i).status i)

-- one step along the table, and none from where no semaphore is
pub walked_step : (steps : ℕ) (link : List Lead) (k : ℕ) → k < 16 → walked (suc steps) link (ToSem k) ≡ walked steps link (get_or link k Nobody)
unfolding walked
walked_step steps link k h = rw (lt-ltb k 16 h)

pub walked_stays : (steps : ℕ) (link : List Lead) (at : Lead) → ended at ≡ true → walked steps link at ≡ at
unfolding walked ended
walked_stays zero link at h = refl
walked_stays (suc steps) link Nobody h = refl
walked_stays (suc steps) link (Met i) h = refl
walked_stays (suc steps) link (ToSem k) h = let z : ◌≡◌ {A = ℕ} 0 1 = cc in absurd (omega arith)

pub ended_is : (at : Lead) → ((k : ℕ) → at ≡ ToSem k → ⊥) → ended at ≡ true
unfolding ended
ended_is Nobody h = refl
ended_is (Met i) h = refl
ended_is (ToSem k) h = absurd (h k refl)

-- steps that are left until no semaphore is reached
unfoldable pub left : ℕ → List Lead → Lead → ℕ
left zero link at = 0
left (suc steps) link Nobody = 0
left (suc steps) link (Met i) = 0
left (suc steps) link (ToSem k) = cond (ltb k 16) (suc (left steps link (get_or link k Nobody))) 0

-- a walk that has come to its end goes no further with more steps
pub walked_more : (steps : ℕ) (link : List Lead) (at : Lead) → ended (walked steps link at) ≡ true
    → (walked (suc steps) link at ≡ walked steps link at) × (left (suc steps) link at ≡ left steps link at)
unfolding walked left ended
walked_more zero link Nobody h = (refl, refl)
walked_more zero link (Met i) h = (refl, refl)
walked_more zero link (ToSem k) h = let z : ◌≡◌ {A = ℕ} 0 1 = cc in absurd (omega arith)
walked_more (suc steps) link Nobody h = (refl, refl)
walked_more (suc steps) link (Met i) h = (refl, refl)
walked_more (suc steps) link (ToSem k) h = go (ltb k 16) refl h (walked_more steps link (get_or link k Nobody))
  where
    go : (b : Bool) → ltb k 16 ≡ b → ended (cond b (walked steps link (get_or link k Nobody)) (ToSem k)) ≡ true
        → (ended (walked steps link (get_or link k Nobody)) ≡ true
        → (walked (suc steps) link (get_or link k Nobody) ≡ walked steps link (get_or link k Nobody))
        × (left (suc steps) link (get_or link k Nobody) ≡ left steps link (get_or link k Nobody)))
        → (walked (suc (suc steps)) link (ToSem k) ≡ walked (suc steps) link (ToSem k))
        × (left (suc (suc steps)) link (ToSem k) ≡ left (suc steps) link (ToSem k))
    go true e h rec = let r = rec h in (rw e r.0, rw e (ap suc r.1))
    go false e h rec = let z : ◌≡◌ {A = ℕ} 0 1 = cc in absurd (omega arith)

-- a walk that comes to its end stays inside the table
pub walk_inside : (link : List Lead) (k : ℕ) → ended (walked 17 link (ToSem k)) ≡ true → k < 16
unfolding walked ended
walk_inside link k e = go (ltb k 16) refl e
  where
    go : (b : Bool) → ltb k 16 ≡ b → ended (cond b (walked 16 link (get_or link k Nobody)) (ToSem k)) ≡ true → k < 16
    go true q e = ltb-true k 16 q
    go false q e = let z : ◌≡◌ {A = ℕ} 0 1 = cc in absurd (omega arith)

-- one step of a walk that comes to its end: the rest ends at the same place, and sooner
pub walk_next : (link : List Lead) (k : ℕ) → ended (walked 17 link (ToSem k)) ≡ true
    → let next = get_or link k Nobody in
    (ended (walked 17 link next) ≡ true) × (walked 17 link next ≡ walked 17 link (ToSem k)) × (left 17 link next < left 17 link (ToSem k))
unfolding left
walk_next link k e =
    let next = get_or link k Nobody in
    let h = walk_inside link k e in
    let rest : ended (walked 16 link next) ≡ true = rw (walked_step 16 link k h) at e in
    let more = walked_more 16 link next rest in
    let now : left 17 link (ToSem k) ≡ suc (left 16 link next) = rw (lt-ltb k 16 h) in
    (rw more.0 rest, more.0 ∙ sym (walked_step 16 link k h), lower (left 17 link next) (left 17 link (ToSem k)) (left 16 link next) more.1 now)
  where
    lower : (x y z : ℕ) → x ≡ z → y ≡ suc z → x < y
    lower x y z p q = omega arith

-- a table that is filled from the front up to a place, and leads to nobody behind it
abbrev pub Filled : List Lead → (ℕ → Lead) → ℕ → Type 0
Filled link f k =
    (length link ≡ 16) × ((j : ℕ) → j < k → get_or link j Nobody ≡ f j) × ((j : ℕ) → k ≤ j → get_or link j Nobody ≡ Nobody)

-- one place more, which leads to nobody either, or is filled
pub filled_kept : (link : List Lead) (f : ℕ → Lead) (k : ℕ) → Filled link f k → f k ≡ Nobody → Filled link f (k + 1)
filled_kept link f k filled none =
    (filled.0, below_more _ _ filled.1 (filled.2 k (omega arith) ∙ sym none), λ j h. filled.2 j (omega arith))

pub filled_more : (link : List Lead) (f : ℕ → Lead) (k : ℕ) (v : Lead) → k < 16 → Filled link f k → v ≡ f k → Filled (set link k v) f (k + 1)
filled_more link f k v h filled fits =
    let long = filled.0 in (
      length-set link k v ∙ filled.0,
      below_more _ _ (λ j hj. get_or-set_other link k j v Nobody (λ e. omega arith) ∙ filled.1 j hj)
          (get_or-set_same link k v Nobody (omega arith) ∙ fits),
      λ j hj. get_or-set_other link k j v Nobody (λ e. omega arith) ∙ filled.2 j (omega arith),
    )

module _ (tasks : List Task) (sems : List Sem) (goal : Goal) where
  -- what is met is a task that the goal takes, and it is reached
  pub meets_is : (fuel j e : ℕ) → meets tasks sems goal fuel j ≡ Some e → (taken_at tasks goal e ≡ true) × Reaches tasks sems e j
  unfolding meets onward
  meets_is zero j e h = let z : ◌≡◌ {A = ℕ} 0 1 = cc in absurd (omega arith)
  meets_is (suc fuel) j e h = go (taken_at tasks goal j) refl (waits_on tasks sems j) refl h (λ k. meets_is fuel k e)
    where
      go : (b : Bool) → taken_at tasks goal j ≡ b → (f : Option ℕ) → waits_on tasks sems j ≡ f
          → cond b (Some j) (onward (meets tasks sems goal fuel) f) ≡ Some e
          → ((k : ℕ) → meets tasks sems goal fuel k ≡ Some e → (taken_at tasks goal e ≡ true) × Reaches tasks sems e k)
          → (taken_at tasks goal e ≡ true) × Reaches tasks sems e j
      go true t f w h rec =
          let same : j ≡ e = cc in
          (subst (λ (x : ℕ). taken_at tasks goal x ≡ true) same t, subst (λ (x : ℕ). Reaches tasks sems e x) (sym same) Reaches.here)
      go false t None w h rec = let z : ◌≡◌ {A = ℕ} 0 1 = cc in absurd (omega arith)
      go false t (Some k) w h rec = let r = rec k h in (r.0, Reaches.there w r.1)

  -- no task that the goal takes reaches another that it takes
  abbrev pub Apart : Type 0
  Apart = (a b : ℕ) → taken_at tasks goal a ≡ true → taken_at tasks goal b ≡ true → Reaches tasks sems b a → a ≡ b

  -- a task that is taken and reached is what is met
  pub is_met : Apart → {e j d : ℕ} (fuel : ℕ) → taken_at tasks goal e ≡ true → Reaches tasks sems e j → Long tasks sems j d → d < fuel
      → meets tasks sems goal fuel j ≡ Some e
  unfolding meets onward
  is_met apart zero t r l h = absurd (omega arith)
  is_met apart {e} (suc fuel) t (Reaches.here) l h = rw t
  is_met apart {e} {j} (suc fuel) t (Reaches.there {k = k} w r) (Long.done n) h =
      let q = waits_none tasks sems j n in let z : ◌≡◌ {A = ℕ} 0 1 = cc in absurd (omega arith)
  is_met apart {e} {j} (suc fuel) t (Reaches.there {k = k} w r) (Long.more {k = at} {j = next} {d = d} v b l) h =
      let q = sym (waits_held tasks sems j at v) ∙ w in
      let same : next ≡ k = cc in
      go (taken_at tasks goal j) refl (is_met apart fuel t r (subst (λ (x : ℕ). Long tasks sems x d) same l) (omega arith))
    where
      go : (c : Bool) → taken_at tasks goal j ≡ c → meets tasks sems goal fuel k ≡ Some e
          → cond (taken_at tasks goal j) (Some j) (onward (meets tasks sems goal fuel) (waits_on tasks sems j)) ≡ Some e
      go true q rest = rw q (ap Some (apart j e q t (Reaches.there w r)))
      go false q rest = rw (q, w) rest

  -- the table followed from a semaphore on leads to what its holder meets
  pub walked_meets : Chained tasks sems → (link : List Lead) → Linked tasks sems goal link → length sems ≤ 16
      → (steps fuel k : ℕ) {j d : ℕ} → k < length sems → (sem_at sems k).holder ≡ Some j → Long tasks sems j d → d < steps → d < fuel
      → walked steps link (ToSem k) ≡ to_met (meets tasks sems goal fuel j)
  unfolding led_by holder_leads taken_at meets onward ended
  walked_meets c link linked small zero fuel k hk b l h g = absurd (omega arith)
  walked_meets c link linked small (suc steps) zero k hk b l h g = absurd (omega arith)
  walked_meets c link linked small (suc steps) (suc fuel) k {j} hk b (Long.done n) h g =
      walked_step steps link k (omega arith) ∙ ap (walked steps link) (linked k hk ∙ ap (led_by tasks goal) b)
      ∙ ends (taken_at tasks goal j) refl
    where
      ends : (t : Bool) → taken_at tasks goal j ≡ t → walked steps link (led_by tasks goal (Some j)) ≡ to_met (meets tasks sems goal (suc fuel) j)
      ends true e = rw e (walked_stays steps link (Met j) refl)
      ends false e = rw (e, n, waits_none tasks sems j n) (walked_stays steps link Nobody refl)
  walked_meets c link linked small (suc steps) (suc fuel) k {j} hk b (Long.more {k = at} {j = next} v by l) h g =
      let below = (c.waits j (c.held k hk j b) at v).0 in
      walked_step steps link k (omega arith) ∙ ap (walked steps link) (linked k hk ∙ ap (led_by tasks goal) b)
      ∙ goes (taken_at tasks goal j) refl (walked_meets c link linked small steps fuel at below by l (omega arith) (omega arith))
    where
      goes : (t : Bool) → taken_at tasks goal j ≡ t → walked steps link (ToSem at) ≡ to_met (meets tasks sems goal fuel next)
          → walked steps link (led_by tasks goal (Some j)) ≡ to_met (meets tasks sems goal (suc fuel) j)
      goes true e rec = rw e (walked_stays steps link (Met j) refl)
      goes false e rec = rw (e, v, waits_held tasks sems j at v ∙ by) rec

  -- so the walk comes to its end
  met_ends : (f : Option ℕ) → ended (to_met f) ≡ true
  unfolding ended
  met_ends None = refl
  met_ends (Some e) = refl

  pub walk_ends : Chained tasks sems → (link : List Lead) → Linked tasks sems goal link → length sems ≤ 16 → (k : ℕ) → k < length sems
      → ended (walked 17 link (ToSem k)) ≡ true
  unfolding led_by ended
  walk_ends c link linked small k hk = go ((sem_at sems k).holder) refl
    where
      go : (f : Option ℕ) → (sem_at sems k).holder ≡ f → ended (walked 17 link (ToSem k)) ≡ true
      go None e =
          ap ended
          (walked_step 16 link k (omega arith)
          ∙ ap (walked 16 link) (linked k hk ∙ ap (led_by tasks goal) e)
          ∙ walked_stays 16 link Nobody refl)
      go (Some j) e =
          let l = chain tasks sems c j (c.held k hk j e) in
          let b = l.2 in
          ap ended (walked_meets c link linked small 17 17 k hk e l.1 (omega arith) (omega arith)) ∙ met_ends (meets tasks sems goal 17 j)

  -- a semaphore that the table leads to is one that there is
  pub led_within : Chained tasks sems → (link : List Lead) → Linked tasks sems goal link → (k at : ℕ) → k < length sems
      → get_or link k Nobody ≡ ToSem at → at < length sems
  unfolding led_by holder_leads
  led_within c link linked k at hk leads = go ((sem_at sems k).holder) refl
    where
      go : (f : Option ℕ) → (sem_at sems k).holder ≡ f → at < length sems
      go None e =
          let same = sym leads ∙ linked k hk ∙ ap (led_by tasks goal) e in let z : ◌≡◌ {A = ℕ} 0 1 = cc in absurd (omega arith)
      go (Some i) e =
          behind (takes goal (task_at tasks i).status i) (waits_for (task_at tasks i).status) refl
          (sym leads ∙ linked k hk ∙ ap (led_by tasks goal) e)
        where
          behind : (t : Bool) (f : Option ℕ) → waits_for (task_at tasks i).status ≡ f → ToSem at ≡ cond t (Met i) (to_sem f) → at < length sems
          behind true f q v = let z : ◌≡◌ {A = ℕ} 0 1 = cc in absurd (omega arith)
          behind false None q v = let z : ◌≡◌ {A = ℕ} 0 1 = cc in absurd (omega arith)
          behind false (Some place) q v =
              let below = (c.waits i (c.held k hk i e) place q).0 in
              let same : at ≡ place = cc in
              omega arith

  pub follow_ends : Chained tasks sems → (link : List Lead) → Linked tasks sems goal link → length sems ≤ 16 → (i : ℕ) → i < length tasks
      → ended (walked 17 link (to_sem (waits_for (task_at tasks i).status))) ≡ true
  unfolding walked ended
  follow_ends c link linked small i h = go (waits_for (task_at tasks i).status) refl
    where
      go : (f : Option ℕ) → waits_for (task_at tasks i).status ≡ f → ended (walked 17 link (to_sem f)) ≡ true
      go None e = refl
      go (Some k) e = walk_ends c link linked small k (c.waits i h k e).0

  -- the table followed from a task on leads to what it meets
  pub led_met : Chained tasks sems → (link : List Lead) → Linked tasks sems goal link → length sems ≤ 16 → (i : ℕ) → i < length tasks
      → led_to link goal (task_at tasks i).status i ≡ to_met (met_by tasks sems goal i)
  unfolding led_to taken_at met_by meets onward ended
  led_met c link linked small i h = go (takes goal (task_at tasks i).status i) refl (chain tasks sems c i h)
    where
      go : (t : Bool) → takes goal (task_at tasks i).status i ≡ t → (d : ℕ) × Long tasks sems i d × (d ≤ length sems)
          → cond (takes goal (task_at tasks i).status i) (Met i) (walked 17 link (to_sem (waits_for (task_at tasks i).status)))
          ≡ to_met
          (cond (takes goal (task_at tasks i).status i) (Some i) (onward (meets tasks sems goal (length sems)) (waits_on tasks sems i)))
      go true e l = rw e
      go false e l = rw e (rest l.1 l.2)
        where
          rest : {d : ℕ} → Long tasks sems i d → d ≤ length sems
              → walked 17 link (to_sem (waits_for (task_at tasks i).status)) ≡ to_met (onward (meets tasks sems goal (length sems)) (waits_on tasks sems i))
          rest (Long.done n) b = rw (n, waits_none tasks sems i n) (walked_stays 17 link Nobody refl)
          rest (Long.more {k = at} {j = next} v by l) b =
              rw (v, waits_held tasks sems i at v ∙ by)
              (walked_meets c link linked small 17 (length sems) at (c.waits i h at v).0 by l (omega arith) (omega arith))

  -- scanned upward, a later task is better by queue and deadline alone
  late : (i b : ℕ) → b < i
      → better (own_of tasks i) (own_of tasks b)
      ≡ (ltb (task_at tasks i).queue (task_at tasks b).queue
      || (eqb (task_at tasks i).queue (task_at tasks b).queue
      && ltb (shown_deadline (task_at tasks i)) (shown_deadline (task_at tasks b))))
  unfolding better own_of
  late i b h =
      let q = ltb (task_at tasks i).queue (task_at tasks b).queue in
      let p = eqb (task_at tasks i).queue (task_at tasks b).queue in
      let d = ltb (shown_deadline (task_at tasks i)) (shown_deadline (task_at tasks b)) in
      let s = eqb (shown_deadline (task_at tasks i)) (shown_deadline (task_at tasks b)) in
      ap (λ (x : Bool). q || (p && (d || (s && x)))) (le-ltb i b (omega arith))
      ∙ ap (λ (x : Bool). q || (p && (d || x))) (mathlib.Core.Bool.and-false s)
      ∙ ap (λ (x : Bool). q || (p && x)) (mathlib.Core.Bool.or-false d)

  -- one task more: what the fold makes of the best so far is the best with that task
  fold_onto : (i m : ℕ) (w : Option ℕ) → met_by tasks sems goal i ≡ Some m → ((b : ℕ) → w ≡ Some b → b < i)
      → cond (is_ahead (best_for tasks sems goal w) (task_at tasks i)) (Some (as_best (task_at tasks i) i m)) (best_for tasks sems goal w)
      ≡ best_for tasks sems goal (preferred (own_of tasks) i w)
  unfolding is_ahead best_for preferred found_or
  fold_onto i m None e below = rw e
  fold_onto i m (Some b) e below = rw (← late i b (below b refl)) (go (better (own_of tasks i) (own_of tasks b)))
    where
      go : (c : Bool) → cond c (Some (as_best (task_at tasks i) i m)) (best_for tasks sems goal (Some b)) ≡ best_for tasks sems goal (cond c (Some i) (Some b))
      go true = rw e
      go false = refl

  pub fold_step : (i : ℕ)
      → folded (best_for tasks sems goal (winner_of tasks sems goal i)) (task_at tasks i) i (to_met (met_by tasks sems goal i))
      ≡ best_for tasks sems goal (winner_of tasks sems goal (suc i))
  unfolding folded winner_of best_among found_and
  fold_step i = go (met_by tasks sems goal i) refl
    where
      test : ℕ → Bool
      test j = found_and (λ _. true) (met_by tasks sems goal j)

      w : Option ℕ
      w = best_among test (own_of tasks) i

      go : (f : Option ℕ) → met_by tasks sems goal i ≡ f
          → folded (best_for tasks sems goal w) (task_at tasks i) i (to_met f)
          ≡ best_for tasks sems goal (cond (found_and (λ _. true) f) (preferred (own_of tasks) i) (λ best. best) w)
      go None e = refl
      go (Some m) e = fold_onto i m w e (λ b h. (best_is test (own_of tasks) i b h).below)

-- what the fold makes of the best so far, by what is asked of the task
module _ (best : Option Best) (t : Task) (i : ℕ) where
  pub fold_behind : (met : Lead) → is_ahead best t ≡ false → folded best t i met ≡ best
  unfolding folded
  fold_behind Nobody h = refl
  fold_behind (ToSem k) h = refl
  fold_behind (Met e) h = rw h

  pub fold_unmet : (met : Lead) → ((e : ℕ) → met ≡ Met e → ⊥) → folded best t i met ≡ best
  unfolding folded
  fold_unmet Nobody h = refl
  fold_unmet (ToSem k) h = refl
  fold_unmet (Met e) h = absurd (h e refl)

  pub fold_ahead : (met : Lead) (e : ℕ) → met ≡ Met e → is_ahead best t ≡ true → folded best t i met ≡ Some (as_best t i e)
  unfolding folded
  fold_ahead met e m a = rw (m, a)

-- so the best so far is the fold with one task more
pub fold_on : (tasks : List Task) (link : List Lead) (goal : Goal) (i : ℕ) (best next : Option Best) → best ≡ fold_to tasks link goal i
    → next ≡ folded best (task_at tasks i) i (led_to link goal (task_at tasks i).status i) → next ≡ fold_to tasks link goal (i + 1)
unfolding fold_to
fold_on tasks link goal i best next so_far e =
    e ∙ ap (λ (b : Option Best). folded b (task_at tasks i) i (led_to link goal (task_at tasks i).status i)) so_far
    ∙ ap (fold_to tasks link goal) (sym (add-one i))

module _ (tasks : List Task) (sems : List Sem) (used : Used tasks sems) (goal : Goal) where
  -- so the fold over the tasks, with the table of links, keeps the best that meets the goal
  module _ (link : List Lead) (linked : Linked tasks sems goal link) where
    pub fold_all : (i : ℕ) → i ≤ length tasks → fold_to tasks link goal i ≡ best_for tasks sems goal (winner_of tasks sems goal i)
    unfolding fold_to winner_of best_among best_for
    fold_all zero h = refl
    fold_all (suc i) h =
        let f = used.sems_fit in
        let best = best_for tasks sems goal (winner_of tasks sems goal i) in
        ap (λ (b : Option Best). folded b (task_at tasks i) i (led_to link goal (task_at tasks i).status i)) (fold_all i (omega arith))
        ∙ ap (folded best (task_at tasks i) i) (led_met tasks sems goal used.chained link linked (omega arith) i (omega arith))
        ∙ fold_step tasks sems goal i

-- the table worked out from the entries, with no table made: behind the semaphores that there are it leads to nobody
pub leads_of : List Task → List Sem → Goal → List Lead
leads_of tasks sems goal = map (λ s. led_by tasks goal s.holder) sems

pub leads_linked : (tasks : List Task) (sems : List Sem) (goal : Goal) → Linked tasks sems goal (leads_of tasks sems goal)
unfolding leads_of led_by sem_at
leads_linked tasks sems goal k h = get_or-map (λ (s : Sem). led_by tasks goal s.holder) sems k blank_sem

-- a chain followed over the entries themselves: the place that was come to is a semaphore that there is or the chain's end, and from there on the
-- chain ends where it does from the first one
pub record OnChain (tasks : List Task) (sems : List Sem) (goal : Goal) (from at : Lead) : Type 0 where
  pub within : (k : ℕ) → at ≡ ToSem k → k < length sems
  pub ends : ended (walked 17 (leads_of tasks sems goal) at) ≡ true
  pub same : walked 17 (leads_of tasks sems goal) at ≡ walked 17 (leads_of tasks sems goal) from

module _ (tasks : List Task) (sems : List Sem) (used : Used tasks sems) (goal : Goal) where
  pub chain_starts : (k : ℕ) → k < length sems → OnChain tasks sems goal (ToSem k) (ToSem k)
  chain_starts k h =
      let f = used.sems_fit in
      record {
        within = λ j e. let same : k ≡ j = cc in omega arith;
        ends = walk_ends tasks sems goal used.chained (leads_of tasks sems goal) (leads_linked tasks sems goal) (omega arith) k h;
        same = refl;
      }

  -- from a semaphore on the chain goes where its holder leads, and that is sooner at its end
  pub chain_on : (from at next : Lead) (k : ℕ) → OnChain tasks sems goal from at → at ≡ ToSem k → next ≡ led_by tasks goal (sem_at sems k).holder
      → OnChain tasks sems goal from next × (left 17 (leads_of tasks sems goal) next < left 17 (leads_of tasks sems goal) at)
  chain_on from at next k o is e =
      let table = leads_of tasks sems goal in
      let below = o.within k is in
      let leads : next ≡ get_or table k Nobody = e ∙ sym (leads_linked tasks sems goal k below) in
      let step = walk_next table k (rw is at o.ends) in (
        record {
          within = λ j to. led_within tasks sems goal used.chained table (leads_linked tasks sems goal) k j below (sym leads ∙ to);
          ends = rw leads step.0;
          same = rw leads (step.1 ∙ ap (walked 17 table) (sym is) ∙ o.same);
        },
        rw (leads, is) step.2,
      )
