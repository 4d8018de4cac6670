-- The laws of chains of waits: a chain passes each semaphore once, and what is computed over chains is what the closure says.
-- Assumes nothing.
use Rattle.std.specs.Prelude.{Option, Some, None}
use Prim.Native.Nat.{ℕ, zero, suc, ◌+◌, ◌≤◌, ◌<◌}
use mathlib.Core.Path.{◌≡◌, refl, sym, ap, subst, ◌∙◌}
use mathlib.Core.Bool.{Bool, true, false, cond, ◌||◌}
use mathlib.Core.List.{List}
use native.Mathlib.Omega.{arith}
use lib.Dec.{ltb, eqb}
use lib.ListN.{length}
use borrow.Author.Tests.{eq-eqb, ltb-true, ltb-false, eqb-true, eqb-false}
use Rattle.table.specs.declared.Task.{Task}
use Rattle.table.specs.declared.Sem.{Sem}
use Rattle.waits.specs.Waits.{task_at, sem_at, waits_for, holder_of, waits_on, Ends, Chained}
use Rattle.waits.specs.Standing.{found_and, passes, reaches}
use Rattle.waits.specs.Reaches.{Reaches}

-- no more numbers below m than m: d of them that differ are at most m
pub pigeon : (m d : ℕ) (f : ℕ → ℕ) → ((a : ℕ) → a < d → f a < m) → ((a b : ℕ) → a < d → b < d → f a ≡ f b → a ≡ b) → d ≤ m
pigeon zero zero f below once = omega arith
pigeon zero (suc d) f below once = let h = below 0 (omega arith) in absurd (omega arith)
pigeon (suc m) zero f below once = omega arith
pigeon (suc m) (suc d) f below once = let h : d ≤ m = pigeon m d g g_below g_once in omega arith
  where
    g : ℕ → ℕ
    g a = cond (eqb (f a) m) (f d) (f a)

    small : (a : ℕ) (b : Bool) → eqb (f a) m ≡ b → a < d → cond b (f d) (f a) < m
    small a true e h =
        let x = eqb-true (f a) m e in
        let y = below d (omega arith) in
        let ne : f d ≡ m → ⊥ = λ p. let q = once a d (omega arith) (omega arith) (x ∙ sym p) in omega arith in
        lt (f d) y ne
      where
        lt : (v : ℕ) → v < suc m → (v ≡ m → ⊥) → v < m
        lt v h ne = go (ltb v m) refl
          where
            go : (b : Bool) → ltb v m ≡ b → v < m
            go true l = ltb-true v m l
            go false l = let k = ltb-false v m l in absurd (ne (omega arith))
    small a false e h =
        let x = eqb-false (f a) m e in
        let y = below a (omega arith) in
        go (ltb (f a) m) refl x y
      where
        go : (b : Bool) → ltb (f a) m ≡ b → (f a ≡ m → ⊥) → f a < suc m → f a < m
        go true l x y = ltb-true (f a) m l
        go false l x y = let k = ltb-false (f a) m l in absurd (x (omega arith))

    g_below : (a : ℕ) → a < d → g a < m
    g_below a h = small a (eqb (f a) m) refl h

    differ : (a b : ℕ) (p q : Bool) → eqb (f a) m ≡ p → eqb (f b) m ≡ q → a < d → b < d → cond p (f d) (f a) ≡ cond q (f d) (f b) → a ≡ b
    differ a b true true ep eq ha hb e = once a b (omega arith) (omega arith) (eqb-true (f a) m ep ∙ sym (eqb-true (f b) m eq))
    differ a b true false ep eq ha hb e = let q = once d b (omega arith) (omega arith) e in absurd (omega arith)
    differ a b false true ep eq ha hb e = let q = once a d (omega arith) (omega arith) e in absurd (omega arith)
    differ a b false false ep eq ha hb e = once a b (omega arith) (omega arith) e

    g_once : (a b : ℕ) → a < d → b < d → g a ≡ g b → a ≡ b
    g_once a b ha hb e = differ a b (eqb (f a) m) (eqb (f b) m) refl refl ha hb e

-- the chain of waits from a task on has so many waits
pub data Long (tasks : List Task) (sems : List Sem) : ℕ → ℕ → Type 0 where
  done : {i : ℕ} → waits_for (task_at tasks i).status ≡ None → Long tasks sems i 0
  more : {i k j d : ℕ} → waits_for (task_at tasks i).status ≡ Some k → (sem_at sems k).holder ≡ Some j → Long tasks sems j d
      → Long tasks sems i (suc d)

module _ (tasks : List Task) (sems : List Sem) where
  -- who waits for a semaphore waits on its holder, and who waits for none on nobody
  pub waits_held : (i k : ℕ) → waits_for (task_at tasks i).status ≡ Some k → waits_on tasks sems i ≡ (sem_at sems k).holder
  unfolding waits_on holder_of
  waits_held i k w = rw w

  pub waits_none : (i : ℕ) → waits_for (task_at tasks i).status ≡ None → waits_on tasks sems i ≡ None
  unfolding waits_on holder_of
  waits_none i w = rw w

  module _ (c : Chained tasks sems) where
    -- whom a task waits on is a task, and the wait is for a semaphore that it holds
    pub on_held : (i j : ℕ) → i < length tasks → waits_on tasks sems i ≡ Some j
        → (k : ℕ) × (waits_for (task_at tasks i).status ≡ Some k) × (k < length sems) × ((sem_at sems k).holder ≡ Some j)
        × (j < length tasks)
    on_held i j h e = go (waits_for (task_at tasks i).status) refl
      where
        go : (f : Option ℕ) → waits_for (task_at tasks i).status ≡ f
            → (k : ℕ) × (waits_for (task_at tasks i).status ≡ Some k) × (k < length sems) × ((sem_at sems k).holder ≡ Some j)
            × (j < length tasks)
        go None w = let n = waits_none i w in let z : ◌≡◌ {A = ℕ} 0 1 = cc in absurd (omega arith)
        go (Some k) w =
            let below = (c.waits i h k w).0 in
            let by = sym (waits_held i k w) ∙ e in
            (k, w, below, by, c.held k below j by)

    -- a chain that ends has a length
    pub long : (i : ℕ) → i < length tasks → Ends tasks sems i → (d : ℕ) × Long tasks sems i d
    long i h (Ends.here e) = go (waits_for (task_at tasks i).status) refl
      where
        go : (f : Option ℕ) → waits_for (task_at tasks i).status ≡ f → (d : ℕ) × Long tasks sems i d
        go None w = (0, done w)
        go (Some k) w =
            let s = (c.waits i h k w).1 in
            let q = sym (waits_held i k w) ∙ e in
            let p = s.1 in
            let z : ◌≡◌ {A = ℕ} 0 1 = cc in
            absurd (omega arith)
    long i h (Ends.there {j = j} e rest) =
        let o = on_held i j h e in
        let r = long j o.4 rest in
        (suc r.0, more o.1 o.3 r.1)

  -- a chain has one length
  pub long_once : {i d e : ℕ} → Long tasks sems i d → Long tasks sems i e → d ≡ e
  long_once (done w) (done v) = refl
  long_once (done w) (more v h l) = let z : ◌≡◌ {A = ℕ} 0 1 = cc in absurd (omega arith)
  long_once (more w h l) (done v) = let z : ◌≡◌ {A = ℕ} 0 1 = cc in absurd (omega arith)
  long_once (more {k = k} {j = j} w h l) (more {k = k'} {j = j'} {d = d'} w' h' l') =
      let q : k ≡ k' = cc in
      let p : j' ≡ j = same j j' k k' q h h' in
      ap suc (long_once l (subst (λ (x : ℕ). Long tasks sems x d') p l'))
    where
      same : (j j' k k' : ℕ) → k ≡ k' → (sem_at sems k).holder ≡ Some j → (sem_at sems k').holder ≡ Some j' → j' ≡ j
      same j j' k k' q h h' =
          let e = ap (λ (x : ℕ). (sem_at sems x).holder) q in
          cc

  -- the semaphore that is waited for at a step of the chain
  on : {i d : ℕ} → Long tasks sems i d → ℕ → ℕ
  on (done w) a = 0
  on (more {k = k} w h l) zero = k
  on (more w h l) (suc a) = on l a

  -- its holder's chain is shorter by the steps that were made
  on_rest : {i d : ℕ} (l : Long tasks sems i d) (a : ℕ) → a < d
      → (j : ℕ) × (e : ℕ) × ((sem_at sems (on l a)).holder ≡ Some j) × Long tasks sems j e × (e + suc a ≡ d)
  unfolding on
  on_rest (done w) a h = absurd (omega arith)
  on_rest (more {j = j} {d = d} w h l) zero k = (j, d, h, l, omega arith)
  on_rest (more w h l) (suc a) k = let r = on_rest l a (omega arith) in let e = r.4 in (r.0, r.1, r.2, r.3, omega arith)

  -- so no semaphore is waited for at two steps
  on_once : {i d : ℕ} (l : Long tasks sems i d) (a b : ℕ) → a < d → b < d → on l a ≡ on l b → a ≡ b
  on_once l a b ha hb e =
      let r = on_rest l a ha in
      let q = on_rest l b hb in
      let s = ap (λ (x : ℕ). (sem_at sems x).holder) e in
      let p = r.2 in
      let t = q.2 in
      let same : r.0 ≡ q.0 = cc in
      let len : r.1 ≡ q.1 = long_once (subst (λ (x : ℕ). Long tasks sems x r.1) same r.3) q.3 in
      let u = r.4 in
      let v = q.4 in
      omega arith

  module _ (c : Chained tasks sems) where
    on_below : {i d : ℕ} → i < length tasks → (l : Long tasks sems i d) (a : ℕ) → a < d → on l a < length sems
    unfolding on
    on_below h (done w) a k = absurd (omega arith)
    on_below {i} h (more {k = k} w b l) zero q = (c.waits i h k w).0
    on_below {i} h (more {k = k} {j = j} w b l) (suc a) q = on_below (c.held k (c.waits i h k w).0 j b) l a (omega arith)

    -- a chain passes each semaphore once: it has no more waits than there are semaphores
    pub long_bound : {i d : ℕ} → i < length tasks → Long tasks sems i d → d ≤ length sems
    long_bound {i} {d} h l = pigeon (length sems) d (on l) (on_below h l) (on_once l)

    -- the chain from each task on, and its bound
    pub chain : (i : ℕ) → i < length tasks → (d : ℕ) × Long tasks sems i d × (d ≤ length sems)
    chain i h = let l = long c i h (c.ends i h) in (l.0, l.1, long_bound h l.1)

    -- who is reached from a task is a task
    pub reached_below : (i j : ℕ) → j < length tasks → Reaches tasks sems i j → i < length tasks
    reached_below i j h (Reaches.here) = h
    reached_below i j h (Reaches.there {k = k} e r) = reached_below i k (on_held c j k h e).4 r

  -- what is computed is so
  pub passes_reaches : (fuel i j : ℕ) → passes tasks sems fuel i j ≡ true → Reaches tasks sems i j
  unfolding passes found_and
  passes_reaches zero i j e = let z : ◌≡◌ {A = ℕ} 0 1 = cc in absurd (omega arith)
  passes_reaches (suc fuel) i j e =
      go (eqb j i) refl (waits_on tasks sems j) refl e (λ k. passes_reaches fuel i k)
    where
      go : (b : Bool) → eqb j i ≡ b → (f : Option ℕ) → waits_on tasks sems j ≡ f → (b || found_and (passes tasks sems fuel i) f) ≡ true
          → ((k : ℕ) → passes tasks sems fuel i k ≡ true → Reaches tasks sems i k) → Reaches tasks sems i j
      go true q f w e rec = subst (λ (x : ℕ). Reaches tasks sems i x) (sym (eqb-true j i q)) Reaches.here
      go false q None w e rec = let z : ◌≡◌ {A = ℕ} 0 1 = cc in absurd (omega arith)
      go false q (Some k) w e rec = Reaches.there w (rec k e)

  -- and what is so is computed, where the chain is not longer than what is looked at
  pub reaches_passes : (i : ℕ) {j d : ℕ} (fuel : ℕ) → Reaches tasks sems i j → Long tasks sems j d → d < fuel → passes tasks sems fuel i j ≡ true
  unfolding passes found_and
  reaches_passes i {j} zero r l h = absurd (omega arith)
  reaches_passes i (suc fuel) (Reaches.here) l h = rw (eq-eqb i i refl)
  reaches_passes i {j} (suc fuel) (Reaches.there {k = k} e r) (done w) h =
      let n = waits_none j w in let z : ◌≡◌ {A = ℕ} 0 1 = cc in absurd (omega arith)
  reaches_passes i {j} (suc fuel) (Reaches.there {k = k} e r) (more {k = at} {j = next} {d = d} w b l) h =
      let same : next ≡ k = on_it in
      rw e
      (ap (λ (x : Bool). eqb j i || x) (reaches_passes i fuel r (subst (λ (x : ℕ). Long tasks sems x d) same l) (omega arith))
      ∙ mathlib.Core.Bool.or-true (eqb j i))
    where
      on_it : next ≡ k
      on_it = let q = sym (waits_held j at w) ∙ e in cc

  module _ (c : Chained tasks sems) where
    -- a task reaches another exactly if it is computed so
    pub reaches_true : (i j : ℕ) → j < length tasks → Reaches tasks sems i j → reaches tasks sems i j ≡ true
    unfolding reaches
    reaches_true i j h r =
        let l = chain c j h in
        let b = l.2 in
        reaches_passes i (suc (length sems)) r l.1 (omega arith)

    pub true_reaches : (i j : ℕ) → reaches tasks sems i j ≡ true → Reaches tasks sems i j
    unfolding reaches
    true_reaches i j e = passes_reaches (suc (length sems)) i j e
