-- The laws of own standings: the order is strict and total, and the best among some is one, and no other is better.
-- Assumes nothing.
use Rattle.std.specs.Prelude.{Option, Some, None}
use Prim.Native.Nat.{ℕ, zero, suc, ◌<◌}
use mathlib.Core.Path.{◌≡◌, refl, sym, ap, subst, ◌∙◌}
use mathlib.Core.Logic.{◌⊎◌, inl, inr, ⊎_elim}
use mathlib.Core.Bool.{Bool, true, false, cond, ◌&&◌, ◌||◌}
use mathlib.Core.List.{List}
use native.Mathlib.Omega.{arith}
use lib.Dec.{ltb, eqb}
use borrow.Author.Tests.{lt-ltb, eq-eqb, ltb-true, ltb-false, eqb-true, eqb-false}
use Rattle.table.specs.declared.Task.{Task}
use Rattle.waits.specs.declared.standing.Rank.{Rank}
use Rattle.waits.specs.Standing.{better, own_of, preferred, best_among}

-- a better b: by queue, or by deadline in the same queue, or by position
abbrev Better : Rank → Rank → Type 0
Better a b =
    (a.queue < b.queue)
    ⊎ ((a.queue ≡ b.queue) × ((a.deadline < b.deadline) ⊎ ((a.deadline ≡ b.deadline) × (a.position < b.position))))

three : (a b : Rank) (p q r s t : Bool) → ltb a.queue b.queue ≡ p → eqb a.queue b.queue ≡ q
    → ltb a.deadline b.deadline ≡ r → eqb a.deadline b.deadline ≡ s → ltb a.position b.position ≡ t
    → (p || (q && (r || (s && t)))) ≡ true → Better a b
three a b true q r s t hp hq hr hs ht e = inl (ltb-true _ _ hp)
three a b false true true s t hp hq hr hs ht e = inr (eqb-true _ _ hq, inl (ltb-true _ _ hr))
three a b false true false true true hp hq hr hs ht e = inr (eqb-true _ _ hq, inr (eqb-true _ _ hs, ltb-true _ _ ht))
three a b false true false true false hp hq hr hs ht e = let z : ◌≡◌ {A = ℕ} 0 1 = cc in absurd (omega arith)
three a b false true false false t hp hq hr hs ht e = let z : ◌≡◌ {A = ℕ} 0 1 = cc in absurd (omega arith)
three a b false false r s t hp hq hr hs ht e = let z : ◌≡◌ {A = ℕ} 0 1 = cc in absurd (omega arith)

is_better : (a b : Rank) → better a b ≡ true → Better a b
unfolding better
is_better a b e =
    three a b (ltb a.queue b.queue) (eqb a.queue b.queue) (ltb a.deadline b.deadline) (eqb a.deadline b.deadline)
    (ltb a.position b.position) refl refl refl refl refl e

better_is : (a b : Rank) → Better a b → better a b ≡ true
unfolding better
better_is a b =
    ⊎_elim
    (λ h. rw (lt-ltb a.queue b.queue h))
    (λ h.
    ⊎_elim
    (λ k. rw (eq-eqb a.queue b.queue h.0, lt-ltb a.deadline b.deadline k) (mathlib.Core.Bool.or-true (ltb a.queue b.queue)))
    (λ k.
    rw (eq-eqb a.queue b.queue h.0, eq-eqb a.deadline b.deadline k.0, lt-ltb a.position b.position k.1)
    (ap (λ (x : Bool). ltb a.queue b.queue || x) (mathlib.Core.Bool.or-true (ltb a.deadline b.deadline))
    ∙ mathlib.Core.Bool.or-true (ltb a.queue b.queue)))
    h.1)

-- no rank is better than itself
pub better_irrefl : (a : Rank) → better a a ≡ false
better_irrefl a = go (better a a) refl
  where
    go : (b : Bool) → better a a ≡ b → better a a ≡ false
    go false e = e
    go true e =
        absurd
        (⊎_elim (λ h. omega arith) (λ h. ⊎_elim (λ k. omega arith) (λ k. omega arith) h.1) (is_better a a e))

-- what is better than a better one is better
pub better_trans : (a b c : Rank) → better a b ≡ true → better b c ≡ true → better a c ≡ true
better_trans a b c e f =
    better_is a c
    (⊎_elim
    (λ h.
    ⊎_elim (λ h'. inl (omega arith)) (λ h'. inl (omega arith)) (is_better b c f))
    (λ h.
    ⊎_elim
    (λ h'. inl (omega arith))
    (λ h'.
    inr (
      omega arith,
      ⊎_elim
          (λ k. ⊎_elim (λ k'. inl (omega arith)) (λ k'. inl (omega arith)) h'.1)
          (λ k. ⊎_elim (λ k'. inl (omega arith)) (λ k'. inr (omega arith, omega arith)) h'.1)
          h.1,
    ))
    (is_better b c f))
    (is_better a b e))

-- of two ranks one is better, or they are equal
pub better_total : (a b : Rank) → better a b ≡ false → better b a ≡ false → a ≡ b
better_total a b e f = fields (same (ltb a.queue b.queue) (ltb b.queue a.queue) refl refl)
  where
    no : (x y : Rank) → better x y ≡ false → Better x y → ⊥
    no x y e h = let t = better_is x y h in let z : ◌≡◌ {A = ℕ} 0 1 = cc in omega arith

    level : (p q : Bool) → ltb a.position b.position ≡ p → ltb b.position a.position ≡ q → a.queue ≡ b.queue
        → a.deadline ≡ b.deadline → a.position ≡ b.position
    level true q hp hq u v = absurd (no a b e (inr (u, inr (v, ltb-true _ _ hp))))
    level false true hp hq u v = absurd (no b a f (inr (sym u, inr (sym v, ltb-true _ _ hq))))
    level false false hp hq u v =
        let x = ltb-false a.position b.position hp in
        let y = ltb-false b.position a.position hq in
        omega arith

    due : (p q : Bool) → ltb a.deadline b.deadline ≡ p → ltb b.deadline a.deadline ≡ q → a.queue ≡ b.queue
        → a.deadline ≡ b.deadline
    due true q hp hq u = absurd (no a b e (inr (u, inl (ltb-true _ _ hp))))
    due false true hp hq u = absurd (no b a f (inr (sym u, inl (ltb-true _ _ hq))))
    due false false hp hq u =
        let x = ltb-false a.deadline b.deadline hp in
        let y = ltb-false b.deadline a.deadline hq in
        omega arith

    same : (p q : Bool) → ltb a.queue b.queue ≡ p → ltb b.queue a.queue ≡ q → a.queue ≡ b.queue
    same true q hp hq = absurd (no a b e (inl (ltb-true _ _ hp)))
    same false true hp hq = absurd (no b a f (inl (ltb-true _ _ hq)))
    same false false hp hq =
        let x = ltb-false a.queue b.queue hp in
        let y = ltb-false b.queue a.queue hq in
        omega arith

    fields : a.queue ≡ b.queue → a ≡ b
    fields u =
        let v = due (ltb a.deadline b.deadline) (ltb b.deadline a.deadline) refl refl u in
        let w = level (ltb a.position b.position) (ltb b.position a.position) refl refl u v in
        λ i. record { queue = u i; deadline = v i; position = w i }

-- no two tasks of one table share an own standing
pub own_once : (tasks : List Task) (i j : ℕ) → own_of tasks i ≡ own_of tasks j → i ≡ j
unfolding own_of
own_once tasks i j e = ap (λ (r : Rank). r.position) e

module _ (test : ℕ → Bool) (rank : ℕ → Rank) where
  -- what holds of the best among those below n
  pub record IsBest (n b : ℕ) : Type 0 where
    pub below : b < n
    pub passes : test b ≡ true
    pub best : (j : ℕ) → j < n → test j ≡ true → better (rank j) (rank b) ≡ false

  abbrev Says : ℕ → Option ℕ → Type 0
  Says n None = (j : ℕ) → j < n → test j ≡ false
  Says n (Some b) = IsBest n b

  last_or : (n j : ℕ) (P : ℕ → Type 0) → j < suc n → P n → (j < n → P j) → P j
  last_or n j P h here before = go (eqb j n) refl
    where
      go : (b : Bool) → eqb j n ≡ b → P j
      go true e = subst P (sym (eqb-true j n e)) here
      go false e = before (near (ltb j n) refl)
        where
          near : (b : Bool) → ltb j n ≡ b → j < n
          near true l = ltb-true j n l
          near false l = let m = ltb-false j n l in absurd (eqb-false j n e (omega arith))

  skip : (n : ℕ) (best : Option ℕ) → test n ≡ false → Says n best → Says (suc n) best
  skip n None t says = λ j h. last_or n j (λ x. test x ≡ false) h t (says j)
  skip n (Some b) t says =
      let below = says.below in
      record {
        below = omega arith;
        passes = says.passes;
        best = λ j h p. last_or n j (λ x. test x ≡ true → better (rank x) (rank b) ≡ false) h
            (λ q. let z : ◌≡◌ {A = ℕ} 0 1 = cc in absurd (omega arith)) (says.best j) p;
      }

  take_it : (n : ℕ) (best : Option ℕ) → test n ≡ true → Says n best → Says (suc n) (preferred rank n best)
  unfolding preferred
  take_it n None t says =
      record {
        below = omega arith;
        passes = t;
        best = λ j h p. last_or n j (λ x. test x ≡ true → better (rank x) (rank n) ≡ false) h
            (λ q. better_irrefl (rank n)) (λ k q. let no = says j k in let z : ◌≡◌ {A = ℕ} 0 1 = cc in absurd (omega arith)) p;
      }
  take_it n (Some b) t says = go (better (rank n) (rank b)) refl
    where
      below : b < n
      below = says.below

      past : (j : ℕ) (c : Bool) → better (rank j) (rank n) ≡ c → better (rank n) (rank b) ≡ true → better (rank j) (rank b) ≡ false
          → better (rank j) (rank n) ≡ false
      past j false e u v = e
      past j true e u v =
          let w = better_trans (rank j) (rank n) (rank b) e u in let z : ◌≡◌ {A = ℕ} 0 1 = cc in absurd (omega arith)

      go : (c : Bool) → better (rank n) (rank b) ≡ c → Says (suc n) (cond c (Some n) (Some b))
      go true e =
          record {
            below = omega arith;
            passes = t;
            best = λ j h p. last_or n j (λ x. test x ≡ true → better (rank x) (rank n) ≡ false) h
                (λ q. better_irrefl (rank n)) (λ k q. past j (better (rank j) (rank n)) refl e (says.best j k q)) p;
          }
      go false e =
          record {
            below = omega arith;
            passes = says.passes;
            best = λ j h p. last_or n j (λ x. test x ≡ true → better (rank x) (rank b) ≡ false) h (λ q. e) (says.best j) p;
          }

  best_says : (n : ℕ) → Says n (best_among test rank n)
  unfolding best_among
  best_says zero = λ j h. absurd (omega arith)
  best_says (suc n) = go (test n) refl (best_says n)
    where
      go : (c : Bool) → test n ≡ c → Says n (best_among test rank n) → Says (suc n) (cond c (preferred rank n) (λ best. best) (best_among test rank n))
      go true t says = take_it n (best_among test rank n) t says
      go false t says = skip n (best_among test rank n) t says

  -- what is answered is the best
  pub best_is : (n b : ℕ) → best_among test rank n ≡ Some b → IsBest n b
  best_is n b e = subst (λ (f : Option ℕ). Says n f) e (best_says n)

  -- where nothing is answered, none passes
  pub best_none : (n : ℕ) → best_among test rank n ≡ None → (j : ℕ) → j < n → test j ≡ false
  best_none n e = subst (λ (f : Option ℕ). Says n f) e (best_says n)

  -- where one passes, one is answered
  pub best_some : (n j : ℕ) → j < n → test j ≡ true → (b : ℕ) × (best_among test rank n ≡ Some b)
  best_some n j h t = go (best_among test rank n) refl
    where
      go : (f : Option ℕ) → best_among test rank n ≡ f → (b : ℕ) × (best_among test rank n ≡ Some b)
      go (Some b) e = (b, e)
      go None e = let no = best_none n e j h in let z : ◌≡◌ {A = ℕ} 0 1 = cc in absurd (omega arith)

  -- where none passes, nothing is answered
  pub best_nothing : (n : ℕ) → ((j : ℕ) → j < n → test j ≡ false) → best_among test rank n ≡ None
  best_nothing n h = go (best_among test rank n) refl
    where
      go : (f : Option ℕ) → best_among test rank n ≡ f → best_among test rank n ≡ None
      go None e = e
      go (Some b) e =
          let i = best_is n b e in
          let no = h b i.below in
          let yes = i.passes in
          let z : ◌≡◌ {A = ℕ} 0 1 = cc in
          absurd (omega arith)

  -- the best is answered, where no two that pass share a rank
  pub best_only : (n b : ℕ) → IsBest n b
      → ((i j : ℕ) → i < n → j < n → test i ≡ true → test j ≡ true → rank i ≡ rank j → i ≡ j) → best_among test rank n ≡ Some b
  best_only n b is once =
      let s = best_some n b is.below is.passes in
      let i = best_is n s.0 s.1 in
      s.1
      ∙ ap Some
      (once s.0 b i.below is.below i.passes is.passes
      (better_total (rank s.0) (rank b) (is.best s.0 i.below i.passes) (i.best b is.below is.passes)))

-- tests that agree below n have the same best
pub best_same : (test other : ℕ → Bool) (rank : ℕ → Rank) (n : ℕ) → ((j : ℕ) → j < n → test j ≡ other j)
    → best_among test rank n ≡ best_among other rank n
unfolding best_among
best_same test other rank zero h = refl
best_same test other rank (suc n) h =
    ap (λ (b : Bool). cond b (preferred rank n) (λ best. best) (best_among test rank n)) (h n (omega arith))
    ∙ ap (λ (f : Option ℕ). cond (other n) (preferred rank n) (λ best. best) f) (best_same test other rank n (λ j k. h j (omega arith)))
