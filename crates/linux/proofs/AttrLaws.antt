-- The laws of one record of a list: what was written of a task is read as that task, and a record that is not refused is written again with its
-- times rounded and nothing else changed.
-- Assumes nothing.
use Prim.Native.Nat.{ℕ, suc, ◌+◌, ◌*◌, ◌/◌, ◌%◌, ◌≤◌, ◌<◌}
use mathlib.Core.Path.{◌≡◌, refl, sym, ap, ◌∙◌}
use mathlib.Core.Logic.{inl, inr}
use mathlib.Core.Bool.{Bool, true, false, cond, not, ◌||◌}
use mathlib.Core.List.{List, ◌++◌, append-nil}
use native.Mathlib.Omega.{arith}
use lib.Dec.{eqb}
use lib.ListN.{length, drop, drop_of_length-le}
use borrow.Author.Tests.{eqb-true, eq-eqb, ne_eqb, lt-leb, not-false, eqb-false}
use Rattle.fields.specs.Fields.{bytes_of, read_at, put_at, Bytes}
use Rattle.fields.proofs.ByteLaws.{read_back, value_of_bytes_of}
use Rattle.table.specs.declared.Task.{Task}
use Rattle.table.specs.declared.Status.TheVariants.{Idle}
use Rattle.table.specs.Entries.{loaded_task}
use Rattle.table.specs.Refusals.{first_of}
use Rattle.table.proofs.OrderLaws.{TaskRange, DueRange, true_within}
use Rattle.table.proofs.SumLaws.{neither}
use Rattle.linux.specs.declared.read.Attr.{Attr}
use Rattle.linux.specs.Attrs.{attr_in, ticks_up, ticks_down, period_of, period_ticks, cost_ticks, bad_size, other_policy, bad_times, attr_refusal, task_of}
use Rattle.linux.specs.Writing.{encode_attr}

-- a whole number of ticks, in nanoseconds, is so many ticks either way
pub up_whole : (ticks : ℕ) → ticks_up (ticks * 10) ≡ ticks
unfolding ticks_up
up_whole ticks =
    let none : (ticks * 10) % 10 ≡ 0 = omega arith in
    ap (λ (b : Bool). (ticks * 10) / 10 + cond b 0 1) (eq-eqb ((ticks * 10) % 10) 0 none) ∙ omega arith

pub down_whole : (ticks : ℕ) → ticks_down (ticks * 10) ≡ ticks
unfolding ticks_down
down_whole ticks = omega arith

-- what rounding does: the least number of ticks that is not below, and the greatest that is not above
pub up_least : (ns : ℕ) → (ns ≤ 10 * ticks_up ns) × (10 * ticks_up ns < ns + 10)
unfolding ticks_up
up_least ns = go (eqb (ns % 10) 0) refl
  where
    go : (b : Bool) → eqb (ns % 10) 0 ≡ b → (ns ≤ 10 * (ns / 10 + cond b 0 1)) × (10 * (ns / 10 + cond b 0 1) < ns + 10)
    go true e = let none = eqb-true (ns % 10) 0 e in (omega arith, omega arith)
    go false e = let some = eqb-false (ns % 10) 0 e in (omega arith, omega arith)

pub down_most : (ns : ℕ) → (10 * ticks_down ns ≤ ns) × (ns < 10 * ticks_down ns + 10)
unfolding ticks_down
down_most ns = (omega arith, omega arith)

-- the record of a task, field by field
abbrev pub attr_of : Task → Attr
attr_of t =
    record {
      size = 48;
      policy = 6;
      flags = 0;
      nice = 0;
      priority = 0;
      runtime = t.cost * 10;
      deadline = t.period * 10;
      period = t.period * 10;
    }

pub attr_in_lem : (t : Task) → TaskRange t → attr_in (encode_attr t) ≡ attr_of t
unfolding attr_in encode_attr bytes_of read_at Rattle.fields.specs.Fields.value_of
attr_in_lem t r =
    λ i.
    record {
      size = 48;
      policy = 6;
      flags = 0;
      nice = 0;
      priority = 0;
      runtime = value_of_bytes_of 8 (t.cost * 10) (omega (arith, r.cost_most, r.period_most)) i;
      deadline = value_of_bytes_of 8 (t.period * 10) (omega (arith, r.period_most)) i;
      period = value_of_bytes_of 8 (t.period * 10) (omega (arith, r.period_most)) i;
    }

module _ (t : Task) (r : TaskRange t) where
  attr_period : period_of (attr_of t) ≡ t.period * 10
  unfolding period_of
  attr_period = rw (ne_eqb (t.period * 10) 0 (λ e. omega (arith, r.period_least)))

  attr_period_ticks : period_ticks (attr_of t) ≡ t.period
  unfolding period_ticks
  attr_period_ticks = ap ticks_down attr_period ∙ down_whole t.period

  attr_cost_ticks : cost_ticks (attr_of t) ≡ t.cost
  unfolding cost_ticks
  attr_cost_ticks = up_whole t.cost

  -- it is not refused, where fewer than 64 were read before it
  pub attr_passes : (before : ℕ) → before < 64 → attr_refusal before (attr_of t) ≡ 0
  unfolding attr_refusal bad_size other_policy bad_times first_of
  attr_passes before h =
      let equal = eq-eqb (period_of (attr_of t)) (t.period * 10) attr_period in
      let period = true_within 1000 (period_ticks (attr_of t)) 100000000 (omega (arith, attr_period_ticks, r.period_least)) (omega (arith, attr_period_ticks, r.period_most)) in
      let cost = true_within 1 (cost_ticks (attr_of t)) (period_ticks (attr_of t)) (omega (arith, attr_cost_ticks, r.cost_least))
      (omega (arith, attr_cost_ticks, attr_period_ticks, r.cost_most)) in
      rw (equal, period, cost, lt-leb 64 before h)

  -- and its task is that task, as after loading
  pub attr_task : (place : ℕ) → t.number ≡ suc place → t.queue ≡ 1 → task_of place (attr_of t) ≡ loaded_task t
  unfolding task_of
  attr_task place number queue =
      let none : t.due ≡ 0 = go r.due in
      λ i.
      record {
        deadline = 0;
        period = attr_period_ticks i;
        cost = attr_cost_ticks i;
        due = sym none i;
        number = sym number i;
        queue = sym queue i;
        status = Idle;
      }
    where
      go : DueRange t → t.due ≡ 0
      go (inl z) = z
      go (inr own) = absurd (omega (arith, own.0))

-- a record as its fields make it
unfoldable pub raw_of : Attr → List ℕ
raw_of a =
    bytes_of 4 a.size
    ++ (bytes_of 4 a.policy
    ++ (bytes_of 8 a.flags
    ++ (bytes_of 4 a.nice ++ (bytes_of 4 a.priority ++ (bytes_of 8 a.runtime ++ (bytes_of 8 a.deadline ++ bytes_of 8 a.period))))))

pub raw_back : (r : List ℕ) → length r ≡ 48 → Bytes r → raw_of (attr_in r) ≡ r
unfolding raw_of attr_in
raw_back r n bytes =
    let f : (width : ℕ) → ℕ → List ℕ → List ℕ = λ width at m. bytes_of width (read_at width r at) ++ m in
    let front : List ℕ → List ℕ = λ m. f 4 0 (f 4 4 (f 8 8 (f 4 16 (f 4 20 m)))) in
    let last : bytes_of 8 (read_at 8 r 40) ≡ drop 40 r =
    sym (append-nil (bytes_of 8 (read_at 8 r 40)))
    ∙ (ap (λ (m : List ℕ). bytes_of 8 (read_at 8 r 40) ++ m) (sym (drop_of_length-le r {i = 48} (omega arith))) ∙ read_back r 40 8 (omega arith) bytes) in
    ap (λ (m : List ℕ). front (f 8 24 (f 8 32 m))) last
    ∙ (ap (λ (m : List ℕ). front (f 8 24 m)) (read_back r 32 8 (omega arith) bytes)
    ∙ (ap front (read_back r 24 8 (omega arith) bytes)
    ∙ (ap (λ (m : List ℕ). f 4 0 (f 4 4 (f 8 8 (f 4 16 m)))) (read_back r 20 4 (omega arith) bytes)
    ∙ (ap (λ (m : List ℕ). f 4 0 (f 4 4 (f 8 8 m))) (read_back r 16 4 (omega arith) bytes)
    ∙ (ap (λ (m : List ℕ). f 4 0 (f 4 4 m)) (read_back r 8 8 (omega arith) bytes)
    ∙ (ap (λ (m : List ℕ). f 4 0 m) (read_back r 4 4 (omega arith) bytes) ∙ read_back r 0 4 (omega arith) bytes))))))

-- other times put into it
pub raw_times : (a : Attr) (runtime deadline period : ℕ)
    → put_at 8 (put_at 8 (put_at 8 (raw_of a) 24 runtime) 32 deadline) 40 period
    ≡ raw_of (record { size = a.size; policy = a.policy; flags = a.flags; nice = a.nice; priority = a.priority; runtime = runtime; deadline = deadline; period = period })
unfolding raw_of put_at bytes_of
raw_times a runtime deadline period = refl

-- what is known of the fields of a record that is not refused for them
pub fields_so : (a : Attr) → bad_size a ≡ false → other_policy a ≡ false
    → (a.size ≡ 48) × (a.policy ≡ 6) × (a.flags ≡ 0) × (a.nice ≡ 0) × (a.priority ≡ 0)
unfolding bad_size other_policy
fields_so a s p =
    let test : ℕ → ℕ → Bool = λ value wanted. not (eqb value wanted) in
    let is : (value wanted : ℕ) → test value wanted ≡ false → value ≡ wanted = λ value wanted h. eqb-true value wanted (not-false (eqb value wanted) h) in
    let three = neither (test a.policy 6 || test a.flags 0 || test a.nice 0) (test a.priority 0) p in
    let two = neither (test a.policy 6 || test a.flags 0) (test a.nice 0) three.0 in
    let one = neither (test a.policy 6) (test a.flags 0) two.0 in
    (is a.size 48 s, is a.policy 6 one.0, is a.flags 0 one.1, is a.nice 0 two.1, is a.priority 0 three.1)

-- the record that is written of its task is it, with its times rounded
pub task_raw : (place : ℕ) (a : Attr) → bad_size a ≡ false → other_policy a ≡ false
    → encode_attr (task_of place a)
    ≡ raw_of
    (record {
      size = a.size;
      policy = a.policy;
      flags = a.flags;
      nice = a.nice;
      priority = a.priority;
      runtime = cost_ticks a * 10;
      deadline = period_ticks a * 10;
      period = period_ticks a * 10;
    })
unfolding encode_attr task_of raw_of bytes_of
task_raw place a s p =
    let so = fields_so a s p in
    let made : ℕ → ℕ → ℕ → ℕ → ℕ → List ℕ =
    λ size policy flags nice priority.
    raw_of
    (record {
      size = size;
      policy = policy;
      flags = flags;
      nice = nice;
      priority = priority;
      runtime = cost_ticks a * 10;
      deadline = period_ticks a * 10;
      period = period_ticks a * 10;
    }) in
    sym
    (ap (λ (k : ℕ). made k a.policy a.flags a.nice a.priority) so.0
    ∙ (ap (λ (k : ℕ). made 48 k a.flags a.nice a.priority) so.1
    ∙ (ap (λ (k : ℕ). made 48 6 k a.nice a.priority) so.2
    ∙ (ap (λ (k : ℕ). made 48 6 0 k a.priority) so.3 ∙ ap (made 48 6 0 0) so.4))))
