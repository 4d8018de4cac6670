-- One record of a list, 48 bytes, little-endian, times in nanoseconds (02, b): "as sched_setattr(2) describes").
use Rattle.std.specs.Prelude.{ℕ, suc, ◌+◌, ◌/◌, ◌%◌, Bool, cond, not, ◌&&◌, ◌||◌, List, [], ◌∷◌, eqb, leb}
use Rattle.fields.specs.Fields.{read_at}
use Rattle.table.specs.declared.Task.{Task}
use Rattle.table.specs.declared.Status.TheVariants.{Idle}
use Rattle.table.specs.Refusals.{first_of}
use Rattle.table.specs.WellFormed.{within}
use Rattle.linux.specs.declared.read.Attr.{Attr}

-- 02, b): size, policy, flags, nice, priority, runtime, deadline, period
unfoldable pub attr_in : List ℕ → Attr
attr_in r =
    record {
      size = read_at 4 r 0;
      policy = read_at 4 r 4;
      flags = read_at 8 r 8;
      nice = read_at 4 r 16;
      priority = read_at 4 r 20;
      runtime = read_at 8 r 24;
      deadline = read_at 8 r 32;
      period = read_at 8 r 40;
    }

-- 02, b): "Runtime rounds up to a tick, periods down"; a tick has 10 nanoseconds
unfoldable pub ticks_up : ℕ → ℕ
ticks_up ns = ns / 10 + cond (eqb (ns % 10) 0) 0 1

unfoldable pub ticks_down : ℕ → ℕ
ticks_down ns = ns / 10

-- 02, b): "a period of zero means the deadline"
unfoldable pub period_of : Attr → ℕ
period_of a = cond (eqb a.period 0) a.deadline a.period

-- the period and the cost of a record, in ticks
unfoldable pub period_ticks : Attr → ℕ
period_ticks a = ticks_down (period_of a)

unfoldable pub cost_ticks : Attr → ℕ
cost_ticks a = ticks_up a.runtime

-- 02, b), 40: "a size field not 48"
unfoldable pub bad_size : Attr → Bool
bad_size a = not (eqb a.size 48)

-- 02, b), 41: policy must be 6 (SCHED_DEADLINE), flags, nice and priority zero
unfoldable pub other_policy : Attr → Bool
other_policy a = not (eqb a.policy 6) || not (eqb a.flags 0) || not (eqb a.nice 0) || not (eqb a.priority 0)

-- 02, b), 42: unequal times, in nanoseconds, or rounded values outside 01's ranges: period 1,000 to 100,000,000 ticks, cost 1 to the period
unfoldable pub bad_times : Attr → Bool
bad_times a =
    not (eqb (period_of a) a.deadline)
    || not (within 1000 (period_ticks a) 100000000 && within 1 (cost_ticks a) (period_ticks a))

-- 02, b), "per record": 40, 41, 42, 6: a 65th task, where so many were read before
unfoldable pub attr_refusal : ℕ → Attr → ℕ
attr_refusal before a = first_of ((40, bad_size a) ∷ (41, other_policy a) ∷ (42, bad_times a) ∷ (6, leb 64 before) ∷ [])

-- 02, b), the task of the record at a place: numbers are places in the list from 1; in DP1, idle, with no deadline of its own
unfoldable pub task_of : ℕ → Attr → Task
task_of place a =
    record {
      deadline = 0;
      period = period_ticks a;
      cost = cost_ticks a;
      due = 0;
      number = suc place;
      queue = 1;
      status = Idle;
    }
