-- P10 to P12, the rows of the table of cases that are lists of calls, hold: each by computation, from the bytes of the image on.
-- Assumes nothing.
use mathlib.Core.Path.{refl}
use lib.ListN.{drop}
use Rattle.table.specs.Refusals.{first_of, answered}
use Rattle.table.specs.Places.{task_place, sem_place}
use Rattle.table.specs.WellFormed.{within, due_in_range, task_in_range, sem_in_range, task_before, sem_before, used}
use Rattle.executive.specs.States.{tasks_of, sems_of}
use Rattle.waits.specs.Waits.{task_at, sem_at, waits_for, holder_of, waits_on}
use Rattle.waits.specs.Standing.{
  shown_deadline,
  own_of,
  better,
  found_and,
  is_none,
  holds_it,
  closes_ring,
  passes,
  reaches,
  preferred,
  best_among,
  found_or,
  standing_of,
  is_idle,
  is_ready,
  ready_at,
  waiter_at,
  running_of,
  heir_of,
  number_at,
}
use Rattle.executive.specs.Calls.{
  with_tasks,
  with_sems,
  with_last,
  now_does,
  now_held,
  moved,
  on_task,
  busy,
  untimely,
  no_sem_wait,
  not_held,
  release_at,
  take_or_wait,
  acquire_at,
  hand_over,
  give_at,
  release_of,
  withdraw_of,
  acquire_of,
  give_of,
}
use Rattle.fields.specs.Fields.{value_of, bytes_of, read_at, all_are}
use Rattle.records.specs.Records.{task_in, sem_in, task_decoded, sem_decoded, decoded, encode_task, encode_sem}
use Rattle.executive.specs.Tables.{add_task, add_sem, add_board, state_of}
use Rattle.executive.specs.Reading.{finished_load}
use Rattle.image.specs.Loading.{fresh_table, taken, erased_after, used_after, refused_as, follows, order_broken, number_twice, too_many, refusal_of, load_from, load_records, bad_length, load_of}
use Rattle.fields.specs.Parts.{parts_of, flat}
use Rattle.image.specs.Writing.{encoded}
use Rattle.theorems.specs.Histories.{called, after}
use Rattle.theorems.specs.Cases.{loaded, runs, steps_of, cases, All}

pub p10_p12 : All (drop 8 cases)
unfolding first_of answered task_place sem_place within due_in_range task_in_range sem_in_range task_before sem_before used tasks_of sems_of task_at sem_at waits_for holder_of waits_on shown_deadline own_of better found_and passes reaches preferred best_among found_or standing_of is_idle is_ready ready_at waiter_at running_of heir_of number_at with_tasks with_sems with_last now_does now_held moved on_task is_none busy untimely no_sem_wait holds_it closes_ring not_held release_at take_or_wait acquire_at hand_over give_at release_of withdraw_of acquire_of give_of value_of bytes_of read_at all_are task_in sem_in task_decoded sem_decoded decoded encode_task encode_sem fresh_table taken add_task add_sem add_board erased_after used_after refused_as follows order_broken number_twice too_many refusal_of state_of finished_load load_from load_records parts_of bad_length load_of flat encoded called after loaded runs steps_of cases
p10_p12 = (refl, ((refl, refl), (refl, tt)))
