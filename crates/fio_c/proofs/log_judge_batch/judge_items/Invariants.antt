use Rattle.std.proofs.Common.{◌≡◌, ◌+◌, ◌≤◌, ◌++◌, length, take, drop, fold}
use Rattle.fio_check.specs.LogJudges.{log_judging}
use Rattle.fio_c.specs.BatchItems.{frame_count}
use Rattle.fio_c.specs.LogJudges.{log_below_item, outcomes_of_items}
use Rattle.fio_c.proofs.log_judge_batch.judge_items.Given as goal

-- the iterator is the list of the items that are left: with them all is judged
abbrev pub invariant-items : goal.invariant-items
invariant-items l = record {
  room : l.at + frame_count l.verdict-iterator ≤ length l.outcomes;
  count : l.at + frame_count l.verdict-iterator ≡ frame_count l.fn.items;
  next : fold (log_below_item l.as_said) (log_judging l.judge) l.verdict-iterator
      ≡ fold (log_below_item l.as_said) (log_judging l.fn.judge) l.fn.items;
  outcomes : take l.at l.outcomes ++ outcomes_of_items l.as_said (log_judging l.judge) l.verdict-iterator
      ≡ outcomes_of_items l.as_said (log_judging l.fn.judge) l.fn.items;
  rest : drop l.at l.outcomes ≡ drop l.at l.fn.outcomes;
}
