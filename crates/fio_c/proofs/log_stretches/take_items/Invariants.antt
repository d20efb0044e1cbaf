use Rattle.std.proofs.Common.{◌≡◌, ◌+◌, ◌≤◌, ◌++◌, length, take, drop}
use Rattle.fio_c.specs.BatchItems.{frame_count}
use Rattle.fio_c.specs.LogStretches.{seams_of_items, stretches_below_items}
use Rattle.fio_c.specs.declared.log_batch.TheConstants.{LOG_FRAMES}
use Rattle.fio_c.proofs.log_stretches.take_items.Given as goal

-- the iterator is the list of the items that are left: with them all is taken
abbrev pub invariant-items : goal.invariant-items
invariant-items l = record {
  room : l.count + frame_count l.verdict-iterator ≤ length l.seams;
  few : l.frame + frame_count l.verdict-iterator ≤ LOG_FRAMES;
  next : stretches_below_items l.outcomes l.frame l.stretches l.verdict-iterator
      ≡ stretches_below_items l.outcomes 0 l.fn.stretches l.fn.items;
  seams : take l.count l.seams ++ seams_of_items l.outcomes l.frame l.stretches l.verdict-iterator
      ≡ seams_of_items l.outcomes 0 l.fn.stretches l.fn.items;
  rest : drop l.count l.seams ≡ drop l.count l.fn.seams;
}
