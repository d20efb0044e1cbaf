use Rattle.fio_check.proofs.Names.{entries_of, ◌≡◌}
use Rattle.fio_check.specs.LogCounts.{raised_by}
use Rattle.fio_check.proofs.log_counts.raise_inputs.Given as goal

-- the iterator is the list of the entries that remain: with them the counts are those of all
abbrev pub invariant-loop-entry : goal.invariant-loop-entry
invariant-loop-entry l = raised_by l.counts l.entry-iterator ≡ raised_by l.fn.counts (entries_of l.entries)
