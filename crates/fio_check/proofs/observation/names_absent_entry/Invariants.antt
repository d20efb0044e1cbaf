use Rattle.fio_check.proofs.Names.{◌≡◌, list_any, entries_of, is_absent}
use Rattle.fio_check.proofs.observation.names_absent_entry.Given as goal

abbrev pub invariant-loop-entry : goal.invariant-loop-entry
invariant-loop-entry l = list_any (λ entry. is_absent entry.input) l.entry-iterator ≡ list_any (λ entry. is_absent entry.input) (entries_of l.fn.entries)
