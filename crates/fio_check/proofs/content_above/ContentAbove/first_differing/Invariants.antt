use Rattle.fio_check.proofs.Names.{◌≡◌, None, earliest_above, differing, facts_kept, seen_kept, without_excuse}
use Rattle.fio_check.proofs.content_above.ContentAbove.first_differing.Given as goal

abbrev pub invariant-inputs : goal.invariant-inputs
invariant-inputs l = earliest_above (differing (without_excuse (facts_kept l.self)) (seen_kept l.self)) l.place ≡ None
