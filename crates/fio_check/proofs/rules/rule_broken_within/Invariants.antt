use Rattle.fio_check.proofs.Names.{◌≡◌, drop, find, rules, breaks_within, first_broken_within}
use Rattle.fio_check.proofs.rules.rule_broken_within.Given as goal

abbrev pub invariant-rules : goal.invariant-rules
invariant-rules l = first_broken_within l.limits l.facts l.observation ≡ find (breaks_within l.limits l.facts l.observation) (drop l.rule-index rules)
