use Rattle.fio_check.proofs.Names.{◌≡◌, drop, find, breaks_entry, entry_rules, facts_kept}
use Rattle.fio_check.proofs.content_above.ContentAbove.broken_entry_rule.Given as goal

abbrev pub invariant-rules : goal.invariant-rules
invariant-rules l = find (breaks_entry (facts_kept l.self) l.input (record { level = l.level; wide = l.wide })) entry_rules
    ≡ find (breaks_entry (facts_kept l.self) l.input (record { level = l.level; wide = l.wide })) (drop l.rule-index entry_rules)
