use Rattle.fio_check.proofs.Names.{◌∙◌, ◌+◌, ap, ap₂, sym, map, option_or, Ended, breach_found, entries_of, facts_kept, item_of, says_lost, length-map}
use Rattle.fio_check.proofs.KeptContent.{block_found}
use Rattle.fio_check.proofs.content.take_items.Goals as goal

pub returns-clause-found : goal.returns-clause-found
returns-clause-found c =
    let entries = map (item_of c.args.stamp) (entries_of c.args.entries.now) in
    block_found (facts_kept c.args.above.now) (facts_kept c.begin_block-items.new.above) (says_lost c.args.status) entries c.args.status c.args.stamp
    c.begin_block-items.result c.args.found c.take_entries-found.result c.take_end.result
    c.begin_block-items.ensures.next c.begin_block-items.ensures.items c.take_entries-found.ensures.found
    (c.take_end.ensures.found
    ∙ ap₂ (λ facts items. option_or c.take_entries-found.result (breach_found facts items (Ended c.args.status c.args.stamp)))
    c.take_entries-found.ensures.next
    (ap (λ count. c.begin_block-items.result + count) (c.len.ensures.value ∙ sym (length-map (entries_of c.args.entries.now) (item_of c.args.stamp)))))
