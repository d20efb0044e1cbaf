use Rattle.fio_check.proofs.Names.{◌∙◌, ap, ContentFacts, command_of, items_sent, with_items}
use Rattle.fio_check.specs.ContentFacts.{with_since_poll}
use Rattle.fio_check.proofs.content_above.ContentAbove.step_command.Goals as goal

pub add_items_of-requires : goal.add_items_of-requires
add_items_of-requires c input = ap {A = ContentFacts} (λ facts. (facts.inputs input).named) c.begin_command.ensures

pub returns : goal.returns
returns c = c.add_since_poll.ensures
    ∙ ap with_since_poll (c.add_items_of.ensures ∙ ap (λ facts. with_items facts (items_sent (command_of c.args.command.now))) c.begin_command.ensures)
