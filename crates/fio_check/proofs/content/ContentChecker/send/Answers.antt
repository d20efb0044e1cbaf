use Rattle.fio_check.proofs.Names.{◌∙◌, ap, true, Sent, content_with, ContentChecking, command_of, facts_kept}
use Rattle.fio_check.specs.ContentEvents.{number_with_command}
use Rattle.fio_check.specs.ContentKept.{content_kept}
use Rattle.fio_check.proofs.content.ContentChecker.send.Goals as goal

pub returns : goal.returns
returns c =
    let command = command_of c.args.command.now in
    let number = number_with_command (content_kept c.args.self.now).number command in
    ap {A = ContentChecking} (λ checking. record checking { kept = record { number = checking.kept.number; facts = facts_kept c.add_command.new.self } }) c.begin_with.ensures
    ∙ ap (λ facts. record { begun = true; kept = record { number = number; facts = facts } })
    (c.add_command.ensures ∙ ap {A = ContentChecking} (λ checking. content_with checking.kept.facts (Sent command)) c.begin_with.ensures)
