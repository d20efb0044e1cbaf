use Rattle.fio_check.proofs.Names.{◌∙◌, sym, facts_kept, command_of}
use Rattle.fio_check.proofs.Unexcused.{sent_step}
use Rattle.fio_check.proofs.content_above.ContentAbove.add_command.Goals as goal

pub returns : goal.returns
returns c = c.step_command.ensures ∙ sym (sent_step (facts_kept c.args.self.now) (command_of c.args.command.now))
