use Rattle.fio_world.proofs.Names.{sym, ◌∙◌, octets_in}
use Rattle.fio_world.proofs.FrameWords.{fits, spells}
use Rattle.fio_world.proofs.script.command_word.CommandWord.octets_to.Goals as goal

pub returns-clause-within : goal.returns-clause-within
returns-clause-within c =
    fits (octets_in c.args.self.now.word.now) c.args.self.now.is_command c.unwrap.result (sym c.unwrap.ensures ∙ c.read_octets_to.ensures.count)

pub returns-clause-spelled : goal.returns-clause-spelled
returns-clause-spelled c =
    spells (octets_in c.args.self.now.word.now) c.args.self.now.is_command _ ((rw c.unwrap.ensures at c.read_octets_to.ensures.read) (returns-clause-within c))
