use Rattle.fio_world.proofs.Names.{sym, octets_in}
use Rattle.fio_world.proofs.FrameWords.{too_long}
use Rattle.fio_world.proofs.script.command_word.CommandWord.read.Goals as goal

pub returns-then-count-gt773 : goal.returns-then-count-gt773
returns-then-count-gt773 c = sym (too_long c.args.number (octets_in c.args.word.now) c.in-Some.count (sym c.in-Some.ensures.count) c.if-count-gt773.true)
