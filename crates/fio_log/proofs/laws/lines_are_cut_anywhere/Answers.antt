use Rattle.std.proofs.lemmas.Grind.{fold-append}
use Rattle.fio_log.specs.Lines.{with_octet_of}
use Rattle.fio_log.proofs.laws.lines_are_cut_anywhere.Goals as goal

pub returns : goal.returns
returns c = λ lines octets more. fold-append with_octet_of lines octets more
