use Rattle.std.proofs.Common.{◌++◌, [], ◌∙◌, sym, ap, append-nil}
use Rattle.fio_text.specs.Lines.{lines_of, text_of}
use Rattle.fio_text.proofs.LineLemmas.{lines_of-text_of, lines_of-last}
use Rattle.fio_text.proofs.laws.lines_are_read_back.Goals as goal

pub returns-clause-ended : goal.returns-clause-ended
returns-clause-ended c = λ lines ones.
    sym (ap lines_of (append-nil (text_of lines))) ∙ lines_of-text_of lines [] ones ∙ append-nil lines

pub returns-clause-unended : goal.returns-clause-unended
returns-clause-unended c = λ lines last ones one some.
    lines_of-text_of lines last ones ∙ ap (λ rest. lines ++ rest) (lines_of-last last one some)
