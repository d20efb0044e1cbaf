use Rattle.fio_tool.proofs.TranscriptLemmas.{text_of_its_lines}
use Rattle.fio_tool.proofs.laws.check_texts_are_of_the_lines_read.Goals as goal

pub returns : goal.returns
returns c = text_of_its_lines
