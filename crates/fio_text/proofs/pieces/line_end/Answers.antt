use Rattle.std.proofs.Common.{arith}
use Rattle.std.proofs.lemmas.List.{drop_all}
use Rattle.fio_text.proofs.pieces.line_end.Goals as goal

pub returns-clause-empty : goal.returns-clause-empty
returns-clause-empty c = drop_all 128 c.args.line.now (omega arith)
