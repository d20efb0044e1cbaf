use Rattle.std.proofs.Common.{◌∙◌, sym, ap}
use Rattle.fio_form.specs.Reading.{is_empty}
use Rattle.fio_form.proofs.Ends.{empty_drop}
use Rattle.fio_form.proofs.form.Piece.is_rest.Goals as goal

pub returns : goal.returns
returns c = empty_drop c.count_in.result c.args.text.now c.count_in.ensures.within ∙ ap is_empty (sym c.count_in.ensures.past)
