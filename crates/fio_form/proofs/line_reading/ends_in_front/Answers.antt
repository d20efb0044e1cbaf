use Rattle.std.proofs.Common.{◌<◌, ◌∙◌, ℕ, List, drop, length, sym, ap, arith, length-drop}
use Rattle.std.proofs.lemmas.List.{drop_all}
use Rattle.fio_form.specs.Reading.{ends_in_front}
use Rattle.fio_form.proofs.Ends.{ends_at}
use Rattle.fio_form.proofs.line_reading.ends_in_front.Goals as goal

pub returns-then-place-line : goal.returns-then-place-line
returns-then-place-line c =
    let left = drop c.pieces.at c.args.form.now.front.items in
    let some : 0 < length left = omega (arith, length-drop c.pieces.at c.args.form.now.front.items, c.pieces-test.true) in
    let none = drop_all c.pieces.place c.args.line.now c.if-place-line.true in
    sym (ends_at c.args.form.now c.args.line.now left some)
    ∙ (ap (λ (text : List ℕ). ends_in_front c.args.form.now c.args.line.now left text) (sym none) ∙ c.pieces.invariant.same)
