use Rattle.std.proofs.Common.{◌≡◌, ◌-◌, ◌∙◌, ℕ, [], ap, arith, drop, sym}
use Rattle.std.specs.Prelude.{take}
use Rattle.std.proofs.lemmas.List.{drop_all, length-drop, take_all, take_rest}
use Rattle.fio_form.proofs.front.pieces_of.Goals as goal

pub returns-then-to-from : goal.returns-then-to-from
returns-then-to-from c =
    let none : c.args.to - c.args.from ≡ 0 = omega (arith, c.if-to-from.true) in
    sym (ap (λ (count : ℕ). take count (drop c.args.from c.args.front.now)) none)

pub returns-then-front-from : goal.returns-then-front-from
returns-then-front-from c =
    let none = drop_all c.args.from c.args.front.now c.if-front-from.true in
    sym (ap (take (c.args.to - c.args.from)) none ∙ take_all (c.args.to - c.args.from) [] (omega arith))

pub returns : goal.returns
returns c =
    take_rest c.args.front.now c.args.from
    ∙ sym (take_all (c.args.to - c.args.from) (drop c.args.from c.args.front.now) (omega (arith, length-drop c.args.from c.args.front.now, c.if-to-front.false)))
