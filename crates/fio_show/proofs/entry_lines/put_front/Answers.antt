use Rattle.std.proofs.Common.{◌++◌, codes, decimal, drop, ap, ap₂, ◌∙◌, arith, length-drop}
use Rattle.fio_show.proofs.EndingLemmas.{front, front-before, front-short}
use Rattle.fio_text.proofs.RoomLemmas.{kept, start-of}
use Rattle.fio_show.proofs.entry_lines.put_front.Goals as goal

pub returns-clause-put : goal.returns-clause-put
returns-clause-put g c =
    c.put_pieces.ensures.put
    ∙ ap (λ more. c.args.margin.now ++ more)
    (c.put_pieces-put.ensures.put
    ∙ ap (λ more. codes "input " ++ more)
    (c.put_pieces-put_number.ensures.put
    ∙ ap₂ (λ input more. decimal input ++ (codes " state " ++ more)) (c.put_pieces-from-2.ensures ∙ c.get.ensures.same)
    (c.put_pieces-put_decimal.ensures.put ∙ ap (λ level. decimal level ++ drop 64 c.args.line.now) c.put_pieces-from.ensures)))

pub returns-clause-start : goal.returns-clause-start
returns-clause-start g c =
    let margin = c.args.margin.now in
    let entry = c.args.entry in
    let rest = drop 64 c.args.line.now in
    let is = returns-clause-put g c ∙ front-before margin entry.input entry.level rest in
    let short = front-short margin entry.input entry.level (omega arith) (omega (arith, c.get.ensures.same, c.get.ensures.below)) in
    omega (arith, short, start-of c.put_pieces.new.line (front margin entry.input entry.level) rest c.put_pieces.result is (omega arith), length-drop 64 c.args.line.now)

pub returns-clause-kept : goal.returns-clause-kept
returns-clause-kept g c =
    let entry = c.args.entry in
    let before = front c.args.margin.now entry.input entry.level in
    let rest = drop 64 c.args.line.now in
    let is = returns-clause-put g c ∙ front-before c.args.margin.now entry.input entry.level rest in
    let starts = start-of c.put_pieces.new.line before rest c.put_pieces.result is (omega arith) in
    kept c.args.line.now c.put_pieces.new.line before c.put_pieces.result 64 64 is (omega (arith, starts, length-drop 64 c.args.line.now)) (omega arith)
