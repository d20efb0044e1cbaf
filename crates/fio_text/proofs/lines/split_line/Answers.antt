use Rattle.std.proofs.Common.{◌≡◌, ◌+◌, ◌-◌, ◌<◌, length, take, drop, arith}
use Rattle.std.proofs.lemmas.Grind.{common_steps}
use Rattle.fio_text.proofs.LineLemmas.{lines_of-at, lines_of-whole}
use Rattle.fio_text.proofs.lines.split_line.Goals as goal

pub returns-then-end-text-clause-first : goal.returns-then-end-text-clause-first
returns-then-end-text-clause-first c =
    let text = c.args.text.now in
    let end = c.line_end-end.result in
    let rest : take (length text - (end + 1)) (drop (end + 1) text) ≡ drop (end + 1) text = grind (arith, common_steps) in
    rw rest (lines_of-at text end c.if-end-text.true c.line_end-end.ensures.before (c.line_end-end.ensures.feed c.if-end-text.true))

pub returns-else-end-text-clause-first : goal.returns-else-end-text-clause-first
returns-else-end-text-clause-first c =
    let some : 0 < length c.args.text.now = grind (arith, common_steps) in
    lines_of-whole c.args.text.now some (λ k less. c.line_end-end.ensures.before k (omega arith))
