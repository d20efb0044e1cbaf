use Rattle.fio_tool.proofs.Names.{◌≡◌, ◌∙◌, ap, append_assoc, arith, length, rules, list_all, ◌&&◌, is_line_good}
use Rattle.std.proofs.Math.Bool.{and_assoc}
use Rattle.fio_tool.proofs.reports.show.show_text.Goals as goal

pub lines-preserved : goal.lines-preserved
lines-preserved c =
    let left = c.in-Some.ensures.steps in
    let count = ap length left in
    let before = c.lines.invariant.left in
    let reserved : c.if-capacity-eq0.text.items ≡ c.lines.text.items = search rules in
    record {
      text = rw (c.in_ok-said.ensures.text, reserved, append_assoc) (rw left at c.lines.invariant.text);
      good = and_assoc c.lines.good c.in_ok-said.said (list_all is_line_good c.next.new.self)
          ∙ ap (λ said. c.lines.good && (said && list_all is_line_good c.next.new.self)) c.in_ok-said.ensures.good
          ∙ (rw left at c.lines.invariant.good);
      left = omega (arith, count, before);
    }
