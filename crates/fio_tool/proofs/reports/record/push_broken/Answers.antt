use Rattle.fio_tool.proofs.Names.{◌≡◌, ◌++◌, ◌∙◌, ap, append_assoc, take, fault_of_item}
use Rattle.std.proofs.lemmas.Result.{on_ok_weaker}
use Rattle.fio_tool.specs.Record.{content_fault_line, record_lines}
use Rattle.fio_tool.proofs.reports.record.push_broken.Goals as goal

pub returns : goal.returns
returns c =
    let items = c.args.items.now in
    let entry = fault_of_item items c.args.broken in
    let text = c.args.text.now.items in
    on_ok_weaker c.push_broken_line.result
    (λ (is : c.push_broken_line.new.text.items ≡ c.push_record.new.text.items ++ content_fault_line entry).
    is ∙ ap (λ above. above ++ content_fault_line entry) (c.in_ok-push_record.ensures ∙ ap (λ shown. text ++ record_lines shown) c.first_items.ensures)
    ∙ append_assoc text (record_lines (take c.args.broken.above items)) (content_fault_line entry))
    (c.push_broken_line.ensures items)
