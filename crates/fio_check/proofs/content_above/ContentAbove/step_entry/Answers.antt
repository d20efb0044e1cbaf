use Rattle.fio_check.proofs.Names.{◌∙◌, ◌==◌, None, Some, ap, if◌then◌else◌, nat_lt, ContentFacts, INPUTS, input_with_entry, ◌&&◌}
use Rattle.fio_check.proofs.content_above.ContentAbove.step_entry.Goals as goal

pub returns : goal.returns
returns c stamp =
    let with_entry : ContentFacts → ContentFacts = λ facts. record facts {
      inputs = λ other. if other == c.args.input && nat_lt other INPUTS
          then input_with_entry facts c.args.level c.args.wide (facts.inputs other)
          else facts.inputs other;
    } in
    let with_floor : ContentFacts → ContentFacts = λ facts. record facts {
      floor = if facts.aged then None else Some (record { time = c.args.wide; input = Some c.args.input });
    } in
    c.add_to_input.ensures
    ∙ ap with_entry c.set_floor.ensures
    ∙ ap (λ facts. with_entry (with_floor facts)) (c.come_to.ensures c.args.input stamp c.args.level)
