use Rattle.fio_check.proofs.Names.{◌∙◌, ap, ap₂, sym, arith, is_set, FilterPair, input_kept}
use Rattle.fio_check.proofs.KeptInputs.{item_added}
use Rattle.fio_check.proofs.content_inputs.ContentInputs.add_item.Goals as goal

pub returns-then-not-has_input : goal.returns-then-not-has_input
returns-then-not-has_input c input =
    let filters : FilterPair = record { leading = c.max-leading.result; trailing = c.max-trailing.result } in
    item_added (input_kept c.args.self.now input) (input_kept c.add_filters.new.self input) (input_kept c.set_item.new.self input) (input_kept c.hide_or_open.new.self input)
    c.args.item filters c.from-place.result input (c.from-place.ensures ∙ c.get.ensures.same) (omega arith)
    (ap₂ (λ l t. record { leading = l; trailing = t }) c.max-leading.ensures c.max-trailing.ensures)
    (λ at. ap (is_set c.args.self.now.named) at ∙ sym c.has_input.ensures.set ∙ c.if-not-has_input.true)
    (c.add_filters.ensures.kept input) (c.set_item.ensures input) (c.hide_or_open.ensures input)
