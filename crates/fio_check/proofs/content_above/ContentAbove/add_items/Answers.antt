use Rattle.fio_check.proofs.Names.{◌≡◌, ◌∙◌, ◌+◌, ◌<◌, ap, ap₂, sym, arith, drop, length, [], ◌∷◌, items_of, ContentFacts, facts_kept, input_kept, input_with_earlier, item_for, with_items, ◌-◌}
use Rattle.std.proofs.lemmas.List.{drop_more}
use Rattle.fio_check.proofs.KeptSettled.{with_items_more}
use Rattle.fio_check.proofs.content_above.ContentAbove.add_items.Goals as goal

pub items-preserved : goal.items-preserved
items-preserved c =
    let all = items_of c.args.items.now in
    let place = c.items.left - 1 in
    let above = facts_kept c.args.self.now in
    let later = drop c.items.left all in
    let next : place + 1 ≡ c.items.left = omega (arith, c.items-test.true) in
    let within : place < length all = omega (arith, c.items-test.true, c.items.invariant.within) in
    let left : drop place all ≡ c.item.result ∷ later =
    drop_more all place c.item.result within ∙ ap₂ (λ item rest. item ∷ rest) (sym c.item.ensures) (ap (λ n. drop n all) next) in
    record {
      within = omega (arith, within);
      facts = ap {A = ContentFacts} (λ facts. record facts { inputs = λ input. input_kept c.add_item.new.self input }) c.items.invariant.facts
          ∙ with_items_more above c.item.result later (λ input. input_kept c.add_item.new.self input) c.requires
          (λ input. c.add_item.ensures input
          ∙ ap {A = ContentFacts} (λ facts. input_with_earlier (facts.inputs input) (item_for input (c.item.result ∷ []))) c.items.invariant.facts)
          ∙ ap (with_items above) (sym left);
    }
