use Rattle.std.proofs.Common.{◌≡◌, ◌++◌, take, ap, sym, ◌∙◌, append_assoc, arith}
use Rattle.std.proofs.lemmas.Grind.{common_steps}
use Rattle.std.proofs.lemmas.List.{take_all}
use Rattle.std.specs.List.{flat_map}
use Rattle.fio_show.specs.EntryLines.{item_line}
use Rattle.fio_text.proofs.LineLemmas.{flat_map-next}
use Rattle.fio_show.proofs.record_lines.push_items.Goals as goal

pub loop-item-preserved : goal.loop-item-preserved
loop-item-preserved c =
    let text = c.append_full.new.text.items in
    let kept = take c.in_ok-free.free c.loop-item.room in
    let line = item_line c.item-item.result in
    record {
      within = c.put_line-end.ensures.within;
      so_far = ap (λ more. text ++ more) c.put_line-end.ensures.put
          ∙ sym (append_assoc text kept line)
          ∙ ap (λ some. some ++ line) (c.in_ok-free.ensures.same ∙ c.loop-item.invariant.so_far)
          ∙ flat_map-next item_line _ _ _ _ c.loop-item-test.true c.item-item.is;
    }

pub returns : goal.returns
returns c =
    let all : c.loop-item.text.items ++ take c.loop-item.end c.loop-item.room ≡ c.args.text.now.items ++ flat_map item_line c.args.items.now =
    rw (take_all c.loop-item.item-index c.args.items.now c.loop-item-test.false) at c.loop-item.invariant.so_far in
    grind (arith, common_steps, all)
