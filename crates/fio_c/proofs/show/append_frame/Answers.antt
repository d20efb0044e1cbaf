use Rattle.std.proofs.Common.{◌++◌, ◌∷◌, [], ◌-◌, drop, subst, ap, sym, ◌∙◌, arith, length-drop}
use Rattle.std.proofs.lemmas.List.{take_all}
use Rattle.std.proofs.lemmas.Result.{on_ok_weaker}
use Rattle.fio_show.specs.FrameLines.{lines_or_fault}
use Rattle.fio_flat.specs.Written.{Appends}
use Rattle.fio_c.proofs.Appending.{both, ends}
use Rattle.fio_c.proofs.show.append_frame.Goals as goal

pub returns-in_ok-append-in-Ok-clause-text : goal.returns-in_ok-append-in-Ok-clause-text
returns-in_ok-append-in-Ok-clause-text c =
    let before = c.args.buffer.now in
    let middle = c.append.new.self in
    let after = c.append_further.new.sink in
    let start = c.in-Ok.start in
    let line = c.put_frame.new.line in
    let first = take_all (128 - start) (drop start line) (omega (arith, c.in-Ok.ensures.start, c.put_frame.array_long, length-drop start line)) in
    on_ok_weaker c.append_further.result (λ further.
    subst (λ text. Appends text before.text.now after.text.now before.end after.end)
    (sym (ap lines_or_fault c.in-Ok.ensures.text))
    (both _ _ _ _ _ _ _ _
    (subst (λ text. Appends text before.text.now middle.text.now before.end middle.end) first (ends _ _ _ _ _ c.in_ok-append-in-Ok.ensures.1))
    (ends _ _ _ _ _ further.1))) c.append_further.ensures

pub returns-in_ok-append-in-Err-clause-text : goal.returns-in_ok-append-in-Err-clause-text
returns-in_ok-append-in-Err-clause-text c =
    let before = c.args.buffer.now in
    let after = c.append-in-Err-2.new.self in
    on_ok_weaker c.append-in-Err-2.result (λ ended.
    subst (λ text. Appends text before.text.now after.text.now before.end after.end)
    (ap (λ words. words ++ 10 ∷ []) (c.as_bytes.ensures.value ∙ c.as_str.ensures.value ∙ c.words.ensures) ∙ sym (ap lines_or_fault c.in-Err.ensures.text))
    (both _ _ _ _ _ _ _ _ (ends _ _ _ _ _ c.in_ok-append-in-Err.ensures.1) (ends _ _ _ _ _ ended.1))) c.append-in-Err-2.ensures
