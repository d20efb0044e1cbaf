use Rattle.fio_tool.proofs.Names.{◌≡◌, ◌++◌, ◌-◌, ◌∙◌, ap, take, drop, length, arith, append_assoc, take-append-drop}
use Rattle.std.proofs.lemmas.Grind.{common_steps}
use Rattle.std.proofs.KnownBytes.{Appends-trans}
use Rattle.fio_tool.proofs.streams.write_text.Goals as goal

pub writes-preserved : goal.writes-preserved
writes-preserved g c =
    let done = c.writes.invariant.0 in
    let rest = c.writes.rest.now in
    let n = c.in-Ok.count in
    let whole : take (length rest - n) (drop n rest) ≡ drop n rest = grind (arith, common_steps) in (
      done ++ take n rest,
      Appends-trans _ _ _ _ _ c.writes.invariant.1 c.in-Ok.ensures.bytes,
      ap (λ after. (done ++ take n rest) ++ after) whole
          ∙ append_assoc done (take n rest) (drop n rest)
          ∙ ap (λ all. done ++ all) (take-append-drop n rest)
          ∙ c.writes.invariant.2,
    )
