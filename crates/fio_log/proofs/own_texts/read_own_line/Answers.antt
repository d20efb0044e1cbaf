use Rattle.std.proofs.Common.{ap, sym, ◌∙◌, ◌<◌, length, arith, rules}
use Rattle.fio_log.specs.OwnTexts.{spells_from}
use Rattle.fio_log.proofs.OwnTextLemmas.{too_long-spells}
use Rattle.fio_log.proofs.own_texts.read_own_line.Goals as goal
use Rattle.fio_log.proofs.own_texts.read_own_line.Goals.{else-count-le773-via-then-count-le773+else-spells_from, else-count-le773-via-else-count-le773}

pub returns-then-spells_from : goal.returns-then-spells_from
returns-then-spells_from c =
    let read = c.in-Some.ensures.some in
    record {
      said = search rules;
      from_cpu = c.in-Some.from_cpu;
      read = read;
      spelled = ap (spells_from c.in-Some.from_cpu) (read.read c.if-count-le773.true) ∙ sym c.if-spells_from.ensures;
    }

pub returns-else-count-le773 : goal.returns-else-count-le773
returns-else-count-le773 c =
    let read = c.in-Some.ensures.some in
    record {
      said = search rules;
      from_cpu = c.in-Some.from_cpu;
      read = read;
      spelled = elim c.else-count-le773.branch [
        | else-count-le773-via-then-count-le773+else-spells_from w ↦
            ap (spells_from c.in-Some.from_cpu) (read.read w.if-count-le773.true) ∙ sym w.if-spells_from.ensures
        | else-count-le773-via-else-count-le773 w ↦
            let long : 773 < length read.octets = omega (arith, w.if-count-le773.false, read.counted) in
            too_long-spells c.in-Some.from_cpu read.octets long
      ];
    }
