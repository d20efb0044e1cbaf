use Rattle.std.proofs.Common.{arith}
use Rattle.std.proofs.lemmas.Bool.Decides.{nat_tests}
use Rattle.fio_log.specs.Telling.{IsTextOf}
use Rattle.fio_log.proofs.reader.Reader.end.Goals as goal

pub invariant_of-self : goal.invariant_of-self
invariant_of-self c =
    let kept = c.self.invariant in
    (kept.0, kept.1, λ ended less. c.if-self-2.true, λ ready running. absurd (cc), kept.4, kept.5, kept.6, λ auto late running. absurd (cc))

pub invariant_of-self-2 : goal.invariant_of-self-2
invariant_of-self-2 c =
    let kept = c.self-2.invariant in (
      kept.0,
      λ ready. grind (arith, nat_tests),
      λ ended less. grind (arith, nat_tests),
      λ ready running. absurd (cc),
      λ own is less. (grind (arith, nat_tests), (kept.4 own is less).1, (kept.4 own is less).2),
      rw c.end_teller.ensures.waiting kept.5,
      c.end_teller.ensures.kept kept.6,
      λ auto late running. absurd (cc),
    )

pub returns-clause-stands : goal.returns-clause-stands
returns-clause-stands c = λ texts above knows stands text.
    let there : IsTextOf texts c.finish_line.new.self = rw (← c.self-2.view_is) text in
    let k = rw (← c.self-2.view_is) at (c.finish_line.ensures.knows texts knows there) in
    let s = rw (← c.self-2.view_is) at (c.finish_line.ensures.stands texts above knows stands there) in
    record {
      follows = λ auto. c.end_teller.ensures.follows auto texts above _ k.text (k.kept auto) (s.follows auto);
      next = λ auto. c.end_teller.ensures.next auto texts above _ k.text (k.kept auto) (s.follows auto) (s.next auto);
      due = λ auto ready running. absurd (cc);
    }
