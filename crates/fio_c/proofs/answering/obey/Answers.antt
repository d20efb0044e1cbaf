use Rattle.std.proofs.Common.{subst, ◌∙◌}
use Rattle.fio_flat.specs.Written.{Writes}
use Rattle.fio_c.proofs.answering.obey.Goals as goal

pub returns-in-Status-clause-carried : goal.returns-in-Status-clause-carried
returns-in-Status-clause-carried c settings life after =
    rw c.in-Status.is (c.clear_flags-answer.ensures settings _ life after).0

pub returns-in-Status-clause-answer : goal.returns-in-Status-clause-answer
returns-in-Status-clause-answer c settings life after =
    rw c.in-Status.is
    (subst (λ octets. Writes octets c.args.out.now c.write_front.new.out c.write_front.result)
    (c.as_slice.ensures.value ∙ (c.clear_flags-answer.ensures settings _ life after).1.spelled) c.write_front.ensures)
