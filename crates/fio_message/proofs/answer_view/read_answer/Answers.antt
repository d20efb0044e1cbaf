use Rattle.fio_message.proofs.Names.{Ok, Err, ap, sym, ◌∙◌, arith, err_from_is_err_and, answer_length, answer_at, answer_read}
use Rattle.fio_message.proofs.Numbers.{octets_from_each}
use Rattle.fio_message.proofs.DecodingLaws.{refused-by, whole-by}
use Rattle.fio_message.proofs.Accepting.{accepts}
use Rattle.fio_message.proofs.AnswerLaws.{answer_grammar}
use Rattle.fio_message.proofs.answer_view.read_answer.Goals as goal

pub returns-in_err-code-clause-exact : goal.returns-in_err-code-clause-exact
returns-in_err-code-clause-exact c =
    let p = err_from_is_err_and c.from_residual.result c.from_residual.ensures.1 in
    rw p.1 (refused-by answer_length answer_at _ _ _ c.answer_length.ensures c.in_err-code.ensures ∙ ap Err (sym p.2))

pub returns-in_err-code-clause-accepted : goal.returns-in_err-code-clause-accepted
returns-in_err-code-clause-accepted c =
    let octets = octets_from_each c.args.octets.now (λ i. omega (arith, c.type_inv.octets i)) in
    let p = err_from_is_err_and c.from_residual.result c.from_residual.ensures.1 in
    let refused = refused-by answer_length answer_at _ _ _ c.answer_length.ensures c.in_err-code.ensures in
    accepts answer_grammar c.args.octets.now _ octets (ap answer_read p.1 ∙ ap Err p.2 ∙ sym refused)

pub returns-clause-exact : goal.returns-clause-exact
returns-clause-exact c =
    whole-by answer_length answer_at _ _ _ _ c.answer_length.ensures c.in_ok-code.ensures ∙ ap Ok (sym c.view_of.ensures)

pub returns-clause-accepted : goal.returns-clause-accepted
returns-clause-accepted c =
    let octets = octets_from_each c.args.octets.now (λ i. omega (arith, c.type_inv.octets i)) in
    accepts answer_grammar c.args.octets.now _ octets (sym (returns-clause-exact c))
