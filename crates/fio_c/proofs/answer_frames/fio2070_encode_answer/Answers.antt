use Rattle.std.proofs.Common.{◌∙◌, inl, inr, sym, refl}
use Rattle.std.proofs.lemmas.Bool.{cases_Bool}
use Rattle.fio_c.specs.Flat.{are_entries}
use Rattle.fio_c.specs.Given.{fixed_answer}
use Rattle.fio_c.proofs.AnswersGiven.{answer_counts, answer_kept, block_given, other_given, no_fixed}
use Rattle.fio_c.proofs.CommandsGiven.{above}
use Rattle.fio_c.proofs.answer_frames.fio2070_encode_answer.Goals as goal

pub returns-then-not-is_whole-clause-written : goal.returns-then-not-is_whole-clause-written
returns-then-not-is_whole-clause-written c message given =
    let flat = c.args.answer.now in
    let list = c.args.entries.now in
    let octets = c.args.body.now in
    let counts = answer_counts flat list octets message given in
    let whole = c.is_whole.ensures.other counts.0 counts.1 (answer_kept flat list octets message given) in
    absurd (cc (sym c.if-not-is_whole.true ∙ whole))

pub returns-then-answer-clause-refused : goal.returns-then-answer-clause-refused
returns-then-answer-clause-refused c none =
    let whole = c.is_whole.ensures.whole c.if-not-is_whole.false in
    elim (cases_Bool (are_entries c.args.entries.now)) [
      | inl named ↦ absurd (none _ (block_given c.args.answer.now c.args.entries.now c.args.body.now c.if-answer.true whole.2 whole.0 whole.1 named))
      | inr absent ↦ c.write_block.ensures.refused absent
    ]

pub returns-in-Some-clause-refused : goal.returns-in-Some-clause-refused
returns-in-Some-clause-refused c none =
    let whole = c.is_whole.ensures.whole c.if-not-is_whole.false in
    c.write_with_body.ensures.long (above _ _
    (λ short. none _ (other_given c.args.answer.now c.args.entries.now c.args.body.now c.in-Some.kind (sym c.of_type.ensures ∙ c.in-Some.is) whole.2 whole.0 whole.1 short)))

pub returns-in-None-clause-refused : goal.returns-in-None-clause-refused
returns-in-None-clause-refused c none =
    let whole = c.is_whole.ensures.whole c.if-not-is_whole.false in
    c.write_fixed.ensures.refused
    (no_fixed c.args.answer.now c.args.entries.now c.args.body.now (fixed_answer c.args.answer.now) refl whole.2 whole.0 whole.1 none)
