use Rattle.std.proofs.Common.{◌∙◌, inl, inr, sym, refl}
use Rattle.std.proofs.lemmas.Bool.{cases_Bool}
use Rattle.fio_c.specs.Flat.{are_items}
use Rattle.fio_c.specs.Given.{fixed_command}
use Rattle.fio_c.proofs.CommandsGiven.{above, command_counts, command_kept, configuration_given, other_given, no_fixed}
use Rattle.fio_c.proofs.command_frames.fio2070_encode_command.Goals as goal

pub returns-then-not-is_whole-clause-written : goal.returns-then-not-is_whole-clause-written
returns-then-not-is_whole-clause-written c message given =
    let flat = c.args.command.now in
    let list = c.args.items.now in
    let octets = c.args.body.now in
    let counts = command_counts flat list octets message given in
    let whole = c.is_whole.ensures.other counts.0 counts.1 (command_kept flat list octets message given) in
    absurd (cc (sym c.if-not-is_whole.true ∙ whole))

pub returns-then-command-eq-CONFIGURE_INPUTS-clause-refused : goal.returns-then-command-eq-CONFIGURE_INPUTS-clause-refused
returns-then-command-eq-CONFIGURE_INPUTS-clause-refused c none =
    let whole = c.is_whole.ensures.whole c.if-not-is_whole.false in
    elim (cases_Bool (are_items c.args.items.now)) [
      | inl named ↦ absurd (none _ (configuration_given c.args.command.now c.args.items.now c.args.body.now c.if-command-eq-CONFIGURE_INPUTS.true whole.2 whole.0 whole.1 named))
      | inr absent ↦ c.write_items.ensures.refused absent
    ]

pub returns-in-Some-clause-refused : goal.returns-in-Some-clause-refused
returns-in-Some-clause-refused c none =
    let whole = c.is_whole.ensures.whole c.if-not-is_whole.false in
    c.write_with_body.ensures.long (above _ _
    (λ short. none _ (other_given c.args.command.now c.args.items.now c.args.body.now c.in-Some.kind (sym c.of_type.ensures ∙ c.in-Some.is) whole.2 whole.0 whole.1 short)))

pub returns-in-None-clause-refused : goal.returns-in-None-clause-refused
returns-in-None-clause-refused c none =
    let whole = c.is_whole.ensures.whole c.if-not-is_whole.false in
    c.write_fixed.ensures.refused
    (no_fixed c.args.command.now c.args.items.now c.args.body.now (fixed_command c.args.command.now) refl whole.2 whole.0 whole.1 none)
