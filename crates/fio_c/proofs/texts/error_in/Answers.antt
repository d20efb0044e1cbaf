use Rattle.std.proofs.Common.{rules, ◌≡◌, ◌<◌, ◌≤◌, ◌^◌, length, subst}
use Rattle.fio_message.specs.declared.faults.DecodeError.TheVariants.{TooLong, UnknownType, WrongLength}
use Rattle.fio_message.specs.Texts.{fault_text}
use Rattle.fio_c.proofs.TextLengths.{too_long-short, unknown_type-short, wrong_length-short}
use Rattle.fio_c.proofs.texts.error_in.Goals as goal

pub returns-in-2-clause-short : goal.returns-in-2-clause-short
returns-in-2-clause-short c error is =
    let same : TooLong c.args.fault.got ≡ error = cc is in
    let lt : c.args.fault.got < 2 ^ 64 = search rules in
    subst (λ e. length (fault_text e) ≤ 50) same (too_long-short c.args.fault.got lt)

pub returns-in-3-clause-short : goal.returns-in-3-clause-short
returns-in-3-clause-short c error is =
    let same : UnknownType c.args.fault.code ≡ error = cc is in
    let lt : c.args.fault.code < 256 = search rules in
    subst (λ e. length (fault_text e) ≤ 50) same (unknown_type-short c.args.fault.code lt)

pub returns-in-4-clause-short : goal.returns-in-4-clause-short
returns-in-4-clause-short c error is =
    let same : WrongLength c.args.fault.needed c.args.fault.got ≡ error = cc is in
    let small : c.args.fault.needed < 65536 = search rules in
    let lt : c.args.fault.got < 2 ^ 64 = search rules in
    subst (λ e. length (fault_text e) ≤ 50) same (wrong_length-short c.args.fault.needed c.args.fault.got small lt)
