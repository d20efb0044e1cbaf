use Rattle.std.proofs.Common.{rules, ◌≡◌, ◌<◌, length, subst}
use Rattle.fio_cpu.specs.declared.poller.Heard.TheVariants.{Other, Stale, Block}
use Rattle.fio_show.specs.HeardWords.{heard_text}
use Rattle.fio_c.proofs.TextLengths.{block-short, other-short, stale-short}
use Rattle.fio_c.proofs.texts.heard_in.Goals as goal

pub returns-in-0-clause-short : goal.returns-in-0-clause-short
returns-in-0-clause-short c heard is =
    let same : Block c.args.heard.entries c.args.heard.status ≡ heard = cc is in
    let lt : c.args.heard.entries < 256 = search rules in
    subst (λ h. length (heard_text h) < 62) same (block-short c.args.heard.entries c.args.heard.status lt)

pub returns-in-2-clause-short : goal.returns-in-2-clause-short
returns-in-2-clause-short c heard is =
    let same : Other c.args.heard.code ≡ heard = cc is in
    let lt : c.args.heard.code < 256 = search rules in
    subst (λ h. length (heard_text h) < 62) same (other-short c.args.heard.code lt)

pub returns-in-3-clause-short : goal.returns-in-3-clause-short
returns-in-3-clause-short c heard is =
    let same : Stale c.args.heard.number ≡ heard = cc is in
    let lt : c.args.heard.number < 256 = search rules in
    subst (λ h. length (heard_text h) < 62) same (stale-short c.args.heard.number lt)
