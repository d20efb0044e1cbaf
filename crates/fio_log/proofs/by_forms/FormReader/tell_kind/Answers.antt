use Rattle.std.proofs.Common.{◌≡◌, ◌∙◌, true, false, sym, rules}
use Rattle.fio_log.specs.Heard.{known_of}
use Rattle.fio_log.proofs.HeardLemmas.{left_closed, tells_gone, tells_kept, tells_long}
use Rattle.fio_log.proofs.by_forms.FormReader.tell_kind.Goals as goal

pub returns-then-heard-clause-told : goal.returns-then-heard-clause-told
returns-then-heard-clause-told c = tells_long (known_of c.args.self.now) c.args.line.text.now c.args.heard _ _ (search rules)

pub returns-then-lacks_octets-clause-told : goal.returns-then-lacks_octets-clause-told
returns-then-lacks_octets-clause-told c =
    let gone : c.lacks_octets.result ≡ true = search rules in
    tells_gone (known_of c.args.self.now) c.args.line.text.now c.args.heard _ _ (sym c.lacks_octets.ensures ∙ gone)

pub returns-clause-told : goal.returns-clause-told
returns-clause-told c =
    let short : c.args.heard.is_long ≡ false = search rules in
    let kept : c.lacks_octets.result ≡ false = search rules in
    tells_kept (known_of c.args.self.now) c.args.line.text.now c.args.heard _ _ _ short (sym c.lacks_octets.ensures ∙ kept)
    c.tell_said.ensures.told

pub returns-then-heard-clause-left : goal.returns-then-heard-clause-left
returns-then-heard-clause-left c = left_closed _ c.args.heard _ _ c.break_off.ensures.closed

pub returns-then-lacks_octets-clause-left : goal.returns-then-lacks_octets-clause-left
returns-then-lacks_octets-clause-left c = left_closed _ c.args.heard _ _ c.break_off-then-lacks_octets.ensures.closed
