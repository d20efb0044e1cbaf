use Rattle.fio_log.specs.Heard.{known_of}
use Rattle.fio_log.proofs.HeardLemmas.{tells_because, tells_below}
use Rattle.fio_log.proofs.by_forms.FormReader.tell.Goals as goal

pub returns-clause-words : goal.returns-clause-words
returns-clause-words c = rw c.of.ensures.reason (c.with_break.ensures.words c.args.line.text.now c.tell_kind-kind.ensures.words)

pub returns-clause-told : goal.returns-clause-told
returns-clause-told c = rw (c.of.ensures.kind, c.of.ensures.reason)
    (tells_because (known_of c.args.self.now) c.args.line.text.now c.args.heard c.tell_kind-kind.result.0 c.tell_kind-kind.result.1 c.with_break.result
    c.tell_kind-kind.new.told.frames c.with_break.ensures.same
    (tells_below c.args.self.now c.heading_of-said.new.self _ c.args.line.text.now c.args.heard c.tell_kind-kind.result.0 c.tell_kind-kind.result.1
    c.tell_kind-kind.new.told.frames c.heading_of-said.ensures c.tell_kind-kind.ensures.told))
