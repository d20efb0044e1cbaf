use Rattle.std.proofs.Common.{◌+◌, ◌∙◌}
use Rattle.fio_log.proofs.KnowingLemmas.{says_of}
use Rattle.fio_log.proofs.LineVerdictLemmas.{line_told, whole_left}
use Rattle.fio_log.proofs.teller.Teller.tell_heard.Goals as goal

pub returns-clause-said : goal.returns-clause-said
returns-clause-said c = λ texts less line window.
    let here = rw c.in-Some.is at (c.line_at.ensures.text texts line window) in
    says_of (texts (c.args.at.told + 1)) c.in-Some.line.text.now c.in-Some.line.is_long c.tell-verdict.result here
    c.tell-verdict.ensures.words c.tell-verdict.ensures.blank

pub returns-clause-told : goal.returns-clause-told
returns-clause-told c = λ texts above line window has heard rows.
    let there = rw c.in-Some.is at (c.line_at.ensures.text texts line window) in
    rw (c.look_on.ensures.follows.reading, c.look_on.ensures.follows.rows) (line_told c.args.self.now.by_forms (texts (c.args.at.told + 1)) c.in-Some.line.text.now c.in-Some.line.is_long
    above _ c.args.heard c.tell-verdict.result.kind c.tell-verdict.result.reason _ there heard rows c.tell-verdict.ensures.told c.tell-verdict.ensures.left)

pub returns-clause-whole : goal.returns-clause-whole
returns-clause-whole c = λ whole. whole_left _ _ _ _ _ c.tell-verdict.ensures.left (rw c.look_on.ensures.follows.reading at whole)

pub returns-clause-open_message : goal.returns-clause-open_message
returns-clause-open_message c = λ has whole.
    c.look_on.ensures.follows.is_open ∙ c.is_open-self.ensures
    ∙ whole_left _ _ _ _ _ c.tell-verdict.ensures.left (rw c.look_on.ensures.follows.reading at whole)
