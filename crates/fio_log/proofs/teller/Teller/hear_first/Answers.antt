use Rattle.std.proofs.Common.{◌≡◌, ◌∙◌, None, length, ap, refl, rules, sym}
use Rattle.fio_log.specs.Heard.{Above}
use Rattle.fio_log.specs.declared.rows.MessageRows.{MessageRows}
use Rattle.fio_log.proofs.FollowingLemmas.{heard_follows}
use Rattle.fio_log.proofs.LineVerdictLemmas.{hears_line}
use Rattle.fio_log.proofs.KnowingLemmas.{same_window}
use Rattle.fio_log.proofs.teller.Teller.hear_first.Goals as goal

pub returns-in-Some-clause-follows : goal.returns-in-Some-clause-follows
returns-in-Some-clause-follows c = λ texts above frames line window follows.
    let unheard : c.args.self.now.heard ≡ None = search rules in
    let later = same_window texts c.args.self.now c.adopt.new.self c.adopt.ensures.known window in
    let there = rw c.in-Some.is at (c.line_at.ensures.text texts line later) in
    let first = ap (λ t. t.first) c.adopt.ensures.kept in
    let lines = ap (λ t. t.lines) c.adopt.ensures.kept in
    let none = follows.none unheard c.requires.waiting in
    let rows = ap (λ r. length r.rows.places.items) c.hear.ensures.kept ∙ ap (λ (r : MessageRows). length r.places.items) c.adopt.ensures.rows in
    let has = rw (first, lines) at (rw c.in-Some.is at c.line_at.ensures.had) in
    heard_follows texts above c.args.self.now _ c.args.maker.now frames frames c.args.at.read c.args.at.told c.hear.result c.requires.known
    (ap (λ t. t.is_known) c.adopt.ensures.kept) first lines refl (c.adopt.ensures.waiting ∙ c.requires.waiting) has
    (hears_line c.args.self.now.by_forms c.adopt.new.self.by_forms c.hear.new.self (texts _) _ _ above.state c.hear.result c.hear.ensures.kept
    c.adopt.ensures.reading (ap (λ (a : Above). a.state) none) there c.hear.ensures.heard)
    (ap (λ (a : Above). a.rows) none ∙ sym rows) follows
