use Rattle.std.proofs.Common.{◌≡◌, ◌∙◌, ◌++◌, ◌∷◌, [], true, false, length, length-append, ap, arith, refl, rules, ◌+◌}
use Rattle.fio_log.proofs.KnowingLemmas.{drained_line, known_lines, same_kept, short_line}
use Rattle.fio_log.proofs.FollowingLemmas.{drained_follows, filling_follows, last_of}
use Rattle.fio_log.proofs.teller.Teller.learn.Goals as goal

pub returns-then-not-is_kept-clause-knows : goal.returns-then-not-is_kept-clause-knows
returns-then-not-is_kept-clause-knows c = λ texts above next whole line knows.
    let passed : c.take-is_kept.result ≡ false = search rules in
    known_lines texts c.know.new.self above c.args.at.read c.args.at.told c.know.ensures.known
    (c.know.ensures.knows texts above (omega (arith, next))
    (same_kept texts c.args.self.now _ above c.args.at.told refl (c.take-is_kept.ensures.full passed) refl refl refl knows))

pub returns-in-Some-clause-knows : goal.returns-in-Some-clause-knows
returns-in-Some-clause-knows c = λ texts above next whole line knows.
    let kept : c.take-is_kept.result ≡ true = search rules in
    let window : c.look_first.new.self.window ≡ c.args.self.now.learning.window ++ c.args.maker.now.text.octets ∷ [] = c.look_first.ensures ∙ c.take-is_kept.ensures.lines kept in
    drained_line texts c.args.self.now c.drain.new.self c.look_first.new.self.window above c.args.at.read c.args.at.told _
    c.args.maker.now.text.octets c.requires next window (omega arith)
    (short_line c.args.maker.now.text (texts c.args.at.read) c.args.maker.now.text.octets (c.take-is_kept.ensures.short kept) refl (line whole))
    (c.drain.ensures.window texts) c.drain.ensures.known c.drain.ensures.waiting knows

pub returns-then-not-is_kept-clause-follows : goal.returns-then-not-is_kept-clause-follows
returns-then-not-is_kept-clause-follows c = λ texts above frames last next whole knows follows.
    let passed : c.take-is_kept.result ≡ false = search rules in
    c.know.ensures.follows texts above c.args.maker.now frames c.args.at.read (omega arith)
    (λ unknown. rw (c.take-is_kept.ensures.full passed)
    (last_of texts c.args.self.now c.args.maker.now last c.args.at.read c.args.at.told next whole (knows.filling c.requires)))
    (filling_follows texts above c.args.self.now _ c.args.maker.now frames c.args.at.read c.args.at.told c.requires refl refl refl refl follows)

pub returns-in-Some-clause-follows : goal.returns-in-Some-clause-follows
returns-in-Some-clause-follows c = λ texts above frames last next whole knows follows.
    let kept : c.take-is_kept.result ≡ true = search rules in
    let window : c.look_first.new.self.window ≡ c.args.self.now.learning.window ++ c.args.maker.now.text.octets ∷ [] = c.look_first.ensures ∙ c.take-is_kept.ensures.lines kept in
    let all = (knows.filling c.requires).all in
    let more : length c.look_first.new.self.window ≡ length c.args.self.now.learning.window + 1 = ap length window ∙ length-append c.args.self.now.learning.window (c.args.maker.now.text.octets ∷ []) in
    drained_follows texts above c.args.self.now c.drain.new.self c.args.maker.now frames c.args.at.read c.args.at.told (length c.look_first.new.self.window) _
    c.requires c.drain.ensures.known (ap (λ t. t.heard) c.drain.ensures.kept) c.drain.ensures.waiting
    (ap (λ t. t.by_forms.reading) c.drain.ensures.kept ∙ (c.look_ahead.ensures.reading ∙ c.add.ensures.reading)) (ap (λ t. t.by_forms.rows) c.drain.ensures.kept ∙ (c.look_ahead.ensures.rows ∙ c.add.ensures.rows)) (omega arith) c.drain.ensures.first c.drain.ensures.lines
    (λ number below within. absurd (omega (arith, below, within, all, more, next))) follows
