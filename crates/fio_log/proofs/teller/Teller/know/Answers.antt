use Rattle.std.proofs.Common.{◌≡◌, ◌∙◌, false, ap, rules}
use Rattle.fio_log.proofs.KnowingLemmas.{drained}
use Rattle.fio_log.proofs.FollowingLemmas.{drained_follows}
use Rattle.fio_log.proofs.teller.Teller.know.Goals as goal

pub returns-then-not-self-clause-knows : goal.returns-then-not-self-clause-knows
returns-then-not-self-clause-knows c = λ texts read within knows.
    let unknown : c.args.self.now.is_known ≡ false = search rules in
    drained texts c.args.self.now c.drain.new.self c.last_look-forms.new.self.window read c.args.at.told _ unknown
    c.last_look-forms.ensures within (c.drain.ensures.window texts) c.drain.ensures.known c.drain.ensures.waiting knows

pub returns-then-not-self-clause-follows : goal.returns-then-not-self-clause-follows
returns-then-not-self-clause-follows c = λ texts above making frames read within last follows.
    let unknown : c.args.self.now.is_known ≡ false = search rules in
    drained_follows texts above c.args.self.now c.drain.new.self making frames read c.args.at.told _ _ unknown c.drain.ensures.known
    (ap (λ t. t.heard) c.drain.ensures.kept) c.drain.ensures.waiting
    (ap (λ t. t.by_forms.reading) c.drain.ensures.kept ∙ (c.look_ahead.ensures.reading ∙ c.add.ensures.reading)) (ap (λ t. t.by_forms.rows) c.drain.ensures.kept ∙ (c.look_ahead.ensures.rows ∙ c.add.ensures.rows)) within c.drain.ensures.first c.drain.ensures.lines
    (rw (← c.last_look-forms.ensures) at (last unknown)) follows
