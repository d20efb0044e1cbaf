use Rattle.std.proofs.Common.{◌≡◌, ◌∙◌, None, ap, rules}
use Rattle.fio_log.proofs.FollowingLemmas.{ended_follows, heard_next}
use Rattle.fio_log.proofs.KnowingLemmas.{same_window}
use Rattle.fio_log.proofs.teller.Teller.hear_once.Goals as goal

pub returns-clause-follows : goal.returns-clause-follows
returns-clause-follows c = λ texts above frames line window follows.
    c.hear_first.ensures.follows texts above frames line
    (same_window texts c.args.self.now c.end_window.new.self c.end_window.ensures.known window)
    (ended_follows texts above c.args.self.now c.end_window.new.self c.args.maker.now frames c.args.at.read c.args.at.told
    c.end_window.new.self.first c.end_window.ensures.kept c.end_window.ensures.first follows)

pub returns-clause-next : goal.returns-clause-next
returns-clause-next c = λ texts above frames follows.
    let ended = ended_follows texts above c.args.self.now c.end_window.new.self c.args.maker.now frames c.args.at.read c.args.at.told
    c.end_window.new.self.first c.end_window.ensures.kept c.end_window.ensures.first follows in
    let quiet : c.args.self.now.waiting ≡ None = search rules in
    heard_next texts above c.end_window.new.self c.hear_first.new.self c.args.maker.now frames c.args.at.read c.args.at.told
    (ap (λ t. t.is_known) c.end_window.ensures.kept ∙ c.requires) (c.end_window.ensures.waiting ∙ quiet) c.hear_first.ensures.heard ended
