use Rattle.std.proofs.Common.{refl}
use Rattle.fio_log.proofs.KnowingLemmas.{before_of, settled_lines}
use Rattle.fio_log.proofs.FollowingLemmas.{in_some, same_then, settled_follows}
use Rattle.fio_log.proofs.teller.Teller.settle.Goals as goal

pub returns-in-Some-clause-knows : goal.returns-in-Some-clause-knows
returns-in-Some-clause-knows c = λ texts less line knows.
    settled_lines texts c.args.self.now _ c.tell_heard-verdict.result c.args.at.read c.args.at.told
    (before_of c.args.self.now c.tell_heard-verdict.new.self _ c.tell_heard-verdict.ensures.known refl refl refl refl)
    refl (c.tell_heard-verdict.ensures.said texts less line knows.window) knows

pub returns-in-Some-clause-follows : goal.returns-in-Some-clause-follows
returns-in-Some-clause-follows c = λ texts above line window follows.
    let heard = in_some _ c.args.self.now.heard c.in-Some.heard c.in-Some.is follows.heard in
    settled_follows texts above c.args.self.now _ c.args.maker.now c.args.frames.now.frames _ c.args.at.read c.args.at.told
    c.in-Some.heard c.tell_heard-verdict.result (same_then c.args.self.now c.tell_heard-verdict.new.self _ c.tell_heard-verdict.ensures.same refl refl refl refl) c.in-Some.is refl refl heard.0
    (c.tell_heard-verdict.ensures.told texts above line window heard.0 heard.1 heard.2)
    (c.tell_heard-verdict.ensures.open_message heard.0) follows
