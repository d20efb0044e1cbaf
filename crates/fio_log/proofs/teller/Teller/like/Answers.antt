use Rattle.std.proofs.Common.{refl}
use Rattle.fio_log.proofs.FollowingLemmas.{unread_follows}
use Rattle.fio_log.proofs.teller.Teller.like.Goals as goal

pub returns-clause-follows : goal.returns-clause-follows
returns-clause-follows c = λ texts above making frames follows.
    unread_follows texts above c.args.self.now _ making frames refl refl c.give.ensures.reading c.give.ensures.rows follows
