use Rattle.std.proofs.Common.{◌≡◌, true, refl, rules}
use Rattle.fio_log.proofs.FollowingLemmas.{anew_follows}
use Rattle.fio_log.proofs.teller.Teller.begin_anew.Goals as goal

pub returns-then-is_anew-clause-follows : goal.returns-then-is_anew-clause-follows
returns-then-is_anew-clause-follows c = λ texts above frames follows.
    let anew : c.is_anew.result ≡ true = search rules in
    anew_follows texts above c.args.self.now _ c.args.maker.now frames c.args.at.read c.args.at.told (c.is_anew.ensures.heard anew)
    (c.is_anew.ensures.waiting anew) refl refl refl refl follows
