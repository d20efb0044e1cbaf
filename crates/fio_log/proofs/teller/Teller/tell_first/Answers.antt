use Rattle.fio_log.proofs.FollowingLemmas.{in_some}
use Rattle.std.proofs.Common.{rules}
use Rattle.fio_log.proofs.teller.Teller.tell_first.Goals as goal

pub returns-in-None-Some-clause-said : goal.returns-in-None-Some-clause-said
returns-in-None-Some-clause-said c = λ texts less line knows. c.tell_heard.ensures.said texts less line knows.window

pub returns-in-None-Some-clause-told : goal.returns-in-None-Some-clause-told
returns-in-None-Some-clause-told c = λ texts above line window known less has follows.
    let heard = in_some _ c.args.self.now.heard _ (search rules) follows.heard in
    c.tell_heard.ensures.told texts above line window heard.0 heard.1 heard.2

pub returns-in-None-None-clause-told : goal.returns-in-None-None-clause-told
returns-in-None-None-clause-told c = λ texts above line window known less has follows. absurd (has known less (search rules) (search rules))

pub returns-in-None-Some-clause-open_message : goal.returns-in-None-Some-clause-open_message
returns-in-None-Some-clause-open_message c = λ texts above known less has follows whole.
    let heard = in_some _ c.args.self.now.heard c.in-None-Some.heard (search rules) follows.heard in
    c.tell_heard.ensures.open_message heard.0 whole

pub returns-in-None-None-clause-open_message : goal.returns-in-None-None-clause-open_message
returns-in-None-None-clause-open_message c = λ texts above known less has follows whole. absurd (has known less (search rules) (search rules))
