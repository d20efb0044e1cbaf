use Rattle.std.proofs.Common.{arith}
use Rattle.fio_log.proofs.FollowingLemmas.{all_of}
use Rattle.fio_log.proofs.KnowingLemmas.{same_lines}
use Rattle.fio_log.proofs.teller.Teller.end.Goals as goal

pub returns-clause-knows : goal.returns-clause-knows
returns-clause-knows c = λ texts knows.
    same_lines texts c.know.new.self c.hear_next.new.self c.args.at.read c.args.at.told c.hear_next.ensures.known
    c.hear_next.ensures.waiting (c.know.ensures.knows texts c.args.at.read (omega arith) knows)

pub returns-clause-follows : goal.returns-clause-follows
returns-clause-follows c = λ texts above frames text knows follows.
    let known = c.know.ensures.knows texts c.args.at.read (omega arith) knows in
    c.hear_next.ensures.follows texts above frames text known.window
    (c.know.ensures.follows texts above c.args.maker.now frames c.args.at.read (omega arith)
    (λ unknown. all_of texts c.args.self.now c.args.maker.now c.args.at.read c.args.at.told (knows.filling unknown)) follows)

pub returns-clause-next : goal.returns-clause-next
returns-clause-next c = λ texts above frames text knows follows.
    c.hear_next.ensures.next texts above frames
    (c.know.ensures.follows texts above c.args.maker.now frames c.args.at.read (omega arith)
    (λ unknown. all_of texts c.args.self.now c.args.maker.now c.args.at.read c.args.at.told (knows.filling unknown)) follows)
