use Rattle.std.proofs.Common.{◌≡◌, true, rules}
use Rattle.fio_log.proofs.KnowingLemmas.{known_lines, same_lines}
use Rattle.fio_log.proofs.teller.Teller.read_line.Goals as goal

pub returns-clause-knows : goal.returns-clause-knows
returns-clause-knows c = λ texts above next whole line knows.
    same_lines texts c.learn.new.self c.hear_next-2.new.self c.args.at.read c.args.at.told c.hear_next-2.ensures.known
    c.hear_next-2.ensures.waiting (c.learn.ensures.knows texts above next whole line (c.begin_anew.ensures.knows texts above next knows))

pub returns-clause-follows : goal.returns-clause-follows
returns-clause-follows c = λ texts above frames last next whole line knows follows.
    let begun = c.begin_anew.ensures.knows texts last next knows in
    c.hear_next-2.ensures.follows texts above frames line (c.learn.ensures.knows texts last next whole line begun).window
    (c.learn.ensures.follows texts above frames last next whole begun (c.begin_anew.ensures.follows texts above frames follows))

pub returns-clause-next : goal.returns-clause-next
returns-clause-next c = λ texts above frames last next whole line knows follows.
    let begun = c.begin_anew.ensures.knows texts last next knows in
    c.hear_next-2.ensures.next texts above frames
    (c.learn.ensures.follows texts above frames last next whole begun (c.begin_anew.ensures.follows texts above frames follows))

pub returns-then-self-clause-follows : goal.returns-then-self-clause-follows
returns-then-self-clause-follows c = λ texts above frames last next whole line knows follows.
    c.hear_next.ensures.follows texts above frames line (c.begin_anew.ensures.knows texts last next knows).window
    (c.begin_anew.ensures.follows texts above frames follows)

pub returns-then-self-clause-next : goal.returns-then-self-clause-next
returns-then-self-clause-next c = λ texts above frames last next whole line knows follows.
    c.hear_next.ensures.next texts above frames (c.begin_anew.ensures.follows texts above frames follows)

pub returns-then-self-clause-knows : goal.returns-then-self-clause-knows
returns-then-self-clause-knows c = λ texts above next whole line knows.
    let known : c.begin_anew.new.self.is_known ≡ true = search rules in
    same_lines texts c.begin_anew.new.self c.hear_next.new.self c.args.at.read c.args.at.told c.hear_next.ensures.known
    c.hear_next.ensures.waiting (known_lines texts c.begin_anew.new.self above c.args.at.read c.args.at.told known (c.begin_anew.ensures.knows texts above next knows))
