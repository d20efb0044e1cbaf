use Rattle.fio_check.proofs.Names.{◌∙◌, sym, ap, asked_below, checker_with, judging, loads_below, loads_left, observation_in, place_lost, polls_below}
use Rattle.fio_check.proofs.LinkJudges.{restart-loses}
use Rattle.fio_check.proofs.link_judge.LinkJudge.judge_content.Goals as goal

pub returns-in-Some-clause-next : goal.returns-in-Some-clause-next
returns-in-Some-clause-next c =
    let from_cpu = c.args.from_cpu in
    let octets = c.args.octets.now in
    let before = judging c.args.self.now in
    let said = observation_in from_cpu octets in
    c.lose_place.ensures
    ∙ ap (λ after. place_lost after (loads_left after) c.any_stamp_in.result) c.take.ensures.next
    ∙ restart-loses before c.args.checker (asked_below before said) c.any_stamp_in.result (polls_below before.polls said) from_cpu octets c.in-Some.breach (c.requires.checker ∙ ap (checker_with before.checker from_cpu) c.requires.said) (sym c.take.ensures.found ∙ c.in-Some.is)
    ∙ ap (place_lost before (loads_below before from_cpu octets)) c.any_stamp_in.ensures
