use Rattle.std.proofs.Common.{◌∙◌, ap}
use Rattle.fio_check.specs.LinkJudges.{judging_with, outcome_in}
use Rattle.fio_c.specs.Judges.{flat_outcome, judge_in, place_in}
use Rattle.fio_c.proofs.judge.take.Goals as goal

pub returns-clause-next : goal.returns-clause-next
returns-clause-next c =
    let from_cpu = c.args.from_cpu in
    let octets = c.args.octets.now in
    c.flat_of.ensures.kept
    ∙ c.frame-outcome.ensures.next
    ∙ ap (λ judge. judging_with judge c.place_from.result from_cpu octets) c.judge_from-kept.ensures
    ∙ ap (λ at. judging_with (judge_in c.args.judge.now) at from_cpu octets) c.place_from.ensures

pub returns-clause-outcome : goal.returns-clause-outcome
returns-clause-outcome c =
    let from_cpu = c.args.from_cpu in
    let octets = c.args.octets.now in
    c.outcome_from.ensures
    ∙ ap flat_outcome (c.frame-outcome.ensures.outcome
    ∙ ap (λ judge. outcome_in judge c.place_from.result from_cpu octets) c.judge_from-kept.ensures
    ∙ ap (λ at. outcome_in (judge_in c.args.judge.now) at from_cpu octets) c.place_from.ensures)
