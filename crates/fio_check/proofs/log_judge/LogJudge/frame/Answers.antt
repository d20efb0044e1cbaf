use Rattle.fio_check.proofs.Names.{◌∙◌, ap, sym, Link, LogJudging, judging_with, log_reached, outcome_in, outcome_reached, place_of}
use Rattle.fio_check.specs.LogJudges.{log_below, log_judging, log_reaching, outcome_here, outcome_late}
use Rattle.fio_check.proofs.log_judge.LogJudge.frame.Goals as goal

pub returns-in-None-clause-outcome : goal.returns-in-None-clause-outcome
returns-in-None-clause-outcome c =
    let from_cpu = c.args.from_cpu in
    let said = c.args.said in
    let octets = c.args.octets.now in
    let log = log_judging c.reach.new.self in
    ap Link c.frame.ensures.outcome
    ∙ ap (λ at. Link (outcome_in log.link at from_cpu octets)) c.place_of-at.ensures
    ∙ sym (ap (λ late. outcome_here log late (place_of log said) from_cpu octets) c.in-None.is)
    ∙ ap (λ log. outcome_reached log from_cpu said octets)
    (c.reach.ensures ∙ ap (log_reaching (log_judging c.args.self.now) from_cpu said) c.of-observation.ensures)

pub returns-in-None-clause-next : goal.returns-in-None-clause-next
returns-in-None-clause-next c =
    let from_cpu = c.args.from_cpu in
    let said = c.args.said in
    let octets = c.args.octets.now in
    let log = log_judging c.reach.new.self in
    ap {B = LogJudging} (λ link. record log { link = link }) c.frame.ensures.next
    ∙ ap {B = LogJudging} (λ at. record log { link = judging_with log.link at from_cpu octets }) c.place_of-at.ensures
    ∙ sym (ap (λ late. log_below log late (place_of log said) from_cpu octets) c.in-None.is)
    ∙ ap (λ log. log_reached log from_cpu said octets)
    (c.reach.ensures ∙ ap (log_reaching (log_judging c.args.self.now) from_cpu said) c.of-observation.ensures)

pub returns-in-Some-clause-outcome : goal.returns-in-Some-clause-outcome
returns-in-Some-clause-outcome c =
    let from_cpu = c.args.from_cpu in
    let said = c.args.said in
    let octets = c.args.octets.now in
    let log = log_judging c.reach.new.self in
    c.judge_late.ensures.outcome
    ∙ ap (λ at. outcome_late log c.in-Some.late at from_cpu octets) c.place_of-at.ensures
    ∙ sym (ap (λ late. outcome_here log late (place_of log said) from_cpu octets) c.in-Some.is)
    ∙ ap (λ log. outcome_reached log from_cpu said octets)
    (c.reach.ensures ∙ ap (log_reaching (log_judging c.args.self.now) from_cpu said) c.of-observation.ensures)
