use Rattle.fio_check.proofs.Names.{◌∙◌, sym, ap, content_here, found_by, found_in_frame, is_unheard, judging, observation_in, outcome_found}
use Rattle.fio_check.proofs.link_judge.LinkJudge.judge.Goals as goal

pub returns-in-None-clause-outcome : goal.returns-in-None-clause-outcome
returns-in-None-clause-outcome c =
    let from_cpu = c.args.from_cpu in
    let octets = c.args.octets.now in
    let before = judging c.args.self.now in
    let unheard = is_unheard before c.args.at (observation_in from_cpu octets) in
    let none = sym c.in-None.is ∙ c.take.ensures.breach ∙ ap (found_by before.checker from_cpu) c.requires in
    c.judge_content.ensures.outcome unheard
    ∙ ap (λ breach. outcome_found unheard breach (found_in_frame (content_here before) from_cpu octets)) none
