use Rattle.fio_check.proofs.Names.{◌∙◌, ap, ap₂, Judging, asked_below, checking_with, content_here, judging, polls_below}
use Rattle.fio_check.proofs.link_judge.LinkJudge.take.Goals as goal

pub returns-clause-next : goal.returns-clause-next
returns-clause-next c =
    let from_cpu = c.args.from_cpu in
    let octets = c.args.octets.now in
    let before = judging c.args.self.now in
    let below = checking_with (content_here before) from_cpu octets in
    let begun = c.begin_content.ensures in
    ap {B = Judging} (λ content. record (judging c.begin_content.new.self) { checker = c.args.checker; content = content }) c.take_content.ensures.next
    ∙ ap {B = Judging} (λ (j : Judging). record j { checker = c.args.checker; content = checking_with j.content from_cpu octets }) begun
    ∙ ap₂ {C = Judging} (λ asked polls. record before { checker = c.args.checker; content = below; asked = asked; polls = polls })
    (c.asked_below-self.ensures ∙ ap (asked_below before) c.requires)
    (c.polls_below-self.ensures ∙ ap (polls_below before.polls) c.requires)
