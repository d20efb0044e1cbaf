use Rattle.fio_check.proofs.Names.{◌≡◌, ◌∙◌, suc, sym, ap, refl, add-one, arith, None, Some, slice_get_read, facts_with, observation_on, first_broken, Broken}
use Rattle.fio_check.proofs.BreachesSoFar.{stands_with_line, verdict_of_breach}
use Rattle.fio_check.proofs.verdict.check_trace.Goals as goal

pub loop-line-preserved : goal.loop-line-preserved
loop-line-preserved c =
    let place = c.loop-line.line-index in
    let facts = c.loop-line.facts in
    let here = slice_get_read c.args.lines.now _ place c.line-item.result refl c.loop-line-test.true c.line-item.is in
    let holds : None ≡ first_broken facts (observation_on c.line-item.result) =
    sym c.in_default.is ∙ c.rule_broken.ensures ∙ ap (first_broken facts) c.on-observation.ensures in
    rw add-one (stands_with_line c.args.lines.now place facts c.line-item.result _ None here holds
    (λ none. c.add.ensures ∙ ap (facts_with facts) c.on-observation.ensures) c.loop-line.invariant)

pub returns-in-Some : goal.returns-in-Some
returns-in-Some c =
    let place = c.loop-line.line-index in
    let facts = c.loop-line.facts in
    let here = slice_get_read c.args.lines.now _ place c.line-item.result refl c.loop-line-test.true c.line-item.is in
    let broken : Some c.in-Some.rule ≡ first_broken facts (observation_on c.line-item.result) =
    sym c.in-Some.is ∙ c.rule_broken.ensures ∙ ap (first_broken facts) c.on-observation.ensures in
    let stands = stands_with_line c.args.lines.now place facts c.line-item.result facts (Some c.in-Some.rule) here broken
    (λ none. absurd (cc)) c.loop-line.invariant in
    ap (λ l. Broken l.number c.in-Some.rule) c.line.view_is
    ∙ sym (verdict_of_breach c.args.lines.now (suc place) facts _ (omega arith) stands)
