use Rattle.fio_check.proofs.Names.{◌≡◌, ◌∙◌, sym, ap, arith, earliest_above, differing, facts_kept, seen_kept, without_excuse}
use Rattle.fio_check.proofs.Differing.{first_found, none_found}
use Rattle.fio_check.proofs.content_above.ContentAbove.first_differing.Goals as goal

pub returns-then-differs : goal.returns-then-differs
returns-then-differs c = first_found (without_excuse (facts_kept c.args.self.now)) (seen_kept c.args.self.now) c.inputs.place (omega arith) c.inputs.invariant (sym c.differs.ensures ∙ c.if-differs.true)

pub returns : goal.returns
returns c =
    let ended : c.inputs.place ≡ 64 = omega arith in
    none_found (without_excuse (facts_kept c.args.self.now)) (seen_kept c.args.self.now)
    (ap (earliest_above (differing (without_excuse (facts_kept c.args.self.now)) (seen_kept c.args.self.now))) (sym ended) ∙ c.inputs.invariant)
