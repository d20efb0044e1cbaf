use Rattle.std.proofs.Common.{subst}
use Rattle.fio_c.specs.Plans.{IsPlanned, traffic_in}
use Rattle.fio_c.specs.declared.plan.FlatPace.{FlatPace}
use Rattle.fio_c.proofs.plan.fio2070_plan.Goals as goal

pub returns-in-Some-clause-planned : goal.returns-in-Some-clause-planned
returns-in-Some-clause-planned c = λ is.
    let found = c.in-Some.found in
    let pace : FlatPace = record { scans = found.scans; round = found.round; late = found.late; load = found.load } in
    subst (λ l. IsPlanned l (traffic_in c.args.line.now) pace) c.line_of.ensures
    (subst (λ t. IsPlanned c.line_of.result t pace) c.traffic_in.ensures
    (record {
      is_pace = c.plan.ensures.is_pace found c.in-Some.is;
      least = c.plan.ensures.least found c.in-Some.is;
      round = c.plan.ensures.round found c.in-Some.is;
      late = c.plan.ensures.late found c.in-Some.is;
      load = c.plan.ensures.load found c.in-Some.is;
    }))
