use Rattle.std.proofs.Common.{◌+◌, ◌*◌, arith, rules}
use Rattle.fio_link.proofs.PaceNumbers.{most_are_too_many, none_at_all, none_below_more, none_below_one}
use Rattle.fio_link.proofs.planning.plan.Goals as goal

pub returns-then-not-is_enough-clause-none : goal.returns-then-not-is_enough-clause-none
returns-then-not-is_enough-clause-none c =
    λ none n p. none_at_all c.args.line c.args.traffic c.pace.pace c.pace.invariant (c.is_enough.ensures.no (search rules)) n p

pub pace-init : goal.pace-init
pace-init c = none_below_one c.args.line c.args.traffic

pub pace-preserved : goal.pace-preserved
pace-preserved c =
    none_below_more c.args.line c.args.traffic c.pace.pace c.pace.invariant (c.is_pace.ensures.no (search rules))

pub returns-clause-none : goal.returns-clause-none
returns-clause-none c =
    λ none n p. none_at_all c.args.line c.args.traffic (255 * 255 + 1) (λ m less q. c.pace.invariant m (omega arith) q)
    (most_are_too_many c.args.line c.args.traffic c.requires.some_open (omega arith) (omega arith)) n p
