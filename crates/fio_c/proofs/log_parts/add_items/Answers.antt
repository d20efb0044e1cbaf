use Rattle.std.proofs.Common.{◌==◌, rules}
use Rattle.fio_c.proofs.LogParts.{all_held}
use Rattle.fio_c.proofs.log_parts.add_items.Goals as goal

pub returns-clause-part : goal.returns-clause-part
returns-clause-part c = λ content is.
    let left = c.items.invariant in
    all_held c.args.mask.now c.args.items content left.above c.items.part (c.items.how == 1) c.items.line c.items.verdict-iterator
    (search rules) is left.held left.verdicts_all left.frames_all left.places
