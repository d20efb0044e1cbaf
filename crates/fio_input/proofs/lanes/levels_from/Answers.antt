use Rattle.fio_input.proofs.Names.{◌/◌, ◌^◌, ◌∙◌, is_set-low, is_set-shr}
use Rattle.fio_input.proofs.lanes.levels_from.Goals as goal

pub returns-clause-bits : goal.returns-clause-bits
returns-clause-bits c lane h = is_set-low (c.args.levels / 2 ^ c.args.first) 16 lane h ∙ is_set-shr c.args.levels c.args.first lane
