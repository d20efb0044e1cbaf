use Rattle.fio_message.proofs.Names.{◌≡◌, ◌-◌, length, min, arith}
use Rattle.fio_message.proofs.Fronts.{take-two_parts}
use Rattle.fio_message.proofs.kept_block.front.Goals as goal

pub returns-clause-value : goal.returns-clause-value
returns-clause-value c =
    let from_first : c.min-from_first.result ≡ min (length c.args.first.now) c.args.most = omega arith in
    let from_second : c.min-from_second.result ≡ min (length c.args.second.now) (c.args.most - c.min-from_first.result) = omega arith in
    rw (from_second, from_first) (take-two_parts c.args.most c.args.first.now c.args.second.now)
