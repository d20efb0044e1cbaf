use Rattle.fio_tool.proofs.Names.{◌<◌, arith}
use Rattle.fio_tool.proofs.LongFrames.{long_spelled, short_spelled}
use Rattle.fio_tool.proofs.transcript.one_pass.octets_of.Goals as goal

pub returns-then-count-gt773 : goal.returns-then-count-gt773
returns-then-count-gt773 c line from_cpu frame =
    let long : 773 < c.args.count = omega (arith, c.if-count-gt773.true) in
    long_spelled line from_cpu c.args.count c.args.room.now frame long

pub returns : goal.returns
returns c line from_cpu frame = short_spelled line from_cpu c.args.count c.args.room.now frame c.if-count-gt773.false
