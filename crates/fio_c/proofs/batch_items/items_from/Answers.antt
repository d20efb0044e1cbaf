use Rattle.std.proofs.Common.{arith}
use Rattle.fio_c.specs.BatchItems.{frames_by_counts}
use Rattle.fio_c.proofs.BatchItems.{few_items}
use Rattle.fio_c.proofs.LogParts.{count_lines, few_octets, short_items}
use Rattle.fio_c.proofs.batch_items.items_from.Goals as goal

pub returns-clause-few : goal.returns-clause-few
returns-clause-few c = few_items c.args.verdicts.now c.args.lengths.now c.args.octets.now

pub returns-clause-lines : goal.returns-clause-lines
returns-clause-lines c = count_lines c.args.verdicts.now (frames_by_counts c.args.lengths.now c.args.octets.now)

pub returns-clause-octets : goal.returns-clause-octets
returns-clause-octets c = few_octets c.args.verdicts.now c.args.lengths.now c.args.octets.now

pub returns-clause-short : goal.returns-clause-short
returns-clause-short c =
    short_items c.args.verdicts.now c.args.lengths.now c.args.octets.now (λ i. omega (arith, c.type_inv.lengths i))
