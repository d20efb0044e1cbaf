use Rattle.fio_message.proofs.Names.{le_bytes_8}
use Rattle.fio_message.proofs.inputs.inputs_from_octets.Goals as goal

pub returns-clause-undone : goal.returns-clause-undone
returns-clause-undone c =
    le_bytes_8 c.args.octets.now c.from_le_bytes.result c.told-octets c.fits-octets c.from_le_bytes.ensures
