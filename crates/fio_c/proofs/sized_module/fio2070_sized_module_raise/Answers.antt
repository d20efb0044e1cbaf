use Rattle.fio_flat.specs.Module.{events_reached, ring_of}
use Rattle.fio_c.proofs.sized_module.fio2070_sized_module_raise.Goals as goal

pub returns : goal.returns
returns c slots settings history after = record {
  state = c.raise.ensures settings (ring_of c.args.device.now slots) (events_reached history) after.state;
  errors = after.errors;
  limit = after.limit;
}
