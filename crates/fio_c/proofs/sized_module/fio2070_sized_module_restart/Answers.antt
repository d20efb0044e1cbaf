use Rattle.std.proofs.Common.{refl, take}
use Rattle.fio_flat.specs.Module.{events_reached, ring_of}
use Rattle.fio_c.proofs.sized_module.fio2070_sized_module_restart.Goals as goal

pub returns : goal.returns
returns c slots settings history after = record {
  state = rw (c.new-device.ensures.none (take c.args.device.now.waiting slots))
      (c.start_anew.ensures settings (ring_of c.args.device.now slots) (events_reached history) after.state);
  errors = refl;
  limit = after.limit;
}
