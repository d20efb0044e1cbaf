use Rattle.std.proofs.Common.{◌∷◌, ◌≡◌, length, min, sym, subst, arith, length-append}
use Rattle.fio_module.specs.Life.{Scan}
use Rattle.fio_module.specs.Rings.{ring_in}
use Rattle.fio_module.specs.State.{IsAfterHistory}
use Rattle.fio_flat.specs.Module.{events_reached}
use Rattle.fio_c.proofs.Rings.{front_used, front_written}
use Rattle.fio_c.proofs.sized_module.fio2070_sized_module_scan.Goals as goal

pub returns-clause-scanned : goal.returns-clause-scanned
returns-clause-scanned c settings history after =
    let device = c.args.device.now in
    let ring = c.args.ring.now in
    let back = c.split_at_mut-slots.result.1.now in
    let used : c.min-used.result ≡ min device.waiting (length ring) = omega (arith, c.min-used.ensures, c.from.ensures) in
    let before = front_used device.waiting c.min-used.result ring c.split_at_mut-slots.result.0.now used c.split_at_mut-slots.ensures.front in
    let behind = front_written device.waiting ring c.scan.new.slots back
    (omega (arith, used, c.split_at_mut-slots.ensures.front_len)) (omega (arith, length-append c.scan.new.slots back, c.split_at_mut-slots.ensures.front_len, c.split_at_mut-slots.ensures.back_len)) in
    record {
      state =
          subst (λ slots. IsAfterHistory settings c.scan.new.state (ring_in c.scan.new.place slots) (Scan c.args.raw ∷ events_reached history))
          (sym behind)
          (c.scan.ensures settings (events_reached history)
          (subst (λ slots. IsAfterHistory settings device.state (ring_in device.place slots) (events_reached history)) before after.state));
      errors = after.errors;
      limit = after.limit;
    }
