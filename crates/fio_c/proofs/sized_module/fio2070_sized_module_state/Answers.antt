use Rattle.std.proofs.Common.{ap, ◌∙◌}
use Rattle.std.specs.Prelude.{unwrap_or}
use Rattle.fio_flat.specs.Module.{events_reached, ring_of}
use Rattle.fio_c.proofs.sized_module.fio2070_sized_module_state.Goals as goal

pub returns-clause-filtered : goal.returns-clause-filtered
returns-clause-filtered c settings slots history after =
    c.filtered.ensures settings (ring_of c.args.device.now slots) (events_reached history) after.state

pub returns-clause-raw : goal.returns-clause-raw
returns-clause-raw c settings slots history after =
    c.raw.ensures settings (ring_of c.args.device.now slots) (events_reached history) after.state

pub returns-clause-outputs : goal.returns-clause-outputs
returns-clause-outputs c settings slots history after =
    c.outputs.ensures settings (ring_of c.args.device.now slots) (events_reached history) after.state

pub returns-clause-counter : goal.returns-clause-counter
returns-clause-counter c settings slots history after =
    c.counter.ensures settings (ring_of c.args.device.now slots) (events_reached history) after.state

pub returns-clause-flags : goal.returns-clause-flags
returns-clause-flags c settings slots history after =
    c.flags.ensures settings (ring_of c.args.device.now slots) (events_reached history) after.state

pub returns-clause-watchdog : goal.returns-clause-watchdog
returns-clause-watchdog c settings slots history after =
    c.unwrap_or.ensures ∙ ap (λ timeout. unwrap_or timeout 0) (c.watchdog_ms.ensures settings (ring_of c.args.device.now slots) (events_reached history) after.state)
