use Rattle.fio_world.proofs.Names.{sym, refl, subst, err_from_is_err_and, Ends, IsDone}
use Rattle.fio_world.proofs.Shown.{done_heard, fault_heard, fault_to_cpu}
use Rattle.fio_link.specs.declared.event.Event.TheVariants as events
use Rattle.fio_world.specs.declared.outcome.Outcome.TheVariants as outcomes
use Rattle.fio_world.proofs.world.World.deliver_to_cpu.Goals as goal

pub returns-in_err-octets-clause-row : goal.returns-in_err-octets-clause-row
returns-in_err-octets-clause-row c settings first machine s =
    let fault = err_from_is_err_and c.from_residual.result c.from_residual.ensures.1 in
    let shown = rw (← c.self.view_is) at s in
    rw (fault.1, fault.2) (fault_to_cpu settings first machine _ shown c.args.index _ c.in_err-octets.ensures.err)

pub returns-in-Ok-clause-row : goal.returns-in-Ok-clause-row
returns-in-Ok-clause-row c settings first machine s =
    let shown = rw (← c.self.view_is) at s in
    let to_deliver = c.in_ok-octets.ensures in
    let new : Ends = record { module_end = c.self.inside.module; poller_end = c.hear.new.self; to_module = c.self.inside.to_module.frames; to_cpu = c.self.inside.to_cpu.frames; last_to_module = c.self.inside.last_to_module; last_to_cpu = c.args.index } in
    subst (λ h. IsDone settings first machine (events.ToCpu c.args.index) (outcomes.Heard h) new) (sym c.in-Ok.ensures.heard)
    (done_heard settings first machine _ shown c.args.index _ new to_deliver.fine to_deliver.is refl c.in-Ok.ensures.taken refl refl refl refl)

pub returns-in-Err-clause-row : goal.returns-in-Err-clause-row
returns-in-Err-clause-row c settings first machine s =
    let shown = rw (← c.self.view_is) at s in
    let to_deliver = c.in_ok-octets.ensures in
    fault_heard settings first machine _ shown c.args.index _ to_deliver.fine to_deliver.is c.in-Err.ensures.memory
