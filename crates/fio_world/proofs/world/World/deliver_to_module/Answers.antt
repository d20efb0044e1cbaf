use Rattle.fio_world.proofs.Names.{◌≡◌, ◌∷◌, ◌++◌, [], ◌∙◌, ap, sym, refl, subst, None, length, append-nil, err_from_is_err_and, Ends, IsDone, replied_after}
use Rattle.fio_module.specs.Replies.{reply_to}
use Rattle.fio_world.specs.Effects.{outcome_of_effect}
use Rattle.fio_world.specs.declared.world.effect.Effect.TheVariants.{ToCpu}
use Rattle.fio_world.proofs.Shown.{reply_octets, silent, encoded, encoded_outcome, newest, done_received, fault_to_module}
use Rattle.fio_link.specs.declared.event.Event.TheVariants as events
use Rattle.fio_world.proofs.world.World.deliver_to_module.Goals as goal

pub returns-in_err-octets-clause-row : goal.returns-in_err-octets-clause-row
returns-in_err-octets-clause-row c settings first machine s =
    let fault = err_from_is_err_and c.from_residual.result c.from_residual.ensures.1 in
    let shown = rw (← c.self.view_is) at s in
    rw (fault.1, fault.2) (fault_to_module settings first machine _ shown c.args.index _ c.in_err-octets.ensures.err)

pub returns-in-None-clause-row : goal.returns-in-None-clause-row
returns-in-None-clause-row c settings first machine s =
    let shown = rw (← c.self.view_is) at s in
    let to_deliver = c.in_ok-octets.ensures in
    let before = c.self.inside.to_cpu.frames in
    let reply = reply_to settings machine.history c.in_ok-octets.octets.now in
    let answered = c.receive-answer.ensures in
    let none : reply ≡ None = silent reply c.receive-answer.result (answered.reply settings machine.history shown.history) c.in-None.is in
    let lists : c.reserve.new.self.frames ≡ before ++ reply_octets reply =
    c.reserve.ensures.same ∙ sym (append-nil before) ∙ ap (λ o. before ++ reply_octets o) (sym none) in
    let new : Ends = record { module_end = c.receive-answer.new.self; poller_end = c.self.inside.poller; to_module = c.self.inside.to_module.frames; to_cpu = c.reserve.new.self.frames; last_to_module = c.args.index; last_to_cpu = c.self.inside.last_to_cpu } in
    subst (λ o. IsDone settings first machine (events.ToModule c.args.index) (replied_after (length before) o) new) none
    (done_received settings first machine _ shown c.args.index _ new to_deliver.fine to_deliver.is (answered.stands settings machine.history shown.history) refl refl lists refl refl)

pub returns-in-Some-clause-row : goal.returns-in-Some-clause-row
returns-in-Some-clause-row c settings first machine s =
    let shown = rw (← c.self.view_is) at s in
    let to_deliver = c.in_ok-octets.ensures in
    let before = c.self.inside.to_cpu.frames in
    let reply = reply_to settings machine.history c.in_ok-octets.octets.now in
    let answered = c.receive-answer.ensures in
    let answer = c.in-Some.frame in
    let says : reply_octets reply ≡ answer.items ∷ [] =
    encoded reply c.receive-answer.result answer (answered.reply settings machine.history shown.history) c.in-Some.is in
    let added : c.add.new.self.frames ≡ before ++ answer.items ∷ [] =
    c.add.ensures ∙ ap (λ fs. fs ++ c.deref.result.now ∷ []) c.reserve.ensures.same ∙ ap (λ os. before ++ os ∷ []) c.deref.ensures.0 in
    let lists : c.add.new.self.frames ≡ before ++ reply_octets reply = added ∙ ap (λ os. before ++ os) (sym says) in
    let new : Ends = record { module_end = c.receive-answer.new.self; poller_end = c.self.inside.poller; to_module = c.self.inside.to_module.frames; to_cpu = c.add.new.self.frames; last_to_module = c.args.index; last_to_cpu = c.self.inside.last_to_cpu } in
    let outcome : replied_after (length before) reply ≡ outcome_of_effect new (ToCpu c.len.result) =
    encoded_outcome (length before) reply answer says
    ∙ sym (newest c.add.new.self.frames before answer.items c.len.result added c.len.ensures) in
    subst (λ o. IsDone settings first machine (events.ToModule c.args.index) o new) outcome
    (done_received settings first machine _ shown c.args.index _ new to_deliver.fine to_deliver.is (answered.stands settings machine.history shown.history) refl refl lists refl refl)
