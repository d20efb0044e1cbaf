use Rattle.fio_world.proofs.Names.{◌≡◌, length, ap, ◌∙◌, arith, length-drop, number_of}
use Rattle.fio_module.specs.Blocks.{waiting_from, waiting_of}
use Rattle.fio_module.specs.Life.{life_of, counter_of}
use Rattle.fio_module.specs.Log.{log_of}
use Rattle.fio_world.proofs.simulation.lines.push_ending.Goals as goal

pub returns : goal.returns
returns c settings first machine shown =
    let counter : c.counter-counter.result ≡ counter_of (life_of machine.history) =
    c.counter-counter.ensures settings machine.history (rw c.module.ensures shown.history) in
    let waiting : c.waiting-waiting.result ≡ length (waiting_of settings (life_of machine.history)) =
    omega (
      arith,
      c.waiting-waiting.ensures settings machine.history (rw c.module-2.ensures shown.history),
      length-drop (waiting_from settings (life_of machine.history)) (log_of (life_of machine.history)),
    ) in
    let number : c.number-number.result ≡ number_of first machine.round =
    c.number-number.ensures ∙ ap (λ polling. polling.number) (c.poller.ensures ∙ shown.polling) in
    let items = c.items.ensures ∙ ap (λ polling. polling.items) (c.poller-2.ensures ∙ shown.polling) in
    rw (counter, number, waiting, items) at c.push_counts.ensures
