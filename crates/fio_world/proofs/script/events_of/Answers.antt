use Rattle.fio_world.proofs.Names.{map, ap, sym, ◌∙◌, take_all, map-append, event_of}
use Rattle.fio_text.proofs.LineLemmas.{take-next}
use Rattle.fio_world.proofs.script.events_of.Goals as goal

pub steps-preserved : goal.steps-preserved
steps-preserved c =
    rw (c.in_ok-push.ensures.items, c.steps.invariant, c.event.ensures)
    (sym (map-append _ _ _) ∙ ap (map event_of) (take-next _ _ _ c.steps-test.true c.step-item.is))

pub returns-clause-ok : goal.returns-clause-ok
returns-clause-ok c = c.steps.invariant ∙ ap (map event_of) (take_all _ _ c.steps-test.false)
