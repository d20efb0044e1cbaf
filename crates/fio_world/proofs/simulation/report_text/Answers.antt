use Rattle.fio_world.proofs.simulation.report_text.Goals as goal

pub returns-in-Ok-clause-ok : goal.returns-in-Ok-clause-ok
returns-in-Ok-clause-ok c =
    rw (c.in_ok-header.ensures.ok, ← c.as_slice.ensures.value) (c.in-Ok.ensures.text, c.in-Ok.ensures.good)
