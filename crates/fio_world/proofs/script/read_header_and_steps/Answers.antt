use Rattle.fio_world.proofs.Names.{sym, ◌∙◌, err_from_is_err_and}
use Rattle.fio_world.proofs.ReadingLemmas.{front_with_header, some_events, whole_front}
use Rattle.fio_world.proofs.script.read_header_and_steps.Goals as goal

pub returns-in_err-steps-clause-memory : goal.returns-in_err-steps-clause-memory
returns-in_err-steps-clause-memory c is_memory =
    let fault = err_from_is_err_and c.from_residual.result c.from_residual.ensures.1 in
    let header = sym c.read_header.ensures ∙ c.in-Some-read_header.is in
    rw c.in-Some.ensures.first (front_with_header c.in-Some-read_header.header _ _ header (c.in_err-steps.ensures.memory (cc (is_memory, fault.1, fault.2))))

pub returns-clause-front : goal.returns-clause-front
returns-clause-front c some =
    let header = sym c.read_header.ensures ∙ c.in-Some-read_header.is in
    rw c.in-Some.ensures.first
    (front_with_header c.in-Some-read_header.header _ _ header (whole_front _ _ _ c.in_ok-steps.ensures.ok (some_events _ some)))
