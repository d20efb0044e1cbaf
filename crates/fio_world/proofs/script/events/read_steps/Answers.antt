use Rattle.fio_world.proofs.Names.{◌≡◌, ◌<◌, map, ap, sym, ◌∙◌, vec_len, rules, arith, length_push, length-map, map-append, err_from_is_err_and, lines_of, event_of, MAX_EVENTS}
use Rattle.fio_world.proofs.ReadingLemmas.{read_on-start, read_on-end, read_on-event, read_on-fault, read_on-full, HaveRead-start, HaveRead-event, good_front, no_memory, more_than_none, is_read_as}
use Rattle.fio_world.proofs.script.events.read_steps.Goals as goal

pub lines-init : goal.lines-init
lines-init c =
    let all = c.into_iter-number-iterator.ensures.into_iter_gives ∙ c.numbered_lines-number-items.ensures in
    let none = ap (map event_of) c.new-steps.ensures.items in
    record {
      events = read_on-start _ _ c.args.restarts _ _ none c.new-steps.ensures.len all;
      front = HaveRead-start c.args.restarts _ _ _ all none;
      few = omega arith;
      above = tt;
    }

pub lines-preserved : goal.lines-preserved
lines-preserved c =
    let few : vec_len c.lines.steps < MAX_EVENTS = search rules in
    let gives = sym c.in_ok-step.ensures in
    record {
      events = rw (c.in_ok-push.ensures.items, map-append, c.in_ok-push.ensures.len)
          (sym (read_on-event _ _ _ _ _ _ few gives) ∙ rw c.in-Some.ensures.steps at c.lines.invariant.events);
      front = rw (c.in_ok-push.ensures.items, map-append)
          (HaveRead-event _ _ _ _ _ _ _ c.lines.invariant.front c.in-Some.ensures.steps gives);
      few = omega (arith, few, c.in_ok-push.ensures.len);
      above = is_read_as c.args.restarts c.in-Some.number c.in-Some.line.now _ gives;
    }

pub returns-then-len-eq-MAX_EVENTS-clause-err : goal.returns-then-len-eq-MAX_EVENTS-clause-err
returns-then-len-eq-MAX_EVENTS-clause-err c other =
    let full : vec_len c.lines.steps ≡ MAX_EVENTS = search rules in
    sym c.lines.invariant.events ∙ read_on-full _ _ _ _ _ _ c.in-Some.ensures.steps full

pub returns-in_err-step-clause-err : goal.returns-in_err-step-clause-err
returns-in_err-step-clause-err c =
    let fault = err_from_is_err_and c.from_residual.result c.from_residual.ensures.1 in
    let few : vec_len c.lines.steps < MAX_EVENTS = search rules in
    rw (fault.1, fault.2) (λ other.
    sym c.lines.invariant.events
    ∙ read_on-fault _ _ _ _ _ _ _ c.in-Some.ensures.steps few (sym c.in_err-step.ensures))

pub returns-in_err-step-clause-memory : goal.returns-in_err-step-clause-memory
returns-in_err-step-clause-memory c is_memory =
    let fault = err_from_is_err_and c.from_residual.result c.from_residual.ensures.1 in
    absurd (no_memory c.args.restarts (c.in-Some.number, c.in-Some.line.now) (cc (is_memory, fault.1, fault.2, c.in_err-step.ensures)))

pub returns-in_err-push-clause-memory : goal.returns-in_err-push-clause-memory
returns-in_err-push-clause-memory c is_memory =
    let few : vec_len c.lines.steps < MAX_EVENTS = search rules in
    let read = HaveRead-event _ _ _ _ _ _ _ c.lines.invariant.front c.in-Some.ensures.steps (sym c.in_ok-step.ensures) in
    good_front c.args.restarts (lines_of c.args.text.now) _ _ read (rw (length_push (map event_of c.lines.steps.items) (event_of c.in_ok-step.step), length-map) (omega (arith, few))) (more_than_none (map event_of c.lines.steps.items) (event_of c.in_ok-step.step))

pub returns-clause-ok : goal.returns-clause-ok
returns-clause-ok c = sym c.lines.invariant.events ∙ rw c.in-None.ensures.steps.0 (read_on-end (map event_of c.lines.steps.items) (vec_len c.lines.steps) c.args.restarts)
