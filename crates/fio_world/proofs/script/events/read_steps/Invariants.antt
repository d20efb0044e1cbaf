use Rattle.fio_world.proofs.Names.{◌≡◌, ◌≤◌, map, vec_len, IfSome, IsReadAs, lines_of, numbered, event_of, script_events, MAX_EVENTS}
use Rattle.fio_world.proofs.ReadingLemmas.{read_on, HaveRead}
use Rattle.fio_world.proofs.script.events.read_steps.Given as goal

abbrev pub invariant-lines : goal.invariant-lines
invariant-lines l = record {
  events :
      read_on (map event_of l.steps.items) (vec_len l.steps) l.restarts l.number-iterator ≡ script_events l.restarts (lines_of l.text);
  front : HaveRead l.restarts (numbered 2 (lines_of l.text)) l.number-iterator (map event_of l.steps.items);
  few : vec_len l.steps ≤ MAX_EVENTS;
  above : IfSome l.last (λ step. IsReadAs l.restarts l.above (event_of step));
}
