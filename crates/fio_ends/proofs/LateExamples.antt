-- A worked log with a late answer, by computation.
use Rattle.fio_ends.proofs.Names.{◌≡◌, List, [], ◌∷◌, None, Some, refl, arith, Event, Kept, Machine, ToCpu, ToModule, after, standard_rule_limits, standard_settings, start, log_starting, outcomes_in_log, Link, Cpu, SeenStep, events_seen, log_seen, IsLateLog, nat_tests}
use Rattle.fio_message.specs.Bits.{is_set}
use Rattle.fio_message.specs.Decoding.{message_in}
use Rattle.fio_check.specs.ContentRules.{first_differing, is_excused}
use Rattle.fio_check.specs.declared.log_judge.LogOutcome.TheVariants.{Late}
use Rattle.fio_check.specs.declared.log_judge.LogStart.TheVariants.{LateAnswers as StartLate}
use Rattle.fio_link.specs.declared.event.Event.TheVariants.{Poll}
use Rattle.fio_ends.specs.EventLogs.{Seen}
use Rattle.fio_ends.specs.LateLogs.{AnswersMayBeLate}

-- the machine after these events
abbrev done : Machine → List Event → Machine
done machine [] = machine
done machine (event ∷ events) = done (after (standard_settings 2) 0 machine event) events

-- a block is polled for twice, before its answer comes; then both answers come
abbrev steps : List SeenStep
steps =
    Seen None Poll ∷ Seen None (ToModule 1) ∷ Seen None Poll ∷ Seen None (ToModule 2) ∷ Seen None (ToCpu 1) ∷ Seen None (ToCpu 2) ∷ []

abbrev last : Machine
last = done start (events_seen steps)

is_late : IsLateLog (standard_settings 2) standard_rule_limits 0 [] steps start last
unfolding message_in is_set
is_late = grind (arith, nat_tests)

outcomes : outcomes_in_log (log_starting standard_rule_limits (Some Cpu) StartLate) (log_seen (standard_settings 2) 0 start steps)
    ≡ Link Kept ∷ Link Kept ∷ Link Kept ∷ Late ∷ []
unfolding message_in is_set first_differing is_excused
outcomes = refl

pub answers_may_be_late : AnswersMayBeLate
unfolding AnswersMayBeLate
answers_may_be_late = (steps, last, is_late, outcomes)
