-- A worked log that fulfils what the law of lines requires, by computation.
use Rattle.std.proofs.Common.{◌≡◌, ◌++◌, true, List, [], ◌∷◌, length, refl, arith}
use Rattle.fio_message.specs.Bits.{is_set}
use Rattle.fio_message.specs.Decoding.{message_in}
use Rattle.fio_module.specs.Settings.{AreInRange, standard_settings}
use Rattle.fio_check.specs.Rules.{standard_rule_limits}
use Rattle.fio_link.specs.declared.event.Event.{Event}
use Rattle.fio_link.specs.declared.event.Event.TheVariants.{Poll, ToCpu, ToModule}
use Rattle.fio_link.specs.Link.{Machine, after, start}
use Rattle.fio_ends.specs.ContentPremises.{AreTimesNear}
use Rattle.fio_ends.specs.PromptRuns.{IsPromptRun, SuitModule}
use Rattle.fio_logs.specs.WrittenLogs.{FewAreUnderWayInLines, LineStep, LinesMayBeLost, Logged, Missing, SpoiltLine, events_of_steps, lines_begun, no_lines}

-- the machine after these events
abbrev done : Machine → List Event → Machine
done machine [] = machine
done machine (event ∷ events) = done (after (standard_settings 2) 0 machine event) events

-- a poll is answered; the answer is heard, but missing at a damaged line; and the next poll is answered
abbrev above_line : List LineStep
above_line = Logged Poll ∷ Logged (ToModule 1) ∷ []

abbrev below_line : List LineStep
below_line = Logged Poll ∷ Logged (ToModule 2) ∷ Logged (ToCpu 2) ∷ []

abbrev lost : List LineStep
lost = above_line ++ SpoiltLine ∷ Missing (ToCpu 1) ∷ below_line

abbrev lost_last : Machine
lost_last = done start (events_of_steps lost)

in_range : AreInRange (standard_settings 2)
in_range = record { id_fits = omega arith; some_per_block = omega arith; few_per_block = omega arith }

suit : SuitModule (standard_settings 2) standard_rule_limits
suit = record { per_block = refl; waiting = omega arith }

is_prompt : IsPromptRun (standard_settings 2) 0 (events_of_steps lost) lost_last
unfolding message_in is_set
is_prompt =
    record {
      is_run = (refl, (refl, (refl, (refl, (refl, (refl, refl))))));
      no_restart = (tt, (tt, (tt, (tt, (tt, (tt, tt))))));
      within = (tt, (tt, (tt, (tt, (tt, (tt, tt))))));
      prompt = (tt, (omega arith, ((omega arith, refl), (tt, (omega arith, ((omega arith, refl), tt))))));
    }

under_way : FewAreUnderWayInLines (standard_settings 2) 0 (no_lines true) start lost
unfolding message_in is_set
under_way = (
  λ command. (tt, λ one. absurd (cc one)),
  (
    λ command. absurd (cc command),
    (
      λ command. ((omega arith, (omega arith, (omega arith, tt))), λ one. absurd (cc one)),
      (λ command. absurd (cc command), (λ command. absurd (cc command), tt)),
    ),
  ),
)

times : AreTimesNear true (standard_settings 2) 0 start (events_of_steps lost) lost_last
unfolding message_in is_set
times = record {
  blocks = (omega arith, (omega arith, tt));
  stamps = (λ hears. omega arith, (λ hears. omega arith, (λ hears. omega arith, (λ hears. omega arith, (λ hears. omega arith, (λ hears. omega arith, tt))))));
  inputs = tt;
  states = (λ scans block seen taken. absurd (cc seen), (λ scans block seen taken. absurd (cc seen), (λ scans block seen taken. absurd (cc seen), (λ scans block seen taken. absurd (cc seen), (λ scans block seen taken. absurd (cc seen), (λ scans block seen taken. absurd (cc seen), tt))))));
}

four_lines : length (lines_begun lost) ≡ 4
unfolding message_in is_set
four_lines = refl

pub lines_may_be_lost : LinesMayBeLost
unfolding LinesMayBeLost
lines_may_be_lost = (
  above_line,
  below_line,
  1,
  lost_last,
  record {
    in_range = in_range;
    suit = suit;
    run = is_prompt;
    leads = refl;
    begins = refl;
    missing = (refl, tt);
    few = under_way;
    near = times;
  },
  refl,
  four_lines,
)
