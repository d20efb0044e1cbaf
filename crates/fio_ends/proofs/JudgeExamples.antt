-- Worked logs that fulfil what the laws of the judge of a link require, by computation: a frame is missing at a mark; the module is
-- restarted; a load of the counter is under way where a log begins.
use Rattle.fio_ends.proofs.Names.{◌≡◌, ◌∙◌, ◌+◌, ◌++◌, ℕ, true, false, List, [], ◌∷◌, None, refl, ap, sym, arith, is_some, list_any, Event, ToModule, ToCpu, Machine, start, after, standard_rule_limits, SuitModule, TranscriptLine, CpuFrame, frames_from, Leads, AreInRange, AreTimesNear, AreUnderWay, FewAreUnderWay, IsPromptRun, IsRestarted, Kept, LineSync, LoadCounter, LogStep, Logged, LoggedLife, Marked, Missing, Scan, Send, checking_again, events_from_command, events_of, found_first, is_restart, judging_anywhere, judging_below, log_from, machine_at_command, standard_settings, Cpu, IsLogBelowLoads, outcomes_begun, outcomes_over_lives, nat_tests}
use Rattle.fio_message.specs.Bits.{is_set}
use Rattle.fio_message.specs.Decoding.{message_in}
use Rattle.fio_input.specs.Widening.{wide_time_of}
use Rattle.fio_module.specs.Log.{transitions_below}
use Rattle.fio_check.specs.ContentRules.{first_differing, is_excused}
use Rattle.fio_link.specs.declared.event.Event.TheVariants.{Poll}
use Rattle.fio_ends.specs.LinkLogs.{FramesMayBeMissing, LoadsMayBeUnderWay}
use Rattle.fio_ends.specs.RestartedLogs.{RestartsAreFound}

-- the machine after these events
abbrev done : ℕ → Machine → List Event → Machine
done first machine [] = machine
done first machine (event ∷ events) = done first (after (standard_settings 2) first machine event) events

-- a line for each frame, numbered from this number on
abbrev lines_from : ℕ → List CpuFrame → List TranscriptLine
lines_from number [] = []
lines_from number (frame ∷ frames) =
    record { number = number; from_cpu = frame.from_cpu; octets = frame.octets } ∷ lines_from (number + 1) frames

in_range : AreInRange (standard_settings 2)
in_range = record { id_fits = omega arith; some_per_block = omega arith; few_per_block = omega arith }

suit : SuitModule (standard_settings 2) standard_rule_limits
suit = record { per_block = refl; waiting = omega arith }

-- ---- a frame is missing at a mark

-- a poll is answered; the answer is heard, but missing at a mark; and the next poll is answered
abbrev above_mark : List LogStep
above_mark = Logged Cpu Poll ∷ Logged Cpu (ToModule 1) ∷ []

abbrev below_mark : List LogStep
below_mark = Logged Cpu Poll ∷ Logged Cpu (ToModule 2) ∷ Logged Cpu (ToCpu 2) ∷ []

abbrev missing : List LogStep
missing = above_mark ++ Marked ∷ Missing (ToCpu 1) ∷ below_mark

abbrev missing_last : Machine
missing_last = done 0 start (events_of missing)

outcomes_above : outcomes_begun above_mark ≡ Kept ∷ []
unfolding message_in is_set first_differing is_excused
outcomes_above = refl

missing_outcomes : outcomes_begun missing ≡ Kept ∷ Kept ∷ Kept ∷ []
unfolding message_in is_set first_differing is_excused
missing_outcomes = refl

missing_is_prompt : IsPromptRun (standard_settings 2) 0 (events_of missing) missing_last
unfolding message_in is_set
missing_is_prompt = grind (arith, nat_tests)

missing_under_way : FewAreUnderWay (standard_settings 2) 0 start None missing
unfolding message_in is_set
missing_under_way = (λ command. tt, (λ command. tt, (λ command. (omega arith, (omega arith, (omega arith, tt))), (λ command. tt, (λ command. tt, tt)))))

missing_times : AreTimesNear true (standard_settings 2) 0 start (events_of missing) missing_last
unfolding message_in is_set
missing_times = grind (arith, nat_tests)

pub may_be_missing : FramesMayBeMissing
unfolding FramesMayBeMissing
may_be_missing = (
  above_mark,
  below_mark,
  1,
  missing_last,
  record {
    in_range = in_range;
    suit = suit;
    run = missing_is_prompt;
    leads = refl;
    begins = refl;
    marked = (refl, tt);
    few = missing_under_way;
    near = missing_times;
  },
  outcomes_above,
  missing_outcomes,
)

-- ---- the module is restarted

-- a scan is made, and a poll is answered, which has the stamp 1
abbrev above : List LogStep
above = Logged Cpu (Scan 0) ∷ Logged Cpu Poll ∷ Logged Cpu (ToModule 1) ∷ Logged Cpu (ToCpu 1) ∷ []

abbrev above_last : Machine
above_last = done 0 start (events_of above)

-- then the module is started anew, and the next poll is answered, which has the stamp 0
abbrev below : List LogStep
below = Logged Cpu Poll ∷ Logged Cpu (ToModule 1) ∷ Logged Cpu (ToCpu 1) ∷ []

abbrev below_last : Machine
below_last = done 1 start (events_of below)

abbrev restarted : LoggedLife
restarted = record { steps = below; last = below_last }

is_found : list_any is_restart (outcomes_over_lives (standard_settings 2) standard_rule_limits 0 above start above_last (restarted ∷ [])) ≡ true
unfolding message_in is_set first_differing is_excused wide_time_of transitions_below
is_found = refl

above_is_prompt : IsPromptRun (standard_settings 2) 0 (events_of above) above_last
unfolding message_in is_set wide_time_of transitions_below
above_is_prompt = grind (arith, nat_tests)

above_times : AreTimesNear false (standard_settings 2) 0 (machine_at_command (standard_settings 2) 0 start (events_of above)) (events_from_command (events_of above)) above_last
unfolding message_in is_set wide_time_of transitions_below
above_times = grind (arith, nat_tests)

below_is_restarted : IsRestarted (standard_settings 2) 1 (judging_below (judging_anywhere standard_rule_limits) (log_from (standard_settings 2) 0 start above)) below below_last
unfolding message_in is_set first_differing is_excused wide_time_of transitions_below
below_is_restarted = grind (arith, nat_tests)

pub restarts_found : RestartsAreFound
unfolding RestartsAreFound message_in is_set first_differing is_excused wide_time_of transitions_below
restarts_found = (
  above,
  above_last,
  restarted,
  record {
    in_range = in_range;
    suit = suit;
    run = above_is_prompt;
    leads = refl;
    logged = tt;
    calm = record { no_loads = refl; short = omega arith };
    near = above_times;
    restarted = (refl, below_is_restarted, tt);
  },
  is_found,
)

-- ---- a load of the counter is under way where a log begins

-- a scan is made, and the counter is asked to load 0
abbrev asked : List Event
asked = Scan 0 ∷ Send (LoadCounter 0) ∷ ToModule 1 ∷ []

abbrev asked_last : Machine
asked_last = done 0 start asked

-- the log begins here: a poll is answered, which has the stamp 1; the load takes effect; and the next poll has the stamp 0
abbrev loaded : List Event
loaded = Poll ∷ ToModule 2 ∷ ToCpu 2 ∷ LineSync ∷ Poll ∷ ToModule 3 ∷ ToCpu 3 ∷ []

abbrev loaded_last : Machine
loaded_last = done 0 asked_last loaded

abbrev loaded_lines : List TranscriptLine
loaded_lines = lines_from 1 (frames_from (standard_settings 2) 0 asked_last loaded)

-- a checker that knows of no load would accuse the module
loaded_needs_one : is_some (found_first (checking_again 0) loaded_lines) ≡ true
unfolding message_in is_set first_differing is_excused wide_time_of transitions_below
loaded_needs_one = refl

loaded_is_prompt : IsPromptRun (standard_settings 2) 0 (asked ++ loaded) loaded_last
unfolding message_in is_set wide_time_of transitions_below
loaded_is_prompt = grind (arith, nat_tests)

asked_leads : Leads (standard_settings 2) 0 start asked asked_last
asked_leads = (refl, (refl, (refl, refl)))

loaded_under_way : AreUnderWay 1 (standard_settings 2) 0 asked_last loaded
unfolding message_in is_set wide_time_of transitions_below
loaded_under_way = (omega arith, (omega arith, (omega arith, (omega arith, (omega arith, (omega arith, (omega arith, tt)))))))

loaded_times : AreTimesNear false (standard_settings 2) 0 asked_last loaded loaded_last
unfolding message_in is_set wide_time_of transitions_below
loaded_times = grind (arith, nat_tests)

loaded_log : IsLogBelowLoads 1 (standard_settings 2) 0 asked loaded asked_last loaded_last loaded_lines
unfolding message_in is_set wide_time_of transitions_below
loaded_log = record {
  in_range = in_range;
  run = loaded_is_prompt;
  leads = asked_leads;
  under_way = loaded_under_way;
  near = loaded_times;
  has = refl;
}

pub under_way : LoadsMayBeUnderWay
unfolding LoadsMayBeUnderWay
under_way = (asked, loaded, asked_last, loaded_last, loaded_lines, loaded_log, λ none. absurd (cc (sym loaded_needs_one ∙ ap is_some none)))
