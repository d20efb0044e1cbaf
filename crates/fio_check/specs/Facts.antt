-- What is above a line, as far as the rules read it.
use Rattle.std.specs.Prelude.{ℕ, ◌+◌, ◌%◌, ◌==◌, Bool, true, false, List, Option, Some, None, not, option_map, option_and_then, if◌then◌else◌}
use Rattle.fio_message.specs.Status.{says_more}
use Rattle.fio_message.specs.declared.types.TheConstants.{BLOCK_ANSWER}
use Rattle.fio_check.specs.Lines.{TranscriptLine}
use Rattle.fio_check.specs.Observations.{observation_at}
use Rattle.fio_check.specs.Places.{Placed, is_some_and, latest_above, place_above}
use Rattle.fio_check.specs.declared.facts.Facts.{Facts}
use Rattle.fio_check.specs.declared.observation.Observation.{Observation}
use Rattle.fio_check.specs.declared.observation.Observation.TheVariants.{Poll, Command, Block}

-- ---- the parts of an observation

-- the type of the answer to a command
abbrev pub awaited_below : Observation → Option ℕ
awaited_below (Poll number) = Some BLOCK_ANSWER
awaited_below (Command answer absent) = Some answer
awaited_below observation = None

-- a command that names an input above 63
abbrev pub names_absent_input : Observation → Bool
names_absent_input (Command answer absent) = absent
names_absent_input observation = false

-- the number of a poll
abbrev pub number_polled : Observation → Option ℕ
number_polled (Poll number) = Some number
number_polled observation = None

-- the status of a block answer
abbrev pub status_of_block : Observation → Option ℕ
status_of_block (Block number status entries absent) = Some status
status_of_block observation = None

-- for a block answer, true; for a poll, false
abbrev pub is_answering : Observation → Option Bool
is_answering (Poll number) = Some false
is_answering (Block number status entries absent) = Some true
is_answering observation = None

-- ---- by places

-- the latest poll above, by its number
abbrev pub latest_poll : List TranscriptLine → ℕ → Option (Placed ℕ)
latest_poll lines place = latest_above (λ above. number_polled (observation_at lines above)) place

-- the latest block answer above, by its status
abbrev pub latest_block : List TranscriptLine → ℕ → Option (Placed ℕ)
latest_block lines place = latest_above (λ above. status_of_block (observation_at lines above)) place

-- the latest poll or block answer above, by whether it is the answer
abbrev pub latest_turn : List TranscriptLine → ℕ → Option (Placed Bool)
latest_turn lines place = latest_above (λ above. is_answering (observation_at lines above)) place

-- a poll has another number than the poll before it
abbrev pub has_advanced : List TranscriptLine → Placed ℕ → Bool
has_advanced lines poll =
    is_some_and (latest_poll lines poll.place) (λ earlier. not (poll.value == earlier.value))

-- what is above a place
abbrev pub facts_at : List TranscriptLine → ℕ → Facts
facts_at lines place = record {
  awaited = option_and_then (λ above. awaited_below (observation_at lines above)) (place_above place);
  absent_named = is_some_and (place_above place) (λ above. names_absent_input (observation_at lines above));
  polled = option_map (λ poll. poll.value) (latest_poll lines place);
  answered = is_some_and (latest_turn lines place) (λ turn. turn.value);
  advanced = is_some_and (latest_poll lines place) (has_advanced lines);
  more = option_map (λ block. says_more block.value) (latest_block lines place);
}

-- ---- line by line

-- nothing is above the first line
abbrev pub no_facts : Facts
no_facts = record {
  awaited = None;
  absent_named = false;
  polled = None;
  answered = false;
  advanced = false;
  more = None;
}

-- the facts with one line more
abbrev pub facts_with : Facts → Observation → Facts
facts_with facts (Poll number) = record facts {
  awaited = Some BLOCK_ANSWER;
  absent_named = false;
  polled = Some number;
  answered = false;
  advanced = is_some_and facts.polled (λ polled. not (number == polled));
}
facts_with facts (Command answer absent) =
    record facts { awaited = Some answer; absent_named = absent }
facts_with facts (Block number status entries absent) = record facts {
  awaited = None;
  absent_named = false;
  answered = true;
  more = Some (says_more status);
}
facts_with facts observation = record facts { awaited = None; absent_named = false }

-- the number that the next poll must have, if a poll is above
abbrev pub number_due : Facts → Option ℕ
number_due facts =
    option_map (λ polled. if facts.answered then (polled + 1) % 256 else polled) facts.polled
