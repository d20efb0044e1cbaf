-- Laws of the judge of a log: without late answers it is the judge of a link, whose laws carry over to it; with them it judges what is in time.
use Rattle.std.specs.Prelude.{◌≡◌, Bool, ◌||◌, ◌≢◌, true, false, List, [], ◌∷◌, ◌++◌, Option, Some, None, ℕ, map, nat_lt}
use Rattle.std.specs.List.{flat_map, list_all}
use Rattle.fio_check.specs.Checkers.{found_by}
use Rattle.fio_check.specs.LateAnswers.{late_with}
use Rattle.fio_check.specs.LinkJudges.{Frame, Judging, LogLine, judging_below, outcome_in, outcomes_of}
use Rattle.fio_check.specs.LinkJudges.{Lost as Mark}
use Rattle.fio_check.specs.LogJudges.{Found, Heading, LogEvent, LogJudging, Lost, Missing, Possible, has_content, is_rule_of_late, judges_each, log_below_events, outcome_late, outcomes_in_log}
use Rattle.fio_check.specs.Observations.{observation_in}
use Rattle.fio_check.specs.Places.{is_some_and}
use Rattle.fio_check.specs.declared.checker.Breach.{Breach}
use Rattle.fio_check.specs.declared.content.ContentBreach.{ContentBreach}
use Rattle.fio_check.specs.declared.late_answers.LateAnswers.{LateAnswers}
use Rattle.fio_check.specs.declared.log_judge.LogOutcome.TheVariants.{Late, Link}
use Rattle.fio_check.specs.declared.outcome.FrameOutcome.TheVariants.{Broken, BrokenContent}
use Rattle.fio_check.specs.declared.missing_frames.MissingFrames.{MissingFrames}
use Rattle.fio_check.specs.declared.missing_frames.MissingFrames.TheVariants.{Below, Nowhere}
use Rattle.fio_check.specs.declared.observation.Observation.{Observation}
use Rattle.fio_check.specs.declared.observation.Observation.TheVariants.{Block, Poll}
use Rattle.fio_check.specs.declared.outcome.LogPlace.{LogPlace}
use Rattle.fio_check.specs.declared.outcome.LogPlace.TheVariants.{Bus, Cpu}
use Rattle.fio_check.specs.declared.rules.Rule.{Rule}
use Rattle.fio_check.specs.declared.rules.Rule.TheVariants.{Advance, Number, Pair, Refusal, Same}

-- ---- what the events above an event say

-- whether a frame is above; whether a remark of loss is, with no block answer below it; whether one is with no poll below it either;
-- and whether the line of a frame names the other end as its sender
pub record Around : Type 0 where
  pub framed : Bool
  pub remarked : Bool
  pub direct : Bool
  pub contrary : Bool

-- above all events
abbrev pub nothing_around : Around
nothing_around = record { framed = false; remarked = false; direct = false; contrary = false }

-- with a frame more that says this
abbrev pub around_frame : Around → Observation → Around
around_frame around (Poll number) = record around { framed = true; direct = false }
around_frame around (Block number status entries absent) = record around { framed = true; remarked = false; direct = false }
around_frame around observation = record around { framed = true }

-- with a frame more whose line names this sender, if it names one, by whether the CPU sent it
abbrev pub around_said : Around → Option Bool → Bool → Around
around_said around None from_cpu = around
around_said around (Some true) true = around
around_said around (Some false) false = around
around_said around said from_cpu = record around { contrary = true }

-- with an event more
abbrev pub around_with : Around → LogEvent → Around
around_with around (Found from_cpu said octets) =
    around_said (around_frame around (observation_in from_cpu octets)) said from_cpu
around_with around Missing = record around { remarked = true; direct = true }
around_with around event = around

-- whether frames may be missing above the latest poll or below it, as a judge keeps that
abbrev pub is_remarked : MissingFrames → Bool
is_remarked Nowhere = false
is_remarked missing = true

-- whether they may be below it
abbrev pub is_direct : MissingFrames → Bool
is_direct Below = true
is_direct missing = false

-- what a judge of a log keeps of that
abbrev pub around_in : LogJudging → Around
around_in log = record {
  framed = log.has_frames;
  remarked = is_remarked log.missing;
  direct = is_direct log.missing;
  contrary = nat_lt 0 log.contrary;
}

-- ---- the lines of the judge of a link

-- a mark that lines are lost here, if they are
abbrev pub mark_if : Bool → List LogLine
mark_if true = Mark ∷ []
mark_if false = []

-- frames that are missing can be the reason why a frame breaks these rules, and no others
abbrev pub is_rule_of_loss : Rule → Bool
is_rule_of_loss Pair = true
is_rule_of_loss Number = true
is_rule_of_loss Advance = true
is_rule_of_loss Same = true
is_rule_of_loss Refusal = true
is_rule_of_loss rule = false

-- the checker of transcripts finds that a frame breaks one of them
abbrev pub breaks_of_loss : Judging → Bool → List ℕ → Bool
breaks_of_loss judging from_cpu octets =
    is_some_and (found_by judging.checker from_cpu (observation_in from_cpu octets)) (λ breach. is_rule_of_loss breach.rule)

-- What a frame is to the judge of the link: the frame, at the place of the log if that is known; if not, on the bus if its line
-- names no sender, and at the CPU's end if each line so far that names one names the right one. A mark is above it only if it
-- breaks such a rule and a remark of loss is above with no block answer between; and surely if no poll is between either.
pub record AreLinesOfFrame (place : Option LogPlace) (around : Around) (judging : Judging) (from_cpu : Bool) (said : Option Bool)
    (octets : List ℕ) (lines : List LogLine) : Type 0 where
  pub marked : Bool
  pub at : LogPlace
  pub are : lines ≡ mark_if marked ++ Frame at from_cpu octets ∷ []
  pub known : (given : LogPlace) → place ≡ Some given → at ≡ given
  pub unnamed : place ≡ None → said ≡ None → at ≡ Bus
  pub right : place ≡ None → said ≡ Some from_cpu → around.contrary ≡ false → at ≡ Cpu
  pub only : marked ≡ true → (around.remarked ≡ true) × (breaks_of_loss judging from_cpu octets ≡ true)
  pub surely : around.direct ≡ true → breaks_of_loss judging from_cpu octets ≡ true → marked ≡ true

-- what an event is to it: a line that may have held a frame is a mark; one that says a message is a mark below a frame, and also above
-- all frames if these are judged from the first one on; a heading is a mark below a frame; and one that speaks of loss is nothing by
-- itself
abbrev pub AreLinesOfEvent : Option LogPlace → Around → Judging → LogEvent → List LogLine → Type 0
AreLinesOfEvent place around judging (Found from_cpu said octets) lines = AreLinesOfFrame place around judging from_cpu said octets lines
AreLinesOfEvent place around judging Lost lines = lines ≡ Mark ∷ []
AreLinesOfEvent place around judging Possible lines = lines ≡ mark_if (around.framed || judges_each judging.checker.skips)
AreLinesOfEvent place around judging Heading lines = lines ≡ mark_if around.framed
AreLinesOfEvent place around judging Missing lines = lines ≡ []

-- what events are to it, one after the other: below what is around the first one, for this judge
abbrev pub AreLinesOf : Option LogPlace → Around → Judging → List LogEvent → List LogLine → Type 0
AreLinesOf place around judging [] lines = lines ≡ []
AreLinesOf place around judging (event ∷ events) lines =
    (own : List LogLine) × (more : List LogLine) × (lines ≡ own ++ more)
    × AreLinesOfEvent place around judging event own
    × AreLinesOf place (around_with around event) (judging_below judging own) events more

-- ---- the laws

-- The judge of a log gives each frame the outcome that the judge of the link gives it, and ends in the same state, of lines that
-- are those of the events.
pub record IsJudgedAsLink (around : Around) (log : LogJudging) (events : List LogEvent) : Type 0 where
  pub lines : List LogLine
  pub are : AreLinesOf log.place around log.link events lines
  pub outcomes : outcomes_in_log log events ≡ map Link (outcomes_of log.link lines)
  pub below : (log_below_events log events).link ≡ judging_below log.link lines

-- an event is a frame
abbrev pub is_found : LogEvent → Bool
is_found (Found from_cpu said octets) = true
is_found event = false

-- an event as a line of a log that was taken there, if it is a frame
abbrev pub line_at : LogPlace → LogEvent → List LogLine
line_at at (Found from_cpu said octets) = Frame at from_cpu octets ∷ []
line_at at event = []

-- Of events that are all frames, the judge says what the judge of the link says of these frames.
abbrev pub JudgesFramesAlike : LogJudging → LogPlace → List LogEvent → Type 0
JudgesFramesAlike log at events =
    log.late ≡ None → log.missing ≡ Nowhere → log.place ≡ Some at → list_all is_found events ≡ true
    → outcomes_in_log log events ≡ map Link (outcomes_of log.link (flat_map (line_at at) events))

-- A frame that is no late answer is not left out as one. What the judge of the link accuses it of stands: a breach of a rule of
-- transcripts that late answers may not break, and a breach of one on content, if no answer to a command above can still come.
pub record JudgesInTime (log : LogJudging) (late : LateAnswers) (at : LogPlace) (from_cpu : Bool) (octets : List ℕ) : Type 0 where
  pub kept : outcome_late log late at from_cpu octets ≢ Late
  pub broken : (breach : Breach) → outcome_in log.link at from_cpu octets ≡ Broken breach → is_rule_of_late at breach.rule ≡ false
      → outcome_late log late at from_cpu octets ≡ Link (Broken breach)
  pub content : (breach : ContentBreach) → outcome_in log.link at from_cpu octets ≡ BrokenContent breach
      → has_content from_cpu (observation_in from_cpu octets) ≡ true → (late_with late (observation_in from_cpu octets)).settled ≡ true
      → outcome_late log late at from_cpu octets ≡ Link (BrokenContent breach)
