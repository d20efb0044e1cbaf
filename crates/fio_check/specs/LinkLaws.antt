-- Laws of the judge of a link.
use Rattle.std.specs.Prelude.{◌≡◌, ◌≢◌, ◌⊎◌, ◌&&◌, ◌||◌, ℕ, Bool, true, false, List, [], ◌∷◌, Option, Some, None, filter, is_some, length, map, max, nat_lt, not, option_and_then, option_map, slice_get, if◌then◌else◌}
use Rattle.std.specs.List.{list_all, list_any}
use Rattle.std.specs.Option.{option_or}
use Rattle.fio_check.specs.Checkers.{checker_anywhere, checker_below_breach, checker_with, checker_within, found_by, found_from}
use Rattle.fio_check.specs.ContentAbove.{one_excuse_more}
use Rattle.fio_check.specs.ContentCheckers.{ContentChecking, FoundFault, checking_at_start, checking_with, found_first, found_in_frame, found_on}
use Rattle.fio_check.specs.ContentEvents.{Sent}
use Rattle.fio_check.specs.ContentSaid.{is_before, is_loading}
use Rattle.fio_check.specs.Facts.{number_polled}
use Rattle.fio_check.specs.Lines.{TranscriptLine, command_from}
use Rattle.fio_check.specs.LinkJudges.{Frame, Judging, LogLine, Lost, any_stamp_in, checking_again, content_here, judging_anywhere, judging_begun, judging_below, judging_lost, judging_with, judging_with_line, loads_left, outcome_in, outcomes_of, stamp_in}
use Rattle.fio_check.specs.Observations.{observation_in}
use Rattle.fio_check.specs.Places.{earliest_above, is_some_and}
use Rattle.fio_check.specs.declared.checker.Breach.{Breach}
use Rattle.fio_check.specs.declared.checker.Checker.{Checker}
use Rattle.fio_check.specs.declared.checker.Skips.TheVariants.{ToCommand}
use Rattle.fio_check.specs.declared.limits.RuleLimits.{RuleLimits}
use Rattle.fio_check.specs.declared.content.ContentBreach.{ContentBreach}
use Rattle.fio_check.specs.declared.content_rules.ContentRule.{ContentRule}
use Rattle.fio_check.specs.declared.content_rules.ContentRule.TheVariants.{Watchdog}
use Rattle.fio_check.specs.declared.outcome.LogPlace.{LogPlace}
use Rattle.fio_check.specs.declared.outcome.LogPlace.TheVariants.{Cpu}
use Rattle.fio_check.specs.declared.outcome.Excuse.TheVariants.{Load, Unheard}
use Rattle.fio_check.specs.declared.outcome.FrameOutcome.{FrameOutcome}
use Rattle.fio_check.specs.declared.outcome.FrameOutcome.TheVariants.{Broken, BrokenContent, Excused, Kept, NotJudged, Restarted}
use Rattle.fio_check.specs.declared.outcome.Unjudged.TheVariants.{PlaceLost}

-- ---- each frame

-- a line is a frame, not a mark
abbrev pub is_frame_line : LogLine → Bool
is_frame_line (Frame at from_cpu octets) = true
is_frame_line Lost = false

-- each frame has one outcome
abbrev pub HasOutcomes : Judging → List LogLine → Type 0
HasOutcomes judging lines = length (outcomes_of judging lines) ≡ length (filter is_frame_line lines)

-- ---- a place that is lost

-- the place is lost: everything is skipped until the next poll
abbrev pub IsLost : Judging → Type 0
IsLost judging = judging.checker ≡ checker_below_breach judging.checker.limits

-- the place is lost after a frame with this outcome
abbrev pub loses_place : FrameOutcome → Bool
loses_place (Broken breach) = true
loses_place Restarted = true
loses_place (Excused Load) = true
loses_place outcome = false

-- a frame is a poll
abbrev pub is_poll : Bool → List ℕ → Bool
is_poll from_cpu octets = is_some (number_polled (observation_in from_cpu octets))

-- a line is a poll
abbrev pub is_poll_line : LogLine → Bool
is_poll_line (Frame at from_cpu octets) = is_poll from_cpu octets
is_poll_line Lost = false

-- a frame is a load of the counter
abbrev pub is_load : Bool → List ℕ → Bool
is_load from_cpu octets = is_some_and (command_from from_cpu octets) (λ command. is_some (is_loading (Sent command)))

-- the number of loads that may take effect after a line: one more after a load, and at least one where lines are lost
abbrev pub loads_with : ℕ → LogLine → ℕ
loads_with loads (Frame at from_cpu octets) = if is_load from_cpu octets then one_excuse_more loads else loads
loads_with loads Lost = max 1 loads

-- the number of loads that may take effect after lines
abbrev pub loads_below_lines : ℕ → List LogLine → ℕ
loads_below_lines loads [] = loads
loads_below_lines loads (line ∷ lines) = loads_below_lines (loads_with loads line) lines

-- a judge that begins at a poll, with this number of loads that may take effect
abbrev pub judging_again : Judging → ℕ → Judging
judging_again judging loads = record judging {
  checker = checker_within judging.checker.limits;
  content = checking_again loads;
  asked = None;
}

-- Where the place is lost nothing is judged above the next poll. From that poll on, the judge says what a judge says that
-- begins there with the number of loads that may still take effect.
pub record LinkGoesOn (judging : Judging) (above : List LogLine) : Type 0 where
  pub passes : IsLost judging → list_any is_poll_line above ≡ false
      → outcomes_of judging above ≡ map (λ line. NotJudged PlaceLost) (filter is_frame_line above)
  pub starts : (at : LogPlace) (octets : List ℕ) (below : List LogLine) → IsLost judging
      → list_any is_poll_line above ≡ false → is_poll true octets ≡ true
      → outcomes_of (judging_below judging above) (Frame at true octets ∷ below)
      ≡ outcomes_of (judging_again judging (loads_below_lines (loads_left judging) above))
      (Frame at true octets ∷ below)

-- where the place is lost
pub record LosesPlace (judging : Judging) : Type 0 where
  pub mark : (judging.checker.skips ≡ ToCommand → ⊥) → IsLost (judging_lost judging)
  pub frame : (at : LogPlace) (from_cpu : Bool) (octets : List ℕ)
      → loses_place (outcome_in judging at from_cpu octets) ≡ true
      → IsLost (judging_with judging at from_cpu octets)

-- ---- a whole transcript

-- a breach, and the number of its line
pub record Accused : Type 0 where
  pub line : ℕ
  pub outcome : FrameOutcome

-- the breach, if an outcome accuses an end
abbrev pub accused : ℕ → FrameOutcome → Option Accused
accused line (Broken breach) = Some (record { line = line; outcome = Broken breach })
accused line (BrokenContent breach) = Some (record { line = line; outcome = BrokenContent breach })
accused line outcome = None

-- what the judge accuses first, of what was logged at the CPU's end
abbrev pub accused_first : Judging → List TranscriptLine → Option Accused
accused_first judging [] = None
accused_first judging (line ∷ lines) =
    option_or (accused line.number (outcome_in judging Cpu line.from_cpu line.octets))
    (accused_first (judging_with judging Cpu line.from_cpu line.octets) lines)

-- a breach that the checker of transcripts finds in a line
abbrev pub broken_on : ℕ → Breach → Accused
broken_on line breach = record { line = line; outcome = Broken breach }

-- a breach that the checker of the rules on content finds in a line
abbrev pub content_on : ℕ → ContentBreach → Accused
content_on line breach = record { line = line; outcome = BrokenContent breach }

-- what two checkers find first: in one line the breach of a rule of transcripts comes before that of a rule on content
abbrev pub both_find_first : Checker → ContentChecking → List TranscriptLine → Option Accused
both_find_first checker content [] = None
both_find_first checker content (line ∷ lines) =
    option_or (option_map (broken_on line.number) (found_by checker line.from_cpu (observation_in line.from_cpu line.octets)))
    (option_or (option_map (content_on line.number) (found_in_frame content line.from_cpu line.octets))
    (both_find_first (checker_with checker line.from_cpu (observation_in line.from_cpu line.octets))
    (checking_with content line.from_cpu line.octets) lines))

-- a breach of a rule on content, in a line with this number
abbrev pub fault_on_line : ℕ → FrameOutcome → Option FoundFault
fault_on_line line (BrokenContent breach) = Some (found_on line breach)
fault_on_line line outcome = None

-- the breach of a rule on content that is accused
abbrev pub fault_accused : Accused → Option FoundFault
fault_accused accused = fault_on_line accused.line accused.outcome

-- what the checker of transcripts finds in the line at a place
abbrev pub broken_at : Checker → List TranscriptLine → ℕ → Option Accused
broken_at checker lines place = option_and_then
    (λ line. option_map (broken_on line.number) (found_from checker lines place)) (slice_get lines place)

-- the first breach that the checker of transcripts finds
abbrev pub broken_first : Checker → List TranscriptLine → Option Accused
broken_first checker lines = earliest_above (broken_at checker lines) (length lines)

-- If one checker finds nothing, the two together find first what the other one finds first.
pub record FindFirst (checker : Checker) (content : ContentChecking) (lines : List TranscriptLine) : Type 0 where
  pub by_content : broken_first checker lines ≡ None
      → option_and_then fault_accused (both_find_first checker content lines) ≡ found_first content lines
  pub by_transcript : found_first content lines ≡ None → both_find_first checker content lines ≡ broken_first checker lines

-- an outcome says that the module was restarted, or that a load took effect
abbrev pub is_set_anew : FrameOutcome → Bool
is_set_anew Restarted = true
is_set_anew (Excused Load) = true
is_set_anew outcome = false

-- the judge says in no line that the module was restarted, or that a load took effect
abbrev pub RunsOn : Judging → List TranscriptLine → Type 0
RunsOn judging [] = Unit {0}
RunsOn judging (line ∷ lines) = (is_set_anew (outcome_in judging Cpu line.from_cpu line.octets) ≡ false)
    × RunsOn (judging_with judging Cpu line.from_cpu line.octets) lines

-- In a whole log at the CPU's end in which it says that nowhere, the judge accuses first what the checker of transcripts and that
-- of the rules on content find first.
pub record SaysTheSame (limits : RuleLimits) (lines : List TranscriptLine) : Type 0 where
  pub anywhere : RunsOn (judging_anywhere limits) lines → accused_first (judging_anywhere limits) lines
      ≡ both_find_first (checker_anywhere limits) (checking_at_start false) lines
  pub begun : RunsOn (judging_begun limits) lines → accused_first (judging_begun limits) lines
      ≡ both_find_first (checker_within limits) (checking_at_start true) lines

-- ---- below a lost place

-- the place is lost at this line: it is a mark, but not above the first command of a log that begins anywhere, or a frame with such
-- an outcome
abbrev pub LosesAt : Judging → LogLine → Type 0
LosesAt judging Lost = judging.checker.skips ≡ ToCommand → ⊥
LosesAt judging (Frame at from_cpu octets) = loses_place (outcome_in judging at from_cpu octets) ≡ true

-- a line of a transcript in which the CPU's end sends these octets
abbrev pub sent_on : ℕ → List ℕ → TranscriptLine
sent_on number octets = record { number = number; from_cpu = true; octets = octets }

-- Below such a line and others without a poll, from the next poll on: the judge accuses first what both checkers find first that
-- begin at the poll, the one of the rules on content with the loads that may still take effect; if it says nowhere that the module
-- was restarted, or that a load took effect.
pub record GoesOnAsCheckers (judging : Judging) (line : LogLine) (above : List LogLine) : Type 0 where
  pub from_poll : (number : ℕ) (octets : List ℕ) (below : List TranscriptLine) → LosesAt judging line
      → list_any is_poll_line above ≡ false → is_poll true octets ≡ true
      → let lost = judging_with_line judging line in
      RunsOn (judging_below lost above) (sent_on number octets ∷ below)
      → accused_first (judging_below lost above) (sent_on number octets ∷ below)
      ≡ both_find_first (checker_within judging.checker.limits) (checking_again (loads_below_lines (loads_left lost) above))
      (sent_on number octets ∷ below)

-- ---- what excuses a frame

-- a stamp is before one that the judge keeps: the latest one, or that at the first poll for the block that is due
abbrev pub is_before_kept : Judging → Option ℕ → Bool
is_before_kept judging stamp =
    is_some_and stamp (λ own. is_some_and judging.latest (is_before own) || is_some_and judging.asked (is_before own))

-- a rule on content is that on the watchdog
abbrev pub is_of_watchdog : ContentRule → Bool
is_of_watchdog Watchdog = true
is_of_watchdog rule = false

-- a frame breaks it, if it breaks a rule on content
abbrev pub breaks_watchdog : Option ContentBreach → Bool
breaks_watchdog found = is_some_and found (λ breach. is_of_watchdog breach.rule)

-- A frame that would break a rule is only excused by what shows it. The module was restarted, or a load took effect, only if the
-- frame has an earlier stamp than one that is kept; or it was restarted by the rule on the watchdog. A load may take effect. A poll
-- that the CPU's end may send is one with the number of the latest poll, in a log that was not taken there.
pub record ExcusesWhatIsShown (judging : Judging) (at : LogPlace) (from_cpu : Bool) (octets : List ℕ) : Type 0 where
  pub restarted : outcome_in judging at from_cpu octets ≡ Restarted
      → (is_before_kept judging (any_stamp_in from_cpu octets) ≡ true)
      ⊎ (breaks_watchdog (found_in_frame (content_here judging) from_cpu octets) ≡ true)
  pub load : outcome_in judging at from_cpu octets ≡ Excused Load
      → (is_before_kept judging (any_stamp_in from_cpu octets) ≡ true) × (nat_lt 0 (loads_left judging) ≡ true)
  pub unheard : outcome_in judging at from_cpu octets ≡ Excused Unheard
      → (at ≢ Cpu) × (is_some judging.checker.facts.polled ≡ true)
      × (number_polled (observation_in from_cpu octets) ≡ judging.checker.facts.polled)

-- ---- a restart

-- a frame that has no stamp and is no load of the counter
abbrev pub is_without_stamp : LogLine → Bool
is_without_stamp (Frame at from_cpu octets) = not (is_some (any_stamp_in from_cpu octets)) && not (is_load from_cpu octets)
is_without_stamp Lost = false

-- an outcome says that the frame keeps all rules
abbrev pub is_kept : FrameOutcome → Bool
is_kept Kept = true
is_kept outcome = false

-- a stamp, if there is one, is before none of these
abbrev pub is_before_none : Option ℕ → List ℕ → Bool
is_before_none None above = true
is_before_none (Some stamp) above = list_all (λ one. not (is_before stamp one)) above

-- stamps with one more, if there is one
abbrev pub stamps_with : Option ℕ → List ℕ → List ℕ
stamps_with None above = above
stamps_with (Some stamp) above = stamp ∷ above

-- no stamp on these lines is before one of those above, or before one above it on these lines
abbrev pub StampsRise : List ℕ → List LogLine → Type 0
StampsRise above [] = Unit {0}
StampsRise above (Lost ∷ lines) = StampsRise above lines
StampsRise above (Frame at from_cpu octets ∷ lines) = (is_before_none (any_stamp_in from_cpu octets) above ≡ true)
    × StampsRise (stamps_with (any_stamp_in from_cpu octets) above) lines

-- of these lines only answers to a watchdog are restarts
abbrev pub OnlyWatchdogRestarts : Judging → List LogLine → Type 0
OnlyWatchdogRestarts judging [] = Unit {0}
OnlyWatchdogRestarts judging (Lost ∷ lines) = OnlyWatchdogRestarts (judging_lost judging) lines
OnlyWatchdogRestarts judging (Frame at from_cpu octets ∷ lines) =
    (outcome_in judging at from_cpu octets ≡ Restarted → breaks_watchdog (found_in_frame (content_here judging) from_cpu octets) ≡ true)
    × OnlyWatchdogRestarts (judging_with judging at from_cpu octets) lines

-- A stamp that is set back is a restart, once: no load may take effect, a frame with a stamp keeps all rules, and so do frames
-- without stamps below it; then the module is restarted by the next stamp, if that is before the first one, and by none below it
-- while these rise.
pub record FindsRestart (judging : Judging) (at : LogPlace) (octets : List ℕ) (between : List LogLine) : Type 0 where
  pub found : (latest : ℕ) (there : LogPlace) (further : List ℕ) (stamp : ℕ)
      → loads_left judging ≡ 0
      → outcome_in judging at false octets ≡ Kept → stamp_in false octets ≡ Some latest
      → let below = judging_with judging at false octets in
      list_all is_without_stamp between ≡ true → list_all is_kept (outcomes_of below between) ≡ true
      → stamp_in false further ≡ Some stamp → is_before stamp latest ≡ true
      → (outcome_in (judging_below below between) there false further ≡ Restarted)
      × ((lines : List LogLine) → StampsRise (stamp ∷ []) lines
      → OnlyWatchdogRestarts (judging_with (judging_below below between) there false further) lines)
