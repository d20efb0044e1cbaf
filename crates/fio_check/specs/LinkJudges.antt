-- The judge of a link: its outcome for each frame of a log. Lines of the log may be lost, the module may be restarted, and its
-- counter may be loaded.
--
-- It runs the checker of the rules of transcripts and that of the rules on content. The place is *lost* below a lost line, a
-- restart, a load that took effect, and a breach of a rule of transcripts: nothing is judged until the next poll, at which both
-- checkers begin anew.
use Rattle.std.specs.Prelude.{ℕ, ◌==◌, Bool, ◌&&◌, ◌+◌, true, false, List, [], ◌∷◌, ◌++◌, Option, Some, None, max, nat_le, nat_lt, not, option_and_then, if◌then◌else◌}
use Rattle.fio_message.specs.Status.{says_again}
use Rattle.fio_message.specs.declared.answers.Answer.{Answer}
use Rattle.fio_message.specs.declared.answers.Answer.TheVariants.{Block}
use Rattle.fio_check.specs.Checkers.{checker_anywhere, checker_below_breach, checker_with, checker_within, found_by, passes_over}
use Rattle.fio_check.specs.ContentCheckers.{ContentChecking, checking_at_start, checking_with, found_in_frame}
use Rattle.fio_check.specs.ContentFacts.{no_content}
use Rattle.fio_check.specs.ContentSaid.{is_before, stamp_of}
use Rattle.fio_check.specs.Lines.{answer_from}
use Rattle.fio_check.specs.Observations.{observation_in}
use Rattle.fio_check.specs.Places.{is_some_and}
use Rattle.fio_check.specs.declared.checker.Breach.{Breach}
use Rattle.fio_check.specs.declared.checker.Checker.{Checker}
use Rattle.fio_check.specs.declared.checker.Skips.{Skips}
use Rattle.fio_check.specs.declared.checker.Skips.TheVariants.{ToCommand, ToPoll}
use Rattle.fio_check.specs.declared.content.ContentBreach.{ContentBreach}
use Rattle.fio_check.specs.declared.content_rules.ContentRule.{ContentRule}
use Rattle.fio_check.specs.declared.content_rules.ContentRule.TheVariants.{Watchdog}
use Rattle.fio_check.specs.declared.facts.Facts.{Facts}
use Rattle.fio_check.specs.declared.limits.RuleLimits.{RuleLimits}
use Rattle.fio_check.specs.declared.observation.Observation.{Observation}
use Rattle.fio_check.specs.declared.observation.Observation.TheVariants.{Poll}
use Rattle.fio_check.specs.declared.rules.Rule.{Rule}
use Rattle.fio_check.specs.declared.rules.Rule.TheVariants.{Rest}
use Rattle.fio_check.specs.declared.outcome.Excuse.TheVariants.{Load, Unheard}
use Rattle.fio_check.specs.declared.outcome.LogPlace.{LogPlace}
use Rattle.fio_check.specs.declared.outcome.LogPlace.TheVariants.{Cpu}
use Rattle.fio_check.specs.declared.outcome.FrameOutcome.{FrameOutcome}
use Rattle.fio_check.specs.declared.outcome.FrameOutcome.TheVariants.{Kept, Broken, BrokenContent, Excused, Restarted, NotJudged}
use Rattle.fio_check.specs.declared.outcome.Unjudged.{Unjudged}
use Rattle.fio_check.specs.declared.outcome.Unjudged.TheVariants.{AboveCommand, PlaceLost}

-- what a judge keeps
pub record Judging : Type 0 where
  pub checker : Checker
  pub content : ContentChecking
  -- the latest stamp that was judged, but not that of a repeated block
  pub latest : Option ℕ
  -- the latest stamp at the time of the first poll for the block that is due, if that poll was judged and another is above it
  pub asked : Option ℕ
  -- the number of polls below the latest stamp, up to 2
  pub polls : ℕ

-- ---- where it begins

-- a judge above the first line of a log that begins anywhere, of a module with these limits
abbrev pub judging_anywhere : RuleLimits → Judging
judging_anywhere limits = record {
  checker = checker_anywhere limits;
  content = checking_at_start false;
  latest = None;
  asked = None;
  polls = 0;
}

-- a judge above the first line of a log that begins with both ends
abbrev pub judging_begun : RuleLimits → Judging
judging_begun limits = record {
  checker = checker_within limits;
  content = checking_at_start true;
  latest = None;
  asked = None;
  polls = 0;
}

-- ---- where the place is lost

-- a checker of the rules on content that knows nothing of the events above, except the number of loads of the counter that may
-- still take effect
abbrev pub checking_again : ℕ → ContentChecking
checking_again loads = record {
  begun = false;
  kept = record { number = None; facts = record no_content { excuses = loads } };
}

-- the number of loads of the counter that may still take effect: that were sent and have excused no breach yet
abbrev pub loads_left : Judging → ℕ
loads_left judging = judging.content.kept.facts.excuses

-- the checker of the rules on content with another number of loads that may still take effect
abbrev pub with_loads : ℕ → ContentChecking → ContentChecking
with_loads loads content =
    record content { kept = record content.kept { facts = record content.kept.facts { excuses = loads } } }

-- the judge after losing the place: the stamp, if given, is the time of a counter that was set anew, and this number of loads
-- may still take effect
abbrev pub place_lost : Judging → ℕ → Option ℕ → Judging
place_lost judging loads stamp = record {
  checker = checker_below_breach judging.checker.limits;
  content = checking_again loads;
  latest = stamp;
  asked = None;
  polls = 0;
}

-- the checker of transcripts below lost lines: above the first command it goes on skipping what is heard
abbrev pub checker_below_lines : Checker → Skips → Checker
checker_below_lines checker ToCommand = checker
checker_below_lines checker skips = checker_below_breach checker.limits

-- the judge where lines are lost, or where a part of a log ends and another begins: one of the lines may have been a load of
-- the counter
abbrev pub judging_lost : Judging → Judging
judging_lost judging = record judging {
  checker = checker_below_lines judging.checker judging.checker.skips;
  content = with_loads (max 1 (loads_left judging)) judging.content;
}

-- ---- what a frame is

-- the stamp of a frame that is heard, unless it is a repeated block
abbrev pub stamp_in : Bool → List ℕ → Option ℕ
stamp_in from_cpu octets = option_and_then stamp_of (answer_from from_cpu octets)

-- the stamp of an answer, also of a repeated block
abbrev pub any_stamp_of : Answer → Option ℕ
any_stamp_of (Block block entries status stamp) = Some stamp
any_stamp_of answer = stamp_of answer

-- the stamp of a frame that is heard, also of a repeated block
abbrev pub any_stamp_in : Bool → List ℕ → Option ℕ
any_stamp_in from_cpu octets = option_and_then any_stamp_of (answer_from from_cpu octets)

-- The earliest stamp that an answer may have if the counter runs on. A repeated block was made after the first poll for it.
abbrev pub stamp_above : Judging → Answer → Option ℕ
stamp_above judging (Block block entries status stamp) = if says_again status then judging.asked else judging.latest
stamp_above judging answer = judging.latest

-- an answer has an earlier stamp than that
abbrev pub is_answer_set_back : Judging → Answer → Bool
is_answer_set_back judging answer =
    is_some_and (any_stamp_of answer) (λ stamp. is_some_and (stamp_above judging answer) (is_before stamp))

-- a frame is an answer with an earlier stamp than it may have
abbrev pub is_set_back : Judging → Bool → List ℕ → Bool
is_set_back judging from_cpu octets = is_some_and (answer_from from_cpu octets) (is_answer_set_back judging)

-- A poll has the number of the latest poll. If that was answered, the CPU's end may not have heard the answer.
abbrev pub is_asked_again : Facts → Observation → Bool
is_asked_again facts (Poll number) = is_some_and facts.polled (λ polled. number == polled)
is_asked_again facts observation = false

-- whether a log is taken at the CPU's end, so that the CPU's end heard each answer in it
abbrev pub is_at_cpu : LogPlace → Bool
is_at_cpu Cpu = true
is_at_cpu at = false

-- a poll may be right, because the CPU's end did not hear an answer above
abbrev pub is_unheard : Judging → LogPlace → Observation → Bool
is_unheard judging at observation = not (is_at_cpu at) && is_asked_again judging.checker.facts observation

-- the checker of the rules on content above a frame that is judged, by what the checker of transcripts skips: at the poll that
-- ends a lost place it begins anew
abbrev pub checking_above : Judging → Skips → ContentChecking
checking_above judging ToPoll = checking_again (loads_left judging)
checking_above judging skips = judging.content

-- the checker of the rules on content above a frame that the judge judges
abbrev pub content_here : Judging → ContentChecking
content_here judging = checking_above judging judging.checker.skips

-- why a frame is not judged, by what is skipped
abbrev pub unjudged_by : Skips → Unjudged
unjudged_by ToCommand = AboveCommand
unjudged_by skips = PlaceLost

-- A stamp is set back: by a load of the counter, if one may take effect; else the module was restarted.
abbrev pub outcome_set_back : Judging → FrameOutcome
outcome_set_back judging = if nat_lt 0 (loads_left judging) then Excused Load else Restarted

-- Whether a module that was restarted below the latest stamp may have sent an answer that is not set back: a repeated block with an
-- earlier stamp, if its poll was sent twice below the latest one. A module repeats only what it made itself.
abbrev pub may_answer_anew : Judging → Answer → Bool
may_answer_anew judging (Block block entries status stamp) =
    says_again status && nat_le 2 judging.polls && is_some_and judging.latest (is_before stamp)
may_answer_anew judging answer = false

-- whether such a module may have sent a frame
abbrev pub may_be_anew : Judging → Bool → List ℕ → Bool
may_be_anew judging from_cpu octets = is_some_and (answer_from from_cpu octets) (may_answer_anew judging)

-- the rule that compares a block with the one above it
abbrev pub is_of_rest : Rule → Bool
is_of_rest Rest = true
is_of_rest rule = false

-- A rule on content is broken. A breach of the rule on the watchdog means that the module was restarted.
abbrev pub outcome_of_content : ContentBreach → ContentRule → FrameOutcome
outcome_of_content breach Watchdog = Restarted
outcome_of_content breach rule = BrokenContent breach

-- the outcome of a frame with these breaches, by whether it may be right because an answer was not heard
abbrev pub outcome_found : Bool → Option Breach → Option ContentBreach → FrameOutcome
outcome_found true (Some breach) content = Excused Unheard
outcome_found false (Some breach) content = Broken breach
outcome_found unheard None (Some breach) = outcome_of_content breach breach.rule
outcome_found unheard None None = Kept

-- the outcome of a frame that is judged, without a look at its stamp
abbrev pub outcome_judged : Judging → LogPlace → Bool → List ℕ → FrameOutcome
outcome_judged judging at from_cpu octets = outcome_found (is_unheard judging at (observation_in from_cpu octets))
    (found_by judging.checker from_cpu (observation_in from_cpu octets))
    (found_in_frame (content_here judging) from_cpu octets)

-- The outcome of a frame, by whether a module that was restarted may have sent it. If that broke a rule by what is known from above
-- the restart, it shows that there was one.
abbrev pub outcome_anew : Bool → FrameOutcome → FrameOutcome
outcome_anew true (BrokenContent breach) = Restarted
outcome_anew true (Broken breach) = if is_of_rest breach.rule then Restarted else Broken breach
outcome_anew anew outcome = outcome

-- the outcome of a frame logged at this place that the CPU sent or heard
abbrev pub outcome_in : Judging → LogPlace → Bool → List ℕ → FrameOutcome
outcome_in judging at from_cpu octets = if passes_over judging.checker from_cpu (observation_in from_cpu octets)
    then NotJudged (unjudged_by judging.checker.skips)
    else (if is_set_back judging from_cpu octets
    then outcome_set_back judging
    else outcome_anew (may_be_anew judging from_cpu octets) (outcome_judged judging at from_cpu octets))

-- ---- the judge with a frame more

-- the judge after a frame that is not judged: a load of the counter still counts
abbrev pub judging_passed : Judging → Bool → List ℕ → Judging
judging_passed judging true octets = record judging { content = checking_with judging.content true octets }
judging_passed judging false octets = judging

-- the number of loads that are left after a frame: the checker of the rules on content uses one if it excuses what the frame
-- breaks
abbrev pub loads_below : Judging → Bool → List ℕ → ℕ
loads_below judging from_cpu octets = (checking_with judging.content from_cpu octets).kept.facts.excuses

-- The latest stamp at the first poll for the block that is due, after a frame: a poll with another number than the poll above
-- is the first for its block. For a poll without a poll above that is not known.
abbrev pub asked_below : Judging → Observation → Option ℕ
asked_below judging (Poll number) =
    option_and_then (λ polled. if number == polled then judging.asked else judging.latest) judging.checker.facts.polled
asked_below judging observation = judging.asked

-- the number of polls below the latest stamp, after a frame
abbrev pub polls_below : ℕ → Observation → ℕ
polls_below polls (Poll number) = if nat_lt polls 2 then polls + 1 else 2
polls_below polls observation = polls

-- the judge after a frame in which this checker of transcripts finds no breach
abbrev pub judging_taken : Judging → Checker → Bool → List ℕ → Judging
judging_taken judging checker from_cpu octets = record judging {
  checker = checker_with checker from_cpu (observation_in from_cpu octets);
  content = checking_with (content_here judging) from_cpu octets;
  asked = asked_below judging (observation_in from_cpu octets);
  polls = polls_below judging.polls (observation_in from_cpu octets);
}

-- the judge after a stamp, if there is one, that is not set back
abbrev pub judging_at : Judging → Option ℕ → Judging
judging_at judging None = judging
judging_at judging (Some stamp) = record judging { latest = Some stamp; polls = 0 }

-- the judge after a frame that keeps the rules of transcripts
abbrev pub judging_kept : Judging → Bool → List ℕ → Judging
judging_kept judging from_cpu octets =
    judging_at (judging_taken judging judging.checker from_cpu octets) (stamp_in from_cpu octets)

-- the judge after a frame with this outcome
abbrev pub judging_below_outcome : FrameOutcome → Judging → Bool → List ℕ → Judging
judging_below_outcome Kept judging from_cpu octets = judging_kept judging from_cpu octets
judging_below_outcome (BrokenContent breach) judging from_cpu octets = judging_kept judging from_cpu octets
judging_below_outcome (Broken breach) judging from_cpu octets =
    record judging { checker = checker_with judging.checker from_cpu (observation_in from_cpu octets) }
judging_below_outcome (Excused Load) judging from_cpu octets =
    place_lost judging (loads_below judging from_cpu octets) (any_stamp_in from_cpu octets)
-- A checker of transcripts that begins anew takes the poll.
judging_below_outcome (Excused Unheard) judging from_cpu octets =
    judging_taken judging (checker_within judging.checker.limits) from_cpu octets
-- An answer to a watchdog has no stamp, so no latest one is known after it.
judging_below_outcome Restarted judging from_cpu octets =
    place_lost judging (loads_below judging from_cpu octets) (any_stamp_in from_cpu octets)
judging_below_outcome (NotJudged reason) judging from_cpu octets = judging_passed judging from_cpu octets

-- the judge after a frame
abbrev pub judging_with : Judging → LogPlace → Bool → List ℕ → Judging
judging_with judging at from_cpu octets =
    judging_below_outcome (outcome_in judging at from_cpu octets) judging from_cpu octets

-- ---- all lines

-- a line: a frame, where it was logged and whether the CPU sent it; or a mark that lines are lost here
pub data LogLine : Type 0 where
  Frame : (at : LogPlace) → (from_cpu : Bool) → (octets : List ℕ) → LogLine
  Lost : LogLine

-- the judge with a line more
abbrev pub judging_with_line : Judging → LogLine → Judging
judging_with_line judging (Frame at from_cpu octets) = judging_with judging at from_cpu octets
judging_with_line judging Lost = judging_lost judging

-- the judge below lines
abbrev pub judging_below : Judging → List LogLine → Judging
judging_below judging [] = judging
judging_below judging (line ∷ lines) = judging_below (judging_with_line judging line) lines

-- the outcome of a line, if it is a frame
abbrev pub outcome_on : Judging → LogLine → List FrameOutcome
outcome_on judging (Frame at from_cpu octets) = outcome_in judging at from_cpu octets ∷ []
outcome_on judging Lost = []

-- the outcomes of the frames among lines, in order
abbrev pub outcomes_of : Judging → List LogLine → List FrameOutcome
outcomes_of judging [] = []
outcomes_of judging (line ∷ lines) =
    outcome_on judging line ++ outcomes_of (judging_with_line judging line) lines
