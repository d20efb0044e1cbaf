-- The verdicts that a reader returns of the lines of a right link: the judge of a log accuses neither end by them.
use Rattle.std.specs.Prelude.{◌≡◌, ℕ, ◌+◌, ◌==◌, ◌&&◌, Bool, true, false, List, [], ◌∷◌, map, Option, None}
use Rattle.std.specs.List.{AllByRecursion, flat_map}
use Rattle.fio_module.specs.Settings.{Settings}
use Rattle.fio_rows.specs.Lines.{is_message_open}
use Rattle.fio_log.specs.Blanks.{Texts}
use Rattle.fio_log.specs.Heard.{Above}
use Rattle.fio_log.specs.LineLogs.{AreSuchLines, LineIs}
use Rattle.fio_log.specs.Telling.{HasTold, HasToldLine, Telling, forms_of, frames_of}
use Rattle.fio_log.specs.Wordings.{SaysWords}
use Rattle.fio_log.specs.declared.verdict.LineVerdict.{LineVerdict}
use Rattle.fio_check.specs.LogJudges.{late_starting, log_starting, outcomes_in_log}
use Rattle.fio_check.specs.declared.limits.RuleLimits.{RuleLimits}
use Rattle.fio_check.specs.declared.log_judge.LogStart.{LogStart}
use Rattle.fio_check.specs.declared.outcome.LogPlace.{LogPlace}
use Rattle.fio_link.specs.declared.event.Event.{Event}
use Rattle.fio_link.specs.Link.{Machine}
use Rattle.fio_ends.specs.EventLogs.{AccusesNeitherInLog, starts_begun}
use Rattle.fio_logs.specs.ReportedLines.{NamesSender, ReportedLine, events_of_reported, lines_told}
use Rattle.fio_logs.specs.WrittenLogs.{IsLineLog, LineStep, lines_from, written_lines}

-- a verdict that a reader returns of a line; what the line is; and whether it names the CPU's end as the sender, if it names one
pub record ReturnedVerdict : Type 0 where
  pub is : LineIs
  pub named : Option Bool
  pub before : Telling
  pub verdict : LineVerdict
  pub after : Telling

-- the line that it reports
abbrev pub line_returned : ReturnedVerdict → ReportedLine
line_returned one = record {
  told = record {
    is = one.is;
    forms = forms_of one.before;
    kind = one.verdict.kind;
    reason = one.verdict.reason;
    frames = frames_of one.after;
  };
  named = one.named;
}

-- the lines that verdicts report
abbrev pub lines_returned : List ReturnedVerdict → List ReportedLine
lines_returned verdicts = map line_returned verdicts

-- Each verdict is of the next line, after a number of lines, and what `Reader::verdict` ensures of it holds (`told`, `line`, `words`).
-- None is of the last line of a log that has ended.
abbrev pub AreReturned : Texts → ℕ → Above → List ReturnedVerdict → Type 0
AreReturned texts told above [] = Unit {0}
AreReturned texts told above (one ∷ verdicts) =
    (line : HasToldLine texts above one.before one.verdict one.after)
    × HasTold one.before one.verdict one.after
    × SaysWords (texts one.verdict.line).octets one.verdict.reason
    × (one.verdict.line ≡ told + 1)
    × ((one.before.is_ended && one.verdict.line == one.before.read) ≡ false)
    × AreReturned texts (told + 1) line.below verdicts

-- From the verdicts of a reader to outcomes: of the verdicts that it returns of the lines of a right link, in forms that it has, the
-- judge of a log accuses neither end, wherever the log was taken. It leaves no late answers out.
unfoldable pub VerdictsAccuseNone : Type 0
VerdictsAccuseNone =
    (as_said : Bool) (texts : Texts) (told : ℕ) (above : Above) (verdicts : List ReturnedVerdict) (place : Option LogPlace) (starts : LogStart)
    (settings : Settings) (limits : RuleLimits) (first : ℕ) (before : List Event) (steps : List LineStep) (machine last : Machine) →
    late_starting starts ≡ None → IsLineLog (starts_begun starts) settings limits first before steps machine last →
    is_message_open above.state.pending ≡ false → AreReturned texts told above verdicts →
    AreSuchLines texts told (lines_told (lines_returned verdicts)) →
    (as_said ≡ true → AllByRecursion NamesSender (lines_returned verdicts)) →
    written_lines texts told (lines_returned verdicts) ≡ lines_from settings first machine steps →
    AllByRecursion AccusesNeitherInLog
    (outcomes_in_log (log_starting limits place starts) (flat_map (events_of_reported as_said) (lines_returned verdicts)))
