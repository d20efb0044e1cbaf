-- The report of a script: a line for each event of its run, and then how the run ended.
use Rattle.std.specs.Prelude.{◌≡◌, ℕ, ◌+◌, Bool, true, false, List, [], ◌∷◌, ◌++◌, Option, Some, None}
use Rattle.fio_module.specs.Settings.{Settings}
use Rattle.fio_link.specs.declared.event.Event.{Event}
use Rattle.fio_link.specs.Link.{Machine, Refusal, start, refusal, after, IsRun}
use Rattle.fio_world.specs.Outcomes.{outcome_of}
use Rattle.fio_world.specs.ReportLines.{outcome_line, refused_line, ending_text}
use Rattle.fio_world.specs.Scripts.{Scenario}

-- a text, and whether it reports no fault
pub record Report : Type 0 where
  pub text : List ℕ
  pub good : Bool

-- a report with this text put in front
abbrev pub after_text : List ℕ → Report → Report
after_text text rest = record { text = text ++ rest.text; good = rest.good }

-- the report from an event on: if the event is refused, its line is the last; otherwise its line is put before what follows
abbrev pub unless_refused : ℕ → Option Refusal → List ℕ → Report → Report
unless_refused number None line rest = after_text line rest
unless_refused number (Some reason) line rest =
    record { text = refused_line number reason; good = false }

-- what is reported of these events from a machine on; the first of them has this number
abbrev pub report_from : Settings → ℕ → ℕ → Machine → List Event → Report
report_from settings first number machine [] =
    record { text = ending_text settings first machine; good = true }
report_from settings first number machine (event ∷ events) =
    unless_refused number (refusal machine event)
    (outcome_line number (outcome_of settings first machine event))
    (report_from settings first (number + 1) (after settings first machine event) events)

-- the report of a script
abbrev pub report_of : Scenario → Report
report_of scenario = report_from scenario.settings scenario.first 1 start scenario.events

-- ---- the law of reports

-- the text ends with these lines
abbrev pub EndsWith : List ℕ → List ℕ → Type 0
EndsWith text lines = (before : List ℕ) × (text ≡ before ++ lines)

-- if all events of a script are done, its report is good and ends with how the run has ended; and a report is good only then
pub record GoodReportIsOfWholeRun (scenario : Scenario) : Type 0 where
  pub good :
      (machine : Machine) → IsRun scenario.settings scenario.first scenario.events machine →
      (report_of scenario).good ≡ true
  pub ending :
      (machine : Machine) → IsRun scenario.settings scenario.first scenario.events machine →
      EndsWith (report_of scenario).text (ending_text scenario.settings scenario.first machine)
  pub run :
      (report_of scenario).good ≡ true →
      (machine : Machine) × IsRun scenario.settings scenario.first scenario.events machine
