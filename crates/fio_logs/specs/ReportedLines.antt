-- What the judge of a log is given of the lines that a reader of logs reports.
use Rattle.std.specs.Prelude.{◌≡◌, ℕ, nat_lt, Bool, true, false, List, [], ◌∷◌, ◌++◌, ◌+◌, length, map, Option, Some, IfSome, slice_get, unwrap_or}
use Rattle.std.specs.List.{AllByRecursion, flat_map}
use Rattle.fio_message.specs.declared.types.TheConstants.{ANSWER}
use Rattle.fio_rows.specs.Lines.{is_message_open}
use Rattle.fio_log.specs.Blanks.{Texts}
use Rattle.fio_log.specs.Heard.{Above}
use Rattle.fio_log.specs.LineLogs.{AreSuchLines, AreToldInTurn, ToldLine}
use Rattle.fio_log.specs.Verdicts.{has_frames}
use Rattle.fio_log.specs.Wordings.{SaysWords}
use Rattle.fio_log.specs.declared.verdict.Kind.{Kind}
use Rattle.fio_log.specs.declared.verdict.Kind.TheVariants as kinds
use Rattle.fio_log.specs.declared.verdict.Reason.{Reason}
use Rattle.fio_log.specs.declared.verdict.Reason.TheVariants as reasons
use Rattle.fio_check.specs.LineKinds.{events_below_frame, events_of_line}
use Rattle.fio_check.specs.LogJudges.{Found, LogEvent}
use Rattle.fio_check.specs.declared.line_kind.LogLineKind.{LogLineKind}
use Rattle.fio_check.specs.declared.line_kind.LogLineKind.TheVariants as lines

-- ---- what a line is to the judge, by its kind and its reason

-- a line at which a message above breaks off, or one of another kind
abbrev pub unless_broken : Reason → LogLineKind → LogLineKind
unless_broken reasons.Broken kind = lines.BreakingOff
unless_broken reason kind = kind

-- a line with frames, by what is beside them
abbrev pub frames_kind : Reason → LogLineKind
frames_kind reasons.None = lines.Frames
frames_kind reason = lines.FramesAndMore

-- a damaged line
abbrev pub damaged_kind : Reason → LogLineKind
damaged_kind reasons.TooLong = lines.TooLong
damaged_kind reason = lines.Damaged

-- a line that is passed over
abbrev pub passed_kind : Reason → LogLineKind
passed_kind reasons.Loss = lines.Loss
passed_kind reasons.Heading = lines.Heading
passed_kind reason = lines.Other

-- any line
abbrev pub line_kind : Kind → Reason → LogLineKind
line_kind kinds.Frames reason = frames_kind reason
line_kind kinds.Blank reason = unless_broken reason lines.Other
line_kind kinds.Part reason = unless_broken reason lines.Other
line_kind kinds.Possible reason = unless_broken reason lines.Possible
line_kind kinds.Damaged reason = unless_broken reason (damaged_kind reason)
line_kind kinds.PassedOver reason = unless_broken reason (passed_kind reason)

-- ---- what a line is to it

-- a line that a reader reports, and whether it names the CPU's end as the sender, if it names one
pub record ReportedLine : Type 0 where
  pub told : ToldLine
  pub named : Option Bool

-- whether the CPU's end sends frames of this type
abbrev pub is_from_cpu : List ℕ → Bool
is_from_cpu octets = nat_lt (unwrap_or (slice_get octets 0) 0) ANSWER

-- whether it sent a frame: by its line, if it counts whom lines name and this one names an end; else by its type
abbrev pub is_sent_by : Bool → Option Bool → List ℕ → Bool
is_sent_by true (Some by_cpu) octets = by_cpu
is_sent_by as_said named octets = is_from_cpu octets

-- the events that a frame of a line is
abbrev pub events_of_reported_frame : Bool → LogLineKind → Option Bool → List ℕ → List LogEvent
events_of_reported_frame as_said kind named octets = Found (is_sent_by as_said named octets) named octets ∷ events_below_frame kind

-- the events that a line is
abbrev pub events_of_reported : Bool → ReportedLine → List LogEvent
events_of_reported as_said line =
    events_of_line (line_kind line.told.kind line.told.reason)
    ++ flat_map (events_of_reported_frame as_said (line_kind line.told.kind line.told.reason) line.named) line.told.frames

-- ---- lines of a log that a reader reports

-- the lines, without whom they name
abbrev pub lines_told : List ReportedLine → List ToldLine
lines_told lines = map (λ line. line.told) lines

-- a line has frames if its kind says so, and only then
abbrev pub HasItsFrames : ReportedLine → Type 0
HasItsFrames line = has_frames line.told.kind (length line.told.frames) ≡ true

-- a line names no other sender than the one that sends frames of their types
abbrev pub NamesSender : ReportedLine → Type 0
NamesSender line = AllByRecursion (λ octets. IfSome line.named (λ by_cpu. by_cpu ≡ is_from_cpu octets)) line.told.frames

-- the reasons of the next lines are true of their texts
abbrev pub HaveTrueReasons : Texts → ℕ → List ReportedLine → Type 0
HaveTrueReasons texts told [] = Unit {0}
HaveTrueReasons texts told (line ∷ lines) = SaysWords (texts (told + 1)).octets line.told.reason × HaveTrueReasons texts (told + 1) lines

-- Lines of a log, the next ones after a number of lines, are written in forms of one line, and a reader that knows these forms reports
-- them: `line`, `agreed` of `told`, and `words` of `Reader::verdict` ensure it of each verdict. No message is open above them. If it
-- counts whom lines name, none names another sender.
pub record AreReported (as_said : Bool) (texts : Texts) (told : ℕ) (above : Above) (lines : List ReportedLine) : Type 0 where
  pub closed : is_message_open above.state.pending ≡ false
  pub such : AreSuchLines texts told (lines_told lines)
  pub in_turn : AreToldInTurn texts told above (lines_told lines)
  pub frames : AllByRecursion HasItsFrames lines
  pub words : HaveTrueReasons texts told lines
  pub senders : as_said ≡ true → AllByRecursion NamesSender lines
