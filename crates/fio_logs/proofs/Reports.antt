-- What the judge of a log is given of a line, by what the line is.
use Rattle.std.proofs.Common.{◌≡◌, ◌∙◌, ◌⊎◌, inl, inr, ℕ, Bool, true, false, List, [], ◌∷◌, ◌++◌, length, Option, Some, None, refl, sym, ap, ap₂, subst, arith}
use Rattle.std.specs.Prelude.{◌==◌, IfSome}
use Rattle.std.specs.List.{AllByRecursion, flat_map}
use Rattle.std.proofs.lemmas.Bool.Decides.{nat_tests}
use Rattle.fio_log.specs.Heard.{is_of_others}
use Rattle.fio_log.specs.LineLogs.{IsToldAs, Message}
use Rattle.fio_log.specs.Verdicts.{has_frames}
use Rattle.fio_log.specs.Wordings.{SaysWords, speaks_of_loss}
use Rattle.fio_log.specs.declared.verdict.Kind.{Kind}
use Rattle.fio_log.specs.declared.verdict.Kind.TheVariants as kinds
use Rattle.fio_log.specs.declared.verdict.Reason.{Reason}
use Rattle.fio_log.specs.declared.verdict.Reason.TheVariants as reasons
use Rattle.fio_check.specs.LineKinds.{events_of_line}
use Rattle.fio_check.specs.LogJudges.{Found, LogEvent}
use Rattle.fio_check.specs.LogJudges as judged
use Rattle.fio_check.specs.declared.line_kind.LogLineKind.{LogLineKind}
use Rattle.fio_check.specs.declared.line_kind.LogLineKind.TheVariants as lines
use Rattle.fio_ends.specs.EventLogs.{BeginsPart, MayHaveHeldFrame, Remark, SaysMessage, SpeaksOfLoss, event_of_remark, found_saying}
use Rattle.fio_ends.specs.Transcripts.{CpuFrame}
use Rattle.fio_logs.specs.ReportedLines.{HasItsFrames, NamesSender, ReportedLine, events_of_reported, events_of_reported_frame, is_from_cpu, is_sent_by, line_kind, passed_kind, unless_broken}
use Rattle.fio_logs.proofs.Senders.{IsOfSender}

-- ---- a line without frames

-- the events are one remark, which speaks of loss only if the line does, or none
abbrev pub Remarks : Bool → List LogEvent → Type 0
Remarks loss events = (events ≡ []) ⊎ ((remark : Remark) × (events ≡ event_of_remark remark ∷ []) × (remark ≡ SpeaksOfLoss → loss ≡ true))

none_if : (frames : List (List ℕ)) → (length frames == 0) ≡ true → frames ≡ []
none_if [] none = refl
none_if (frame ∷ frames) none =
    let empty : length (frame ∷ frames) ≡ 0 = grind (arith, nat_tests, none) in absurd (omega (arith, empty))

without_frames : (kind : Kind) (frames : List (List ℕ)) → is_of_others kind ≡ true → has_frames kind (length frames) ≡ true → frames ≡ []
without_frames kinds.Blank frames other has = none_if frames has
without_frames kinds.Possible frames other has = none_if frames has
without_frames kinds.Damaged frames other has = none_if frames has
without_frames kinds.PassedOver frames other has = none_if frames has
without_frames kinds.Frames frames other has = absurd (cc)
without_frames kinds.Part frames other has = absurd (cc)

lost_here : (loss : Bool) (events : List LogEvent) → events ≡ judged.Lost ∷ [] → Remarks loss events
lost_here loss events are = inr (MayHaveHeldFrame, are, λ is. absurd (cc is))

unless_remarks : (loss : Bool) (reason : Reason) (kind : LogLineKind) → Remarks loss (events_of_line kind)
    → Remarks loss (events_of_line (unless_broken reason kind))
unless_remarks loss reasons.Broken kind remarks = lost_here loss (judged.Lost ∷ []) refl
unless_remarks loss reason kind remarks = remarks

passed_remarks : (octets : List ℕ) (reason : Reason) → SaysWords octets reason → Remarks (speaks_of_loss octets) (events_of_line (passed_kind reason))
passed_remarks octets reasons.Loss says = inr (SpeaksOfLoss, refl, λ is. says.1)
passed_remarks octets reasons.Heading says = inr (BeginsPart, refl, λ is. absurd (cc is))
passed_remarks octets reason says = inl refl

damaged_lost : (reason : Reason) → events_of_line (line_kind kinds.Damaged reason) ≡ judged.Lost ∷ []
damaged_lost reasons.Broken = refl
damaged_lost reasons.TooLong = refl
damaged_lost reason = refl

kind_remarks : (octets : List ℕ) (kind : Kind) (reason : Reason) → is_of_others kind ≡ true → SaysWords octets reason
    → Remarks (speaks_of_loss octets) (events_of_line (line_kind kind reason))
kind_remarks octets kinds.Blank reason other says = unless_remarks (speaks_of_loss octets) reason lines.Other (inl refl)
kind_remarks octets kinds.Possible reason other says =
    unless_remarks (speaks_of_loss octets) reason lines.Possible (inr (SaysMessage, refl, λ is. absurd (cc is)))
kind_remarks octets kinds.Damaged reason other says =
    lost_here (speaks_of_loss octets) (events_of_line (line_kind kinds.Damaged reason)) (damaged_lost reason)
kind_remarks octets kinds.PassedOver reason other says =
    unless_remarks (speaks_of_loss octets) reason (passed_kind reason) (passed_remarks octets reason says)
kind_remarks octets kinds.Frames reason other says = absurd (cc)
kind_remarks octets kinds.Part reason other says = absurd (cc)

alone : (loss : Bool) (events : List LogEvent) → Remarks loss events → Remarks loss (events ++ [])
alone loss events remarks = elim remarks [
  | inl none ↦ inl (ap (λ (o : List LogEvent). o ++ []) none)
  | inr one ↦ inr (one.0, ap (λ (o : List LogEvent). o ++ []) one.1, one.2)
]

-- a line that no form has
pub other_remarks : (as_said : Bool) (line : ReportedLine) (octets : List ℕ) → is_of_others line.told.kind ≡ true → HasItsFrames line
    → SaysWords octets line.told.reason → Remarks (speaks_of_loss octets) (events_of_reported as_said line)
other_remarks as_said line octets other has says =
    let none : line.told.frames ≡ [] = without_frames line.told.kind line.told.frames other has in
    let kind = line_kind line.told.kind line.told.reason in
    subst (λ (frames : List (List ℕ)). Remarks (speaks_of_loss octets) (events_of_line kind ++ flat_map (events_of_reported_frame as_said kind line.named) frames))
    (sym none) (alone (speaks_of_loss octets) (events_of_line kind) (kind_remarks octets line.told.kind line.told.reason other says))

-- a damaged line
pub damaged_events : (as_said : Bool) (line : ReportedLine) → line.told.kind ≡ kinds.Damaged → HasItsFrames line
    → events_of_reported as_said line ≡ judged.Lost ∷ []
damaged_events as_said line damaged has =
    let none : line.told.frames ≡ [] = without_frames line.told.kind line.told.frames (ap is_of_others damaged) has in
    ap₂ (λ (kind : Kind) (frames : List (List ℕ)). events_of_line (line_kind kind line.told.reason)
    ++ flat_map (events_of_reported_frame as_said (line_kind kind line.told.reason) line.named) frames) damaged none
    ∙ ap (λ (events : List LogEvent). events ++ []) (damaged_lost line.told.reason)

-- ---- a message by itself

sent_same : (as_said : Bool) (named : Option Bool) (octets : List ℕ) → (as_said ≡ true → IfSome named (λ by_cpu. by_cpu ≡ is_from_cpu octets))
    → is_sent_by as_said named octets ≡ is_from_cpu octets
sent_same true (Some by_cpu) octets names = names refl
sent_same true None octets names = refl
sent_same false named octets names = refl

pub message_events : (as_said : Bool) (line : ReportedLine) (frame : CpuFrame)
    → IsToldAs (Message frame.octets) line.told.kind line.told.reason line.told.frames → (as_said ≡ true → NamesSender line) → IsOfSender frame
    → events_of_reported as_said line ≡ found_saying line.named frame ∷ []
message_events as_said line frame told names sent =
    let named : as_said ≡ true → IfSome line.named (λ by_cpu. by_cpu ≡ is_from_cpu frame.octets) =
    λ is. (subst (λ (frames : List (List ℕ)). AllByRecursion (λ octets. IfSome line.named (λ by_cpu. by_cpu ≡ is_from_cpu octets)) frames)
    told.2 (names is)).0 in
    ap₂ (λ (kind : LogLineKind) (frames : List (List ℕ)). events_of_line kind ++ flat_map (events_of_reported_frame as_said kind line.named) frames)
    (ap₂ line_kind told.0 told.1) told.2
    ∙ ap (λ (from_cpu : Bool). Found from_cpu line.named frame.octets ∷ []) (sent_same as_said line.named frame.octets named ∙ sent)
