-- What a verdict says agrees with its frames.
use Rattle.std.specs.Prelude.{◌≡◌, ℕ, ◌==◌, ◌||◌, nat_lt, not, Bool, true, false, Option, Some, None}
use Rattle.fio_log.specs.declared.verdict.Kind.{Kind}
use Rattle.fio_log.specs.declared.verdict.Kind.TheVariants as kinds
use Rattle.fio_log.specs.declared.verdict.Reason.{Reason}
use Rattle.fio_log.specs.declared.verdict.Reason.TheVariants as reasons
use Rattle.fio_log.specs.declared.verdict.LineVerdict.{LineVerdict}

-- whether a line has frames
abbrev pub is_frames : Kind → Bool
is_frames kinds.Frames = true
is_frames _ = false

-- whether a line may have held a frame, but gave none
abbrev pub is_damaged : Kind → Bool
is_damaged kinds.Damaged = true
is_damaged _ = false

-- whether no form has a line that may have held a frame
abbrev pub is_possible : Kind → Bool
is_possible kinds.Possible = true
is_possible _ = false

-- whether a line is none of these, nor blank, nor a part
abbrev pub is_passed_over : Kind → Bool
is_passed_over kinds.PassedOver = true
is_passed_over _ = false

-- whether a line of a kind has this many frames: one or more, or none
abbrev pub has_frames : Kind → ℕ → Bool
has_frames kinds.Frames count = nat_lt 0 count
has_frames _ count = count == 0

-- whether a line of a kind may have a reason
abbrev pub has_reason : Kind → Reason → Bool
has_reason kind reasons.None = not (is_damaged kind || is_possible kind || is_passed_over kind)
has_reason kind reasons.Broken = not (is_damaged kind || is_possible kind)
has_reason kind reasons.NoMessage = is_damaged kind || is_passed_over kind
has_reason kind reasons.NoForm = is_possible kind
has_reason kind reasons.UnreadFrame = is_possible kind
has_reason kind reasons.More = is_frames kind
has_reason kind reasons.TooLong = is_damaged kind
has_reason kind reasons.BadLine = is_damaged kind
has_reason kind _ = is_passed_over kind

-- Kind and reason of a verdict agree, and with this many frames.
pub record Agrees (verdict : LineVerdict) (count : ℕ) : Type 0 where
  pub reason : has_reason verdict.kind verdict.reason ≡ true
  pub frames : has_frames verdict.kind count ≡ true

-- a verdict that waits, if there is one, agrees with this many frames
abbrev pub WaitingAgrees : Option LineVerdict → ℕ → Type 0
WaitingAgrees None count = Unit {0}
WaitingAgrees (Some verdict) count = Agrees verdict count
