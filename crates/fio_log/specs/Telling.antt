-- What a reader has read of a log, and the lines whose verdicts it has returned.
use Rattle.std.specs.Prelude.{◌≡◌, ℕ, ◌+◌, ◌≤◌, ◌==◌, ◌&&◌, Bool, true, false, if◌then◌else◌, List, [], length}
use Rattle.fio_form.specs.declared.form.LineForm.{LineForm}
use Rattle.fio_rows.specs.Lines.{is_message_open}
use Rattle.fio_log.specs.Blanks.{Texts}
use Rattle.fio_log.specs.Following.{Follows, HasNext, IsDue, TellsOf}
use Rattle.fio_log.specs.Frames.{AreFew, Frames}
use Rattle.fio_log.specs.Heard.{Above}
use Rattle.fio_log.specs.Knowing.{IsLineAt, KnowsLines}
use Rattle.fio_log.specs.Verdicts.{Agrees}
use Rattle.fio_log.specs.Lines.{Making, finished, is_whole, lines_after, only, with_making}
use Rattle.fio_guess.specs.declared.table.TheConstants.{LINES}
use Rattle.fio_log.specs.declared.others.Others.{Others}
use Rattle.fio_log.specs.declared.places.Place.{Place}
use Rattle.fio_log.specs.declared.teller.Teller.{Teller}
use Rattle.fio_log.specs.declared.verdict.Form.{Form}
use Rattle.fio_log.specs.declared.verdict.Form.TheVariants.{Auto}
use Rattle.fio_log.specs.declared.verdict.LineVerdict.{LineVerdict}

-- A reader: how it reads, the line that is being made, how many lines are read, how many verdicts are returned, whether the
-- next one can be returned, and whether the log has ended; the frames of the last verdict; what is kept of the lines without
-- a verdict; and what is counted of messages that this protocol has not.
pub record Telling : Type 0 where
  pub form : Form
  pub making : Making
  pub read : ℕ
  pub told : ℕ
  pub is_ready : Bool
  pub is_ended : Bool
  pub last : Frames
  pub teller : Teller
  pub others : Others

-- the frames of the last verdict
abbrev pub frames_of : Telling → List (List ℕ)
frames_of telling = telling.last.frames

-- the places where they are written
abbrev pub places_of : Telling → List Place
places_of telling = telling.last.places

-- the line that is made, if it is whole, is the last one that is read of a log with these lines
abbrev pub IsTextOf : Texts → Telling → Type 0
IsTextOf texts telling = IsLineAt texts telling.read telling.making

-- What a reader keeps of a log with these lines is right, and it can return a verdict only if it knows the forms.
pub record Knows (texts : Texts) (telling : Telling) : Type 0 where
  pub text : IsTextOf texts telling
  pub kept : telling.form ≡ Auto → KnowsLines texts telling.teller telling.read telling.told
  pub ready : telling.form ≡ Auto → telling.is_ready ≡ true → telling.teller.is_known ≡ true

-- Nothing has changed of what a reader has read and returned.
pub record HasReadAsBefore (before after : Telling) : Type 0 where
  pub form : after.form ≡ before.form
  pub making : after.making ≡ before.making
  pub read : after.read ≡ before.read
  pub told : after.told ≡ before.told
  pub is_ready : after.is_ready ≡ before.is_ready
  pub is_ended : after.is_ended ≡ before.is_ended
  pub last : after.last ≡ before.last

-- whether the log of a reader has ended, and each verdict is returned
abbrev pub has_told_all : Telling → Bool
has_told_all telling = telling.is_ended && telling.told == telling.read

-- how many lines are read: one more if the line is whole
abbrev pub read_after : ℕ → Making → ℕ
read_after read making = if is_whole making.ending then read + 1 else read

-- how many lines are read after the end of a log: one more if the line that is made is open and has octets
abbrev pub read_at_end : ℕ → Making → ℕ
read_at_end read making = if is_whole making.ending then read else read_after read (finished making)

-- A reader has taken octets: they went into the line that is being made, and completed at most one line, which is read.
pub record HasTaken (before : Telling) (octets : List ℕ) (after : Telling) : Type 0 where
  pub lines : lines_after (only before.making) octets ≡ with_making [] after.making
  pub read : after.read ≡ read_after before.read after.making
  pub told : after.told ≡ before.told
  pub form : after.form ≡ before.form
  pub is_ended : after.is_ended ≡ before.is_ended

-- A reader has returned the verdict of the next line.
pub record HasTold (before : Telling) (verdict : LineVerdict) (after : Telling) : Type 0 where
  pub next : verdict.line ≡ before.told + 1
  pub told : after.told ≡ verdict.line
  pub within : after.told ≤ after.read
  pub frames : length (frames_of after) ≡ verdict.frames
  pub places : length (places_of after) ≡ verdict.places
  pub few : AreFew (frames_of after) (places_of after)
  pub agreed : Agrees verdict (length (frames_of after))
  pub form : after.form ≡ before.form
  pub making : after.making ≡ before.making
  pub read : after.read ≡ before.read
  pub is_ended : after.is_ended ≡ before.is_ended

-- A reader has no verdict to return: nothing has changed. No more lines than a window has are without one.
pub record HasNoMore (before after : Telling) : Type 0 where
  pub told : after.told ≡ before.told
  pub form : after.form ≡ before.form
  pub making : after.making ≡ before.making
  pub read : after.read ≡ before.read
  pub is_ended : after.is_ended ≡ before.is_ended
  pub is_ready : after.is_ready ≡ false
  pub last : after.last ≡ before.last
  pub waiting : after.read ≤ after.told + LINES

-- A verdict that can be returned stays as it was, and so do the frames of the last one.
pub record KeepsVerdict (before after : Telling) : Type 0 where
  pub is_ready : after.is_ready ≡ before.is_ready
  pub told : after.told ≡ before.told
  pub last : after.last ≡ before.last

-- the forms by which a reader has heard the next line
abbrev pub forms_of : Telling → List LineForm
forms_of telling = telling.teller.by_forms.forms

-- A reader follows a log with these lines, below what is known of the lines with verdicts: what it has heard of the next line is what
-- its forms say.
pub record Stands (texts : Texts) (above : Above) (telling : Telling) : Type 0 where
  pub follows : telling.form ≡ Auto
      → Follows texts above telling.teller telling.making (frames_of telling) telling.read telling.told
  pub next : telling.form ≡ Auto → HasNext telling.teller telling.read telling.told
  pub due : telling.form ≡ Auto → telling.is_ready ≡ true → telling.is_ended ≡ false → IsDue telling.teller telling.read telling.told

-- A reader begins a log, with no open message.
pub record BeginsLog (telling : Telling) : Type 0 where
  pub above : Above
  pub closed : is_message_open above.state.pending ≡ false
  pub stands : (texts : Texts) → Stands texts above telling

-- A verdict reports the next line by the forms of a reader, which then follows the log below that line. The last line of a log that
-- has ended is reported with what ends there.
pub record HasToldLine (texts : Texts) (above : Above) (before : Telling) (verdict : LineVerdict) (after : Telling) : Type 0 where
  pub below : Above
  pub tells : TellsOf (before.is_ended && verdict.line == before.read) (forms_of before) (texts verdict.line) (texts (verdict.line + 1))
      above verdict.kind verdict.reason (frames_of after) below
  pub stands : Stands texts below after
