-- The verdict on a line of the texts that the program's own tools read: by what the line is, read by order.
use Rattle.std.specs.Prelude.{◌≡◌, ℕ, Bool, true, false, List, [], ◌∷◌, Option, Some, None, length, take}
use Rattle.fio_log.specs.Frames.{Frames}
use Rattle.fio_log.specs.Lines.{Making, Text, is_whole}
use Rattle.fio_log.specs.OwnTexts.{IsOwnLine}
use Rattle.fio_log.specs.Verdicts.{Agrees}
use Rattle.fio_log.specs.declared.own_texts.OwnForm.{OwnForm}
use Rattle.fio_log.specs.declared.own_texts.OwnForm.TheVariants as texts
use Rattle.fio_log.specs.declared.own_texts.OwnLine.{OwnLine}
use Rattle.fio_log.specs.declared.own_texts.OwnLine.TheVariants as lines
use Rattle.fio_log.specs.declared.verdict.Form.{Form}
use Rattle.fio_log.specs.declared.verdict.Form.TheVariants as forms
use Rattle.fio_log.specs.declared.verdict.Kind.{Kind}
use Rattle.fio_log.specs.declared.verdict.Kind.TheVariants as kinds
use Rattle.fio_log.specs.declared.verdict.Reason.{Reason}
use Rattle.fio_log.specs.declared.verdict.Reason.TheVariants as reasons
use Rattle.fio_log.specs.declared.verdict.LineVerdict.{LineVerdict}

-- the text whose lines are read by order
abbrev pub own_form_of : Form → Option OwnForm
own_form_of forms.Auto = None
own_form_of forms.Frames = Some texts.Frames
own_form_of forms.Transcript = Some texts.Transcript

-- The verdict on a line, by what it is, whether it is too long, and what room for the longest frame has of it. A skipped line
-- is blank. One that is too long, is not a line of its text or encodes no message is damaged. A frame is returned alone.
abbrev pub TellsOwn : OwnLine → Bool → List ℕ → Kind → Reason → List (List ℕ) → Type 0
TellsOwn lines.Skipped is_long room kind reason frames =
    (kind ≡ kinds.Blank) × (reason ≡ reasons.None) × (frames ≡ [])
TellsOwn other true room kind reason frames =
    (kind ≡ kinds.Damaged) × (reason ≡ reasons.TooLong) × (frames ≡ [])
TellsOwn lines.Bad false room kind reason frames =
    (kind ≡ kinds.Damaged) × (reason ≡ reasons.BadLine) × (frames ≡ [])
TellsOwn (lines.Faulty count) false room kind reason frames =
    (kind ≡ kinds.Damaged) × (reason ≡ reasons.NoMessage) × (frames ≡ [])
TellsOwn (lines.Frame count) false room kind reason frames =
    (kind ≡ kinds.Frames) × (reason ≡ reasons.None) × (frames ≡ take count room ∷ [])

-- The verdict on a text is what `read_own_line` says of it as a line.
pub record IsOwnVerdict (form : OwnForm) (text : Text) (kind : Kind) (reason : Reason) (frames : List (List ℕ)) : Type 0 where
  pub line : OwnLine
  pub room : List ℕ
  pub read : IsOwnLine form text.octets room line
  pub told : TellsOwn line text.is_long room kind reason frames

-- The line that is made is whole, and what the reader will return of it is its verdict.
pub record IsToldByOrder (form : OwnForm) (making : Making) (told : LineVerdict) (frames : Frames) : Type 0 where
  pub whole : is_whole making.ending ≡ true
  pub verdict : IsOwnVerdict form making.text told.kind told.reason frames.frames
  pub agreed : Agrees told (length frames.frames)
