-- The verdicts that a reader of logs returns, one after another, and the log that they are of.
use Rattle.std.specs.Prelude.{◌≡◌, ℕ, ◌+◌, true, List, [], ◌∷◌, Some}
use Rattle.std.specs.List.{All}
use Rattle.fio_log.specs.Blanks.{Texts, is_blank_line}
use Rattle.fio_log.specs.Lines.{Text}
use Rattle.fio_log.specs.OwnVerdicts.{IsOwnVerdict, own_form_of}
use Rattle.fio_log.specs.OwnTexts.{spells}
use Rattle.fio_log.specs.Telling.{HasTold, Knows, Telling, frames_of, places_of}
use Rattle.fio_log.specs.Wordings.{SaysWords}
use Rattle.fio_log.specs.declared.own_texts.OwnForm.{OwnForm}
use Rattle.fio_log.specs.declared.places.Place.{Place}
use Rattle.fio_log.specs.declared.verdict.Form.{Form}
use Rattle.fio_log.specs.declared.verdict.Form.TheVariants.{Auto}
use Rattle.fio_log.specs.declared.verdict.Kind.TheVariants.{Blank}
use Rattle.fio_log.specs.declared.verdict.LineVerdict.{LineVerdict}

-- what a reader returns of a line: its verdict, with its frames and their places
pub record Told : Type 0 where
  pub verdict : LineVerdict
  pub frames : List (List ℕ)
  pub places : List Place

-- a verdict with the frames and places that a reader then has
abbrev pub told_by : LineVerdict → Telling → Told
told_by verdict telling =
    record { verdict = verdict; frames = frames_of telling; places = places_of telling }

-- A reader returns the verdict of its next line, and these are its frames and places: each frame encodes a message.
pub record Returns (before : Telling) (one : Told) (after : Telling) : Type 0 where
  pub told : HasTold before one.verdict after
  pub same : one ≡ told_by one.verdict after
  pub spelled : All (λ frame. spells frame ≡ true) one.frames

-- A reader returns these verdicts and no other, each of them before the next one. It may take octets between two of them.
abbrev pub ReturnsAll : Telling → List Told → Telling → Type 0
ReturnsAll first [] last = last.told ≡ first.told
ReturnsAll first (one ∷ more) last =
    (before : Telling) × (after : Telling) × (before.told ≡ first.told) × Returns before one after × ReturnsAll after more last

-- A reader has read a log with these lines: what it keeps of it is right.
pub record HasReadOf (texts : Texts) (telling : Telling) : Type 0 where
  pub knows : Knows texts telling

-- some lines of a log: the next ones after a number of lines
abbrev pub AreLinesAfter : ℕ → Texts → List Text → Type 0
AreLinesAfter above texts [] = Unit {0}
AreLinesAfter above texts (text ∷ more) = (text ≡ texts (above + 1)) × AreLinesAfter (above + 1) texts more

-- A verdict is of a log with these lines: what it says of the words of its line is true, and if it says that the line is blank,
-- it is; or, if lines are read as one of the program's own texts, it is what `read_own_line` says of its line.
pub record IsVerdictOf (texts : Texts) (form : Form) (one : Told) : Type 0 where
  pub words : form ≡ Auto → SaysWords (texts one.verdict.line).octets one.verdict.reason
  pub blank : form ≡ Auto → one.verdict.kind ≡ Blank → is_blank_line (texts one.verdict.line) ≡ true
  pub own : (own : OwnForm) → own_form_of form ≡ Some own
      → IsOwnVerdict own (texts one.verdict.line) one.verdict.kind one.verdict.reason one.frames
