-- What is known of a log: some of its lines, and what the verdict that waits says of its line.
use Rattle.std.specs.Prelude.{◌≡◌, ℕ, ◌+◌, ◌<◌, true, false, List, [], length, slice_index_or, IfSome}
use Rattle.fio_log.specs.Blanks.{Texts, is_blank_line}
use Rattle.fio_log.specs.Lines.{Making, Text, is_whole}
use Rattle.fio_log.specs.Wordings.{SaysWords}
use Rattle.fio_log.specs.declared.teller.Teller.{Teller}
use Rattle.fio_log.specs.declared.verdict.Kind.TheVariants.{Blank}
use Rattle.fio_log.specs.declared.verdict.LineVerdict.{LineVerdict}

-- this many lines of a log, from a first one on, are these, and none of them is long
abbrev pub AreLinesFrom : Texts → ℕ → ℕ → List (List ℕ) → Type 0
AreLinesFrom texts first count lines =
    (at : ℕ) → at < count → texts (first + at) ≡ record { octets = slice_index_or lines at []; is_long = false }

-- the line that is made, if it is whole, is the one with this number
abbrev pub IsLineAt : Texts → ℕ → Making → Type 0
IsLineAt texts number making = is_whole making.ending ≡ true → making.text ≡ texts number

-- What a verdict says of the words of its line is true, and if it says that the line is blank, it is.
pub record SaysOf (text : Text) (verdict : LineVerdict) : Type 0 where
  pub words : SaysWords text.octets verdict.reason
  pub blank : verdict.kind ≡ Blank → is_blank_line text ≡ true

-- while the lines of the window have their verdicts, they are lines of the log
abbrev pub HasWindowOf : Texts → Teller → Type 0
HasWindowOf texts teller = 0 < teller.first → AreLinesFrom texts teller.first teller.lines teller.learning.window

-- The window has each line without a verdict.
pub record HasAllOf (texts : Texts) (teller : Teller) (read told : ℕ) : Type 0 where
  pub none : teller.first ≡ 0
  pub all : told + length teller.learning.window ≡ read
  pub lines : AreLinesFrom texts (told + 1) (length teller.learning.window) teller.learning.window

-- What a teller keeps of a log is right: the lines of its window, which has all of them while the forms are not known, and what
-- the verdict that waits says of its line.
pub record KnowsLines (texts : Texts) (teller : Teller) (read told : ℕ) : Type 0 where
  pub window : HasWindowOf texts teller
  pub filling : teller.is_known ≡ false → HasAllOf texts teller read told
  pub waiting : IfSome teller.waiting (λ verdict. SaysOf (texts (told + 1)) verdict)
