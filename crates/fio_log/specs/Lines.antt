-- Lines of a log, octet by octet, without byte order marks, NULs by themselves and colour sequences.
use Rattle.std.specs.Prelude.{◌≡◌, ℕ, ◌==◌, ◌||◌, Bool, true, false, nat_lt, if◌then◌else◌, List, [], ◌∷◌, ◌++◌, length, fold}
use Rattle.fio_log.specs.Digits.{is_between}
use Rattle.fio_log.specs.declared.lines.Held.{Held}
use Rattle.fio_log.specs.declared.lines.Held.TheVariants.{Nothing, Nul, Escape, Colour, Mark, SecondMark}
use Rattle.fio_log.specs.declared.lines.LineEnding.{LineEnding}
use Rattle.fio_log.specs.declared.lines.LineEnding.TheVariants.{Open, Feed, Return}
use Rattle.fio_log.specs.declared.lines.TheConstants.{LINE_OCTETS}

-- the octets of a line, at most 65,536, and whether it has more
pub record Text : Type 0 where
  pub octets : List ℕ
  pub is_long : Bool

-- a text without octets
abbrev pub no_text : Text
no_text = record { octets = []; is_long = false }

-- a text with one octet more
abbrev pub pushed : Text → ℕ → Text
pushed text octet =
    if nat_lt (length text.octets) LINE_OCTETS
    then record { octets = text.octets ++ octet ∷ []; is_long = text.is_long }
    else record { octets = text.octets; is_long = true }

-- a text with several octets more
abbrev pub with_all : Text → List ℕ → Text
with_all text octets = fold pushed text octets

-- The octets that begin what may be taken out: ESC is 27, a byte order mark is 239 187 191.
abbrev pub held_octets : Held → List ℕ
held_octets Escape = 27 ∷ []
held_octets Mark = 239 ∷ []
held_octets SecondMark = 239 ∷ 187 ∷ []
held_octets _ = []

-- whether an octet continues what is held; `[` is 91, and a NUL goes on with others
abbrev pub goes_on_held : Held → ℕ → Bool
goes_on_held Nothing octet = false
goes_on_held Nul octet = octet == 0
goes_on_held Escape octet = octet == 91
goes_on_held Colour octet = true
goes_on_held Mark octet = octet == 187
goes_on_held SecondMark octet = octet == 191

-- what is held after that octet: a colour sequence ends with a letter
abbrev pub held_next : Held → ℕ → Held
held_next Nul octet = Nul
held_next Escape octet = Colour
held_next Colour octet = if is_between 65 90 octet || is_between 97 122 octet then Nothing else Colour
held_next Mark octet = SecondMark
held_next _ octet = Nothing

-- what the line gets in place of what is held, if an octet continues it: each NUL after a NUL
abbrev pub held_text : Held → List ℕ
held_text Nul = 0 ∷ []
held_text other = []

-- what an octet by itself begins
abbrev pub held_first : ℕ → Held
held_first octet =
    if octet == 0 then Nul
    else (if octet == 27 then Escape else (if octet == 239 then Mark else Nothing))

-- whether an octet is printable: it adds itself to a line, does not end it, and begins nothing that may be taken out
abbrev pub is_plain : ℕ → Bool
is_plain octet = is_between 32 126 octet

-- what an octet by itself adds to the line
abbrev pub own_text : ℕ → List ℕ
own_text octet = if octet == 0 || octet == 27 || octet == 239 then [] else octet ∷ []

-- A line that is being made: its text, the octets that are held, and its ending.
pub record Making : Type 0 where
  pub text : Text
  pub held : Held
  pub ending : LineEnding

-- a line that has not ended and holds no octets back
abbrev pub open_line : Text → Making
open_line text = record { text = text; held = Nothing; ending = Open }

-- a line that has not begun
abbrev pub no_line : Making
no_line = open_line no_text

-- a line that is whole
abbrev pub ended : Making → LineEnding → Making
ended making ending =
    record { text = with_all making.text (held_octets making.held); held = Nothing; ending = ending }

-- a line with one octet more that does not end it
abbrev pub with_character : Making → ℕ → Making
with_character making octet =
    if goes_on_held making.held octet
    then record {
      text = with_all making.text (held_text making.held);
      held = held_next making.held octet;
      ending = Open;
    }
    else record {
      text = with_all (with_all making.text (held_octets making.held)) (own_text octet);
      held = held_first octet;
      ending = Open;
    }

-- a line with one octet more: LF is 10, CR is 13
abbrev pub with_line_octet : Making → ℕ → Making
with_line_octet making octet =
    if octet == 10 then ended making Feed
    else (if octet == 13 then ended making Return else with_character making octet)

-- One octet more: after a whole line the next one begins, and LF directly after CR is part of the ending.
abbrev pub with_octet_after : LineEnding → Making → ℕ → Making
with_octet_after Open making octet = with_line_octet making octet
with_octet_after Feed making octet = with_line_octet no_line octet
with_octet_after Return making octet = if octet == 10 then no_line else with_line_octet no_line octet

-- a line with one octet more
abbrev pub with_octet_made : Making → ℕ → Making
with_octet_made making octet = with_octet_after making.ending making octet

-- whether a line with this ending is whole
abbrev pub is_whole : LineEnding → Bool
is_whole Open = false
is_whole other = true

-- the last line of a text: it ends here if it is open and has octets, of which a NUL is none, and stays as it is if it is whole
abbrev pub finished_by : LineEnding → List ℕ → Held → Making → Making
finished_by Open [] Nothing making = no_line
finished_by Open [] Nul making = no_line
finished_by Open octets held making = ended making Feed
finished_by other octets held making = making

-- the line after the end of the text
abbrev pub finished : Making → Making
finished making = finished_by making.ending making.text.octets making.held making

-- The lines that are whole, and the one that is being made.
pub record Lines : Type 0 where
  pub whole : List Text
  pub making : Making

-- lines with a new last one: if it is whole, it joins the whole ones
abbrev pub with_making : List Text → Making → Lines
with_making whole making = record {
  whole = if is_whole making.ending then whole ++ making.text ∷ [] else whole;
  making = making;
}

-- lines with one octet more
abbrev pub with_octet_of : Lines → ℕ → Lines
with_octet_of lines octet = with_making lines.whole (with_octet_made lines.making octet)

-- the lines after some octets
abbrev pub lines_after : Lines → List ℕ → Lines
lines_after lines octets = fold with_octet_of lines octets

-- no whole line, and one that is being made
abbrev pub only : Making → Lines
only making = record { whole = []; making = making }

-- The lines do not depend on where the octets are cut into pieces.
abbrev pub IsCutAnywhere : Lines → List ℕ → List ℕ → Type 0
IsCutAnywhere lines octets more = lines_after lines (octets ++ more) ≡ lines_after (lines_after lines octets) more
