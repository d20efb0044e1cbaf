-- What a logger of a form writes.
use Rattle.std.specs.Prelude.{ℕ, ◌+◌, ◌-◌, ◌*◌, ◌<◌, ◌≡◌, ◌≢◌, ◌⊎◌, Bool, true, false, not, ◌&&◌, nat_lt, List, [], ◌∷◌, ◌++◌, Option, Some, None, length, map}
use Rattle.std.specs.List.{AllByRecursion}
use Rattle.fio_form.specs.Forms.{has_spelling, hex_value, is_space_or_tab, is_decimal, is_hex, is_quotation}
use Rattle.fio_form.specs.Fronts.{has_value}
use Rattle.fio_form.specs.Octets.{makes_longer}
use Rattle.fio_form.specs.Messages.{is_message}
use Rattle.fio_form.specs.Reading.{LineSaid, Frame, Other, ends_in_form, is_bare, octets_by, said_in_octets}
use Rattle.fio_form.specs.declared.form.LineForm.{LineForm}
use Rattle.fio_form.specs.declared.form.Piece.{Piece}
use Rattle.fio_form.specs.declared.form.Piece.TheVariants.{Character, Decimal, Hexadecimal, Blanks, Padded, Quote, Value}
use Rattle.fio_form.specs.declared.form.Digits.{Digits}
use Rattle.fio_form.specs.declared.form.Digits.TheVariants as digits
use Rattle.fio_form.specs.declared.form.Step.{Step}
use Rattle.fio_form.specs.declared.form.Step.TheVariants.{Octet, Mark}

-- some characters, of which each passes a test
abbrev pub AreSome : (ℕ → Bool) → List ℕ → Type 0
AreSome test text = (text ≢ []) × AllByRecursion (λ character. test character ≡ true) text

-- ---- The front

-- a hexadecimal number after blanks or none
pub record IsPadded (text : List ℕ) : Type 0 where
  pub blanks : List ℕ
  pub number : List ℕ
  pub all : AllByRecursion (λ character. is_space_or_tab character ≡ true) blanks
  pub is : AreSome is_hex number
  pub whole : text ≡ blanks ++ number

-- a quote
abbrev pub IsQuote : List ℕ → Type 0
IsQuote [] = ⊥
IsQuote (quote ∷ []) = is_quotation quote ≡ true
IsQuote (quote ∷ more ∷ text) = ⊥

-- a text that a piece may have
abbrev pub IsPiece : List ℕ → Piece → List ℕ → Type 0
IsPiece values (Character mark) text = text ≡ mark ∷ []
IsPiece values Decimal text = AreSome is_decimal text
IsPiece values Hexadecimal text = AreSome is_hex text
IsPiece values Blanks text = AreSome is_space_or_tab text
IsPiece values Padded text = IsPadded text
IsPiece values Quote text = IsQuote text
IsPiece values Value text = AreSome is_hex text × (has_value values text ≡ true)

-- a text for each piece of a front
abbrev pub AreFrontTexts : List ℕ → List Piece → List (List ℕ) → Type 0
AreFrontTexts values [] [] = Unit {0}
AreFrontTexts values [] (text ∷ texts) = ⊥
AreFrontTexts values (piece ∷ front) [] = ⊥
AreFrontTexts values (piece ∷ front) (text ∷ texts) = IsPiece values piece text × AreFrontTexts values front texts

-- some texts, one after the other
abbrev pub joined : List (List ℕ) → List ℕ
joined [] = []
joined (text ∷ texts) = text ++ joined texts

-- ---- The octets

-- the number that decimal digits are, after a value
abbrev pub decimal_value : ℕ → List ℕ → ℕ
decimal_value value [] = value
decimal_value value (digit ∷ digits) = decimal_value (10 * value + (digit - 48)) digits

-- the number that digits are in a base, after a value
abbrev pub value_in_base : ℕ → ℕ → List ℕ → ℕ
value_in_base base value [] = value
value_in_base base value (digit ∷ digits) = value_in_base base (base * value + hex_value digit) digits

-- this many digits in a base, which are an octet
abbrev pub IsFixedText : ℕ → ℕ → ℕ → List ℕ → Type 0
IsFixedText base width octet text = (length text ≡ width) × AllByRecursion (λ digit. nat_lt (hex_value digit) base ≡ true) text
    × (octet ≡ value_in_base base 0 text) × (octet < 256)

-- a decimal number below 256
abbrev pub IsNumberText : ℕ → List ℕ → Type 0
IsNumberText octet text = AreSome is_decimal text × (octet ≡ decimal_value 0 text) × (octet < 256)

-- A decimal number from -1 down to -128, without its sign: an octet above 127 of a type with a sign. As `74` of `-74` for 182.
abbrev pub IsNegativeText : ℕ → List ℕ → Type 0
IsNegativeText octet text = AreSome is_decimal text × (octet ≡ 256 - decimal_value 0 text) × (0 < decimal_value 0 text) × (decimal_value 0 text < 129)

-- a decimal number, or one below 0
abbrev pub IsDecimalText : ℕ → List ℕ → Type 0
IsDecimalText octet [] = ⊥
IsDecimalText octet (first ∷ text) = IsNumberText octet (first ∷ text) ⊎ ((first ≡ 45) × IsNegativeText octet text)

-- a decimal number after blanks or none
pub record IsColumnText (octet : ℕ) (text : List ℕ) : Type 0 where
  pub blanks : List ℕ
  pub number : List ℕ
  pub all : AllByRecursion (λ blank. blank ≡ 32) blanks
  pub is : IsNumberText octet number
  pub whole : text ≡ blanks ++ number

-- a text that an octet may have: two hexadecimal digits, in either case; three octal or eight binary ones; or a decimal number
abbrev pub IsOctetText : Digits → ℕ → List ℕ → Type 0
IsOctetText digits.Pairs octet text = IsFixedText 16 2 octet text
IsOctetText digits.Octal octet text = IsFixedText 8 3 octet text
IsOctetText digits.Binary octet text = IsFixedText 2 8 octet text
IsOctetText digits.Decimal octet text = IsDecimalText octet text
IsOctetText digits.Columns octet text = IsColumnText octet text
IsOctetText _ octet text = ⊥

-- a text for each octet
abbrev pub AreOctetTexts : Digits → List ℕ → List (List ℕ) → Type 0
AreOctetTexts digits [] [] = Unit {0}
AreOctetTexts digits [] (text ∷ texts) = ⊥
AreOctetTexts digits (octet ∷ octets) [] = ⊥
AreOctetTexts digits (octet ∷ octets) (text ∷ texts) = IsOctetText digits octet text × AreOctetTexts digits octets texts

-- What is after each octet and before the next one, in turn: `first`, the others, and again. As `", 0x"`; or seven times one
-- blank, and two.
abbrev pub cycle_of : List (List ℕ) → List Step
cycle_of [] = []
cycle_of (gap ∷ gaps) = Octet ∷ (map Mark gap ++ cycle_of gaps)

-- octets after others, by the gaps that are left
abbrev pub more_text : List ℕ → List (List ℕ) → List (List ℕ) → List (List ℕ) → List ℕ
more_text first others gaps [] = []
more_text first others [] (text ∷ texts) = first ++ (text ++ more_text first others others texts)
more_text first others (gap ∷ gaps) (text ∷ texts) = gap ++ (text ++ more_text first others gaps texts)

-- what would be before one more octet
abbrev pub next_gap : List ℕ → List (List ℕ) → List (List ℕ) → List (List ℕ) → List ℕ
next_gap first others [] [] = first
next_gap first others (gap ∷ gaps) [] = gap
next_gap first others [] (text ∷ texts) = next_gap first others others texts
next_gap first others (gap ∷ gaps) (text ∷ texts) = next_gap first others gaps texts

-- a text begins with a gap and an octet
pub record BeginsOctet (digits : Digits) (gap text : List ℕ) : Type 0 where
  pub octet : ℕ
  pub written : List ℕ
  pub rest : List ℕ
  pub is : IsOctetText digits octet written
  pub apart : makes_longer digits rest ≡ false
  pub whole : text ≡ gap ++ (written ++ rest)

-- ---- The line

-- Whether lines of a form are defined by what is written: a text for each octet and for what is between them. Else (literals,
-- cells, base64 and short hexadecimal numbers; a blank that may be missing; a front that may begin anywhere; words whose octets
-- are exchanged) they are defined by what each character does.
abbrev pub is_spelled : LineForm → Bool
is_spelled form = has_spelling form.digits form.cycle.items && (not form.is_anywhere && not form.is_swapped)

-- one of two, by a test
abbrev pub OneOf : Bool → Type 0 → Type 0 → Type 0
OneOf true A B = A
OneOf false A B = B

-- These are the octets that a form has in a line: the line is a text for each piece of the front, a text for each octet with
-- the gaps between them in turn, and a tail that does not go on with a gap and an octet.
pub record AreSpelledIn (form : LineForm) (octets line : List ℕ) : Type 0 where
  pub front : List (List ℕ)
  pub first : List ℕ
  pub others : List (List ℕ)
  pub initial : List ℕ
  pub texts : List (List ℕ)
  pub tail : List ℕ
  pub pieces : AreFrontTexts form.values.items form.front.items front
  pub gaps : form.cycle.items ≡ cycle_of (first ∷ others)
  pub spelled : AreOctetTexts form.digits octets (initial ∷ texts)
  pub ends : BeginsOctet form.digits (next_gap first others [] texts) tail → ⊥
  pub apart : makes_longer form.digits tail ≡ false
  pub whole : line ≡ joined front ++ (initial ++ (more_text first others [] texts ++ tail))

-- These are the octets that a form has in a line, by what each character does.
pub record AreFoundIn (form : LineForm) (octets line : List ℕ) : Type 0 where
  pub some : octets ≢ []
  pub is : octets_by form line ≡ octets

-- these are the octets that a form has in a line
abbrev pub AreOctetsIn : LineForm → List ℕ → List ℕ → Type 0
AreOctetsIn form octets line = OneOf (is_spelled form) (AreSpelledIn form octets line) (AreFoundIn form octets line)

-- a form has a line: it has octets there
pub record Has (form : LineForm) (line : List ℕ) : Type 0 where
  pub octets : List ℕ
  pub run : AreOctetsIn form octets line

-- A logger of a form writes a line of a message: its octets are some that are before the message by the form, the message, and
-- some after it.
pub record IsBareLine (form : LineForm) (message line : List ℕ) : Type 0 where
  pub header : List ℕ
  pub check : List ℕ
  pub run : AreOctetsIn form (header ++ (message ++ check)) line
  pub before : length header ≡ form.before
  pub after : length check ≡ form.after
  pub encodes : is_message message ≡ true

-- The octets of a line are a frame of the wire, or words with a 0 too many, and say this message.
pub record IsWrappedLine (form : LineForm) (message line : List ℕ) : Type 0 where
  pub octets : List ℕ
  pub run : AreOctetsIn form octets line
  pub said : said_in_octets form octets ≡ Frame message

-- a logger of a form writes a line of a message
abbrev pub IsWrittenLine : LineForm → List ℕ → List ℕ → Type 0
IsWrittenLine form message line = OneOf (is_bare form) (IsBareLine form message line) (IsWrappedLine form message line)

-- the first of some forms that has the line writes it of a message
pub record IsWrittenBy (forms : List LineForm) (message line : List ℕ) : Type 0 where
  pub above : List LineForm
  pub form : LineForm
  pub below : List LineForm
  pub all : forms ≡ above ++ form ∷ below
  pub first : AllByRecursion (λ other. Has other line → ⊥) above
  pub written : IsWrittenLine form message line

-- no form has the line, and it does not end within the front of one
abbrev pub IsOther : List LineForm → List ℕ → Type 0
IsOther forms line = AllByRecursion (λ form. (Has form line → ⊥) × (ends_in_form form line ≡ false)) forms

-- ---- The log

-- a line is written of a message by forms, or of nothing
abbrev pub IsLine : List LineForm → List ℕ → Option (List ℕ) → Type 0
IsLine forms line None = IsOther forms line
IsLine forms line (Some message) = IsWrittenBy forms message line

-- the lines of a log, with the message of each that has one
abbrev pub AreLines : List LineForm → List (List ℕ) → List (Option (List ℕ)) → Type 0
AreLines forms [] [] = Unit {0}
AreLines forms [] (message ∷ messages) = ⊥
AreLines forms (line ∷ lines) [] = ⊥
AreLines forms (line ∷ lines) (message ∷ messages) = IsLine forms line message × AreLines forms lines messages

-- what a line says that is written of a message, or of nothing
abbrev pub frame_or_other : Option (List ℕ) → LineSaid
frame_or_other None = Other
frame_or_other (Some message) = Frame message

-- the octets that a form has in a line are those before its message, the message and those after it
pub record IsKeptBare (form : LineForm) (octets : List ℕ) (said : LineSaid) : Type 0 where
  pub header : List ℕ
  pub message : List ℕ
  pub check : List ℕ
  pub whole : octets ≡ header ++ (message ++ check)
  pub before : length header ≡ form.before
  pub after : length check ≡ form.after
  pub frame : said ≡ Frame message

-- the octets that a form has in a line are a frame of the wire with this message, or its words
pub record IsKeptWrapped (form : LineForm) (octets : List ℕ) (said : LineSaid) : Type 0 where
  pub message : List ℕ
  pub is : said_in_octets form octets ≡ Frame message
  pub frame : said ≡ Frame message

-- the octets that a form has in a line are in the frame that it says, before the message or after it
abbrev pub IsKept : LineForm → List ℕ → LineSaid → Type 0
IsKept form octets said = OneOf (is_bare form) (IsKeptBare form octets said) (IsKeptWrapped form octets said)
