-- What is heard of a line by the forms, and what its verdict says of that.
use Rattle.std.specs.Prelude.{◌≡◌, ℕ, ◌+◌, if◌then◌else◌, ◌<◌, ◌≤◌, ◌==◌, ◌&&◌, ◌||◌, ◌⊎◌, nat_le, not, Bool, true, false, MatchBool, List, [], ◌∷◌, length, drop, take, Option, Some, None, slice_get}
use Rattle.std.specs.List.{AllByRecursion, list_any}
use Rattle.fio_form.specs.Messages.{is_message}
use Rattle.fio_form.specs.declared.form.LineForm.{LineForm}
use Rattle.fio_form.specs.declared.reading.Found.{Found}
use Rattle.fio_rows.specs.Laws.{SaysMessages}
use Rattle.fio_rows.specs.Lines.{has, is_ended, is_message_begun, is_message_broken, is_message_open, is_message_whole, line_goes_on, read_in}
use Rattle.fio_rows.specs.Places.{AreAt, AreWithin, places_in}
use Rattle.fio_rows.specs.Rows.{Rows, rows_of, state_of}
use Rattle.fio_rows.specs.declared.rows.Reading.{Reading}
use Rattle.fio_rows.specs.declared.said.LineSaid.{LineSaid}
use Rattle.fio_rows.specs.declared.said.Said.{Said}
use Rattle.fio_rows.specs.declared.said.Said.TheVariants as said
use Rattle.fio_log.specs.Lines.{Text}
use Rattle.fio_log.specs.Spoilt.{has_odd_digits}
use Rattle.fio_log.specs.declared.by_forms.FormReader.{FormReader}
use Rattle.fio_log.specs.declared.by_forms.LineHeard.{LineHeard}
use Rattle.fio_log.specs.declared.rows.TheConstants.{ROWS}
use Rattle.fio_log.specs.declared.verdict.Kind.{Kind}
use Rattle.fio_log.specs.declared.verdict.Kind.TheVariants as kinds
use Rattle.fio_log.specs.declared.verdict.Reason.{Reason}
use Rattle.fio_log.specs.declared.verdict.Reason.TheVariants as reasons

-- whether a part of a line is gone: there are NULs in its place
abbrev pub has_nul : List ℕ → Bool
has_nul octets = list_any (λ octet. octet == 0) octets

-- whether a line is not too long, and no part of it is gone
abbrev pub is_whole_text : Text → Bool
is_whole_text text = not text.is_long && not (has_nul text.octets)

-- whether a line says octets that are, or may become, messages
abbrev pub says_octets : Said → Bool
says_octets said.Frame = true
says_octets said.Part = true
says_octets said.Stream = true
says_octets _ = false

-- What is read of a line below what is known above it: what the forms say of it, and where its octets are.
pub record IsReadOf (forms : List LineForm) (line : List ℕ) (above : Rows) (heard : LineSaid) (after : Reading) : Type 0 where
  pub rows : rows_of heard.said after ≡ read_in forms line (places_in forms line above).end above
  pub on : heard.goes_on ≡ line_goes_on forms line above
  pub broken : heard.is_broken ≡ is_message_broken forms line above
  pub ended : heard.is_ended ≡ is_ended forms line above
  pub form : ¬ (heard.said ≡ said.Other) → heard.form ≡ (state_of after).form
  pub within : AreWithin heard.found line
  pub places : AreAt heard.found line (places_in forms line above)

-- A line is passed over: no message is open below it.
pub record IsPassed (above : Rows) (heard : LineSaid) (after : Reading) : Type 0 where
  pub said : heard.said ≡ said.Damaged
  pub on : heard.goes_on ≡ false
  pub broken : heard.is_broken ≡ is_message_begun above.pending
  pub ended : heard.is_ended ≡ is_message_whole above.pending
  pub closed : is_message_open (state_of after).pending ≡ false

-- whether a line may be rows of a message
abbrev pub is_of_message : Said → Bool
is_of_message said.Frame = true
is_of_message said.Part = true
is_of_message said.Damaged = true
is_of_message _ = false

-- What was heard of a line, below what was known above it: what is read of it, if it is not too long and no part of it is gone. A
-- message that it says is one, and so are those that end with it, and above it.
pub record IsHeardOf (forms : List LineForm) (text : Text) (above : Rows) (heard : LineHeard) (after : Reading) : Type 0 where
  pub long : heard.is_long ≡ text.is_long
  pub gap : heard.has_gap ≡ has_nul text.octets
  pub read : is_whole_text text ≡ true → IsReadOf forms text.octets above heard.said after
  pub passed : is_whole_text text ≡ false → IsPassed above heard.said after
  pub row : heard.goes_on ≡ (heard.said.goes_on && is_of_message heard.said.said)
  pub messages : SaysMessages (rows_of heard.said.said after)
  pub form : says_octets heard.said.said ≡ true → heard.said.form < length forms
  pub ended : heard.said.is_ended ≡ true → after.ended.items ≡ above.message

-- whether a form, if there is one, has digits that go on after its octets
abbrev pub is_odd_by : Option LineForm → List ℕ → Bool
is_odd_by None tail = false
is_odd_by (Some form) tail = has_odd_digits form tail

-- whether the octets of a line end within a word of digits, so that it is not known which of them are octets
abbrev pub is_spoilt : List LineForm → List ℕ → LineSaid → Bool
is_spoilt forms line heard = says_octets heard.said && nat_le heard.found.end (length line)
    && is_odd_by (slice_get forms heard.form) (drop heard.found.end line)

-- whether a part of a line is gone, or its octets are spoilt
abbrev pub lacks_octets : List LineForm → List ℕ → LineHeard → Bool
lacks_octets forms line heard = heard.has_gap || is_spoilt forms line heard.said

-- whether nothing that was heard of a line counts: it is too long, or lacks octets
abbrev pub is_lost : List LineForm → List ℕ → LineHeard → Bool
is_lost forms line heard = heard.is_long || lacks_octets forms line heard

-- whether a form, if there is one, is of echoes
abbrev pub is_of_echoes : Option LineForm → Bool
is_of_echoes None = false
is_of_echoes (Some form) = form.is_echo

-- What a reader knows when it reports a line: its forms, the message that the line says, the frame that was reported last, and how many
-- rows the message has that the line may go on with.
pub record Known : Type 0 where
  pub forms : List LineForm
  pub message : List ℕ
  pub last : List ℕ
  pub rows : ℕ

-- what a reader knows
abbrev pub known_of : FormReader → Known
known_of reader = record {
  forms = reader.forms;
  message = reader.reading.message.items;
  last = reader.last.items;
  rows = length reader.rows.places.items;
}

-- There is room for the place of a line, below those of the rows that it goes on with.
abbrev pub HasRowRoom : ℕ → LineHeard → Type 0
HasRowRoom rows heard = heard.goes_on ≡ true → rows < ROWS

-- There is none.
abbrev pub HasNoRowRoom : ℕ → LineHeard → Type 0
HasNoRowRoom rows heard = (heard.goes_on ≡ true) × (ROWS ≤ rows)

-- An echo is passed over if it is the last frame, and damaged if it is not.
pub record TellsEcho (message last : List ℕ) (kind : Kind) : Type 0 where
  pub copy : message ≡ last → kind ≡ kinds.PassedOver
  pub other : ¬ (message ≡ last) → kind ≡ kinds.Damaged

-- no form has a text with which this one ends
abbrev pub HasNoLine : List LineForm → List ℕ → Type 0
HasNoLine forms text = (place : ℕ) → place < length text → AllByRecursion (λ form. has form (drop place text) ≡ false) forms

-- Nothing that may be a message is beside the octets of a line: it ends with them, and no form has a line in what is before them and
-- their front.
pub record HasNothingBeside (forms : List LineForm) (found : Found) (line : List ℕ) : Type 0 where
  pub before : HasNoLine forms (take found.front line)
  pub end : found.end ≡ length line

-- There is no other frame than this one, and, if no message above is broken, nothing beside it.
pub record HasNoOther (message : List ℕ) (heard : LineHeard) (reason : Reason) (frames : List (List ℕ)) : Type 0 where
  pub only : frames ≡ message ∷ []
  pub none : heard.said.is_broken ≡ false → reason ≡ reasons.None

-- A message is the first frame of its line, if there is room for the places of its rows; and the only one, if nothing
-- that may be another one is beside its octets.
pub record TellsMessage (forms : List LineForm) (message line : List ℕ) (rows : ℕ) (heard : LineHeard) (kind : Kind) (reason : Reason) (frames : List (List ℕ)) : Type 0 where
  pub given : is_message message ≡ true → HasRowRoom rows heard → kind ≡ kinds.Frames
  pub first : kind ≡ kinds.Frames → slice_get frames 0 ≡ Some message
  pub only : kind ≡ kinds.Frames → HasNothingBeside forms heard.said.found line → HasNoOther message heard reason frames
  pub full : HasNoRowRoom rows heard → kind ≡ kinds.Damaged

-- Octets that may go on are a part, if there is room for the place of the line.
pub record TellsPart (rows : ℕ) (heard : LineHeard) (kind : Kind) : Type 0 where
  pub part : HasRowRoom rows heard → kind ≡ kinds.Part
  pub full : HasNoRowRoom rows heard → kind ≡ kinds.Damaged

-- whether a line of a stream may be of a kind
abbrev pub is_of_stream : Kind → Bool
is_of_stream kinds.Frames = true
is_of_stream kinds.Part = true
is_of_stream kinds.Damaged = true
is_of_stream _ = false

-- whether a line that no form has may be of a kind
abbrev pub is_of_others : Kind → Bool
is_of_others kinds.Frames = false
is_of_others kinds.Part = false
is_of_others _ = true

-- what a kind and a reason, with these frames, say of a line that says a message
abbrev pub TellsFrame : Known → List ℕ → LineHeard → Kind → Reason → List (List ℕ) → Type 0
TellsFrame known line heard kind reason frames = MatchBool (is_of_echoes (slice_get known.forms heard.said.form))
    (TellsEcho known.message known.last kind)
    (TellsMessage known.forms known.message line known.rows heard kind reason frames)

-- what a kind and a reason, with these frames, say of a line that says this by the forms
abbrev pub TellsSaid : Said → Known → List ℕ → LineHeard → Kind → Reason → List (List ℕ) → Type 0
TellsSaid said.Frame known line heard kind reason frames = TellsFrame known line heard kind reason frames
TellsSaid said.Part known line heard kind reason frames = TellsPart known.rows heard kind
TellsSaid said.Stream known line heard kind reason frames = is_of_stream kind ≡ true
TellsSaid said.Idle known line heard kind reason frames = kind ≡ kinds.PassedOver
TellsSaid said.Stray known line heard kind reason frames = kind ≡ kinds.Damaged
TellsSaid said.Damaged known line heard kind reason frames = kind ≡ kinds.Damaged
TellsSaid said.Other known line heard kind reason frames = is_of_others kind ≡ true

-- The verdict on a line says what was heard of it: it is damaged if that does not count.
abbrev pub Tells : Known → List ℕ → LineHeard → Kind → Reason → List (List ℕ) → Type 0
Tells known line heard kind reason frames = MatchBool (is_lost known.forms line heard)
    (kind ≡ kinds.Damaged)
    (TellsSaid heard.said.said known line heard kind reason frames)

-- the message of any length that ended, with the log or above the line that was heard last
abbrev pub ended_message : Bool → Reading → List ℕ
ended_message true reading = reading.message.items
ended_message false reading = reading.ended.items

-- A message is the only frame.
pub record TellsOnly (message : List ℕ) (kind : Kind) (frames : List (List ℕ)) : Type 0 where
  pub given : kind ≡ kinds.Frames
  pub only : frames ≡ message ∷ []

-- The first frame stays.
abbrev pub KeepsFirst : List (List ℕ) → List (List ℕ) → Type 0
KeepsFirst before after = (frame : List ℕ) → slice_get before 0 ≡ Some frame → slice_get after 0 ≡ Some frame

-- What is known above a line: what the lines above it say together, and how many rows the message has that is open.
pub record Above : Type 0 where
  pub state : Rows
  pub rows : ℕ

-- what a reader knows above the line that it hears next
abbrev pub above_of : FormReader → Above
above_of reader = record { state = state_of reader.reading; rows = length reader.rows.places.items }

-- how many rows a message has with a line, which goes on with this many or begins
abbrev pub rows_going_on : Bool → ℕ → ℕ
rows_going_on goes_on rows = if goes_on then rows + 1 else 1

-- What is open below a line is what was heard of it. Octets that may go on are open, with a row more, unless the line is damaged.
pub record LeavesOpen (rows : ℕ) (heard : LineHeard) (kind : Kind) (after : Reading) (below : Above) : Type 0 where
  pub open_message : is_message_open below.state.pending ≡ true → below.state ≡ state_of after
  pub part : heard.said.said ≡ said.Part → ((kind ≡ kinds.Damaged) × (is_message_open below.state.pending ≡ false))
      ⊎ (below ≡ record { state = state_of after; rows = rows_going_on heard.goes_on rows })

-- Nothing was added to the frames of the last line of a log, or a message that ends with the log.
abbrev pub HasMore : Kind → Reason → List (List ℕ) → Kind → Reason → List (List ℕ) → Type 0
HasMore kind reason before more other after = ((more ≡ kind) × (other ≡ reason) × (after ≡ before)) ⊎ ((more ≡ kinds.Frames) × KeepsFirst before after)
