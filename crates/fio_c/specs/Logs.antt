-- What the reader of logs says of lines, as C sees it.
use Rattle.std.specs.Prelude.{◌≡◌, ℕ, ◌+◌, ◌≤◌, ◌<◌, ◌-◌, ◌^◌, ◌==◌, ◌&&◌, Bool, true, false, nat_le, nat_lt, if◌then◌else◌, List, [], ◌∷◌, ◌++◌, drop, length, map, replicate, take, Option, Some, None, min}
use Rattle.std.specs.List.{All, concat, flat_map}
use Rattle.fio_message.specs.Bits.{bit_of}
use Rattle.fio_log.specs.Blanks.{Texts}
use Rattle.fio_log.specs.Lines.{Text, finished, lines_after, no_line, only}
use Rattle.fio_log.specs.OwnVerdicts.{own_form_of}
use Rattle.fio_log.specs.declared.own_texts.OwnForm.{OwnForm}
use Rattle.fio_log.specs.Telling.{HasReadAsBefore, IsTextOf, KeepsVerdict, Telling, has_told_all, read_at_end}
use Rattle.fio_log.specs.declared.clock.Moment.{Moment}
use Rattle.fio_log.specs.declared.counts.ReadAs.{ReadAs}
use Rattle.fio_log.specs.declared.counts.TheConstants.{SAMPLE_CHARACTERS}
use Rattle.fio_log.specs.declared.directions.Direction.{Direction}
use Rattle.fio_log.specs.declared.directions.Direction.TheVariants as directions
use Rattle.fio_log.specs.declared.parts.TimeKind.{TimeKind}
use Rattle.fio_log.specs.declared.parts.TimeKind.TheVariants as times
use Rattle.fio_log.specs.declared.places.Place.{Place}
use Rattle.fio_log.specs.declared.verdict.Form.{Form}
use Rattle.fio_log.specs.declared.verdict.Form.TheVariants as forms
use Rattle.fio_log.specs.declared.verdict.Kind.{Kind}
use Rattle.fio_log.specs.declared.verdict.Kind.TheVariants as kinds
use Rattle.fio_log.specs.declared.verdict.Reason.{Reason}
use Rattle.fio_log.specs.declared.verdict.Reason.TheVariants as reasons
use Rattle.fio_log.specs.declared.verdict.LineVerdict.{LineVerdict}
use Rattle.fio_c.specs.LogOthers.{below_lines, passed_lines}
use Rattle.fio_c.specs.Told.{AreLinesAfter, HasReadOf, IsVerdictOf, ReturnsAll, Told}
use Rattle.fio_c.specs.declared.log_forms.LogReadAs.{LogReadAs}
use Rattle.fio_c.specs.declared.log_batch.TheConstants.{LOG_OCTETS, LOG_VERDICTS, VERDICT_OCTETS}
use Rattle.fio_c.specs.declared.log_batch.LogBatch.{LogBatch}
use Rattle.fio_c.specs.declared.log_batch.FlatLogPlace.{FlatLogPlace}
use Rattle.fio_c.specs.declared.log_batch.LogVerdict.{LogVerdict}

-- the number of a kind
abbrev pub kind_number : Kind → ℕ
kind_number kinds.Blank = 0
kind_number kinds.Frames = 1
kind_number kinds.Part = 2
kind_number kinds.Possible = 3
kind_number kinds.Damaged = 4
kind_number kinds.PassedOver = 5

-- the number of a reason
abbrev pub reason_number : Reason → ℕ
reason_number reasons.None = 0
reason_number reasons.NoOctets = 1
reason_number reasons.NoMessage = 2
reason_number reasons.NoForm = 3
reason_number reasons.More = 4
reason_number reasons.UnreadFrame = 5
reason_number reasons.TooLong = 6
reason_number reasons.BadLine = 7
reason_number reasons.Loss = 10
reason_number reasons.Heading = 11
reason_number reasons.Copy = 13
reason_number reasons.Broken = 14

-- the number of who sent octets
abbrev pub side_number : Option Direction → ℕ
side_number None = 0
side_number (Some directions.Command) = 1
side_number (Some directions.Answer) = 2

-- the microseconds of a moment; 0 if there is none
abbrev pub microseconds_at : Option Moment → ℕ
microseconds_at None = 0
microseconds_at (Some moment) = moment.microseconds

-- the number of what a time counts from
abbrev pub time_kind_number : TimeKind → ℕ
time_kind_number times.Date = 1
time_kind_number times.Day = 2
time_kind_number times.Start = 3

-- the number of what a moment counts from; 0 if there is none
abbrev pub moment_kind_number : Option Moment → ℕ
moment_kind_number None = 0
moment_kind_number (Some moment) = time_kind_number moment.kind

-- a verdict as C sees it, with its numbers of frames and places
abbrev pub flat_verdict : LineVerdict → ℕ → ℕ → LogVerdict
flat_verdict verdict frames places = record {
  line = verdict.line;
  time = microseconds_at verdict.time;
  frames = frames;
  places = places;
  kind = kind_number verdict.kind;
  reason = reason_number verdict.reason;
  time_kind = moment_kind_number verdict.time;
  said = side_number verdict.said;
  address = verdict.header.address;
  control = verdict.header.control;
  header = verdict.header.count;
  foreign = verdict.foreign;
}

-- a place as C sees it: an index of 2^32 or more is 2^32 - 1
abbrev pub flat_place : Place → FlatLogPlace
flat_place place =
    record { line = place.line; start = min place.start (2 ^ 32 - 1); end = min place.end (2 ^ 32 - 1) }

-- a verdict as C sees it, with the numbers of its frames and places
abbrev pub flat_told : Told → LogVerdict
flat_told one = flat_verdict one.verdict (length one.frames) (length one.places)

-- what a batch says: verdicts, and the frames and places of all of them, in order
pub record Content : Type 0 where
  pub verdicts : List LogVerdict
  pub frames : List (List ℕ)
  pub places : List FlatLogPlace

-- what a batch says of verdicts: each of them, all frames of each, and all places of each, in their order
abbrev pub content_of : List Told → Content
content_of told = record {
  verdicts = map flat_told told;
  frames = flat_map (λ one. one.frames) told;
  places = map flat_place (flat_map (λ one. one.places) told);
}

-- a batch says this, at the front of its arrays
pub record Holds (batch : LogBatch) (content : Content) : Type 0 where
  pub verdicts : take batch.verdict_count batch.verdicts ≡ content.verdicts
  pub lengths : take batch.frame_count batch.lengths ≡ map length content.frames
  pub octets : take batch.octet_count batch.octets ≡ concat content.frames
  pub places : take batch.place_count batch.places ≡ content.places

-- whether a batch has room for any verdict
abbrev pub has_room : LogBatch → Bool
has_room batch =
    nat_lt batch.verdict_count LOG_VERDICTS && nat_le batch.frame_count LOG_VERDICTS && nat_le batch.place_count LOG_VERDICTS
    && nat_le batch.octet_count (LOG_OCTETS - VERDICT_OCTETS)

-- a batch without verdicts has room
abbrev pub HasRoomFirst : LogBatch → Type 0
HasRoomFirst batch = batch.verdict_count ≡ 0 → has_room batch ≡ true

-- a reader has no verdict to return: none that is due and, after the end of a log, none at all
pub record HasNoneDue (telling : Telling) : Type 0 where
  pub ready : telling.is_ready ≡ false
  pub left : telling.is_ended ≡ true → telling.told ≡ telling.read

-- the verdicts are those of the lines after this one, each once and in order, up to the other
abbrev pub AreNext : ℕ → List LogVerdict → ℕ → Type 0
AreNext told [] last = last ≡ told
AreNext told (verdict ∷ verdicts) last = (verdict.line ≡ told + 1) × AreNext verdict.line verdicts last

-- A batch has the verdicts that a reader has returned since another time, with all their frames and places, and nothing else.
-- They are of the next lines, each once and in order. If the reader had read a log, and the lines that it has read since are
-- the next ones of that log, they are verdicts of it.
pub record HasVerdicts (first : Telling) (whole : List Text) (batch : LogBatch) (last : Telling) : Type 0 where
  pub told : List Told
  pub holds : Holds batch (content_of told)
  pub returned : ReturnsAll first told last
  pub next : AreNext first.told (map flat_told told) last.told
  pub form : last.form ≡ first.form
  pub log : (texts : Texts) → HasReadOf texts first → AreLinesAfter first.read texts whole
      → HasReadOf texts last × All (IsVerdictOf texts first.form) told

-- the form with a number: 1 and 2 the two texts of the program, any other number lines of any log
abbrev pub form_of : ℕ → Form
form_of number = if number == 1 then forms.Frames else (if number == 2 then forms.Transcript else forms.Auto)

-- A reader has read nothing, and reads lines in a form.
pub record HasBegun (form : Form) (telling : Telling) : Type 0 where
  pub reads : telling.form ≡ form
  pub making : telling.making ≡ no_line
  pub read : telling.read ≡ 0
  pub told : telling.told ≡ 0
  pub is_ended : telling.is_ended ≡ false
  pub log : (texts : Texts) → HasReadOf texts telling

-- the characters of a front that C sees: the first ones
abbrev pub front_seen : List ℕ → List ℕ
front_seen front = take (min (length front) SAMPLE_CHARACTERS) front

-- room that begins with these characters, and has zeros after them
abbrev pub in_room : List ℕ → List ℕ
in_room front = front ++ drop (length front) (replicate SAMPLE_CHARACTERS 0)

-- a form as C sees it
abbrev pub flat_form : ReadAs → LogReadAs
flat_form read_as = record {
  from = read_as.from;
  lines = read_as.lines;
  damaged = read_as.damaged;
  is_echo = bit_of read_as.is_echo;
  front_length = length (front_seen read_as.front.now);
  reserved = replicate 6 0;
  front = in_room (front_seen read_as.front.now);
}

-- A reader has written its forms, at most 16, and stays as it was.
pub record HasForms (before : Telling) (count : ℕ) (after : Telling) : Type 0 where
  pub same : after ≡ before
  pub few : count ≤ 16

-- A reader has learnt this many forms of sample lines. It learns none once a line of a log is read, or if a log is one of the
-- program's own texts; whatever it learns, nothing changes of what it has read and returned.
pub record HasLearnt (before : Telling) (count : ℕ) (after : Telling) : Type 0 where
  pub same : HasReadAsBefore before after
  pub log : (texts : Texts) → HasReadOf texts before → HasReadOf texts after
  pub late : 0 < before.read → count ≡ 0
  pub own : (text : OwnForm) → own_form_of before.form ≡ Some text → count ≡ 0
  pub few : count ≤ 16

-- A log has ended. The line that was made is its last one, if it has octets. A verdict that can be given stays as it was.
pub record HasEnded (before after : Telling) : Type 0 where
  pub is_ended : after.is_ended ≡ true
  pub form : after.form ≡ before.form
  pub told : after.told ≡ before.told
  pub line :
      before.is_ended ≡ false → before.read < 2 ^ 64 - 1
      → (after.making ≡ finished before.making) × (after.read ≡ read_at_end before.read before.making)
  pub ready : before.is_ready ≡ true → KeepsVerdict before after
  pub log : (texts : Texts) → HasReadOf texts before → IsTextOf texts after → HasReadOf texts after

-- A reader has taken octets: they completed these lines, which are read, and went into the line that is being made.
pub record HasTakenOctets (before : Telling) (octets : List ℕ) (after : Telling) : Type 0 where
  pub whole : List Text
  pub lines : lines_after (only before.making) octets ≡ record { whole = whole; making = after.making }
  pub read : after.read ≡ before.read + length whole
  pub is_ended : after.is_ended ≡ before.is_ended

-- A reader has taken octets of a text that continues its log, and has returned all verdicts that are in a batch. If there are
-- none, all octets are taken, or the log has ended and each of its lines has its verdict.
pub record HasReadOn (before : Telling) (text : List ℕ) (taken : ℕ) (after : Telling) (batch : LogBatch) : Type 0 where
  pub within : taken ≤ length text
  pub form : after.form ≡ before.form
  pub all : batch.verdict_count ≡ 0 → after.is_ended ≡ false → after.read < 2 ^ 64 - 1 → taken ≡ length text
  pub told : batch.verdict_count ≡ 0 → after.is_ended ≡ true → after.told ≡ after.read
  pub octets : HasTakenOctets before (take taken text) after
  pub verdicts : HasVerdicts before octets.whole batch after

-- The reader that a text is read from: if the log has ended and all verdicts are returned, octets begin another log.
pub record IsReadFrom (before : Telling) (text : List ℕ) (from : Telling) : Type 0 where
  pub anew : has_told_all before ≡ true → 0 < length text → HasBegun before.form from
  pub untold : has_told_all before ≡ false → from ≡ before
  pub empty : text ≡ [] → from ≡ before

-- Lines of a batch that a reader has returned are passed over by all that it has counted. Their frames and places stay in the batch.
pub record HasPassedOthers (before : Telling) (told : LogBatch) (after : Telling) (batch : LogBatch) : Type 0 where
  pub lines : (content : Content) → Holds told content
      → Holds batch (record content { verdicts = passed_lines before.others content.verdicts })
  pub count : batch.verdict_count ≡ told.verdict_count
  pub reader : after ≡ record before { others = below_lines before.others (take told.verdict_count told.verdicts) }

-- A reader has taken octets of a text, and has returned all verdicts that are in a batch, of which some are passed over.
pub record HasRead (before : Telling) (text : List ℕ) (taken : ℕ) (after : Telling) (batch : LogBatch) : Type 0 where
  pub from : Telling
  pub begun : IsReadFrom before text from
  pub reader : Telling
  pub told : LogBatch
  pub read : HasReadOn from text taken reader told
  pub passed : HasPassedOthers reader told after batch
