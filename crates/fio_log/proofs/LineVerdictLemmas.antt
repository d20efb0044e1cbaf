-- What a verdict says of the next line of a log.
use Rattle.std.proofs.Common.{◌≡◌, ◌≤◌, ◌<◌, ◌+◌, ◌∙◌, ◌==◌, ◌&&◌, ℕ, Bool, true, false, List, Option, Some, None, if◌then◌else◌, length, sym, ap, refl, arith, inl, inr}
use Rattle.std.proofs.lemmas.Bool.Decides.{leb_tells, eqb_tells}
use Rattle.std.proofs.lemmas.Bool.{and_parts}
use Rattle.fio_form.specs.Messages.{is_message}
use Rattle.fio_form.specs.declared.form.LineForm.{LineForm}
use Rattle.fio_rows.specs.Lines.{ends_above, is_ended, is_message_open, is_message_whole, open_form}
use Rattle.fio_rows.specs.Rows.{Rows, state_of}
use Rattle.fio_rows.specs.declared.rows.Reading.{Reading}
use Rattle.fio_rows.specs.declared.saying.Open.{Open}
use Rattle.fio_rows.specs.declared.saying.Open.TheVariants as opens
use Rattle.fio_log.specs.Following.{HasLine, TellsLine, TellsOf, ends_above_line}
use Rattle.fio_log.specs.Heard.{Above, HasMore, IsHeardOf, LeavesOpen, Tells, TellsOnly, above_of, is_whole_text, known_of}
use Rattle.fio_log.specs.Lines.{Making, Text}
use Rattle.fio_log.specs.declared.by_forms.FormReader.{FormReader}
use Rattle.fio_log.specs.declared.by_forms.LineHeard.{LineHeard}
use Rattle.fio_log.specs.declared.verdict.Kind.{Kind}
use Rattle.fio_log.specs.declared.verdict.Reason.{Reason}

-- a verdict that says what was heard
pub line_told : (reader : FormReader) (text : Text) (octets : List ℕ) (is_long : Bool) (above below : Above) (heard : LineHeard) (kind : Kind)
    (reason : Reason) (frames : List (List ℕ)) → text ≡ record { octets = octets; is_long = is_long } → IsHeardOf reader.forms text above.state heard reader.reading
    → above.rows ≡ length reader.rows.places.items → Tells (known_of reader) octets heard kind reason frames
    → LeavesOpen (length reader.rows.places.items) heard kind reader.reading below
    → TellsLine false reader.forms text above kind reason frames below
line_told reader text octets is_long above below heard kind reason frames same is rows tells left = record {
  heard = heard;
  after = reader.reading;
  last = reader.last.items;
  is = is;
  tells = rw (same, rows) tells;
  left = rw rows left;
}

-- what ends above a line is whole
ends_whole : (form : Option LineForm) (line : List ℕ) (state : Rows) → ends_above form line state ≡ true → is_message_whole state.pending ≡ true
ends_whole None line state ends = ends
ends_whole (Some form) line state ends = (and_parts (is_message_whole state.pending) _ ends).0

ended_whole : (forms : List LineForm) (line : List ℕ) (state : Rows) → is_ended forms line state ≡ true → is_message_whole state.pending ≡ true
unfolding is_ended
ended_whole forms line state ends = ends_whole (open_form forms state) line state ((and_parts (is_message_open state.pending) _ ends).1)

pub heard_whole : (forms : List LineForm) (text : Text) (above : Rows) (heard : LineHeard) (after : Reading)
    → IsHeardOf forms text above heard after → heard.said.is_ended ≡ true → is_message_whole above.pending ≡ true
heard_whole forms text above heard after is ends = by_text (is_whole_text text) refl
  where
    by_text : (b : Bool) → is_whole_text text ≡ b → is_message_whole above.pending ≡ true
    by_text true whole = ended_whole forms text.octets above (sym (is.read whole).ended ∙ ends)
    by_text false gone = sym (is.passed gone).ended ∙ ends

whole_open : (pending : Open) → is_message_whole pending ≡ true → is_message_open pending ≡ true
whole_open opens.Nothing whole = whole
whole_open _ whole = refl

-- a verdict that reports the message that ends with a line
pub end_told : (forms : List LineForm) (text : Text) (above below : Above) (kind more : Kind) (reason other : Reason) (frames others : List (List ℕ)) (message : List ℕ)
    → TellsLine false forms text above kind reason frames below → is_message_whole below.state.pending ≡ true → message ≡ below.state.message
    → (is_message message ≡ true → TellsOnly message more others) → TellsLine true forms text above more other others below
end_told forms text above below kind more reason other frames others message tells whole same only =
    let opened : is_message_open below.state.pending ≡ true = whole_open below.state.pending whole in
    let left : below.state ≡ state_of tells.after = tells.left.open_message opened in
    let ended : is_message_whole (state_of tells.after).pending ≡ true = rw left at whole in
    let is : message ≡ tells.after.message.items = same ∙ ap (λ (r : Rows). r.message) left in
    let right : is_message message ≡ true = ap is_message is ∙ tells.is.messages.open_message ended in
    record {
      heard = tells.heard;
      after = tells.after;
      last = tells.last;
      is = tells.is;
      tells = record { whole = ended; only = rw is at (only right) };
      left = record {
        open_message = tells.left.open_message;
        part = λ part. elim (tells.left.part part) [
          | inl gone ↦ let no : false ≡ true = sym gone.1 ∙ opened in absurd (cc)
          | inr rows ↦ inr rows
        ];
      };
    }

by_ends : (ends is : Bool) (forms : List LineForm) (text : Text) (above : Above) (kind : Kind) (reason : Reason) (frames : List (List ℕ)) (below : Above)
    → is ≡ ends → TellsLine ends forms text above kind reason frames below → TellsLine is forms text above kind reason frames below
by_ends ends is forms text above kind reason frames below same tells = rw same tells

-- a verdict that reports a line which may be the last one, by whether a message ends there
pub tells_of : (is_last ends : Bool) (forms : List LineForm) (text next : Text) (above : Above) (kind : Kind) (reason : Reason) (frames : List (List ℕ)) (below : Above)
    → (is_last ≡ true → is_message_whole below.state.pending ≡ ends) → ends_above_line forms next below.state ≡ ends
    → TellsLine ends forms text above kind reason frames below → TellsOf is_last forms text next above kind reason frames below
tells_of true ends forms text next above kind reason frames below last line tells = record {
  first = kind;
  why = reason;
  told = frames;
  below = below;
  is = by_ends ends (is_message_whole below.state.pending) forms text above kind reason frames below (last refl) tells;
  more = inl (refl, refl, refl);
}
tells_of false ends forms text next above kind reason frames below last line tells =
    by_ends ends (ends_above_line forms next below.state) forms text above kind reason frames below line tells

-- a verdict on the last line
pub last_told : (is_last : Bool) (forms : List LineForm) (text after : Text) (above : Above) (kind more : Kind) (reason other : Reason) (frames others : List (List ℕ))
    (below next : Above) → is_last ≡ true → TellsLine (is_message_whole below.state.pending) forms text above kind reason frames below
    → HasMore kind reason frames more other others → TellsOf is_last forms text after above more other others next
last_told true forms text after above kind more reason other frames others below next is tells has =
    record { first = kind; why = reason; told = frames; below = below; is = tells; more = has }
last_told false forms text after above kind more reason other frames others below next is tells has = absurd (cc)

pub false_unless : (b : Bool) → (b ≡ true → false ≡ true) → b ≡ false
false_unless true never = sym (never refl)
false_unless false never = refl

-- no message ends above a line if none is open that may
pub none_ends : (forms : List LineForm) (text : Text) (above : Rows) → is_message_whole above.pending ≡ false
    → ends_above_line forms text above ≡ false
none_ends forms text above none = by_text (is_whole_text text)
  where
    by_text : (b : Bool) → (if b then is_ended forms text.octets above else is_message_whole above.pending) ≡ false
    by_text true = false_unless (is_ended forms text.octets above) (λ ends. sym none ∙ ended_whole forms text.octets above ends)
    by_text false = none

-- what is heard of a line says whether a message ends above it
pub heard_ends : (forms : List LineForm) (text : Text) (above : Rows) (heard : LineHeard) (after : Reading)
    → IsHeardOf forms text above heard after → ends_above_line forms text above ≡ heard.said.is_ended
heard_ends forms text above heard after is = by_text (is_whole_text text) refl
  where
    by_text : (b : Bool) → is_whole_text text ≡ b → (if b then is_ended forms text.octets above else is_message_whole above.pending) ≡ heard.said.is_ended
    by_text true whole = sym (is.read whole).ended
    by_text false gone = sym (is.passed gone).ended

-- a line with another one below it is not the last one
pub not_last : (is_ended : Bool) (read told : ℕ) (b : Bool) → told + 2 ≤ read → (is_ended && told + 1 == read) ≡ true → b ≡ false
not_last is_ended read told b more last = elim (eqb_tells (told + 1) read) [
  | inl same ↦ absurd (omega (arith, same.1, more))
  | inr other ↦ let no : false ≡ true = sym other.0 ∙ (and_parts is_ended _ last).1 in absurd (cc)
]

-- the last line of a log has no other below it
pub last_line : (first lines : ℕ) (making : Making) (read told : ℕ) → told < read → (told + 1 < read → HasLine first lines making read (told + 2))
    → (HasLine first lines making read (told + 2) → ⊥) → (told + 1 == read) ≡ true
last_line first lines making read told less has none = elim (leb_tells (told + 2) read) [
  | inl more ↦ absurd (none (has (omega (arith, more.1))))
  | inr last ↦ elim (eqb_tells (told + 1) read) [
    | inl same ↦ same.0
    | inr other ↦ absurd (other.1 (omega (arith, less, last.1)))
  ]
]

-- what is heard of a line by forms that may be other ones than above it
pub hears_line : (before adopted after : FormReader) (text : Text) (octets : List ℕ) (is_long : Bool) (above : Rows) (heard : LineHeard)
    → after ≡ record adopted { reading = after.reading } → adopted.reading ≡ before.reading → above ≡ state_of before.reading
    → text ≡ record { octets = octets; is_long = is_long }
    → IsHeardOf adopted.forms (record { octets = octets; is_long = is_long }) (state_of adopted.reading) heard after.reading
    → IsHeardOf after.forms text above heard after.reading
hears_line before adopted after text octets is_long above heard kept same none there is =
    let forms : after.forms ≡ adopted.forms = ap (λ r. r.forms) kept in
    let up : above ≡ state_of adopted.reading = none ∙ ap state_of (sym same) in
    rw (forms, up, there) is

pub both : (a b : Bool) → a ≡ true → b ≡ true → (a && b) ≡ true
both true b first second = second
both false b first second = absurd (cc)

-- a verdict on the last line, with what ends with the log
pub log_told : (is_last : Bool) (forms : List LineForm) (text after : Text) (above : Above) (reader : FormReader) (kind more : Kind)
    (reason other : Reason) (frames others : List (List ℕ)) (next : Above) → is_last ≡ true → TellsLine false forms text above kind reason frames (above_of reader)
    → (is_message_whole reader.reading.pending ≡ true → is_message reader.reading.message.items ≡ true → TellsOnly reader.reading.message.items more others)
    → (is_message_whole reader.reading.pending ≡ false → HasMore kind reason frames more other others) → TellsOf is_last forms text after above more other others next
log_told is_last forms text after above reader kind more reason other frames others next last tells only has = by_whole (is_message_whole reader.reading.pending) refl
  where
    by_whole : (b : Bool) → is_message_whole reader.reading.pending ≡ b → TellsOf is_last forms text after above more other others next
    by_whole true whole = last_told is_last forms text after above more more other other others others (above_of reader) next last
        (by_ends true (is_message_whole reader.reading.pending) forms text above more other others (above_of reader) whole
        (end_told forms text above (above_of reader) kind more reason other frames others reader.reading.message.items tells whole refl (only whole))) (inl (refl, refl, refl))
    by_whole false gone = last_told is_last forms text after above kind more reason other frames others (above_of reader) next last
        (by_ends false (is_message_whole reader.reading.pending) forms text above kind reason frames (above_of reader) gone tells) (has gone)

-- a message that may have ended is open below a line
pub whole_left : (rows : ℕ) (heard : LineHeard) (kind : Kind) (after : Reading) (below : Above) → LeavesOpen rows heard kind after below
    → is_message_whole below.state.pending ≡ true → is_message_whole after.pending ≡ true
whole_left rows heard kind after below left whole =
    let same : below.state ≡ state_of after = left.open_message (whole_open below.state.pending whole) in
    rw same at whole
