-- What a reader has heard and said of the next line of a log, below what is known of the lines above it.
use Rattle.std.specs.Prelude.{◌≡◌, ℕ, ◌+◌, ◌-◌, ◌<◌, ◌≤◌, ◌⊎◌, ◌==◌, ◌&&◌, Bool, true, false, if◌then◌else◌, List, length, IfSome, None, MatchBool}
use Rattle.fio_form.specs.declared.form.LineForm.{LineForm}
use Rattle.fio_rows.specs.Lines.{is_ended, is_message_open, is_message_whole}
use Rattle.fio_rows.specs.Rows.{Rows, state_of}
use Rattle.fio_rows.specs.declared.rows.Reading.{Reading}
use Rattle.fio_log.specs.Blanks.{Texts}
use Rattle.fio_log.specs.Heard.{Above, HasMore, IsHeardOf, LeavesOpen, Tells, TellsOnly, above_of, is_whole_text}
use Rattle.fio_log.specs.Lines.{Making, Text, is_whole}
use Rattle.fio_log.specs.declared.by_forms.LineHeard.{LineHeard}
use Rattle.fio_log.specs.declared.teller.Teller.{Teller}
use Rattle.fio_log.specs.declared.verdict.Kind.{Kind}
use Rattle.fio_log.specs.declared.verdict.Reason.{Reason}

-- The message of any length that is open below a line has ended there: it is the only frame.
pub record TellsEnd (after : Reading) (kind : Kind) (frames : List (List ℕ)) : Type 0 where
  pub whole : is_message_whole (state_of after).pending ≡ true
  pub only : TellsOnly after.message.items kind frames

-- A verdict of a kind, with these frames, says what is heard of a line by the forms, below what is known of the lines above it; and
-- this is known below it. If a message of any length ends with the line, it reports that. `last` is the frame that was reported last.
pub record TellsLine (ends : Bool) (forms : List LineForm) (text : Text) (above : Above) (kind : Kind) (reason : Reason) (frames : List (List ℕ)) (below : Above) : Type 0 where
  pub heard : LineHeard
  pub after : Reading
  pub last : List ℕ
  pub is : IsHeardOf forms text above.state heard after
  pub tells : MatchBool ends (TellsEnd after kind frames)
      (Tells (record { forms = forms; message = after.message.items; last = last; rows = above.rows }) text.octets heard kind reason frames)
  pub left : LeavesOpen above.rows heard kind after below

-- whether a message of any length that is open above a line has ended there
abbrev pub ends_above_line : List LineForm → Text → Rows → Bool
ends_above_line forms text above = if is_whole_text text then is_ended forms text.octets above else is_message_whole above.pending

-- A verdict on the last line of a log reports it, and the message of any length that ends with the log, or maybe one of a stream.
pub record TellsLast (forms : List LineForm) (text : Text) (above : Above) (kind : Kind) (reason : Reason) (frames : List (List ℕ)) : Type 0 where
  pub first : Kind
  pub why : Reason
  pub told : List (List ℕ)
  pub below : Above
  pub is : TellsLine (is_message_whole below.state.pending) forms text above first why told below
  pub more : HasMore first why told kind reason frames

-- a verdict reports a line, which may be the last one of a log; else another one is below it
abbrev pub TellsOf : Bool → List LineForm → Text → Text → Above → Kind → Reason → List (List ℕ) → Above → Type 0
TellsOf is_last forms text next above kind reason frames below = MatchBool is_last (TellsLast forms text above kind reason frames)
    (TellsLine (ends_above_line forms next below.state) forms text above kind reason frames below)

-- The line with this number is there: it is in a window of this many lines from a first one on, or it is the last one that is read.
pub record HasLine (first lines : ℕ) (making : Making) (read number : ℕ) : Type 0 where
  pub within : number ≤ read
  pub there : ((0 < first) × (first ≤ number) × (number - first < lines)) ⊎ ((number ≡ read) × (is_whole making.ending ≡ true))

-- A teller has the line with this number.
abbrev pub HasLineAt : Teller → Making → ℕ → ℕ → Type 0
HasLineAt teller making read number = HasLine teller.first teller.lines making read number

-- A teller has the same lines, and reads by the same forms.
pub record HasSameLines (before after : Teller) : Type 0 where
  pub forms : after.by_forms.forms ≡ before.by_forms.forms
  pub known : after.is_known ≡ before.is_known
  pub first : after.first ≡ before.first
  pub lines : after.lines ≡ before.lines

-- A teller has heard, or said, the same of the next line.
pub record FollowsAsBefore (before after : Teller) : Type 0 where
  pub same : HasSameLines before after
  pub reading : after.by_forms.reading ≡ before.by_forms.reading
  pub rows : after.by_forms.rows ≡ before.by_forms.rows
  pub heard : after.heard ≡ before.heard
  pub waiting : after.waiting ≡ before.waiting
  pub is_open : after.is_open ≡ before.is_open

-- What a teller has heard, or said, of the next line of a log with these lines is right, below what is known of the lines above it;
-- and each line below it is there.
pub record Follows (texts : Texts) (above : Above) (teller : Teller) (making : Making) (frames : List (List ℕ)) (read told : ℕ) : Type 0 where
  pub heard : IfSome teller.heard (λ heard. HasLineAt teller making read (told + 1)
      × IsHeardOf teller.by_forms.forms (texts (told + 1)) above.state heard teller.by_forms.reading
      × (above.rows ≡ length teller.by_forms.rows.places.items))
  pub waiting : IfSome teller.waiting (λ verdict. (told < read)
      × TellsLine false teller.by_forms.forms (texts (told + 1)) above verdict.kind verdict.reason frames (above_of teller.by_forms)
      × (is_message_whole teller.by_forms.reading.pending ≡ true → teller.is_open ≡ true))
  pub none : teller.heard ≡ None → teller.waiting ≡ None → above ≡ above_of teller.by_forms
  pub unknown : teller.is_known ≡ false → (teller.heard ≡ None) × (teller.waiting ≡ None)
  pub next : teller.is_known ≡ true → told < read → teller.heard ≡ None → teller.waiting ≡ None → HasLineAt teller making read (told + 1)
  pub lines : teller.is_known ≡ true → (number : ℕ) → told + 1 < number → number ≤ read → HasLineAt teller making read number

-- A teller that knows no forms yet has each line without a verdict in its window, but for the last one, which is read.
abbrev pub HasLastOf : Teller → Making → ℕ → ℕ → Type 0
HasLastOf teller making read told = (number : ℕ) → told + length teller.learning.window < number → number ≤ read
    → (number ≡ read) × (is_whole making.ending ≡ true)

-- A teller has heard nothing, and no message is open.
pub record Begins (teller : Teller) : Type 0 where
  pub closed : is_message_open (state_of teller.by_forms.reading).pending ≡ false
  pub heard : teller.heard ≡ None
  pub waiting : teller.waiting ≡ None
  pub unknown : teller.is_known ≡ false

-- The next line is heard, or reported, if it is read and the forms are known.
abbrev pub HasNext : Teller → ℕ → ℕ → Type 0
HasNext teller read told = teller.is_known ≡ true → told < read → teller.heard ≡ None → teller.waiting ≡ None → ⊥

-- A verdict reports the next line; what is known below it is known above the one that is next.
pub record TellsNext (texts : Texts) (forms : List LineForm) (above : Above) (is_ended : Bool) (kind : Kind) (reason : Reason) (after : Teller) (making : Making)
    (frames : List (List ℕ)) (read told : ℕ) : Type 0 where
  pub below : Above
  pub tells : TellsOf (is_ended && told + 1 == read) forms (texts (told + 1)) (texts (told + 2)) above kind reason frames below
  pub follows : Follows texts below after making frames read (told + 1)

-- The next line is reported with the line below it, or no message that may end is open.
abbrev pub IsDue : Teller → ℕ → ℕ → Type 0
IsDue teller read told = (told + 2 ≤ read) ⊎ ((teller.waiting ≡ None) × (is_message_whole teller.by_forms.reading.pending ≡ false))
