-- What is said of lines by themselves.
use Rattle.std.proofs.Common.{◌≡◌, ◌∙◌, ◌<◌, ◌≤◌, ◌+◌, ◌-◌, ℕ, Bool, true, false, ◌&&◌, ◌||◌, List, [], ◌∷◌, length, drop, Option, Some, None, MatchBool, slice_get, refl, sym, ap, arith, inl, inr}
use Rattle.std.specs.Prelude.{nat_le, zero, suc}
use Rattle.std.specs.List.{AllByRecursion}
use Rattle.std.proofs.lemmas.Bool.{cases_Bool, and_parts, not-true}
use Rattle.std.proofs.lemmas.List.{length-drop}
use Rattle.fio_form.specs.Bare.{is_cut_short}
use Rattle.fio_form.specs.Reading.{octets_by}
use Rattle.fio_form.specs.declared.form.LineForm.{LineForm}
use Rattle.fio_form.specs.declared.form.LineRows.TheVariants.{One}
use Rattle.fio_form.specs.declared.octets.TheConstants.{OCTETS}
use Rattle.fio_rows.proofs.LinesByThemselves.{itself_said, begun_closed}
use Rattle.fio_form.specs.Messages.{is_message}
use Rattle.fio_rows.proofs.OtherLines.{none_other}
use Rattle.fio_rows.proofs.ClosedLines.{broken_closed, goes_on_closed, places_closed}
use Rattle.fio_rows.specs.Laws.{is_other}
use Rattle.fio_rows.specs.Lines.{first_line_in, has, is_message_open, read_in, says_message}
use Rattle.fio_rows.specs.Places.{Places, first_places, places_in}
use Rattle.fio_rows.specs.RowLaws.{IsReadInRows}
use Rattle.fio_rows.specs.Rows.{Rows}
use Rattle.fio_rows.specs.declared.rows.Reading.{Reading}
use Rattle.fio_rows.specs.declared.said.Said.{Said}
use Rattle.fio_rows.specs.declared.said.Said.TheVariants as said
use Rattle.fio_log.specs.Blanks.{Texts}
use Rattle.fio_log.specs.Following.{TellsLine}
use Rattle.fio_log.specs.Heard.{Above, HasNoOther, HasRowRoom, IsHeardOf, Known, Tells, TellsEcho, TellsMessage, TellsSaid, is_lost, is_odd_by, is_of_echoes, is_of_message, is_of_others, is_spoilt, is_whole_text, says_octets}
use Rattle.fio_log.specs.LineLogs.{AreSuchLines, AreOfOneLine, AreToldInTurn, AreToldRight, Gone, IsSuchLine, IsMessageLine, IsToldAs, LineIs, Message, Other, Spoilt, ToldLine}
use Rattle.fio_log.specs.Lines.{Text}
use Rattle.fio_log.specs.Spoilt.{are_odd_by, width_of}
use Rattle.fio_log.specs.declared.by_forms.LineHeard.{LineHeard}
use Rattle.fio_log.specs.declared.verdict.Kind.{Kind}
use Rattle.fio_log.specs.declared.verdict.Kind.TheVariants as kinds
use Rattle.fio_log.specs.declared.verdict.Reason.{Reason}
use Rattle.fio_log.proofs.LineVerdictLemmas.{false_unless, none_ends}
use Rattle.fio_log.proofs.LostLineLemmas.{by_false, gone_told, spoilt_told}
use Rattle.fio_log.proofs.HeardLemmas.{closed_open}

-- ---- No message is open below a line of such forms

first_closed : (at : ℕ) (forms : List LineForm) (line tail : List ℕ) (state : Rows) → AreOfOneLine forms
    → is_message_open (first_line_in at forms line tail state).pending ≡ false
unfolding first_line_in
first_closed at [] line tail state are = refl
first_closed at (form ∷ forms) line tail state are = elim (cases_Bool (has form line)) [
  | inl had ↦ rw had (begun_closed at form line tail state are.0.0)
  | inr none ↦ rw none (first_closed (at + 1) forms line tail state are.1)
]

line_closed : (forms : List LineForm) (line tail : List ℕ) (state : Rows) → is_message_open state.pending ≡ false → AreOfOneLine forms
    → is_message_open (read_in forms line tail state).pending ≡ false
unfolding read_in
line_closed forms line tail state none are = rw none (first_closed 0 forms line tail (record state { octets = [] }) are)

heard_closed : (forms : List LineForm) (text : Text) (above : Rows) (heard : LineHeard) (after : Reading) → AreOfOneLine forms
    → is_message_open above.pending ≡ false → IsHeardOf forms text above heard after → is_message_open after.pending ≡ false
heard_closed forms text above heard after are none is = elim (cases_Bool (is_whole_text text)) [
  | inl whole ↦ ap (λ (r : Rows). is_message_open r.pending) (is.read whole).rows ∙ line_closed forms text.octets _ above none are
  | inr gone ↦ (is.passed gone).closed
]

-- below the line nothing is open
below_closed : (forms : List LineForm) (text : Text) (above : Above) (kind : Kind) (reason : Reason) (frames : List (List ℕ)) (below : Above) (ends : Bool)
    → AreOfOneLine forms → is_message_open above.state.pending ≡ false → TellsLine ends forms text above kind reason frames below
    → is_message_open below.state.pending ≡ false
below_closed forms text above kind reason frames below ends are none tells = false_unless (is_message_open below.state.pending) (λ opened.
    sym (heard_closed forms text above.state tells.heard tells.after are none tells.is)
    ∙ sym (ap (λ (r : Rows). is_message_open r.pending) (tells.left.open_message opened)) ∙ opened)

-- what is said of the line is what was heard of it
told_here : (ends : Bool) (forms : List LineForm) (text : Text) (above : Above) (kind : Kind) (reason : Reason) (frames : List (List ℕ)) (below : Above)
    → ends ≡ false → (tells : TellsLine ends forms text above kind reason frames below)
    → Tells (record { forms = forms; message = tells.after.message.items; last = tells.last; rows = above.rows }) text.octets tells.heard kind reason frames
told_here true forms text above kind reason frames below never tells = absurd (cc)
told_here false forms text above kind reason frames below never tells = tells.tells

-- ---- A line that no form has

said_other : (says : Said) → is_other says ≡ true → says ≡ said.Other
said_other said.Other is = refl
said_other _ is = absurd (cc)

other_or_lost : (lost : Bool) (says : Said) (known : Known) (line : List ℕ) (heard : LineHeard) (kind : Kind) (reason : Reason) (frames : List (List ℕ))
    → says ≡ said.Other → MatchBool lost (kind ≡ kinds.Damaged) (TellsSaid says known line heard kind reason frames) → is_of_others kind ≡ true
other_or_lost true says known line heard kind reason frames is tells = ap is_of_others tells
other_or_lost false said.Other known line heard kind reason frames is tells = tells
other_or_lost false _ known line heard kind reason frames is tells = absurd (cc)

other_told : (known : Known) (text : Text) (above : Rows) (heard : LineHeard) (after : Reading) (kind : Kind) (reason : Reason) (frames : List (List ℕ))
    → AllByRecursion (λ form. has form text.octets ≡ false) known.forms → is_message_open above.pending ≡ false
    → IsHeardOf known.forms text above heard after → Tells known text.octets heard kind reason frames → is_of_others kind ≡ true
other_told known text above heard after kind reason frames none closed is tells = elim (cases_Bool (is_whole_text text)) [
  | inr gone ↦ ap is_of_others (gone_told known text above heard after kind reason frames gone is tells)
  | inl whole ↦
      let read = is.read whole in
      let other : heard.said.said ≡ said.Other = said_other heard.said.said
      (ap (λ (r : Rows). is_other r.said) read.rows ∙ none_other known.forms text.octets _ above closed none) in
      other_or_lost (is_lost known.forms text.octets heard) heard.said.said known text.octets heard kind reason frames other tells
]

-- ---- A message by itself

none_echoes : (forms : List LineForm) (at : ℕ) → AreOfOneLine forms → is_of_echoes (slice_get forms at) ≡ false
none_echoes [] at are = refl
none_echoes (form ∷ forms) zero are = are.0.1
none_echoes (form ∷ forms) (suc at) are = none_echoes forms at are.1

nothing_odd : (form : Option LineForm) → is_odd_by form [] ≡ false
nothing_odd None = refl
nothing_odd (Some form) = by_width (width_of form.digits)
  where
    by_width : (width : Option ℕ) → are_odd_by form.rows width (Some 0) ≡ false
    by_width None = refl
    by_width (Some width) = refl

alone : (forms : List LineForm) (line : List ℕ) → AreOfOneLine forms → AllByRecursion (λ form. length (octets_by form line) < OCTETS) forms
    → AllByRecursion (λ form. (form.rows ≡ One) × (length (octets_by form line) < OCTETS)) forms
alone [] line are room = tt
alone (form ∷ forms) line are room = ((are.0.0, room.0), alone forms line are.1 room.1)

not_cut : (tail : List ℕ) → tail ≡ [] → is_cut_short tail ≡ false
unfolding is_cut_short
not_cut tail none = rw none refl

front_place : (at : ℕ) (line front : List ℕ) → at ≤ length line → drop at line ≡ front → at ≡ length line - length front
front_place at line front within same =
    let left : length front ≡ length line - at = sym (ap (λ (l : List ℕ). length l) same) ∙ length-drop at line in
    omega (arith, left, within)

all_dropped : (at : ℕ) (line : List ℕ) → at ≤ length line → drop at line ≡ [] → at ≡ length line
all_dropped at line within same =
    let left : 0 ≡ length line - at = sym (ap (λ (l : List ℕ). length l) same) ∙ length-drop at line in
    omega (arith, left, within)

-- what is said of a line that says a message, if nothing of it is gone
message_by : (says : Said) (known : Known) (line : List ℕ) (heard : LineHeard) (kind : Kind) (reason : Reason) (frames : List (List ℕ)) → says ≡ said.Frame
    → TellsSaid says known line heard kind reason frames
    → MatchBool (is_of_echoes (slice_get known.forms heard.said.form)) (TellsEcho known.message known.last kind)
    (TellsMessage known.forms known.message line known.rows heard kind reason frames)
message_by said.Frame known line heard kind reason frames is tells = tells
message_by _ known line heard kind reason frames is tells = absurd (cc)

and_false : (a b c : Bool) → c ≡ false → (a && b && c) ≡ false
and_false true true c is = is
and_false true false c is = refl
and_false false b c is = refl

none_lost : (long nul odd : Bool) → long ≡ false → nul ≡ false → odd ≡ false → (long || (nul || odd)) ≡ false
none_lost long nul odd short there even = rw (short, there, even) refl

message_told : (known : Known) (text : Text) (above : Rows) (heard : LineHeard) (after : Reading) (kind : Kind) (reason : Reason) (frames : List (List ℕ)) (message : List ℕ)
    → AreOfOneLine known.forms → IsMessageLine known.forms text message → is_message_open above.pending ≡ false → known.message ≡ after.message.items
    → IsHeardOf known.forms text above heard after → Tells known text.octets heard kind reason frames → IsToldAs (Message message) kind reason frames
message_told known text above heard after kind reason frames message are line closed same is tells =
    let read = is.read line.whole in
    let places = places_closed known.forms text.octets above closed in
    let tail : (places_in known.forms text.octets above).end ≡ [] = ap (λ (p : Places). p.end) places ∙ line.end in
    let says : IsReadInRows message (read_in known.forms text.octets (places_in known.forms text.octets above).end above) =
    itself_said known.forms text.octets (places_in known.forms text.octets above).end message above closed
    (not_cut _ tail, alone known.forms text.octets are line.room) line.read in
    let frame : heard.said.said ≡ said.Frame = ap (λ (r : Rows). r.said) read.rows ∙ says.said in
    let kept : after.message.items ≡ message = ap (λ (r : Rows). r.message) read.rows ∙ says.kept in
    let ends : heard.said.found.end ≡ length text.octets = all_dropped heard.said.found.end text.octets read.within.2 (read.places.2 ∙ tail) in
    let begins : heard.said.found.front ≡ length text.octets - length (first_places known.forms text.octets).front =
    front_place heard.said.found.front text.octets _ (omega (arith, read.within.0, read.within.1, read.within.2))
    (read.places.0 ∙ ap (λ (p : Places). p.front) places) in
    let short : heard.is_long ≡ false = is.long ∙ not-true text.is_long ((and_parts _ _ line.whole).0) in
    let there : heard.has_gap ≡ false = is.gap ∙ not-true _ ((and_parts _ _ line.whole).1) in
    let odd : is_odd_by (slice_get known.forms heard.said.form) (drop heard.said.found.end text.octets) ≡ false =
    rw (read.places.2, tail) (nothing_odd (slice_get known.forms heard.said.form)) in
    let found : is_lost known.forms text.octets heard ≡ false =
    none_lost heard.is_long heard.has_gap (is_spoilt known.forms text.octets heard.said) short there (and_false (says_octets heard.said.said) (nat_le heard.said.found.end (length text.octets)) _ odd) in
    let told : TellsSaid heard.said.said known text.octets heard kind reason frames =
    by_false (kind ≡ kinds.Damaged) (TellsSaid heard.said.said known text.octets heard kind reason frames) (is_lost known.forms text.octets heard) found tells in
    let own : TellsMessage known.forms known.message text.octets known.rows heard kind reason frames =
    by_false (TellsEcho known.message known.last kind) (TellsMessage known.forms known.message text.octets known.rows heard kind reason frames)
    (is_of_echoes (slice_get known.forms heard.said.form)) (none_echoes known.forms heard.said.form are)
    (message_by heard.said.said known text.octets heard kind reason frames frame told) in
    let off : heard.said.goes_on ≡ false = read.on ∙ goes_on_closed known.forms text.octets above closed in
    let room : HasRowRoom known.rows heard = λ on.
    let never : false ≡ true = sym off ∙ (and_parts heard.said.goes_on (is_of_message heard.said.said) (sym is.row ∙ on)).0 in absurd (cc) in
    let right : is_message after.message.items ≡ true = is.messages.said (ap says_message frame) in
    let given : kind ≡ kinds.Frames = own.given (ap is_message same ∙ right) room in
    let no_other : HasNoOther known.message heard reason frames = own.only given (record { before = rw begins line.before; end = ends }) in (
      given,
      no_other.none (read.broken ∙ broken_closed known.forms text.octets above closed),
      no_other.only ∙ ap (λ (one : List ℕ). one ∷ []) (same ∙ kept),
    )

-- ---- A log

line_told : (is : LineIs) (forms : List LineForm) (text : Text) (above : Above) (kind : Kind) (reason : Reason) (frames : List (List ℕ)) (below : Above) (ends : Bool)
    → AreOfOneLine forms → is_message_open above.state.pending ≡ false → IsSuchLine forms text is → ends ≡ false
    → TellsLine ends forms text above kind reason frames below → IsToldAs is kind reason frames
line_told (Message message) forms text above kind reason frames below ends are closed line never tells =
    message_told _ text above.state tells.heard tells.after kind reason frames message are line closed refl tells.is (told_here ends forms text above kind reason frames below never tells)
line_told Gone forms text above kind reason frames below ends are closed line never tells =
    gone_told _ text above.state tells.heard tells.after kind reason frames line tells.is (told_here ends forms text above kind reason frames below never tells)
line_told Spoilt forms text above kind reason frames below ends are closed line never tells =
    spoilt_told _ text above.state tells.heard tells.after kind reason frames line closed tells.is (told_here ends forms text above kind reason frames below never tells)
line_told Other forms text above kind reason frames below ends are closed line never tells =
    other_told _ text above.state tells.heard tells.after kind reason frames line closed tells.is (told_here ends forms text above kind reason frames below never tells)

-- each line is reported as what it is
pub told_right : (texts : Texts) (told : ℕ) (above : Above) (lines : List ToldLine) → is_message_open above.state.pending ≡ false
    → AreSuchLines texts told lines → AreToldInTurn texts told above lines → AreToldRight lines
told_right texts told above [] closed are tell = tt
told_right texts told above (line ∷ lines) closed are (below, tells, more) =
    let shut = below_closed line.forms (texts (told + 1)) above line.kind line.reason line.frames below _ are.0 closed tells in (
      line_told line.is line.forms (texts (told + 1)) above line.kind line.reason line.frames below _ are.0 closed are.1
          (none_ends line.forms (texts (told + 2)) below.state (closed_open below.state.pending shut)) tells,
      told_right texts (told + 1) below lines shut are.2 more,
    )
