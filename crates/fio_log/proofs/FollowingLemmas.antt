-- What a reader has heard and said of the next line of a log.
use Rattle.std.proofs.Common.{◌≡◌, ◌≤◌, ◌<◌, ◌+◌, ◌∙◌, ℕ, true, false, List, Option, Some, None, IfSome, is_some, length, sym, refl, arith, inl, inr}
use Rattle.std.proofs.lemmas.Bool.Decides.{leb_tells, eqb_tells}
use Rattle.fio_rows.specs.Lines.{is_message_whole}
use Rattle.fio_log.specs.Blanks.{Texts}
use Rattle.fio_log.specs.Following.{Begins, Follows, HasLastOf, HasLine, HasNext, HasSameLines, TellsLine}
use Rattle.fio_log.specs.Heard.{Above, IsHeardOf, above_of}
use Rattle.fio_log.specs.Knowing.{HasAllOf}
use Rattle.fio_log.specs.Lines.{Making, is_whole}
use Rattle.fio_log.specs.declared.by_forms.LineHeard.{LineHeard}
use Rattle.fio_log.specs.declared.teller.Teller.{Teller}
use Rattle.fio_log.specs.declared.verdict.LineVerdict.{LineVerdict}

-- an option with nothing that can be in it
unheard : {T : Type 0} (P : T → Type 0) (option : Option T) → IfSome option P → ((one : T) → P one → ⊥) → option ≡ None
unheard P None is never = refl
unheard P (Some one) is never = absurd (never one is)

-- what is in an option
pub in_some : {T : Type 0} (P : T → Type 0) (option : Option T) (one : T) → option ≡ Some one → IfSome option P → P one
in_some P option one is all = rw is at all

-- what is in another option
some_in : {T : Type 0} (P : T → Type 0) (option : Option T) (one : T) → option ≡ Some one → P one → IfSome option P
some_in P option one is p = rw is p

none_in : {T : Type 0} (P : T → Type 0) (option : Option T) → option ≡ None → IfSome option P
none_in P option is = rw is tt

-- ---- Tellers that follow

-- a teller that begins
pub begins_follows : (texts : Texts) (teller : Teller) (making : Making) (frames : List (List ℕ)) → Begins teller
    → Follows texts (above_of teller.by_forms) teller making frames 0 0
begins_follows texts teller making frames begins = record {
  heard = none_in _ teller.heard begins.heard;
  waiting = none_in _ teller.waiting begins.waiting;
  none = λ unheard silent. refl;
  unknown = λ unknown. (begins.heard, begins.waiting);
  next = λ known less. absurd (omega (arith, less));
  lines = λ known number below within. absurd (omega (arith, below, within));
}

-- a teller that has heard nothing of a log of which nothing is read
pub unread_heard : (texts : Texts) (above : Above) (teller : Teller) (making : Making) (frames : List (List ℕ))
    → Follows texts above teller making frames 0 0 → (teller.heard ≡ None) × (teller.waiting ≡ None)
unread_heard texts above teller making frames follows = (
  unheard _ teller.heard follows.heard (λ one is. omega (arith, is.0.within)),
  unheard _ teller.waiting follows.waiting (λ one is. omega (arith, is.0)),
)

-- a teller of whose log nothing is read, with other forms
pub unread_follows : (texts : Texts) (above : Above) (before after : Teller) (making : Making) (frames : List (List ℕ))
    → after.heard ≡ before.heard → after.waiting ≡ before.waiting → after.by_forms.reading ≡ before.by_forms.reading
    → after.by_forms.rows ≡ before.by_forms.rows → Follows texts above before making frames 0 0 → Follows texts above after making frames 0 0
unread_follows texts above before after making frames heard waiting reading rows follows =
    let was = unread_heard texts above before making frames follows in
    let unheard : after.heard ≡ None = heard ∙ was.0 in
    let silent : after.waiting ≡ None = waiting ∙ was.1 in
    record {
      heard = none_in _ after.heard unheard;
      waiting = none_in _ after.waiting silent;
      none = λ one other. rw (reading, rows) (follows.none was.0 was.1);
      unknown = λ unknown. (unheard, silent);
      next = λ known less. absurd (omega (arith, less));
      lines = λ known number below within. absurd (omega (arith, below, within));
    }

-- a teller that has reported what it has heard, with a line more
pub more_follows : (texts : Texts) (above : Above) (teller : Teller) (making more : Making) (frames : List (List ℕ)) (read next told : ℕ)
    → next ≡ read + 1 → is_whole more.ending ≡ true → teller.heard ≡ None → (teller.is_known ≡ true → read ≤ told + 1)
    → HasNext teller read told → Follows texts above teller making frames read told → Follows texts above teller more frames next told
more_follows texts above teller making more frames read next told is whole unheard one has follows = record {
  heard = none_in _ teller.heard unheard;
  waiting = rw is (waits_on texts above teller frames read told follows.waiting);
  none = follows.none;
  unknown = follows.unknown;
  next = λ known less silent quiet. elim (leb_tells (told + 1) read) [
    | inl some ↦ absurd (has known (omega (arith, some.1)) silent quiet)
    | inr none ↦ record { within = omega (arith, less); there = inr (omega (arith, less, is, none.1), whole) }
  ];
  lines = λ known number below within.
      record { within = within; there = inr (omega (arith, below, within, is, one known), whole) };
}
  where
    waits_on : (texts : Texts) (above : Above) (teller : Teller) (frames : List (List ℕ)) (read told : ℕ)
        → IfSome teller.waiting (λ verdict. (told < read) × TellsLine false teller.by_forms.forms (texts (told + 1)) above verdict.kind verdict.reason frames (above_of teller.by_forms)
        × (is_message_whole teller.by_forms.reading.pending ≡ true → teller.is_open ≡ true))
        → IfSome teller.waiting (λ verdict. (told < read + 1) × TellsLine false teller.by_forms.forms (texts (told + 1)) above verdict.kind verdict.reason frames (above_of teller.by_forms)
        × (is_message_whole teller.by_forms.reading.pending ≡ true → teller.is_open ≡ true))
    waits_on texts above teller frames read told waits = elim teller.waiting as (λ w.
        IfSome w (λ verdict. (told < read) × TellsLine false teller.by_forms.forms (texts (told + 1)) above verdict.kind verdict.reason frames (above_of teller.by_forms)
        × (is_message_whole teller.by_forms.reading.pending ≡ true → teller.is_open ≡ true))
        → IfSome w (λ verdict. (told < read + 1) × TellsLine false teller.by_forms.forms (texts (told + 1)) above verdict.kind verdict.reason frames (above_of teller.by_forms)
        × (is_message_whole teller.by_forms.reading.pending ≡ true → teller.is_open ≡ true))) [
          | None ↦ λ waits. tt
          | Some verdict ↦ λ waits. (omega (arith, waits.0), waits.1, waits.2)
        ] waits

-- a teller that has reported what it has heard, with a line that is made on
pub made_follows : (texts : Texts) (above : Above) (teller : Teller) (making more : Making) (frames : List (List ℕ)) (read told : ℕ)
    → teller.heard ≡ None → (teller.is_known ≡ true → read ≤ told + 1) → HasNext teller read told
    → Follows texts above teller making frames read told → Follows texts above teller more frames read told
made_follows texts above teller making more frames read told unheard one has follows = record {
  heard = none_in _ teller.heard unheard;
  waiting = follows.waiting;
  none = follows.none;
  unknown = follows.unknown;
  next = λ known less silent quiet. absurd (has known less silent quiet);
  lines = λ known number below within. absurd (omega (arith, below, within, one known));
}

-- a line of the window, or the last one
pub line_there : (making : Making) (first lines count read told number : ℕ) → first ≡ told + 1 → lines ≡ count → told < number → number ≤ read
    → (told + count < number → (number ≡ read) × (is_whole making.ending ≡ true)) → HasLine first lines making read number
line_there making first lines count read told number begin counted below within last = elim (leb_tells number (told + count)) [
  | inl some ↦ record { within = within; there = inl (omega (arith, begin), omega (arith, begin, below), omega (arith, begin, counted, below, some.1)) }
  | inr none ↦ record { within = within; there = inr (last none.1) }
]

-- a teller that knows the forms, of what is in its window
pub drained_follows : (texts : Texts) (above : Above) (before after : Teller) (making : Making) (frames : List (List ℕ)) (read told count most : ℕ)
    → before.is_known ≡ false → after.is_known ≡ true → after.heard ≡ before.heard → after.waiting ≡ before.waiting
    → after.by_forms.reading ≡ before.by_forms.reading → after.by_forms.rows ≡ before.by_forms.rows → read ≤ most → (told < most → after.first ≡ told + 1) → after.lines ≡ count
    → ((number : ℕ) → told + count < number → number ≤ read → (number ≡ read) × (is_whole making.ending ≡ true))
    → Follows texts above before making frames read told → Follows texts above after making frames read told
drained_follows texts above before after making frames read told count most was known heard waiting reading rows few first lines last follows =
    let none = follows.unknown was in
    let unheard : after.heard ≡ None = heard ∙ none.0 in
    let silent : after.waiting ≡ None = waiting ∙ none.1 in
    record {
      heard = none_in _ after.heard unheard;
      waiting = none_in _ after.waiting silent;
      none = λ one other. rw (reading, rows) (follows.none none.0 none.1);
      unknown = λ unknown. let no : false ≡ true = sym unknown ∙ known in absurd (cc);
      next = λ is less one other. line_there making after.first after.lines count read told (told + 1) (first (omega (arith, less, few))) lines
          (omega arith) (omega (arith, less)) (λ far. last (told + 1) far (omega (arith, less)));
      lines = λ is number below within. line_there making after.first after.lines count read told number (first (omega (arith, below, within, few))) lines
          (omega (arith, below)) within (λ far. last number far within);
    }

-- a line that is in a window which has not ended, or is the last one
pub kept_line : (making : Making) (first lines begin read told number : ℕ) → (¬ (begin ≡ first) → first + lines ≤ told + 1) → told < number
    → HasLine first lines making read number → HasLine begin lines making read number
kept_line making first lines begin read told number ends below has = elim (eqb_tells begin first) [
  | inl same ↦ rw same.1 has
  | inr other ↦ record {
    within = has.within;
    there = elim has.there [
      | inl some ↦ absurd (omega (arith, ends other.1, some.1, some.2, below))
      | inr last ↦ inr last
    ];
  }
]

-- a teller whose window may have ended
pub ended_follows : (texts : Texts) (above : Above) (before after : Teller) (making : Making) (frames : List (List ℕ)) (read told first : ℕ)
    → after ≡ record before { first = first } → (¬ (first ≡ before.first) → before.first + before.lines ≤ told + 1)
    → Follows texts above before making frames read told → Follows texts above after making frames read told
ended_follows texts above before after making frames read told first is ends follows = rw is (record {
  heard = heard_on before.heard follows.heard;
  waiting = follows.waiting;
  none = follows.none;
  unknown = follows.unknown;
  next = λ known less one other. kept_line making before.first before.lines first read told (told + 1) ends (omega arith) (follows.next known less one other);
  lines = λ known number below within. kept_line making before.first before.lines first read told number ends (omega (arith, below)) (follows.lines known number below within);
})
  where
    heard_on : (heard : Option LineHeard)
        → IfSome heard (λ one. HasLine before.first before.lines making read (told + 1) × IsHeardOf before.by_forms.forms (texts (told + 1)) above.state one before.by_forms.reading
        × (above.rows ≡ length before.by_forms.rows.places.items))
        → IfSome heard (λ one. HasLine first before.lines making read (told + 1) × IsHeardOf before.by_forms.forms (texts (told + 1)) above.state one before.by_forms.reading
        × (above.rows ≡ length before.by_forms.rows.places.items))
    heard_on None is = tt
    heard_on (Some one) is = (kept_line making before.first before.lines first read told (told + 1) ends (omega arith) is.0, is.1, is.2)

-- a teller that has heard the next line
pub heard_follows : (texts : Texts) (above : Above) (before after : Teller) (making : Making) (frames more : List (List ℕ)) (read told : ℕ)
    (heard : LineHeard) → before.is_known ≡ true → after.is_known ≡ before.is_known → after.first ≡ before.first → after.lines ≡ before.lines
    → after.heard ≡ Some heard → after.waiting ≡ None → HasLine before.first before.lines making read (told + 1)
    → IsHeardOf after.by_forms.forms (texts (told + 1)) above.state heard after.by_forms.reading
    → above.rows ≡ length after.by_forms.rows.places.items
    → Follows texts above before making frames read told → Follows texts above after making more read told
heard_follows texts above before after making frames more read told heard was known first lines hears silent has is rows follows = record {
  heard = some_in _ after.heard heard hears (rw (first, lines) has, is, rows);
  waiting = none_in _ after.waiting silent;
  none = λ none other. let no : Some heard ≡ None = sym hears ∙ none in absurd (cc);
  unknown = λ unknown. let no : false ≡ true = sym unknown ∙ (known ∙ was) in absurd (cc);
  next = λ some less none other. rw (first, lines) has;
  lines = λ some number below within. rw (first, lines) (follows.lines was number below within);
}

-- a teller that has reported the next line, which waits
pub settled_follows : (texts : Texts) (above : Above) (before after : Teller) (making : Making) (frames more : List (List ℕ)) (read told : ℕ)
    (heard : LineHeard) (verdict : LineVerdict) → HasSameLines before after → before.heard ≡ Some heard → after.heard ≡ None
    → after.waiting ≡ Some verdict → HasLine before.first before.lines making read (told + 1)
    → TellsLine false before.by_forms.forms (texts (told + 1)) above verdict.kind verdict.reason more (above_of after.by_forms)
    → (is_message_whole after.by_forms.reading.pending ≡ true → after.is_open ≡ true)
    → Follows texts above before making frames read told → Follows texts above after making more read told
settled_follows texts above before after making frames more read told heard verdict same was none waits has tells opens follows = record {
  heard = none_in _ after.heard none;
  waiting = some_in _ after.waiting verdict waits (omega (arith, has.within), rw same.forms tells, opens);
  none = λ one silent. let no : Some verdict ≡ None = sym waits ∙ silent in absurd (cc);
  unknown = λ unknown.
      let no : Some heard ≡ None = sym was ∙ (follows.unknown (sym same.known ∙ unknown)).0 in absurd (cc);
  next = λ known less one other. rw (same.first, same.lines) has;
  lines = λ known number below within. rw (same.first, same.lines) (follows.lines (sym same.known ∙ known) number below within);
}

-- a teller that has reported the next line, and forgets it
pub below_follows : (texts : Texts) (above : Above) (before after : Teller) (making : Making) (frames more : List (List ℕ)) (read told : ℕ)
    → before.is_known ≡ true → HasSameLines before after → after.heard ≡ None → after.waiting ≡ None
    → Follows texts above before making frames read told → Follows texts (above_of after.by_forms) after making more read (told + 1)
below_follows texts above before after making frames more read told was same none silent follows = record {
  heard = none_in _ after.heard none;
  waiting = none_in _ after.waiting silent;
  none = λ one other. refl;
  unknown = λ unknown. (none, silent);
  next = λ known less one other. rw (same.first, same.lines) (follows.lines was (told + 1 + 1) (omega arith) (omega (arith, less)));
  lines = λ known number below within. rw (same.first, same.lines) (follows.lines was number (omega (arith, below)) within);
}

-- a teller at the end of a log
pub last_follows : (texts : Texts) (above : Above) (before after : Teller) (making : Making) (frames more : List (List ℕ)) (read told : ℕ)
    → HasSameLines before after → after.heard ≡ None → after.waiting ≡ None → before.heard ≡ None → before.waiting ≡ None
    → Follows texts above before making frames read told → Follows texts (above_of after.by_forms) after making more read told
last_follows texts above before after making frames more read told same none silent unheard quiet follows = record {
  heard = none_in _ after.heard none;
  waiting = none_in _ after.waiting silent;
  none = λ one other. refl;
  unknown = λ unknown. (none, silent);
  next = λ known less one other. rw (same.first, same.lines) (follows.next (sym same.known ∙ known) less unheard quiet);
  lines = λ known number below within. rw (same.first, same.lines) (follows.lines (sym same.known ∙ known) number below within);
}

-- a teller that knows no forms, below one that has heard nothing
pub anew_follows : (texts : Texts) (above : Above) (before after : Teller) (making : Making) (frames : List (List ℕ)) (read told : ℕ)
    → before.heard ≡ None → before.waiting ≡ None → after.is_known ≡ false → after.heard ≡ before.heard → after.waiting ≡ before.waiting
    → after.by_forms ≡ before.by_forms → Follows texts above before making frames read told → Follows texts above after making frames read told
anew_follows texts above before after making frames read told none quiet unknown heard waiting forms follows =
    let unheard : after.heard ≡ None = heard ∙ none in
    let silent : after.waiting ≡ None = waiting ∙ quiet in
    record {
      heard = none_in _ after.heard unheard;
      waiting = none_in _ after.waiting silent;
      none = λ one other. rw forms (follows.none none quiet);
      unknown = λ is. (unheard, silent);
      next = λ known less one other. let no : false ≡ true = sym unknown ∙ known in absurd (cc);
      lines = λ known number below within. let no : false ≡ true = sym unknown ∙ known in absurd (cc);
    }

-- a teller that knows no forms, with another window
pub filling_follows : (texts : Texts) (above : Above) (before after : Teller) (making : Making) (frames : List (List ℕ)) (read told : ℕ)
    → before.is_known ≡ false → after.is_known ≡ before.is_known → after.heard ≡ before.heard → after.waiting ≡ before.waiting
    → after.by_forms ≡ before.by_forms → Follows texts above before making frames read told → Follows texts above after making frames read told
filling_follows texts above before after making frames read told was same heard waiting forms follows =
    let none = follows.unknown was in
    anew_follows texts above before after making frames read told none.0 none.1 (same ∙ was) heard waiting forms follows

-- a window with each line that is read
pub all_of : (texts : Texts) (teller : Teller) (making : Making) (read told : ℕ) → HasAllOf texts teller read told
    → HasLastOf teller making read told
all_of texts teller making read told all = λ number below within. absurd (omega (arith, below, within, all.all))

-- a window with each line but the last one
pub last_of : (texts : Texts) (teller : Teller) (making : Making) (last read told : ℕ) → read ≡ last + 1 → is_whole making.ending ≡ true
    → HasAllOf texts teller last told → HasLastOf teller making read told
last_of texts teller making last read told next whole all = λ number below within. (omega (arith, below, within, all.all, next), whole)

-- a teller that differs from one in what it has heard
pub same_then : (before middle after : Teller) → HasSameLines before middle → after.by_forms.forms ≡ middle.by_forms.forms
    → after.is_known ≡ middle.is_known → after.first ≡ middle.first → after.lines ≡ middle.lines → HasSameLines before after
same_then before middle after same forms known first lines = record {
  forms = forms ∙ same.forms;
  known = known ∙ same.known;
  first = first ∙ same.first;
  lines = lines ∙ same.lines;
}

-- a teller that has heard the next line, if it was there
pub heard_next : (texts : Texts) (above : Above) (before after : Teller) (making : Making) (frames : List (List ℕ)) (read told : ℕ)
    → before.is_known ≡ true → before.waiting ≡ None
    → ((before.heard ≡ None → HasLine before.first before.lines making read (told + 1)) → is_some after.heard ≡ true)
    → Follows texts above before making frames read told → HasNext after read told
heard_next texts above before after making frames read told was quiet hears follows = λ known less none silent.
    let some = hears (λ unheard. follows.next was less unheard quiet) in
    let no : false ≡ true = rw none at some in
    absurd (cc)
