-- Lines and logs by several forms.
use Rattle.std.proofs.Common.{◌≡◌, ◌≢◌, ℕ, Some, None, true, false, Bool, List, [], ◌∷◌, ◌++◌, length, refl, sym, ap, ◌∙◌, inl, inr}
use Rattle.std.specs.Prelude.{Option, nat_le, nat_lt, ◌+◌, ◌-◌, ◌&&◌, ◌||◌, map, ◌⊎◌}
use Rattle.std.specs.List.{AllByRecursion}
use Rattle.std.proofs.lemmas.Bool.{cases_Bool, false≢true}
use Rattle.fio_form.specs.Messages.{is_message}
use Rattle.fio_form.specs.Reading.{LineSaid, Frame, Damaged, Other, ends_in_form, is_bare, octets_between, octets_by, read_from, read_line, said_by_form, said_by_octets, said_in_octets, said_whole, said_wrapped}
use Rattle.fio_form.specs.Wholes.{held_of, whole_of}
use Rattle.fio_form.specs.declared.octets.TheConstants.{OCTETS}
use Rattle.fio_form.specs.declared.reading.Whole.{Whole}
use Rattle.fio_form.specs.declared.reading.Whole.TheVariants as wholes
use Rattle.fio_form.specs.Writing.{AreLines, AreOctetsIn, Has, IsBareLine, IsKept, IsKeptBare, IsKeptWrapped, IsLine, IsOther, IsWrappedLine, IsWrittenBy, IsWrittenLine, frame_or_other}
use Rattle.fio_form.specs.declared.form.LineForm.{LineForm}
use Rattle.fio_form.proofs.Lines.{as_one, as_other, run_of, run_read, run_some, the_one, the_other}
use Rattle.fio_form.proofs.Saying.{cut_of, message_cut, said_bare, written_of}

-- ---- One form

-- a form either has no octets in a line, or these
record FoundGuess (form : LineForm) (line : List ℕ) : Type 0 where
  octets : List ℕ
  is : octets_by form line ≡ octets
  some : octets ≢ []
  run : AreOctetsIn form octets line

found_or_not : (form : LineForm) (line : List ℕ) → (octets_by form line ≡ []) ⊎ FoundGuess form line
found_or_not form line = by_octets (octets_by form line) refl
  where
    by_octets : (octets : List ℕ) → octets_by form line ≡ octets → (octets_by form line ≡ []) ⊎ FoundGuess form line
    by_octets [] is = inl is
    by_octets (octet ∷ octets) is = inr (record { octets = octet ∷ octets; is = is; some = λ none. cc; run = run_of form (octet ∷ octets) line is (λ none. cc) })

has_not : (form : LineForm) (line : List ℕ) → octets_by form line ≡ [] → Has form line → ⊥
has_not form line none has = run_some form has.octets line has.run (sym (run_read form has.octets line has.run) ∙ none)

pub no_octets : (form : LineForm) (line : List ℕ) → (Has form line → ⊥) → octets_by form line ≡ []
no_octets form line not_ = elim (found_or_not form line) [
  | inl none ↦ none
  | inr found ↦ absurd (not_ (record { octets = found.octets; run = found.run }))
]

said_some : (form : LineForm) (octets : List ℕ) (rest : LineSaid) → octets ≢ [] → said_by_form form octets rest ≡ said_in_octets form octets
said_some form [] rest some = absurd (some refl)
said_some form (octet ∷ octets) rest some = refl

message_not_other : (before after : ℕ) (octets : List ℕ) → said_by_octets before after octets ≢ Other
message_not_other before after octets h = elim (cases_Bool (nat_lt (before + after) (length octets) && is_message (octets_between before (length octets - after) octets))) [
  | inl more ↦ (let there = rw more at h in cc)
  | inr few ↦ (let there = rw few at h in cc)
]

damaged_not_other : Damaged ≡ Other → ⊥
damaged_not_other h = cc

frame_not_other : (message : List ℕ) → Frame message ≡ Other → ⊥
frame_not_other message h = cc

whole_not_other : (whole : Whole) (octets : List ℕ) → said_whole whole octets ≢ Other
whole_not_other (wholes.Message start end) octets h = frame_not_other (octets_between start end octets) h
whole_not_other (wholes.Any start end) octets h = frame_not_other (octets_between start end octets) h
whole_not_other _ octets h = damaged_not_other h

wrapped_not_other : (form : LineForm) (octets : List ℕ) → said_wrapped form octets ≢ Other
wrapped_not_other form octets h = elim (cases_Bool (nat_le OCTETS (length octets))) [
  | inl many ↦ damaged_not_other (rw many at h)
  | inr few ↦ whole_not_other (whole_of form octets) (held_of form octets) (rw few at h)
]

octets_not_other : (form : LineForm) (octets : List ℕ) → said_in_octets form octets ≢ Other
octets_not_other form octets h = elim (cases_Bool (is_bare form)) [
  | inl bare ↦ message_not_other form.before form.after octets (sym (said_bare form octets bare) ∙ h)
  | inr not_ ↦ wrapped_not_other form octets (rw not_ at h)
]

-- what the first form that has the line reads
found_read : (above : List LineForm) (form : LineForm) (below : List LineForm) (cut : Bool) (octets line : List ℕ) → AllByRecursion (λ other. Has other line → ⊥) above
    → octets_by form line ≡ octets → octets ≢ [] → read_from (above ++ form ∷ below) cut line ≡ said_in_octets form octets
found_read [] form below cut octets line first is some =
    ap (λ o. said_by_form form o (read_from below (cut || ends_in_form form line) line)) is
    ∙ said_some form octets (read_from below (cut || ends_in_form form line) line) some
found_read (other ∷ above) form below cut octets line first is some =
    ap (λ o. said_by_form other o (read_from (above ++ form ∷ below) (cut || ends_in_form other line) line)) (no_octets other line first.0)
    ∙ found_read above form below (cut || ends_in_form other line) octets line first.1 is some

-- ---- What is written is read

written_read : (above : List LineForm) (form : LineForm) (below : List LineForm) (message line : List ℕ) → AllByRecursion (λ other. Has other line → ⊥) above → IsWrittenLine form message line
    → read_line (above ++ form ∷ below) line ≡ Frame message
written_read above form below message line first is = elim (cases_Bool (is_bare form)) [
  | inl bare ↦ bare_read bare (the_one (is_bare form) (IsBareLine form message line) (IsWrappedLine form message line) bare is)
  | inr not_ ↦ wrapped_read (the_other (is_bare form) (IsBareLine form message line) (IsWrappedLine form message line) not_ is)
]
  where
    bare_read : is_bare form ≡ true → IsBareLine form message line → read_line (above ++ form ∷ below) line ≡ Frame message
    bare_read bare is =
        let all = is.header ++ (message ++ is.check) in
        found_read above form below false all line first (run_read form all line is.run) (run_some form all line is.run)
        ∙ (said_bare form all bare ∙ rw (sym is.before, sym is.after) (message_cut is.header message is.check is.encodes))

    wrapped_read : IsWrappedLine form message line → read_line (above ++ form ∷ below) line ≡ Frame message
    wrapped_read is = found_read above form below false is.octets line first (run_read form is.octets line is.run) (run_some form is.octets line is.run) ∙ is.said

pub read_back : (forms : List LineForm) (message line : List ℕ) → IsWrittenBy forms message line → read_line forms line ≡ Frame message
read_back forms message line is =
    ap (λ (all : List LineForm). read_line all line) is.all ∙ written_read is.above is.form is.below message line is.first is.written

-- ---- What is read is written

damaged_not_frame : (message : List ℕ) → Damaged ≡ Frame message → ⊥
damaged_not_frame message h = cc

other_not_frame : (message : List ℕ) → Other ≡ Frame message → ⊥
other_not_frame message h = cc

with_other : (form : LineForm) (forms : List LineForm) (message line : List ℕ) → (Has form line → ⊥) → IsWrittenBy forms message line → IsWrittenBy (form ∷ forms) message line
with_other form forms message line not_ is = record {
  above = form ∷ is.above;
  form = is.form;
  below = is.below;
  all = ap (λ (all : List LineForm). form ∷ all) is.all;
  first = (not_, is.first);
  written = is.written;
}

written_from : (forms : List LineForm) (cut : Bool) (message line : List ℕ) → read_from forms cut line ≡ Frame message → IsWrittenBy forms message line
written_from [] true message line said = absurd (damaged_not_frame message said)
written_from [] false message line said = absurd (other_not_frame message said)
written_from (form ∷ forms) cut message line said = elim (found_or_not form line) [
  | inl none ↦ with_other form forms message line (has_not form line none) (written_from forms (cut || ends_in_form form line) message line (rw none at said))
  | inr found ↦ record {
    above = [];
    form = form;
    below = forms;
    all = refl;
    first = tt;
    written = written_of form message found.octets line found.run (sym (found_read [] form forms cut found.octets line tt found.is found.some) ∙ said);
  }
]

pub written_back : (forms : List LineForm) (message line : List ℕ) → read_line forms line ≡ Frame message → IsWrittenBy forms message line
written_back forms message line said = written_from forms false message line said

-- ---- Other lines

or_false : (a b : Bool) → (a || b) ≡ false → (a ≡ false) × (b ≡ false)
or_false true b h = absurd (false≢true (sym h))
or_false false b h = (refl, h)

other_of : (forms : List LineForm) (cut : Bool) (line : List ℕ) → read_from forms cut line ≡ Other → (cut ≡ false) × IsOther forms line
other_of [] true line said = absurd (damaged_not_other said)
other_of [] false line said = (refl, tt)
other_of (form ∷ forms) cut line said = elim (found_or_not form line) [
  | inl none ↦ (
      let more = other_of forms (cut || ends_in_form form line) line (rw none at said) in
      let parts = or_false cut (ends_in_form form line) more.0 in
      (parts.0, ((has_not form line none, parts.1), more.1)))
  | inr found ↦ absurd (octets_not_other form found.octets (sym (found_read [] form forms cut found.octets line tt found.is found.some) ∙ said))
]

pub is_other : (forms : List LineForm) (line : List ℕ) → read_line forms line ≡ Other → IsOther forms line
is_other forms line said = (other_of forms false line said).1

pub other_read : (forms : List LineForm) (line : List ℕ) → IsOther forms line → read_line forms line ≡ Other
other_read [] line is = refl
other_read (form ∷ forms) line is = rw (no_octets form line is.0.0) (rw (is.0.1) (other_read forms line is.1))

-- ---- The log

line_read : (forms : List LineForm) (line : List ℕ) (message : Option (List ℕ)) → IsLine forms line message → read_line forms line ≡ frame_or_other message
line_read forms line None is = other_read forms line is
line_read forms line (Some message) is = read_back forms message line is

pub log_read : (forms : List LineForm) (lines : List (List ℕ)) (messages : List (Option (List ℕ))) → AreLines forms lines messages → map (read_line forms) lines ≡ map frame_or_other messages
log_read forms [] [] are = refl
log_read forms [] (message ∷ messages) are = absurd are
log_read forms (line ∷ lines) [] are = absurd are
log_read forms (line ∷ lines) (message ∷ messages) are =
    ap (λ said. said ∷ map (read_line forms) lines) (line_read forms line message are.0)
    ∙ ap (λ (all : List LineSaid). frame_or_other message ∷ all) (log_read forms lines messages are.1)

-- ---- The octets

kept_bare : (form : LineForm) (octets : List ℕ) (said : LineSaid) → said ≡ said_by_octets form.before form.after octets → (said ≡ Damaged) ⊎ IsKeptBare form octets said
kept_bare form octets said is = elim (cases_Bool (nat_lt (form.before + form.after) (length octets) && is_message (octets_between form.before (length octets - form.after) octets))) [
  | inl more ↦ (
      let message = octets_between form.before (length octets - form.after) octets in
      let frame : said_by_octets form.before form.after octets ≡ Frame message = rw more refl in
      let cut = cut_of form.before form.after message octets frame in
      inr (record { header = cut.header; message = message; check = cut.check; whole = cut.whole; before = cut.skipped; after = cut.dropped; frame = is ∙ frame }))
  | inr few ↦ inl (is ∙ rw few refl)
]

kept_wrapped : (form : LineForm) (octets : List ℕ) (said all : LineSaid) → said ≡ all → said_in_octets form octets ≡ all → all ≢ Other → (said ≡ Damaged) ⊎ IsKeptWrapped form octets said
kept_wrapped form octets said (Frame message) is same some = inr (record { message = message; is = same; frame = is })
kept_wrapped form octets said Damaged is same some = inl is
kept_wrapped form octets said Other is same some = absurd (some refl)

kept : (form : LineForm) (octets : List ℕ) (said : LineSaid) → said ≡ said_in_octets form octets → (said ≡ Damaged) ⊎ IsKept form octets said
kept form octets said is = elim (cases_Bool (is_bare form)) [
  | inl bare ↦ elim (kept_bare form octets said (is ∙ said_bare form octets bare)) [
    | inl damaged ↦ inl damaged
    | inr all ↦ inr (as_one (is_bare form) (IsKeptBare form octets said) (IsKeptWrapped form octets said) bare all)
  ]
  | inr not_ ↦ elim (kept_wrapped form octets said (said_in_octets form octets) is refl (octets_not_other form octets)) [
    | inl damaged ↦ inl damaged
    | inr all ↦ inr (as_other (is_bare form) (IsKeptBare form octets said) (IsKeptWrapped form octets said) not_ all)
  ]
]

pub all_kept : (above : List LineForm) (form : LineForm) (below : List LineForm) (octets line : List ℕ) → AllByRecursion (λ other. Has other line → ⊥) above → AreOctetsIn form octets line
    → (read_line (above ++ form ∷ below) line ≡ Damaged) ⊎ IsKept form octets (read_line (above ++ form ∷ below) line)
all_kept above form below octets line first run =
    kept form octets (read_line (above ++ form ∷ below) line) (found_read above form below false octets line first (run_read form octets line run) (run_some form octets line run))
