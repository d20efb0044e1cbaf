-- What is reported of lost lines: those that are too long or lack a part, and those whose octets are damaged.
use Rattle.std.proofs.Common.{◌≡◌, ◌∙◌, ◌≤◌, ℕ, Bool, true, false, not, ◌&&◌, ◌||◌, List, length, drop, MatchBool, slice_get, refl, sym, ap, ap₂, arith, inl, inr}
use Rattle.std.specs.Prelude.{nat_le}
use Rattle.std.proofs.lemmas.Bool.{cases_Bool}
use Rattle.std.proofs.lemmas.Bool.Decides.{nat_tests}
use Rattle.fio_rows.specs.Lines.{first, is_message_open, read_in}
use Rattle.fio_rows.specs.Places.{Places, first_places, places_in}
use Rattle.fio_rows.specs.Rows.{Rows, rows_of}
use Rattle.fio_rows.specs.declared.rows.Reading.{Reading}
use Rattle.fio_rows.specs.declared.said.Said.{Said}
use Rattle.fio_rows.specs.declared.said.Said.TheVariants as said
use Rattle.fio_log.specs.Heard.{IsHeardOf, Known, Tells, TellsSaid, has_nul, is_lost, is_odd_by, is_spoilt, is_whole_text, says_octets}
use Rattle.fio_log.specs.LineLogs.{IsSpoiltLine, read_alone}
use Rattle.fio_log.specs.Lines.{Text}
use Rattle.fio_log.specs.declared.by_forms.LineHeard.{LineHeard}
use Rattle.fio_log.specs.declared.verdict.Kind.{Kind}
use Rattle.fio_log.specs.declared.verdict.Kind.TheVariants as kinds
use Rattle.fio_log.specs.declared.verdict.Reason.{Reason}
use Rattle.fio_rows.proofs.ClosedLines.{places_closed, read_closed}

-- ---- A line that is too long, or of which a part is gone

lost_if_gone : (long nul odd : Bool) → (not long && not nul) ≡ false → (long || (nul || odd)) ≡ true
lost_if_gone true nul odd gone = refl
lost_if_gone false true odd gone = refl
lost_if_gone false false odd gone = absurd (cc)

pub by_true : (P Q : Type 0) (b : Bool) → b ≡ true → MatchBool b P Q → P
by_true P Q true is p = p
by_true P Q false is p = absurd (cc)

pub by_false : (P Q : Type 0) (b : Bool) → b ≡ false → MatchBool b P Q → Q
by_false P Q true is q = absurd (cc)
by_false P Q false is q = q

pub gone_told : (known : Known) (text : Text) (above : Rows) (heard : LineHeard) (after : Reading) (kind : Kind) (reason : Reason) (frames : List (List ℕ))
    → is_whole_text text ≡ false → IsHeardOf known.forms text above heard after → Tells known text.octets heard kind reason frames → kind ≡ kinds.Damaged
gone_told known text above heard after kind reason frames gone is tells =
    by_true (kind ≡ kinds.Damaged) (TellsSaid heard.said.said known text.octets heard kind reason frames) (is_lost known.forms text.octets heard) (rw (is.long, is.gap) (lost_if_gone text.is_long (has_nul text.octets) (is_spoilt known.forms text.octets heard.said) gone)) tells

-- ---- A line whose octets are damaged

damaged_or_lost : (lost : Bool) (says : Said) (known : Known) (line : List ℕ) (heard : LineHeard) (kind : Kind) (reason : Reason) (frames : List (List ℕ))
    → says ≡ said.Damaged → MatchBool lost (kind ≡ kinds.Damaged) (TellsSaid says known line heard kind reason frames) → kind ≡ kinds.Damaged
damaged_or_lost true says known line heard kind reason frames is tells = tells
damaged_or_lost false said.Damaged known line heard kind reason frames is tells = tells
damaged_or_lost false _ known line heard kind reason frames is tells = absurd (cc)

lost_if_odd : (long nul odd : Bool) → odd ≡ true → (long || (nul || odd)) ≡ true
lost_if_odd true nul odd is = refl
lost_if_odd false true odd is = refl
lost_if_odd false false odd is = is

spoilt_if : (says within odd : Bool) → says ≡ true → within ≡ true → odd ≡ true → (says && within && odd) ≡ true
spoilt_if says within odd a b c = rw (a, b, c) refl

pub spoilt_told : (known : Known) (text : Text) (above : Rows) (heard : LineHeard) (after : Reading) (kind : Kind) (reason : Reason) (frames : List (List ℕ))
    → IsSpoiltLine known.forms text → is_message_open above.pending ≡ false → IsHeardOf known.forms text above heard after
    → Tells known text.octets heard kind reason frames → kind ≡ kinds.Damaged
spoilt_told known text above heard after kind reason frames spoilt closed is tells = elim (cases_Bool (is_whole_text text)) [
  | inr gone ↦ gone_told known text above heard after kind reason frames gone is tells
  | inl whole ↦
      let read = is.read whole in
      let places = places_closed known.forms text.octets above closed in
      let first_read : read_in known.forms text.octets (places_in known.forms text.octets above).end above ≡ read_alone known.forms text above =
      read_closed known.forms text.octets (places_in known.forms text.octets above).end above closed
      ∙ ap (λ (p : Places). first known.forms text.octets p.end above) places in
      let rows : rows_of heard.said.said after ≡ read_alone known.forms text above = read.rows ∙ first_read in
      let says : heard.said.said ≡ (read_alone known.forms text above).said = ap (λ (r : Rows). r.said) rows in
      elim (spoilt above) [
        | inl damaged ↦ damaged_or_lost (is_lost known.forms text.octets heard) heard.said.said known text.octets heard kind reason frames (says ∙ damaged) tells
        | inr odd ↦
            let octets : says_octets heard.said.said ≡ true = ap says_octets says ∙ odd.0 in
            let form : heard.said.form ≡ (read_alone known.forms text above).form =
            read.form (λ other. let never : false ≡ true = sym (ap says_octets other) ∙ octets in cc never) ∙ ap (λ (r : Rows). r.form) rows in
            let tail : drop heard.said.found.end text.octets ≡ (first_places known.forms text.octets).end =
            read.places.2 ∙ ap (λ (p : Places). p.end) places in
            let goes : is_odd_by (slice_get known.forms heard.said.form) (drop heard.said.found.end text.octets) ≡ true =
            ap₂ (λ (at : ℕ) (rest : List ℕ). is_odd_by (slice_get known.forms at) rest) form tail ∙ odd.1 in
            let within : nat_le heard.said.found.end (length text.octets) ≡ true = within_line heard.said.found.end (length text.octets) read.within.2 in
            by_true (kind ≡ kinds.Damaged) (TellsSaid heard.said.said known text.octets heard kind reason frames) (is_lost known.forms text.octets heard)
            (lost_if_odd heard.is_long heard.has_gap (is_spoilt known.forms text.octets heard.said)
            (spoilt_if (says_octets heard.said.said) (nat_le heard.said.found.end (length text.octets)) _ octets within goes)) tells
      ]
]
  where
    within_line : (at size : ℕ) → at ≤ size → nat_le at size ≡ true
    within_line at size within = grind (arith, nat_tests)
