-- What a line that is written says.
use Rattle.std.proofs.Common.{◌≡◌, ℕ, ◌+◌, ◌-◌, ◌<◌, true, List, [], ◌∷◌, ◌++◌, length, refl, sym, ap, ◌∙◌, append_assoc, subst, inl, inr, arith}
use Rattle.std.specs.Prelude.{nat_lt, drop, take}
use Rattle.std.proofs.lemmas.Bool.{cases_Bool, false≢true, ltb-true}
use Rattle.std.proofs.lemmas.Bool.Decides.{nat_tests}
use Rattle.std.proofs.lemmas.List.{length-append, length-drop, length-take-le, take-append-drop, drop_at, take_at}
use Rattle.fio_message.specs.Decoding.{message_in}
use Rattle.fio_form.specs.Messages.{is_message}
use Rattle.fio_form.specs.Reading.{Frame, Damaged, is_bare, octets_between, said_by_octets, said_in_octets}
use Rattle.fio_form.specs.Writing.{AreOctetsIn, IsBareLine, IsWrappedLine, IsWrittenLine}
use Rattle.fio_form.specs.declared.form.LineForm.{LineForm}
use Rattle.fio_form.proofs.Lines.{as_one, as_other}

message_some : (message : List ℕ) → is_message message ≡ true → 0 < length message
unfolding message_in
message_some [] is = absurd (false≢true is)
message_some (octet ∷ message) is = omega arith

pub message_cut : (header message check : List ℕ) → is_message message ≡ true
    → said_by_octets (length header) (length check) (header ++ (message ++ check)) ≡ Frame message
message_cut header message check is =
    let some = message_some message is in
    let total = length-append header (message ++ check) in
    let second = length-append message check in
    let more : nat_lt (length header + length check) (length (header ++ (message ++ check))) ≡ true = grind (arith, nat_tests, total, second) in
    let end : length (header ++ message) ≡ length (header ++ (message ++ check)) - length check = omega (arith, total, second, length-append header message) in
    let front : take (length (header ++ (message ++ check)) - length check) (header ++ (message ++ check)) ≡ header ++ message =
    ap (take (length (header ++ (message ++ check)) - length check)) (sym (append_assoc header message check))
    ∙ take_at (header ++ message) check (length (header ++ (message ++ check)) - length check) end in
    let cut : octets_between (length header) (length (header ++ (message ++ check)) - length check) (header ++ (message ++ check)) ≡ message =
    ap (drop (length header)) front ∙ drop_at header message (length header) refl in
    let right : is_message (octets_between (length header) (length (header ++ (message ++ check)) - length check) (header ++ (message ++ check))) ≡ true = ap is_message cut ∙ is in
    rw (more, right) (ap Frame cut)

-- octets that say a message are a header, the message and a check
pub record Cut (before after : ℕ) (message all : List ℕ) : Type 0 where
  pub header : List ℕ
  pub check : List ℕ
  pub skipped : length header ≡ before
  pub dropped : length check ≡ after
  pub encodes : is_message message ≡ true
  pub whole : all ≡ header ++ (message ++ check)

frame_same : (a b : List ℕ) → Frame a ≡ Frame b → a ≡ b
frame_same a b h = cc

damaged_not : (a : List ℕ) → Damaged ≡ Frame a → ⊥
damaged_not a h = cc

cut_parts : (before after : ℕ) (message all : List ℕ) → before + after < length all → is_message (octets_between before (length all - after) all) ≡ true
    → octets_between before (length all - after) all ≡ message → Cut before after message all
cut_parts before after message all more right is =
    let kept = take (length all - after) all in
    let total = take-append-drop (length all - after) all in
    let front = take-append-drop before kept in
    let kept_length : length kept ≡ length all - after = length-take-le (length all - after) all (omega arith) in
    record {
      header = take before kept;
      check = drop (length all - after) all;
      skipped = length-take-le before kept (omega (arith, kept_length));
      dropped = length-drop (length all - after) all ∙ omega arith;
      encodes = ap is_message (sym is) ∙ right;
      whole = sym total ∙ (ap (λ t. t ++ drop (length all - after) all) (sym front) ∙ (append_assoc (take before kept) (drop before kept) (drop (length all - after) all) ∙ ap (λ t. take before kept ++ (t ++ drop (length all - after) all)) is));
    }

pub cut_of : (before after : ℕ) (message all : List ℕ) → said_by_octets before after all ≡ Frame message → Cut before after message all
cut_of before after message all said = elim (cases_Bool (nat_lt (before + after) (length all))) [
  | inl more ↦ elim (cases_Bool (is_message (octets_between before (length all - after) all))) [
    | inl right ↦ cut_parts before after message all (ltb-true (before + after) (length all) more) right (frame_same (octets_between before (length all - after) all) message (rw (more, right) at said))
    | inr wrong ↦ absurd (damaged_not message (rw (more, wrong) at said))
  ]
  | inr few ↦ absurd (damaged_not message (rw few at said))
]

pub said_bare : (form : LineForm) (octets : List ℕ) → is_bare form ≡ true → said_in_octets form octets ≡ said_by_octets form.before form.after octets
said_bare form octets bare = rw bare refl

bare_of : (form : LineForm) (message octets line : List ℕ) → AreOctetsIn form octets line → said_by_octets form.before form.after octets ≡ Frame message → IsBareLine form message line
bare_of form message octets line run said =
    let cut = cut_of form.before form.after message octets said in
    record {
      header = cut.header;
      check = cut.check;
      run = subst (λ (all : List ℕ). AreOctetsIn form all line) cut.whole run;
      before = cut.skipped;
      after = cut.dropped;
      encodes = cut.encodes;
    }

pub written_of : (form : LineForm) (message octets line : List ℕ) → AreOctetsIn form octets line → said_in_octets form octets ≡ Frame message → IsWrittenLine form message line
written_of form message octets line run said = elim (cases_Bool (is_bare form)) [
  | inl bare ↦ as_one (is_bare form) (IsBareLine form message line) (IsWrappedLine form message line) bare
      (bare_of form message octets line run (sym (said_bare form octets bare) ∙ said))
  | inr not_ ↦ as_other (is_bare form) (IsBareLine form message line) (IsWrappedLine form message line) not_ (record { octets = octets; run = run; said = said })
]
