-- A message fits in a frame.
use Rattle.std.proofs.Common.{◌≡◌, ◌<◌, ◌≤◌, ◌+◌, ◌-◌, ℕ, true, List, [], ◌∷◌, length, refl, ◌∙◌, arith, inl, inr}
use Rattle.std.specs.Prelude.{is_some, Option, nat_le, nat_lt, take, slice_index}
use Rattle.std.proofs.lemmas.Bool.{cases_Bool, leb-true, false≢true}
use Rattle.std.proofs.lemmas.Bool.Decides.{nat_tests}
use Rattle.std.proofs.lemmas.List.{length-drop, length-take-le}
use Rattle.fio_message.specs.Commands.{command_length}
use Rattle.fio_message.specs.Answers.{answer_length}
use Rattle.fio_message.specs.Reading.{command_at, answer_at}
use Rattle.fio_message.specs.Decoding.{message_in}
use Rattle.fio_message.specs.declared.limits.TheConstants.{BODY_OCTETS, FRAME_OCTETS}
use Rattle.fio_form.specs.Messages.{is_message}
use Rattle.fio_form.specs.Reading.{LineSaid, Damaged, is_bare, octets_between, said_by_form, said_by_octets, said_in_octets, said_wrapped}
use Rattle.fio_form.specs.declared.form.LineForm.{LineForm}
use Rattle.fio_form.specs.declared.octets.TheConstants.{OCTETS}
use Rattle.fio_form.proofs.Saying.{said_bare}

in_frame : {V : Type 0} (length_of : List ℕ → Option ℕ) (read : ℕ → List ℕ → V) (octets : List ℕ) → is_some (message_in length_of read octets) ≡ true → length octets ≤ FRAME_OCTETS
unfolding message_in
in_frame length_of read [] is = omega arith
in_frame length_of read (code ∷ fields) is = elim (cases_Bool (nat_le (length fields) BODY_OCTETS)) [
  | inl few ↦ omega (arith, leb-true (length fields) BODY_OCTETS few)
  | inr many ↦ absurd (false≢true (rw many at is))
]

pub message_short : (octets : List ℕ) → is_message octets ≡ true → length octets ≤ FRAME_OCTETS
message_short octets is = elim (cases_Bool (nat_lt 127 (slice_index octets 0))) [
  | inl answer ↦ in_frame answer_length answer_at octets (rw answer at is)
  | inr command ↦ in_frame command_length command_at octets (rw command at is)
]

-- octets of which there are too many say no message
pub too_many : (before after : ℕ) (octets : List ℕ) → before < 256 → after < 256 → OCTETS ≤ length octets → said_by_octets before after octets ≡ Damaged
too_many before after octets few_before few_after many = elim (cases_Bool (is_message (octets_between before (length octets - after) octets))) [
  | inl is ↦ (
      let kept : length (take (length octets - after) octets) ≡ length octets - after = length-take-le (length octets - after) octets (omega arith) in
      let size = length-drop before (take (length octets - after) octets) in
      let short = message_short (octets_between before (length octets - after) octets) is in
      absurd (omega (arith, kept, size, short, many)))
  | inr not_ ↦ elim (cases_Bool (nat_lt (before + after) (length octets))) [
    | inl more ↦ rw (more, not_) refl
    | inr less ↦ rw less refl
  ]
]

wrapped_many : (form : LineForm) (octets : List ℕ) → OCTETS ≤ length octets → said_wrapped form octets ≡ Damaged
wrapped_many form octets many =
    let full : nat_le OCTETS (length octets) ≡ true = grind (arith, nat_tests) in
    rw full refl

pub too_many_in : (form : LineForm) (octets : List ℕ) → form.before < 256 → form.after < 256 → OCTETS ≤ length octets → said_in_octets form octets ≡ Damaged
too_many_in form octets few_before few_after many = elim (cases_Bool (is_bare form)) [
  | inl bare ↦ said_bare form octets bare ∙ too_many form.before form.after octets few_before few_after many
  | inr wrapped ↦ rw wrapped (wrapped_many form octets many)
]

pub too_many_said : (form : LineForm) (octets : List ℕ) (rest : LineSaid) → form.before < 256 → form.after < 256 → OCTETS ≤ length octets → said_by_form form octets rest ≡ Damaged
too_many_said form [] rest few_before few_after many = absurd (omega arith)
too_many_said form (octet ∷ octets) rest few_before few_after many = too_many_in form (octet ∷ octets) few_before few_after many

pub said_some : (form : LineForm) (octets : List ℕ) (rest : LineSaid) → 0 < length octets → said_by_form form octets rest ≡ said_in_octets form octets
said_some form [] rest some = absurd (omega arith)
said_some form (octet ∷ octets) rest some = refl
