-- The verdict on a line that is read by order: octets that spell a message of the end that sent them spell one by their first octet.
use Rattle.std.proofs.Common.{◌≡◌, ◌≤◌, ◌<◌, ℕ, ◌+◌, Bool, true, false, List, [], ◌∷◌, length, take, Option, Some, None, refl, ap, sym, ◌∙◌, arith, is_some, nat_le, nat_lt, ◌&&◌, inl, inr, if◌then◌else◌}
use Rattle.std.proofs.lemmas.Bool.Decides.{leb_tells, nat_tests}
use Rattle.fio_message.specs.Answers.{answer_length}
use Rattle.fio_message.specs.Commands.{command_length}
use Rattle.fio_message.specs.Decoding.{answer_in, command_in, message_in}
use Rattle.fio_message.specs.Reading.{answer_at, command_at}
use Rattle.fio_message.specs.declared.limits.TheConstants.{BODY_OCTETS}
use Rattle.fio_message.proofs.KnownTypes.{answer_codes, command_codes}
use Rattle.fio_log.specs.OwnTexts.{IsOwnFrame, spells, spells_from}
use Rattle.fio_log.specs.OwnVerdicts.{own_form_of}
use Rattle.fio_log.specs.declared.own_texts.OwnForm.{OwnForm}
use Rattle.fio_log.specs.declared.own_texts.OwnForm.TheVariants as texts
use Rattle.fio_log.specs.declared.verdict.Form.{Form}
use Rattle.fio_log.specs.declared.verdict.Form.TheVariants as forms
use Rattle.fio_log.proofs.OwnTextLemmas.{too_long-spells}

and_false : {V : Type 0} (short : Bool) (read : V) → (if short && false then Some read else None) ≡ None
and_false true read = refl
and_false false read = refl

-- octets whose type is unknown are no message
unknown-none : {V : Type 0} (length_of : List ℕ → Option ℕ) (read : ℕ → List ℕ → V) (code : ℕ) (fields : List ℕ)
    → length_of (code ∷ fields) ≡ None → message_in length_of read (code ∷ fields) ≡ None
unfolding message_in
unknown-none length_of read code fields none = rw none (and_false (nat_le (length fields) BODY_OCTETS) (read code fields))

answer-code : (code : ℕ) → nat_lt 127 code ≡ true → 127 < code
answer-code code is = grind (arith, nat_tests)

command-code : (code : ℕ) → nat_lt 127 code ≡ false → code ≤ 127
command-code code is = grind (arith, nat_tests)

-- the one side of a test is true, and the other side of it is never taken
then-true : (test one two : Bool) → one ≡ true → (test ≡ false → one ≡ false) → (if test then one else two) ≡ true
then-true true one two is none = is
then-true false one two is none = let no : false ≡ true = sym (none refl) ∙ is in absurd (cc)

else-true : (test one two : Bool) → two ≡ true → (test ≡ true → two ≡ false) → (if test then one else two) ≡ true
else-true false one two is none = is
else-true true one two is none = let no : false ≡ true = sym (none refl) ∙ is in absurd (cc)

-- a command begins below 128
sent-spells : (octets : List ℕ) → is_some (command_in octets) ≡ true → spells octets ≡ true
unfolding message_in
sent-spells [] is = absurd (cc)
sent-spells (code ∷ fields) is =
    else-true (nat_lt 127 code) _ _ is (λ above.
    let high = answer-code code above in
    ap is_some (unknown-none command_length command_at code fields
    ((command_codes code fields).1 (λ within. omega (arith, within.0, within.1, high)))))

-- an answer begins at 128 or above
heard-spells : (octets : List ℕ) → is_some (answer_in octets) ≡ true → spells octets ≡ true
unfolding message_in
heard-spells [] is = absurd (cc)
heard-spells (code ∷ fields) is =
    then-true (nat_lt 127 code) _ _ is (λ below.
    let low = command-code code below in
    ap is_some (unknown-none answer_length answer_at code fields
    ((answer_codes code fields).1 (λ within. omega (arith, within.0, within.1, low)))))

-- octets that spell a message of the end that sent them spell one
pub from-spells : (from_cpu : Option Bool) (octets : List ℕ) → spells_from from_cpu octets ≡ true → spells octets ≡ true
from-spells None octets is = is
from-spells (Some true) octets is = sent-spells octets is
from-spells (Some false) octets is = heard-spells octets is

-- the frame of a line that spells a message is short, so it is in the room
pub frame-short : (form : OwnForm) (line room : List ℕ) (count : ℕ) → IsOwnFrame form line room count true → count ≤ 773
frame-short form line room count is = elim (leb_tells count 773) [
  | inl within ↦ within.1
  | inr above ↦
      let long : 773 < length is.read.octets = omega (arith, above.1, is.read.counted) in
      let no : false ≡ true = sym (too_long-spells is.from_cpu is.read.octets long) ∙ is.spelled in
      absurd (cc)
]

pub frame-spells : (form : OwnForm) (line room : List ℕ) (count : ℕ) → IsOwnFrame form line room count true
    → spells (take count room) ≡ true
frame-spells form line room count is =
    let same = is.read.read (frame-short form line room count is) in
    rw same at (from-spells is.from_cpu is.read.octets is.spelled)

-- all lines are told that are read
pub none-left : (told read : ℕ) → told ≤ read → (told < read → ⊥) → told ≡ read
none-left told read within none = elim (leb_tells (told + 1) read) [
  | inl less ↦ absurd (none (omega (arith, less.1)))
  | inr more ↦ omega (arith, more.1, within)
]

-- lines are read by order, or by the definition
pub auto-form : (form : Form) → ((own : OwnForm) → own_form_of form ≡ Some own → ⊥) → form ≡ forms.Auto
auto-form forms.Auto none = refl
auto-form forms.Frames none = absurd (none texts.Frames refl)
auto-form forms.Transcript none = absurd (none texts.Transcript refl)
