-- The frame that is read of a line: octets of more than 773 spell no message.
use Rattle.std.proofs.Common.{◌≡◌, ◌≤◌, ℕ, ◌<◌, Bool, true, false, List, [], ◌∷◌, length, take, Option, Some, None, inl, inr, refl, ap, sym, ◌∙◌, arith, nat_le, option_map, is_some, if◌then◌else◌}
use Rattle.std.proofs.lemmas.Bool.Decides.{leb_tells}
use Rattle.std.proofs.lemmas.Option.{same_Some}
use Rattle.fio_message.specs.Answers.{answer_length}
use Rattle.fio_message.specs.Commands.{command_length}
use Rattle.fio_message.specs.Decoding.{answer_in, command_in, message_in}
use Rattle.fio_message.specs.Reading.{answer_at, command_at}
use Rattle.fio_log.specs.OwnTexts.{IsFrameInRoom, is_answer, own_frame, spells, spells_from}
use Rattle.fio_log.specs.declared.own_texts.OwnForm.{OwnForm}

pub frame_read : (form : OwnForm) (line room : List ℕ) (from_cpu : Option Bool) (found : Option (List ℕ)) (count : ℕ)
    → own_frame form line ≡ option_map (λ os. (from_cpu, os)) found → Some count ≡ option_map length found
    → (count ≤ 773 → found ≡ Some (take count room)) → IsFrameInRoom form line from_cpu count room
frame_read form line room from_cpu None count framed counted read = absurd (cc)
frame_read form line room from_cpu (Some octets) count framed counted read = record {
  octets = octets;
  frame = framed;
  counted = same_Some _ _ counted;
  read = λ short. same_Some _ _ (read short);
}

too_long-none : {V : Type 0} (length_of : List ℕ → Option ℕ) (read : ℕ → List ℕ → V) (octets : List ℕ) → 773 < length octets
    → message_in length_of read octets ≡ None
unfolding message_in
too_long-none length_of read [] long = refl
too_long-none length_of read (code ∷ fields) long =
    let short : nat_le (length fields) 772 ≡ false = grind (arith) in
    rw short refl

by_test : (is_answer one two : Bool) → one ≡ false → two ≡ false → (if is_answer then one else two) ≡ false
by_test true one two first second = first
by_test false one two first second = second

-- octets that are more than a frame holds
pub too_long-spells : (from_cpu : Option Bool) (octets : List ℕ) → 773 < length octets → spells_from from_cpu octets ≡ false
too_long-spells from_cpu octets long =
    let sent : is_some (command_in octets) ≡ false = ap is_some (too_long-none command_length command_at octets long) in
    let heard : is_some (answer_in octets) ≡ false = ap is_some (too_long-none answer_length answer_at octets long) in
    elim from_cpu as (λ from. spells_from from octets ≡ false) [
      | None ↦ by_test (is_answer octets) _ _ heard sent
      | Some from ↦ by_test from _ _ sent heard
    ]

-- a message is no longer than a frame holds
pub spelled_short : (octets : List ℕ) → spells octets ≡ true → length octets ≤ 773
spelled_short octets is = elim (leb_tells (length octets) 773) [
  | inl within ↦ within.1
  | inr above ↦
      let no : false ≡ true = sym (too_long-spells None octets (omega (arith, above.1))) ∙ is in
      absurd (cc)
]
