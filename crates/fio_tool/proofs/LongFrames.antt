-- The frame that is read from a line: octets of more than 773 spell no message.
use Rattle.fio_tool.proofs.Names.{◌≡◌, ◌≤◌, ℕ, ◌<◌, Bool, true, false, List, [], ◌∷◌, length, take, Option, Some, None, refl, ap, sym, arith, nat_le, option_map, same_Some, message_in, observation_in, observation_of, IsReadFrame, SpellsSame, frame_in}
use Rattle.fio_message.specs.Commands.{command_length}
use Rattle.fio_message.specs.Answers.{answer_length}
use Rattle.fio_message.specs.Reading.{command_at, answer_at}

pub too_long-none : {V : Type 0} (length_of : List ℕ → Option ℕ) (read : ℕ → List ℕ → V) (octets : List ℕ) → 773 < length octets
    → message_in length_of read octets ≡ None
unfolding message_in
too_long-none length_of read [] long = refl
too_long-none length_of read (code ∷ fields) long =
    let short : nat_le (length fields) 772 ≡ false = grind (arith) in
    rw short refl

module _ (line : List ℕ) (from_cpu : Bool) (count : ℕ) (room : List ℕ) (frame : IsReadFrame line from_cpu count room) where
  -- so they spell what no octets spell
  pub long_spelled : 773 < count → SpellsSame [] frame.octets
  unfolding message_in
  long_spelled long =
      let counted = frame.counted in
      let long_octets : 773 < length frame.octets = omega (arith, counted, long) in
      record {
        sent = sym (too_long-none command_length command_at frame.octets long_octets);
        heard = sym (too_long-none answer_length answer_at frame.octets long_octets);
      }

  -- octets that the room has
  pub short_spelled : count ≤ 773 → SpellsSame (take count room) frame.octets
  short_spelled short = rw (frame.read short) (record { sent = refl; heard = refl })

-- what such octets say
pub spelled_said : {shown octets : List ℕ} (from_cpu : Bool) → SpellsSame shown octets → observation_in from_cpu shown ≡ observation_in from_cpu octets
spelled_said true same = ap (λ command. observation_of command None) same.sent
spelled_said false same = ap (observation_of None) same.heard

-- ---- a frame that is read

pub frame_read : (line room : List ℕ) (from_cpu : Bool) (found : Option (List ℕ)) (count : ℕ)
    → frame_in line ≡ option_map (λ os. (from_cpu, os)) found → Some count ≡ option_map length found
    → (count ≤ 773 → found ≡ Some (take count room)) → IsReadFrame line from_cpu count room
frame_read line room from_cpu None count framed counted read = absurd (cc)
frame_read line room from_cpu (Some octets) count framed counted read = record {
  octets = octets;
  frame = framed;
  counted = same_Some _ _ counted;
  read = λ short. same_Some _ _ (read short);
}
