-- What is shown of octets that are too many for a frame.
use Rattle.fio_tool.proofs.Names.{◌≡◌, ℕ, ◌<◌, List, Option, Some, None, Err, refl, inl, inr, length, nat_le, option_map, slice_index_or, same_Some, decoded_answer, decoded_command, shown_line, shown_octets}
use Rattle.std.proofs.lemmas.Bool.{cases_Bool}
use Rattle.fio_message.specs.declared.faults.DecodeError.TheVariants.{TooLong}
use Rattle.fio_message.specs.Texts.{fault_text}
use Rattle.fio_message.proofs.MessageLaws.{answer_refused, command_refused}
use Rattle.fio_show.specs.FrameLines.{shown_frame}
use Rattle.fio_text.specs.Hexadecimal.{octets_in}

-- more octets than a frame has are refused as that, whatever they begin with
too_long_shown : (octets : List ℕ) (got : ℕ) → got ≡ length octets → 773 < got → shown_frame octets ≡ Err (fault_text (TooLong got))
too_long_shown octets got same long =
    let answer : decoded_answer octets ≡ Err (TooLong got) = (answer_refused octets (TooLong got)).1 (same, long) in
    let command : decoded_command octets ≡ Err (TooLong got) = (command_refused octets (TooLong got)).1 (same, long) in
    elim (cases_Bool (nat_le 128 (slice_index_or octets 0 0))) [
      | inl high ↦ rw (high, answer) refl
      | inr low ↦ rw (low, command) refl
    ]

octets_too_long : (found : Option (List ℕ)) (got : ℕ) → Some got ≡ option_map length found → 773 < got
    → shown_octets found ≡ Err (fault_text (TooLong got))
octets_too_long None got is long = absurd (cc)
octets_too_long (Some octets) got is long = too_long_shown octets got (same_Some _ _ is) long

-- a line of more octets than a frame has
pub line_too_long : (line : List ℕ) (got : ℕ) → Some got ≡ option_map length (octets_in line) → 773 < got
    → shown_line line ≡ Err (fault_text (TooLong got))
line_too_long line got is long = octets_too_long (octets_in line) got is long
