-- What a block answer of a module says.
use Rattle.fio_module.proofs.Names.{◌≡◌, ℕ, ◌+◌, ◌-◌, ◌%◌, List, ◌∷◌, ◌++◌, length, take, flat_map, min, Some, None, refl, ap, arith, length-append, take-append-le, option_map, nat_tests, IsAnswer, answer_octets, entry_octets, Sending, answer_of_sending}
use Rattle.std.specs.Prelude.{option_and_then}
use Rattle.std.specs.Int.{to_be_bytes, w32}
use Rattle.fio_message.specs.Status.{block_status, says_again, says_lost, says_more, says_out_of_sequence}
use Rattle.fio_message.specs.Decoding.{answer_in, command_in, block_in, message_in, answered_block}
use Rattle.fio_message.specs.Blocks.{Block}
use Rattle.fio_message.specs.declared.limits.TheConstants.{FRAME_OCTETS}
use Rattle.fio_message.proofs.MessageLaws.{answer_back}
use Rattle.fio_message.proofs.StatusBits.{status_back}
use Rattle.fio_check.specs.Stretches.{octets_above_status, told_block, told_block_in}
use Rattle.fio_check.specs.declared.seam.ToldBlock.{ToldBlock}

-- what a sending says
abbrev pub told_of : Sending → ToldBlock
told_of sending = record {
  stamp = sending.stamp;
  entries = length sending.entries % 256;
  number = sending.number;
  status = block_status sending.more sending.lost sending.again sending.out_of_sequence;
}

-- its octets
abbrev pub octets_of : Sending → List ℕ
octets_of sending = answer_octets (answer_of_sending sending)

-- those above the status
abbrev pub front_of : Sending → List ℕ
front_of sending = 182 ∷ sending.number ∷ length sending.entries ∷ flat_map entry_octets sending.entries

-- no command
pub no_command : (sending : Sending) → command_in (octets_of sending) ≡ None
unfolding message_in
no_command sending = grind (arith, nat_tests)

module _ (sending : Sending) (within : IsAnswer (answer_of_sending sending)) where
  read_back : answer_in (octets_of sending) ≡ Some (answer_of_sending sending)
  read_back = answer_back (answer_of_sending sending) (octets_of sending) (record { within = within; spelled = refl })

  -- what is told
  pub told_back : told_block (octets_of sending) ≡ Some (told_of sending)
  told_back = ap (option_and_then told_block_in) read_back

  -- the entries
  pub entries_back : option_map (λ (b : Block). b.entries) (block_in (octets_of sending)) ≡ Some sending.entries
  entries_back = ap (λ answer. option_map (λ (b : Block). b.entries) (answered_block answer)) read_back

-- the octets above the status
abbrev pub items_of : Sending → List ℕ
items_of sending = take (min (length (front_of sending)) FRAME_OCTETS) (front_of sending)

pub items_told : (sending : Sending) → octets_above_status (octets_of sending) ≡ items_of sending
items_told sending =
    let status = block_status sending.more sending.lost sending.again sending.out_of_sequence in
    let ending = status ∷ to_be_bytes w32 sending.stamp in
    let front = front_of sending in
    let long : length (front ++ ending) ≡ length front + 5 = length-append front ending in
    let count : length (front ++ ending) - 5 ≡ length front = omega arith in
    rw count (take-append-le (min (length front) FRAME_OCTETS) front ending (omega arith))

-- the bits of the status
pub bits : (sending : Sending) → (says_more (told_of sending).status ≡ sending.more) × (says_lost (told_of sending).status ≡ sending.lost)
    × (says_again (told_of sending).status ≡ sending.again) × (says_out_of_sequence (told_of sending).status ≡ sending.out_of_sequence)
bits sending =
    let status = status_back sending.more sending.lost sending.again sending.out_of_sequence in
    (status.says_more, status.says_lost, status.says_again, status.says_out_of_sequence)
