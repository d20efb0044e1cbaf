-- The names that most proofs of this crate cite, re-exported in one place.
pub use Rattle.std.proofs.Common.{Bool, Err, List, None, Ok, Option, Result, Some, [], add-zero, ap, append_assoc, ap₂, arith, cond, drop, eq-eqb, eqb, false, get_or, if◌then◌else◌, inl, inr, le_of_suc-le-suc, leb, length, max, min, mod-lt, nat_le, not, not-suc-le-zero, refl, set, subst, suc, sym, take, true, zero, zero-lt-suc, ℕ, ◌%◌, ◌&&◌, ◌*◌, ◌++◌, ◌+◌, ◌-◌, ◌/◌, ◌<◌, ◌==◌, ◌^◌, ◌||◌, ◌↔◌, ◌∙◌, ◌∷◌, ◌≡◌, ◌≤◌, ◌⊎◌}
pub use Rattle.std.proofs.lemmas.Bool.{and_right, cases_Bool, cases_eq, cases_lt, eqb-false, eqb-true, le-leb, le-ltb, leb-false, leb-true, lt-leb, lt-ltb, ne_eqb}
pub use Rattle.std.proofs.lemmas.List.{append-nil, drop-drop, drop_all, drop_at, length-append, length-drop, length-map, length-set, length-take, nil_from_length, take-append-drop, take-append-le, take_at, take_min, take_more, take_more_set, take_rest}
pub use Rattle.std.proofs.lemmas.Nat.{and_le_r, and_mod, be_bytes_2, be_bytes_4, bit_set_by_shift, from_be_bytes-to_be_bytes_2, from_be_bytes-to_be_bytes_4, from_le_bytes-to_le_bytes_8, le_bytes_8, mod_below, pow_below, shr-shr}
pub use Rattle.std.proofs.lemmas.Option.{same_Some}
pub use Rattle.std.proofs.lemmas.Result.{err_from_is_err_and}
pub use Rattle.std.specs.Int.{IsBitSet, bit_at, bit_not, from_be_bytes, from_le_bytes, to_be_bytes, to_le_bytes, w16, w32, w64}
pub use Rattle.std.specs.List.{AllByRecursion, flat_map}
pub use Rattle.std.specs.Option.{ok_or}
pub use Rattle.fio_message.specs.Answers.{IsAnswer, SpellsAnswer, answer_code, answer_fields, answer_length, answer_octets, block_length}
pub use Rattle.fio_message.specs.Bits.{bit_of}
unfoldable pub use Rattle.fio_message.specs.Bits.{is_set}
pub use Rattle.fio_message.specs.Blocks.{Block, SpellsBlock, block_answer, block_of_fields, entries_in}
pub use Rattle.fio_message.specs.Commands.{IsCommand, SpellsCommand, command_code, command_fields, command_length, command_octets}
pub use Rattle.fio_message.specs.Decoding.{answer_in, answered_block, block_in, command_in, decoded_answer, decoded_command, fault_in, is_length, poll_in, polled_number}
unfoldable pub use Rattle.fio_message.specs.Decoding.{message_in}
pub use Rattle.fio_message.specs.Laws.{AnswersRefusals, AnswersWhatIsSpelled, EachSpellsOneList, ErrorReadsBack, IsInputsLayout, IsKnownWithin, IsNeverBoth, IsReadBack, IsSpelledAtNeededLength, IsSpelledOrRefused, KeepsBlockAnswers, NeedsTheSame, NoTwoSpellOneList, SetBeforeReadsBack, SetsAgainAlone, SpellsWhatIsRead, StatusReadsBack}
pub use Rattle.fio_message.specs.Octets.{IsEight, IsEntry, IsFrameLength, IsItem, IsOctet, IsOctets, entry_octets, inputs_octets, item_octets}
pub use Rattle.fio_message.specs.Reading.{answer_at, block_ending, block_entries, command_at, entry_at, item_at, parts_at, parts_in}
pub use Rattle.fio_message.specs.Refusals.{IsWhole, Refuses}
pub use Rattle.fio_message.specs.Views.{answer_read, command_read, entries_of}
pub use Rattle.fio_message.specs.declared.answers.Answer.{Answer}
pub use Rattle.fio_message.specs.declared.commands.Command.{Command}
pub use Rattle.fio_message.specs.declared.faults.DecodeError.{DecodeError}
pub use Rattle.fio_message.specs.declared.fields.Entry.{Entry}
pub use Rattle.fio_message.specs.declared.limits.TheConstants.{BODY_OCTETS, FRAME_OCTETS}
