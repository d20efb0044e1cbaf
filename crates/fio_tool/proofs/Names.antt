-- The names that most proofs of this crate cite, passed on from one place. Declares nothing.
pub use Rattle.std.proofs.Common.{Bool, Box, Err, Global, IfOk, IfSome, List, None, Ok, OnOk, Option, Result, Some, [], add-one, ap, append-nil, append_assoc, arith, cond, drop, false, get_or, inl, inr, is_ok, length, length-append, length-drop, map, nat_le, option_map, refl, rules, slice_index_or, subst, suc, sym, take, take-append-drop, true, vec_len, zero, ℕ, ◌&&◌, ◌++◌, ◌+◌, ◌-◌, ◌<◌, ◌==◌, ◌∙◌, ◌∷◌, ◌≡◌, ◌≢◌, ◌≤◌, ◌⊎◌}
pub use Rattle.std.proofs.lemmas.List.{length-map, map-append, take-append-le, take_all, take_more}
pub use Rattle.std.proofs.lemmas.Option.{same_Some}
pub use Rattle.std.specs.List.{flat_map, list_all}
pub use Rattle.std.specs.Prelude.{IfNone, find, fold, if◌then◌else◌, option_and_then, slice_get, unwrap_or, ◌%◌}
pub use Rattle.std.specs.Result.{result_err}
pub use Rattle.clap.specs.Simple.{App, Shape, app_of, argument_words, built, built_leaf, entered, is_simple, label_of, names_of, new_shape, rows_at, shape_of, subcommand_of, subcommand_rows, subcommand_rows_of, with_subcommand}
pub use Rattle.fio_check.specs.Lines.{TranscriptLine, answer_from, from_first_command}
pub use Rattle.fio_check.specs.Observations.{observation_in, observation_of, observation_on}
pub use Rattle.fio_message.specs.Decoding.{answer_in, answered_block, command_in, decoded_answer, decoded_command}
unfoldable pub use Rattle.fio_message.specs.Decoding.{message_in}
pub use Rattle.fio_text.specs.FirstFaults.{values_or_fault, with_first}
pub use Rattle.fio_text.specs.Lines.{is_skipped, lines_of, numbered, with_front}
pub use Rattle.fio_tool.specs.CommandLine.{NamesTool, chosen_name, command_line, name_of, program, tools, with_tool}
pub use Rattle.fio_tool.specs.Recordings.{IsNoRecording, IsRecordingOf, RecordsLine, fault_of_item, item_broken}
pub use Rattle.fio_tool.specs.Show.{is_line_good, line_text, shown_line, shown_octets, text_at}
pub use Rattle.fio_tool.specs.Transcript.{IsReadFrame, SpellsSame, frame_in, from_command, line_in, transcript_from_command, transcript_in, verdict_from_command, verdict_in, verdict_of}
pub use Rattle.fio_tool.specs.declared.tools.Tool.TheVariants.{Check, Record, Show, Simulate}
