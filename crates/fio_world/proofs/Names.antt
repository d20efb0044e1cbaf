-- The names that most proofs of this crate cite, passed on from one place. Declares nothing.
pub use Rattle.std.proofs.Common.{Bool, Err, IfSome, IsSomeAnd, List, None, Ok, Option, Result, Some, [], add-one, ap, append-nil, append_assoc, ap₂, arith, codes, decimal, drop, drop-cons, false, get_or, if◌then◌else◌, inl, inr, length, length-append, length-drop, map, option_map, refl, replicate, rules, slice_get, slice_index_or, subst, suc, sym, take, take_at, true, vec_len, zero, ℕ, ◌%◌, ◌++◌, ◌+◌, ◌-◌, ◌<◌, ◌==◌, ◌∙◌, ◌∷◌, ◌≡◌, ◌≢◌, ◌≤◌}
pub use Rattle.std.proofs.lemmas.List.{drop-append-le, drop-drop, drop-take, drop_all, get_or-set_other, get_or-set_same, length-map, length-set, length-take-le, length_push, map-append, take-append-le, take-take, take_all}
pub use Rattle.std.proofs.lemmas.Result.{err_from_is_err_and}
pub use Rattle.std.specs.Option.{ok_or, option_and_then, option_map_or, unwrap_or}
pub use Rattle.fio_link.specs.Link.{Leads, Machine, NotSent, OutOfOrder, PollIsOurs, Refusal, SentFrame, after, after_delivered_block, after_delivery_to_cpu, after_delivery_to_module, after_sending, answer_frames, delivery_refusal, item_numbered, number_of, polling_of, refusal, sending_refusal, start}
pub use Rattle.fio_link.specs.declared.event.Event.{Event}
pub use Rattle.fio_message.proofs.MessageLaws.{command_back, command_refused, command_spelled}
pub use Rattle.fio_message.specs.Decoding.{block_in, command_in, decoded_answer, decoded_command, polled_number}
pub use Rattle.fio_message.specs.declared.commands.Command.{Command}
pub use Rattle.fio_module.specs.Settings.{Settings, settings_with}
pub use Rattle.fio_text.specs.Hexadecimal.{octets_in}
pub use Rattle.fio_text.specs.Lines.{is_skipped, lines_of, numbered}
pub use Rattle.fio_world.specs.EndToEnd.{are_short, between, frames_in, is_cut, start_at}
pub use Rattle.fio_world.specs.Ends.{Ends}
pub use Rattle.fio_world.specs.EventLines.{IsReadAs, command_found, event_at, frame_at, plain_event, sending_at}
pub use Rattle.fio_world.specs.Outcomes.{error_of, heard_outcome, outcome_of, received_outcome, replied_after, sent_after}
pub use Rattle.fio_world.specs.ReportLines.{ending_text, outcome_line, refusal_in, refused_line}
pub use Rattle.fio_show.specs.EntryLines.{item_line}
pub use Rattle.fio_world.specs.Reports.{EndsWith, GoodReportIsOfWholeRun, Report, after_text, report_from, unless_refused}
pub use Rattle.fio_world.specs.Scripts.{HasGoodFront, HaveGoodFront, Scenario, script_events, readings}
pub use Rattle.fio_world.specs.Steps.{event_of}
pub use Rattle.fio_world.specs.Worlds.{AddsFrom, Happens, IsDone, IsFault, IsSoundWorld, IsWorldAfter, ShowsMachine, TakesMemory, events_done, octets_sent}
pub use Rattle.fio_world.specs.declared.outcome.WorldError.{WorldError}
pub use Rattle.fio_world.specs.declared.script.events.TheConstants.{MAX_EVENTS}
