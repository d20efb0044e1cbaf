-- The names that several proofs of this crate cite, passed on from one place. Declares nothing.
pub use Rattle.std.proofs.Common.{◌≡◌, ℕ, zero, suc, ◌+◌, ◌<◌, ◌≤◌, List, [], ◌∷◌, ◌++◌, length, map, Some, slice_get, refl, ap, sym, subst, ◌∙◌, arith, length-append, append_assoc, append-nil, None, ◌-◌, ◌*◌, Bool, true, false, take, drop, inl, inr, ◌%◌, ◌^◌, Option, length-drop, if◌then◌else◌, length-take, ◌==◌, option_map, ◌⊎◌, max, ◌≢◌}
pub use Rattle.std.proofs.Math.Nat.{mul-le-mul_left, mul-le-mul_right}
pub use Rattle.std.proofs.lemmas.Bool.{cases_lt}
pub use Rattle.std.proofs.lemmas.Bool.Decides.{nat_tests}
pub use Rattle.std.proofs.lemmas.Grind.{flat_map-append}
pub use Rattle.std.proofs.lemmas.List.{take-append-le, append_cancel_right, map-append, take_all, drop-append-le, length-map}
pub use Rattle.std.proofs.lemmas.Option.{slice_get_within, same_Some, slice_get-map, get_or_from_slice_get}
pub use Rattle.std.specs.List.{AllByRecursion, flat_map, AllZip}
pub use Rattle.std.specs.Prelude.{nat_lt, Contains}
pub use Rattle.fio_message.proofs.MessageLaws.{command_back}
pub use Rattle.fio_message.specs.Answers.{answer_octets}
pub use Rattle.fio_message.specs.Blocks.{Block}
pub use Rattle.fio_message.specs.Commands.{command_octets}
pub use Rattle.fio_message.specs.Decoding.{command_in, block_in, poll_in, polled_number, answered_block}
pub use Rattle.fio_message.specs.Octets.{IsEntry}
pub use Rattle.fio_message.specs.Status.{says_out_of_sequence, says_again}
pub use Rattle.fio_message.specs.declared.answers.Answer.{Answer}
pub use Rattle.fio_message.specs.declared.commands.Command.{Command}
pub use Rattle.fio_message.specs.declared.commands.Command.TheVariants.{Poll, ConfigureInputs}
pub use Rattle.fio_message.specs.declared.fields.Entry.{Entry}
pub use Rattle.fio_input.specs.Counter.{asked_number, one_more_if_loaded}
pub use Rattle.fio_input.specs.Delivery.{scans_in, HasFewOpen, FewStayOpen, OpenHaveFiltersOf, NoneIsApplied}
pub use Rattle.fio_input.specs.FilterHistory.{is_reported}
pub use Rattle.fio_module.proofs.Ages.{scans_in-append}
pub use Rattle.fio_module.proofs.BlockLaws.{blocks_follow, blocks_end_within}
pub use Rattle.fio_module.proofs.Densest.{opened, none_applied}
pub use Rattle.fio_module.proofs.ListParts.{get_in_front}
pub use Rattle.fio_module.proofs.Losses.{holds_now, nothing_is_lost}
pub use Rattle.fio_module.proofs.NewLevels.{later_log, scans_of-append}
pub use Rattle.fio_module.proofs.Outages.{ends-grow}
pub use Rattle.fio_module.proofs.Pace.{nothing_left}
pub use Rattle.fio_module.proofs.Stretches.{blocks_new, blocks_old, log-grown, behind_more, behind_each, after_block}
pub use Rattle.fio_module.specs.Blocks.{MadeBlock, blocks_of, last_end, newest_end, newest_poll, is_new, next_block, end_of_blocks, waiting_of, waiting_from, count_from, start_after}
pub use Rattle.fio_module.specs.Delivery.{AtEachTime, FewBeyond, NeverTooMany}
pub use Rattle.fio_module.specs.KeepingUp.{scans_behind, IsYoung, IsKeptUp}
pub use Rattle.fio_module.specs.Laws.{IsPartOf, FollowOneAnother}
pub use Rattle.fio_module.specs.Life.{Received, Restart, History, Life, life_of, Commanded, scans_of, filter_events, Scanned, LineSynced, counter_events, loads_of, life_after_command}
pub use Rattle.fio_module.specs.Log.{Transition, log_of, whole_log, entry_of, transition_at}
pub use Rattle.fio_module.specs.Replies.{answer_if}
pub use Rattle.fio_module.specs.Sendings.{Sending, answer_of_sending, latest_sending, is_out_of_sequence, first_sending, repeat_of}
pub use Rattle.fio_module.specs.Settings.{Settings, AreInRange, standard_settings}
pub use Rattle.fio_cpu.specs.Record.{item_of, items_of_block}
pub use Rattle.fio_cpu.specs.declared.record.Item.{Item}
pub use Rattle.fio_link.specs.Claims.{blocks_in, IsInTime, IsTimed, sources_of}
pub use Rattle.fio_link.specs.Delivery.{clean_round, IsCleanRound, CleanRoundTakesBlock, EachCleanRoundTakesOne}
pub use Rattle.fio_link.specs.Frames.{HasBlock, HasPoll, received_numbers, with_poll_number}
pub use Rattle.fio_link.specs.Headline.{end_taken, IsNotRestart, HaveNoRestart}
pub use Rattle.fio_link.specs.Settled.{newest_number, HasTakenAll, IsSettled, end_recorded, IsWithin, LeadsOn, LeadsInTime, timed_item, transitions_arrived, HasGainedAll}
pub use Rattle.fio_link.specs.Link.{SentFrame, Machine, number_of, Leads, start, item_numbered, delivery_refusal, refusal, answer_frames, after_sending, after_delivery_to_module, after_delivered_block, after_delivery_to_cpu, after, IsRun, after_module_event, polls_with}
pub use Rattle.fio_link.specs.KeptUp.{Pause, left_behind, BeginNear, LacksOnlyYoung}
pub use Rattle.fio_link.specs.Pieces.{EntryPiece, piece_of, Gap, Piece, pieces_of, pieces_of_blocks, ArePieces}
pub use Rattle.fio_link.specs.Restarts.{TakenLife, IsOneStretch, AtEachRestart, taken_in, past_lives}
pub use Rattle.fio_link.specs.Rising.{IsRising}
pub use Rattle.fio_link.specs.Rounds.{next_round, PollsAreInOrder, PollsOf, BlockAnswersOf, CarriesBlock}
pub use Rattle.fio_link.specs.Sound.{Delivers}
pub use Rattle.fio_link.specs.declared.event.Event.{Event}
pub use Rattle.fio_link.specs.declared.event.Event.TheVariants.{Scan, ToModule, ToCpu}
