-- The names that most proofs of this crate cite, passed on from one place. Declares nothing.
pub use Rattle.std.proofs.Common.{Bool, List, None, Ok, Option, Some, [], ap, append-nil, append_assoc, ap₂, arith, bit_and, bit_or, drop, false, if◌then◌else◌, inl, inr, length, length-append, length-drop, map, max, min, refl, rules, slice_get, subst, suc, sym, take, true, zero, ℕ, ◌%◌, ◌&&◌, ◌*◌, ◌++◌, ◌+◌, ◌-◌, ◌/◌, ◌<◌, ◌==◌, ◌^◌, ◌∙◌, ◌∷◌, ◌≡◌, ◌≢◌, ◌≤◌, ◌⊎◌}
pub use Rattle.std.proofs.Math.Nat.{div-lt_iff_lt-mul, div-mul-le_self, le-div_iff_mul-le, le_of_mul-le-mul_right, mul-le-mul_left, mul-le-mul_right, pow-suc}
pub use Rattle.std.proofs.lemmas.Bool.{cases_lt, not-false, not-true}
pub use Rattle.std.proofs.lemmas.Bool.Decides.{eqb_tells, leb_tells, nat_tests}
pub use Rattle.std.proofs.lemmas.List.{drop-append-le, drop-drop, drop-map, drop-set-add, drop-set-lt, drop-take, drop_min, length-map, length-set, length-take, map-append, take-append-drop, take-append-le, take-map, take-take, take_min, take_more_set}
pub use Rattle.std.proofs.lemmas.Option.{slice_get_within}
pub use Rattle.std.specs.Int.{bit_at, trailing_zeros, w64, w8}
pub use Rattle.std.specs.List.{AllByRecursion, flat_map}
pub use Rattle.std.specs.Prelude.{fold, nat_lt, not, option_map, slice_set}
pub use Rattle.circular_buffer.specs.Buffer.{Buffer, buffer}
pub use Rattle.fio_input.proofs.Counted.{at_each_scan-back, at_each_scan-front, scans-append}
pub use Rattle.fio_input.proofs.FewStayOpen.{reports_are_few, reports_times_filter}
pub use Rattle.fio_input.specs.Delivery.{AtEachScan, FewStayOpen, HasFewOpen, HasFiltersOf, NoneIsApplied, NoneIsAppliedTo, OpenHaveFiltersOf, all_reports_in, filter_to, is_changed, open_inputs, reports_in, scans_in}
unfoldable pub use Rattle.fio_input.specs.Delivery.{sum_below}
pub use Rattle.fio_input.specs.FilterHistory.{Configure, FilterEvent, Scan, input_setting, input_state, is_reported, last_item_of, setting_by}
pub use Rattle.fio_message.specs.Answers.{IsAnswer, SpellsAnswer, answer_octets}
pub use Rattle.fio_message.specs.Bits.{bit_of}
unfoldable pub use Rattle.fio_message.specs.Bits.{is_set}
pub use Rattle.fio_message.specs.KeptBlock.{block_octets, kept_octets}
pub use Rattle.fio_message.specs.Octets.{IsEntry, entry_octets}
pub use Rattle.fio_message.specs.declared.answers.Answer.{Answer}
pub use Rattle.fio_message.specs.declared.commands.Command.TheVariants.{ConfigureInputs, LoadCounter, Poll, Status}
pub use Rattle.fio_module.specs.Blocks.{MadeBlock, blocks_of, count_from, end_of_blocks, is_new, last_end, newest_poll, newest_end, next_block, start_after, waiting_from, waiting_of}
pub use Rattle.fio_module.specs.Delivery.{AtEachTime, FewBeyond, IsPolledOften, LosesNone, LossesNameTimes, NeverTooMany, NothingIsLost, OutageIsRiddenOut, OutageStaysFew, PolledOftenLosesNone, PolledOftenStaysFew, StandardLimitsSuffice, StartIsQuiet, WasMade, scans_since_block}
pub use Rattle.fio_module.specs.Flags.{flags_of, is_flag_up}
unfoldable pub use Rattle.fio_module.specs.Flags.{word_of}
pub use Rattle.fio_module.specs.KeepingUp.{BlocksTakeTheRest, IsKeptUp, IsYoung, KeepsUp, KeptUpKeepsUp, scans_behind}
pub use Rattle.fio_module.specs.Laws.{BlocksEndWithin, BlocksFollow, Carries, FollowOneAnother, IsPartOf, LifeEndsLog, LossesLeaveMore, NewPollsTakeWaiting, OthersLeaveWaiting, ScansAddWaiting, SendingsAnswerPolls, SendingsCarry, with_waiting}
pub use Rattle.fio_module.specs.Life.{Commanded, Life, LineSynced, Occurrence, Raised, Received, Restart, Scanned, counter_events, counter_of, filter_events, life_after_command, life_of, loads_of, scans_of}
pub use Rattle.fio_module.specs.Log.{Transition, entry_of, log_of, transition_at, whole_log}
unfoldable pub use Rattle.fio_module.specs.Log.{transitions_below}
pub use Rattle.fio_module.specs.Rings.{first_in}
pub use Rattle.fio_module.specs.Sendings.{Sending, answer_of_sending, first_sending, is_out_of_sequence, latest_sending, repeat_of}
pub use Rattle.fio_module.specs.Settings.{AreInRange, Settings, settings_with, standard_settings}
pub use Rattle.fio_module.specs.State.{IsAfter, IsAfterHistory, Obeys, octets_of_transition, sent_frame}
pub use Rattle.fio_module.specs.Waiting.{HoldsWaiting}
unfoldable pub use Rattle.fio_module.specs.Waiting.{entries_below}
