-- The names of other crates and of definitions that proofs of this crate cite, passed on from one place. Declares nothing.
pub use Rattle.std.proofs.Common.{◌≡◌, ◌≢◌, ◌∙◌, ◌+◌, ◌<◌, ◌≤◌, ◌&&◌, inl, inr, ℕ, suc, Bool, true, false, not, List, [], ◌∷◌, ◌++◌, length, map, Option, Some, None, slice_get, refl, ap, sym, subst, arith, if◌then◌else◌, take, append-nil, ◌-◌, ◌%◌, ◌^◌, zero, append_assoc, drop, length-drop, length-take, length-append, ◌⊎◌, ◌||◌, ap₂, min}
pub use Rattle.std.proofs.Math.ListN.{drop_of_length-le}
pub use Rattle.std.proofs.Math.Nat.{le-max_left}
pub use Rattle.std.proofs.Math.Path.{fun_ext}
pub use Rattle.std.proofs.Math.Seq.{take-append_seam}
pub use Rattle.std.proofs.lemmas.Bool.{cases_lt, false≢true}
pub use Rattle.std.proofs.lemmas.Bool.Decides.{eqb_tells, nat_tests}
pub use Rattle.std.proofs.lemmas.Grind.{fold-append, flat_map-append}
pub use Rattle.std.proofs.lemmas.List.{take-append-drop, drop-append-le, length-map, map-append, map_push, drop-drop, take-append-le, append_cancel_right, same_from_push}
pub use Rattle.std.proofs.lemmas.List.Elements.{filter-append}
pub use Rattle.std.proofs.lemmas.Nat.{from_be_bytes-to_be_bytes_4, from_le_bytes-to_le_bytes_8, and_le_l}
pub use Rattle.std.proofs.lemmas.Nat.Bits.{bit_at-lt, same_from_bits_below, bit_at_and, bit_at-zero}
pub use Rattle.std.proofs.lemmas.Option.{same_Some, slice_get_within, slice_get-map}
pub use Rattle.std.specs.Bool.{beq}
pub use Rattle.std.specs.Int.{bit_at, to_be_bytes, w32, w64, from_be_bytes, from_le_bytes, to_le_bytes}
pub use Rattle.std.specs.List.{AllByRecursion, flat_map, list_any, list_all}
pub use Rattle.std.specs.Option.{option_map_or, option_or}
pub use Rattle.std.specs.Prelude.{fold, is_some, option_and_then, option_map, nat_lt, ◌==◌, nat_le, filter, find, max, unwrap_or, bit_and}
pub use Rattle.arrayvec.specs.ArrayVec.{ArrayVec}
pub use Rattle.fio_message.proofs.AnswerLaws.{answer_again}
pub use Rattle.fio_message.proofs.CommandLaws.{command_again}
pub use Rattle.fio_message.proofs.MessageLaws.{command_spelled, command_back, answer_back}
pub use Rattle.fio_message.proofs.Numbers.{IsOctets-append, IsOctets-be32, IsOctets-le64}
pub use Rattle.fio_message.proofs.StatusBits.{block_status-fits, error_back, set_before_back}
pub use Rattle.fio_message.specs.Answers.{answer_octets, answer_code, IsAnswer, identity_answer, other_answer_code}
pub use Rattle.fio_message.specs.Bits.{bit_of, is_set}
pub use Rattle.fio_message.specs.Blocks.{Block, block_answer}
pub use Rattle.fio_message.specs.Commands.{command_octets, IsCommand, other_command_code}
pub use Rattle.fio_message.specs.Decoding.{command_in, poll_in, polled_number, answered_block, answer_in, block_in, decoded_answer, message_in}
pub use Rattle.fio_message.specs.Octets.{IsEntry, IsOctet, IsOctets, IsFrameLength, inputs_octets}
pub use Rattle.fio_message.specs.Status.{says_lost, says_more, says_error, says_again, error_status, set_before_status, says_out_of_sequence}
pub use Rattle.fio_message.specs.declared.answers.Answer.{Answer}
pub use Rattle.fio_message.specs.declared.answers.OtherAnswer.{OtherAnswer}
pub use Rattle.fio_message.specs.declared.commands.Command.{Command}
pub use Rattle.fio_message.specs.declared.commands.Command.TheVariants.{Poll, LoadCounter}
pub use Rattle.fio_message.specs.declared.commands.OtherCommand.{OtherCommand}
pub use Rattle.fio_message.specs.declared.commands.OtherCommand.TheVariants.{ComplexOutputs, ControllerId, TrackInputs}
pub use Rattle.fio_message.specs.declared.fields.InputItem.{InputItem}
pub use Rattle.fio_message.specs.declared.limits.TheConstants.{INPUTS}
pub use Rattle.fio_message.specs.declared.types.TheConstants.{BLOCK_ANSWER, ANSWER}
pub use Rattle.fio_wire.proofs.Lines.{no_flag, part_said}
pub use Rattle.fio_wire.proofs.Sent.{free_of_flags, arrive, message_again, sent_frame}
pub use Rattle.fio_wire.specs.Checks.{divided, with_octet}
pub use Rattle.fio_wire.specs.Frames.{frame_of, is_own, wire_heard, admits, Said, Damage, message_of_frame, with_check}
pub use Rattle.fio_wire.specs.Laws.{Loss, Octet, Struck, Arrival}
pub use Rattle.fio_wire.specs.Octets.{HasNoFlag, Whole, sent, stuffed, said_in, Phase, Hunting, Within, Escaped, Reading, begun, ended_by, ending, fresh, lost, next, said_of, says}
pub use Rattle.fio_wire.specs.declared.heard.WireHeard.{WireHeard}
pub use Rattle.fio_wire.specs.declared.heard.WireHeard.TheVariants.{Message, Other, Damaged}
pub use Rattle.fio_wire.specs.declared.limits.TheConstants.{FLAG}
pub use Rattle.fio_input.proofs.Apart.{carried, changes_are_apart, length-levels, levels}
pub use Rattle.fio_input.proofs.History.{state-configure}
pub use Rattle.fio_input.proofs.Ticks.{counter-append, loads_in-append}
pub use Rattle.fio_input.specs.Counter.{asked_number, ticks_in, counter, AskLoad, CounterEvent, Tick}
pub use Rattle.fio_input.specs.Delivery.{filter_to, IsNotAppliedTo, NoneIsAppliedTo, is_changed, scans_in}
pub use Rattle.fio_input.specs.FilterHistory.{input_setting, all_present, FilterEvent, applied_items, input_samples, input_state, is_reported, last_item_of, raw_levels, setting_by, Configure, applies_to}
pub use Rattle.fio_input.specs.FilterRule.{Setting, filter_in_force, latest_are}
pub use Rattle.fio_input.specs.Widening.{wide_time_of}
pub use Rattle.fio_module.proofs.BlockLaws.{blocks_without_more_take_all, losses_leave_more, blocks_follow}
pub use Rattle.fio_module.proofs.Ends.{last_end-append}
pub use Rattle.fio_module.proofs.EntryRanges.{part-fits}
pub use Rattle.fio_module.proofs.Growth.{filter_events-append}
pub use Rattle.fio_module.proofs.LifeLaws.{log_of-with_command}
pub use Rattle.fio_module.proofs.ListParts.{get_in_front, each-drop, each-from_get, each-front, get_in_back, each-append, each-back, get_last}
pub use Rattle.fio_module.proofs.LogOrder.{scans_within}
pub use Rattle.fio_module.proofs.LongestAnswers.{answer_fits}
pub use Rattle.fio_module.proofs.NewLevels.{later_log, scans_of-append}
pub use Rattle.fio_module.proofs.ScanTransitions.{IsOfScan, of_scan, scans_now, logged, ascending}
pub use Rattle.fio_module.proofs.SendingLaws.{sendings_answer_polls, sent_number}
pub use Rattle.fio_module.proofs.Words.{bit_at-word_of, word_of-fits}
pub use Rattle.fio_module.specs.Blocks.{MadeBlock, newest_poll, blocks_of, end_of_blocks, is_new, newest_end, next_block, start_after, count_from, last_end}
pub use Rattle.fio_module.specs.Flags.{flags_of, watchdog_of, word_of, is_flag_up}
pub use Rattle.fio_module.specs.Laws.{FollowOneAnother, IsPartOf}
pub use Rattle.fio_module.specs.Life.{Life, Occurrence, Scanned, LineSynced, Raised, filter_events, life_after_command, life_of, Commanded, scans_of, counter_events, loads_of, History, counter_of, Received}
pub use Rattle.fio_module.specs.Log.{Transition, entry_of, log_of, transition_at, transitions_below}
pub use Rattle.fio_module.specs.Makers.{makers_answer}
pub use Rattle.fio_module.specs.Replies.{answer_to, answer_if, reply_to}
pub use Rattle.fio_module.specs.Sendings.{Sending, answer_of_sending, first_sending, latest_sending, repeat_of}
pub use Rattle.fio_module.specs.Settings.{Settings, AreInRange, standard_settings}
pub use Rattle.fio_cpu.specs.Hearing.{after_hearing, heard_as, new_items, next_number}
pub use Rattle.fio_cpu.specs.Poller.{Polling}
pub use Rattle.fio_cpu.specs.Record.{item_of, items_of_block, gap_if}
pub use Rattle.fio_cpu.specs.declared.poller.Heard.TheVariants.{Stale}
pub use Rattle.fio_cpu.specs.declared.record.Item.{Item}
pub use Rattle.fio_cpu.specs.declared.record.Item.TheVariants.{Entry, Gap}
pub use Rattle.fio_check.proofs.Checkers.{found-taking, taking, with-taking, finds_the_first_breach, begins_anywhere}
pub use Rattle.fio_check.proofs.ContentCourse.{dropped_first}
pub use Rattle.fio_check.proofs.ContentNext.{content_is_kept, content_next}
pub use Rattle.fio_check.proofs.ContentStart.{begun_is, block_at_start, command_at_start, no_again, no_error, no_lost}
pub use Rattle.fio_check.proofs.Excuses.{excuses_what_is_shown}
pub use Rattle.fio_check.proofs.FirstCommands.{below_heard}
pub use Rattle.fio_check.proofs.InputParts.{item_parts}
pub use Rattle.fio_check.proofs.KeptContent.{ended_input, ended_unpolled}
pub use Rattle.fio_check.proofs.KeptFacts.{facts_next, seen_at}
pub use Rattle.fio_check.proofs.LogLaws.{as_link}
pub use Rattle.fio_check.proofs.Unexcused.{sent_step, step_only}
pub use Rattle.fio_check.proofs.Verdicts.{verdict_is}
pub use Rattle.fio_check.specs.Checkers.{breach_of, checker_below_breach, checker_skipping, checker_with, found_by, passes_over, skips_frame, checker_anywhere, checker_at, found_at, verdict_found_at, found_from, checker_within, due_in}
pub use Rattle.fio_check.specs.ContentAbove.{content_at, one_excuse_more, one_excuse_less, flags_cleared, least_with, one_sample}
pub use Rattle.fio_check.specs.ContentCheckers.{ContentKept, kept_at_start, kept_with, ContentChecking, breach_among, checking_with, content_found, found_first, found_in_frame, found_on}
pub use Rattle.fio_check.specs.ContentEvents.{ContentEvent, Ended, Heard, LineEvent, Recorded, Sent, content_event_at, content_events, events_above, events_below, events_in, events_of_block, events_of_lines, events_of_log, number_after, items_and_end, number_with_command, recorded_items, number_below}
pub use Rattle.fio_check.specs.ContentFacts.{content_step, content_with, no_content, below_clear, coming, content_begun, forgetting, input_below_clear, input_ended, input_with_entry, input_with_item, is_aging, no_input, seen_below, settled_now, unnamed, watched_now, shaded, unless_shaded, settles, input_begun}
pub use Rattle.fio_check.specs.ContentFaults.{content_fault_in, content_fault_at, fault_by}
pub use Rattle.fio_check.specs.ContentKnown.{ContentFacts, InputAbove, WatchedState, if_comes, input_coming}
pub use Rattle.fio_check.specs.ContentRules.{rule_broken_by, breaks_answer, breaks_entry, broken_state, comes_after, differing, entry_rules, filter_towards, is_out_of_order, is_shown_otherwise, is_stale, state_breach, steady_state, without_excuse, first_differing, answer_rules, is_excused, breaks_time, is_too_near, is_judged}
pub use Rattle.fio_check.specs.ContentSaid.{FilterPair, Floor, Seen, SentItem, comes_to, ignores, is_before, is_clear_end, is_far, is_later, item_for, items_sent, milliseconds_between, opens, polling, stamp_of, states_heard, accepts_items, item_kept, is_set_dog}
pub use Rattle.fio_check.specs.Facts.{facts_with, no_facts, number_due, facts_at, number_polled}
pub use Rattle.fio_check.specs.LateAnswers.{awaits, lateness_below, unawaited_block, late_above, late_with, lateness_of, late_below_answer, lateness_of_block, lateness_of_polled}
pub use Rattle.fio_check.specs.Lines.{TranscriptLine, answer_from, from_first_command}
pub use Rattle.fio_check.specs.LinkJudges.{Judging, LogLine, any_stamp_in, any_stamp_of, checker_below_lines, checking_above, checking_again, content_here, is_answer_set_back, is_set_back, is_unheard, judging_anywhere, judging_at, judging_below, judging_below_outcome, judging_kept, judging_lost, judging_passed, judging_taken, judging_with, judging_with_line, loads_below, loads_left, may_be_anew, outcome_anew, outcome_found, outcome_in, outcome_judged, outcome_set_back, outcomes_of, place_lost, polls_below, stamp_in, unjudged_by, with_loads, is_at_cpu, may_answer_anew, outcome_of_content, stamp_above, Frame, Lost, judging_begun, asked_below, outcome_on, is_asked_again}
pub use Rattle.fio_check.specs.LogJudges.{LogJudging, log_starting, log_with, log_with_event, outcomes_in_log, is_explained, is_same_end, judges_each, judging_in_time, late_settled, link_lost, log_below, log_by_lateness, log_counting, log_forgetting, log_lost, log_reaching, one_more, outcome_by_lateness, outcome_here, outcome_in_log, outcome_in_time, place_by, place_of, unsettled, is_rule_of_late, link_starting, has_content, is_excused_late, outcome_without_content, LogEvent, outcome_of_event}
pub use Rattle.fio_check.specs.LogLaws.{AreLinesOf, Around, around_with, mark_if, nothing_around, around_frame, around_said}
pub use Rattle.fio_check.specs.Observations.{answer_type_to, names_absent, is_absent, observation_of, observation_in, observation_on, observation_of_command, is_sent_at, observation_at}
pub use Rattle.fio_check.specs.Places.{is_some_and, earliest_above}
pub use Rattle.fio_check.specs.Pollers.{block_on, poller_with, poller_of}
pub use Rattle.fio_check.specs.Rules.{first_broken, first_broken_within, rule_broken, standard_rule_limits, breaks_within, is_overfull_within, rule_number, rules}
pub use Rattle.fio_check.specs.Verdicts.{verdict_on, IsVerdict, KeepsRulesAbove}
pub use Rattle.fio_check.specs.declared.checker.Breach.{Breach}
pub use Rattle.fio_check.specs.declared.checker.Checker.{Checker}
pub use Rattle.fio_check.specs.declared.checker.Skips.{Skips}
pub use Rattle.fio_check.specs.declared.checker.Skips.TheVariants.{Nothing, ToCommand, ToPoll}
pub use Rattle.fio_check.specs.declared.content.ContentBreach.{ContentBreach}
pub use Rattle.fio_check.specs.declared.content_rules.ContentRule.{ContentRule}
pub use Rattle.fio_check.specs.declared.content_rules.ContentRule.TheVariants.{Accepted, Alternate, Apart, Cleared, Clock, Done, Fresh, Ignored, Order, State, Watchdog}
pub use Rattle.fio_check.specs.declared.facts.Facts.{Facts}
pub use Rattle.fio_check.specs.declared.late_answers.LateAnswers.{LateAnswers}
pub use Rattle.fio_check.specs.declared.late_answers.Lateness.{Lateness}
pub use Rattle.fio_check.specs.declared.late_answers.Lateness.TheVariants.{InTime, Late, LateButTaken}
pub use Rattle.fio_check.specs.declared.limits.RuleLimits.{RuleLimits}
pub use Rattle.fio_check.specs.declared.log_judge.LogOutcome.{LogOutcome}
pub use Rattle.fio_check.specs.declared.log_judge.LogOutcome.TheVariants.{Link, LateAbove}
pub use Rattle.fio_check.specs.declared.log_judge.LogStart.{LogStart}
pub use Rattle.fio_check.specs.declared.observation.Observation.{Observation}
pub use Rattle.fio_check.specs.declared.outcome.Excuse.TheVariants.{Load, Unheard}
pub use Rattle.fio_check.specs.declared.outcome.FrameOutcome.{FrameOutcome}
pub use Rattle.fio_check.specs.declared.outcome.FrameOutcome.TheVariants.{Excused, Kept, NotJudged, Restarted, BrokenContent}
pub use Rattle.fio_check.specs.declared.outcome.LogPlace.{LogPlace}
pub use Rattle.fio_check.specs.declared.outcome.LogPlace.TheVariants.{Bus, Cpu, Module}
pub use Rattle.fio_check.specs.declared.outcome.Unjudged.{Unjudged}
pub use Rattle.fio_check.specs.declared.outcome.Unjudged.TheVariants.{AboveCommand}
pub use Rattle.fio_check.specs.declared.rules.Rule.{Rule}
pub use Rattle.fio_check.specs.declared.rules.Rule.TheVariants.{Pair, Same, Readable}
pub use Rattle.fio_check.specs.declared.verdict.Verdict.TheVariants.{Good, Broken}
pub use Rattle.fio_flat.specs.Hearing.{flat_record_item, Hears, flat_heard, with_block}
pub use Rattle.fio_flat.specs.Module.{Reached, are_flat_limits, events_reached, errors_of, with_errors, flat_settings, DeviceHistory, ErrorsChanged, ErrorChange, IsDeviceAfter, WritesReply}
pub use Rattle.fio_flat.specs.Written.{Writes}
pub use Rattle.fio_flat.specs.declared.module.ErrorCounts.{ErrorCounts}
pub use Rattle.fio_flat.specs.declared.module.FlatLimits.{FlatLimits}
pub use Rattle.fio_flat.specs.declared.poller.FlatHeard.{FlatHeard}
pub use Rattle.fio_flat.specs.declared.poller.RecordItem.{RecordItem}
pub use Rattle.fio_link.proofs.CpuOrder.{answered}
pub use Rattle.fio_link.proofs.Events.{after_delivery, frame_at_place, IsKeptByEvents}
pub use Rattle.fio_link.proofs.Grown.{leads-append}
pub use Rattle.fio_link.proofs.HeardRows.{after_taken, in_order, same_round, after_heard}
pub use Rattle.fio_link.proofs.Kept.{sending_if}
pub use Rattle.fio_link.proofs.MadeBlocks.{each-at, HasInput, each_block, next_fits}
pub use Rattle.fio_link.proofs.OneLife.{continues}
pub use Rattle.fio_link.proofs.OneLifeRows.{IsKept, carries_own, kept_all, kept, kept_in_life}
pub use Rattle.fio_link.proofs.Places.{get_before_push, take_one_more, get_after_push, get_part, some_block}
pub use Rattle.fio_link.proofs.Promises.{runs_are_sound, headline}
pub use Rattle.fio_link.proofs.Received.{again_carries, carried_back, first_carries, same_number, said_again, latest_sent, newest_fits}
pub use Rattle.fio_link.proofs.RoundNumbers.{number_of-fits, number_of-next}
pub use Rattle.fio_link.proofs.SentMessages.{none_more}
pub use Rattle.fio_link.proofs.Spelled.{no_poll_in, said, no_block_in}
pub use Rattle.fio_link.proofs.StandardLinks.{standard_in_range}
pub use Rattle.fio_link.proofs.Times.{BlockTimely, IsTimely, blocks_timely, wide_time}
pub use Rattle.fio_link.specs.Claims.{blocks_in}
pub use Rattle.fio_link.specs.Frames.{HasPoll, HasBlock}
pub use Rattle.fio_link.specs.Headline.{IsNotRestart, HaveNoRestart, Headline}
pub use Rattle.fio_link.specs.Link.{SentFrame, Machine, start, number_of, sending_refusal, after_sending, after_delivery_to_module, after_delivered_block, after_delivery_to_cpu, refusal, after, Leads, item_numbered, after_module_event, answer_frames, delivery_refusal, polling_of, polls_with, IsRun}
pub use Rattle.fio_link.specs.Rounds.{next_round, CarriesBlockOf, CarriesBlock}
pub use Rattle.fio_link.specs.declared.event.Event.{Event}
pub use Rattle.fio_link.specs.declared.event.Event.TheVariants.{ToModule, ToCpu, LineSync, Raise, Restart, Scan, Send}
pub use Rattle.fio_ends.specs.AnsweredLogs.{Answered, AnsweredLine, AnswersAccuseNone, Identified, JudgeAccusesNoMaker, Plain, answer_kind, begin_heard, lines_with}
pub use Rattle.fio_ends.specs.Bus.{BusEnds, after_bus_event, bus_at_start, LeadOnBus, MayBringTo, MayComeAt, Station, after_if, at_station, with_event, BusEvent, IsAnothers, IsBus}
pub use Rattle.fio_ends.specs.BusRuns.{bus_of, BusesExist, LinesAreStations, HeadlineAtStations, StationsAreLines, StationsAreRuns}
pub use Rattle.fio_ends.specs.Calls.{CallerState, caller_at_start, HasReceived, HasHeard, IsFoundAnd, IsCalledFor, AreCalled, Call, For, ChangeErrors, CallsAreRuns, link_events, frames_written, HasHappened, HasPolled}
pub use Rattle.fio_ends.specs.ContentPremises.{AreNear, AreTimesNear, BlocksAreNear, EntriesNearStates, HasNearTimes, InputsAreNear, IsNear, IsNearStates, IsWithinAge, LoadsAreSent, StampsAreNear, StatesAreNear, block_taken, blocks_taken, comes_with, hears_states, is_later_among, latest_with, loads_sent, scans_above, scans_asked, scans_below, scans_left, scans_seen, scans_stamped, hears_stamp}
pub use Rattle.fio_ends.specs.ContentRuns.{Always, KeepsRule, ContentNeverAccuses, AccusesNone, NoneBreaks, Premise}
pub use Rattle.fio_ends.specs.EventLogs.{event_of_remark, found_saying, BeginsPart, MayHaveHeldFrame, Remark, SaysMessage, SpeaksOfLoss, SeenStep, events_seen, log_seen, AccusesNeitherInLog, AreLostWhereSaid, FewAreUnderWayInParts, LogJudgeAccusesNone, Remarked, SeenAbove, Unseen, below_frames, starts_begun, lost_if, nothing_seen}
pub use Rattle.fio_ends.specs.LateLogs.{IsNoBreach, AnswersMayBeLate, IsLateLog, IsInLog, LateAnswersBreakNoRule}
pub use Rattle.fio_ends.specs.LineRuns.{IsStruck, LeadOverLines, MayFollow, part_brought, LinesBringRecords, written_of, HoldsOverLines, LinesAreRuns, HeadlineOverLines, EachFrameMayCome, EachStruckFrameMayCome}
pub use Rattle.fio_ends.specs.Lines.{Arrives, AtCpu, AtModule, ComesWhole, EndOf, Framing, Happens, IsFraming, MayBring, WireEvent, WireLine, WiredEnds, after_line_event, after_message, after_receipt, ends_at_start, events_on_wire, line_after, message_heard, part_after, with_answer_written, with_written, MayHappen, IsNoise, MayCome, after_happening, Brought, message_if, arrival_of}
pub use Rattle.fio_ends.specs.LinkLogs.{AccusesNeither, AreLogged, AreUnderWay, AreUnderWayAt, FewAreUnderWay, IsRight, LogStep, Logged, Marked, Missing, events_of, log_from, logged_at, IsCalm, JudgeKeepsAll, FramesMayBeMissing, IsLogBelowLoads, LoadsMayBeUnderWay, outcomes_begun, AreMarked, JudgeAccusesNone, AccusesNoneBelowLoads, below_command, judging_at_start, loads_at_start}
pub use Rattle.fio_ends.specs.Pollers.{poller_at, IsTaken, IsOfPoller, GoodIsOfPoller}
pub use Rattle.fio_ends.specs.PromptRuns.{due_after, IsPrompt, ArePrompt, IsWithinRanges, SuitModule, HasNoBreach, IsGood, IsPromptRun, events_from_command, is_command, machine_at_command, FromCommand, HasNoBreachAnywhere, NeverAccusesLater, NeverAccuses}
pub use Rattle.fio_ends.specs.RestartedLogs.{HaveRestarts, IsRestarted, JudgesOn, LoggedLife, is_restart, BeginsEarlier, is_earlier, RestartsAreFound, outcomes_over_lives, AreRestarted, JudgeFindsRestarts, JudgeFindsRestartsAnywhere, lines_of_lives}
pub use Rattle.fio_ends.specs.RunRecords.{HasRunsPoller, KeepsRecord}
pub use Rattle.fio_ends.specs.SharedLines.{ArrivesAtAll, AtDecoders, AtModules, EndOfFrame, HappensAt, LeadOverShared, SharedEvent, SharedLinesBringRecords, at_each, part_to_all, BroughtToAll, EachFrameMayComeToAll, HeadlineOverSharedLines, MayBringToAll, MayComeToAll, SharedLinesAreABus, brought_to}
pub use Rattle.fio_ends.specs.TapLogs.{AreTapped, AtEnds, Noted, PassesToCpu, PassesToModule, Tap, TapStep, TapsBreakNoRule, frame_sent, last_passed, log_tapped, machine_below, untapped, HasPassed, MayArrive, TapsExcusePolls}
pub use Rattle.fio_ends.specs.Transcripts.{CpuFrame, cpu_frame_on, frame_heard, frames_at, frames_from, HaveFrames, transcript_of}
