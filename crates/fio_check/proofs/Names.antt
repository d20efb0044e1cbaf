-- The names that most proofs of this crate cite, passed on from one place. Declares nothing.
pub use Rattle.std.proofs.Common.{Bool, List, None, Option, Some, [], add-one, ap, append-nil, append_assoc, ap₂, arith, cond, drop, false, get_or, get_or-set_other, get_or-set_same, inl, inr, length, length-append, length-drop, map, refl, replicate, set, subst, suc, sym, take, true, zero, ℕ, ◌++◌, ◌+◌, ◌<◌, ◌∙◌, ◌∷◌, ◌≡◌, ◌≤◌, ◌⊎◌, w64}
pub use Rattle.std.proofs.lemmas.Bool.Decides.{eqb_tells, nat_tests, leb_tells}
pub use Rattle.std.proofs.lemmas.Option.{same_Some, slice_get_cases, slice_get_read, slice_get_within}
pub use Rattle.std.specs.List.{flat_map, list_any}
pub use Rattle.std.specs.Option.{option_or}
pub use Rattle.std.specs.Prelude.{find, fold, if◌then◌else◌, is_some, nat_lt, not, option_and_then, option_map, slice_get, unwrap_or, ◌%◌, ◌==◌, ◌&&◌, ◌-◌, ◌^◌, ◌||◌}
pub use Rattle.fio_cpu.specs.Record.{gap_if, item_of, items_of_block}
pub use Rattle.fio_cpu.specs.declared.record.Item.{Item}
pub use Rattle.fio_cpu.specs.declared.record.Item.TheVariants.{Entry, Gap}
pub use Rattle.fio_message.specs.Bits.{is_set}
pub use Rattle.fio_message.specs.Blocks.{Block, block_answer}
pub use Rattle.fio_message.specs.Status.{says_lost, says_again, says_error, says_more}
pub use Rattle.fio_message.specs.Views.{answer_of, entries_of, items_of, command_of}
pub use Rattle.fio_check.specs.ContentAbove.{content_at, floor_known, full_above, is_polled, is_since_poll, is_timely, is_touched, is_unlogged, latest_said, least_with, one_excuse_more, seen_at, settled_at, shown_at}
pub use Rattle.fio_check.specs.ContentKnown.{ContentFacts, InputAbove, WatchedState, if_comes, input_coming, state_shown, shows_other}
pub use Rattle.fio_check.specs.ContentSaid.{FilterPair, Seen, SentItem, TimedState, block_stamp, comes_to, ends_shown, entry_recorded, floor_of, full_end, ignores, ignoring, is_clear_end, is_far, is_gap, is_loading, item_for, item_of_input, items_sent, opening, opens, polling, said_if, states_heard}
pub use Rattle.fio_check.specs.ContentCheckers.{ContentChecking, ContentKept, breach_among, breach_below, breach_found, checking_at_start, checking_with, content_found, fault_found, found_first, found_in_frame, found_on, items_below, kept_at_start, kept_with, FoundFault}
pub use Rattle.fio_check.specs.ContentEvents.{ContentEvent, Ended, Heard, LineEvent, Recorded, Sent, content_event_at, events_above, events_below, events_in, events_of_block, events_of_lines, events_of_log, item_of_event, items_and_end, recorded_items, content_events, number_below}
pub use Rattle.fio_check.specs.ContentFacts.{content_with, no_content, below_clear, coming, content_begun, content_step, forgetting, input_begun, input_below_clear, input_ended, input_with_answer, input_with_earlier, input_with_entry, input_with_item, is_aging, no_input, seen_below, seen_with, settled_now, settles, shaded, unless_shaded, unnamed, with_items}
pub use Rattle.fio_check.specs.ContentKept.{facts_kept, input_kept, seen_kept}
pub use Rattle.fio_check.specs.Facts.{facts_at, facts_with, is_answering, latest_poll, number_polled, status_of_block}
pub use Rattle.fio_check.specs.Laws.{HasOneVerdict, IsLatestAbove, IsTheLatest, KeepsFacts}
pub use Rattle.fio_check.specs.Lines.{TranscriptLine, from_first_command, command_from}
pub use Rattle.fio_check.specs.Observations.{is_absent, is_sent_at, observation_at, observation_on, observation_in}
pub use Rattle.fio_check.specs.Places.{Placed, earliest_above, is_some_and, latest_above}
pub use Rattle.fio_check.specs.Rules.{first_broken, rule_broken, rules, breaks_within, first_broken_within}
pub use Rattle.fio_check.specs.Verdicts.{IsFirstBreach, IsVerdict, KeepsRulesAbove, breach_at, verdict_on}
pub use Rattle.fio_check.specs.declared.rules.Rule.{Rule}
pub use Rattle.fio_check.specs.declared.verdict.Verdict.{Verdict}
pub use Rattle.fio_check.specs.declared.verdict.Verdict.TheVariants.{Broken, Good}
pub use Rattle.fio_check.specs.Checkers.{breach_of, checker_below_breach, checker_from, checker_with, found_by, passes_over}
pub use Rattle.fio_check.specs.ContentFaults.{ContentFault, content_fault_at, content_fault_in, fault_by, first_fault_in}
pub use Rattle.fio_check.specs.ContentRules.{answer_rules, breaks_answer, breaks_entry, comes_after, differing, differs, entry_rules, rule_broken_by, without_excuse}
pub use Rattle.fio_check.specs.Finding.{LineTakesBlock, content_below, number_below_lines, place_of_entry, place_of_latest, seen_unloaded, tells_of, with_entries}
pub use Rattle.fio_check.specs.LinkJudges.{Frame, Judging, LogLine, asked_below, checking_above, content_here, is_unheard, judging_below, judging_with, loads_below, loads_left, outcome_found, outcome_in, outcomes_of, place_lost, polls_below}
pub use Rattle.fio_check.specs.LinkKept.{judging}
pub use Rattle.fio_check.specs.LinkLaws.{Accused, both_find_first, broken_on, content_on}
pub use Rattle.fio_check.specs.LogJudges.{LogJudging, log_reached, outcome_reached, place_of}
pub use Rattle.fio_check.specs.declared.checker.Breach.{Breach}
pub use Rattle.fio_check.specs.declared.checker.Checker.{Checker}
pub use Rattle.fio_check.specs.declared.checker.Skips.{Skips}
pub use Rattle.fio_check.specs.declared.checker.Skips.TheVariants.{Nothing, ToCommand, ToPoll}
pub use Rattle.fio_check.specs.declared.content.ContentBreach.{ContentBreach}
pub use Rattle.fio_check.specs.declared.content_rules.BrokenRule.{BrokenRule}
pub use Rattle.fio_check.specs.declared.content_rules.ContentRule.{ContentRule}
pub use Rattle.fio_check.specs.declared.content_rules.ContentRule.TheVariants.{Order}
pub use Rattle.fio_check.specs.declared.facts.Facts.{Facts}
pub use Rattle.fio_check.specs.declared.limits.RuleLimits.{RuleLimits}
pub use Rattle.fio_check.specs.declared.log_judge.LogOutcome.TheVariants.{Link}
pub use Rattle.fio_check.specs.declared.observation.Observation.{Observation}
pub use Rattle.fio_check.specs.declared.observation.Observation.TheVariants.{Poll, Unreadable}
pub use Rattle.fio_check.specs.declared.outcome.FrameOutcome.{FrameOutcome}
pub use Rattle.fio_check.specs.declared.outcome.LogPlace.{LogPlace}
pub use Rattle.fio_input.specs.FilterHistory.{last_item_of}
pub use Rattle.fio_input.specs.declared.filters.TheConstants.{DEFAULT_FILTER}
pub use Rattle.fio_message.proofs.Bits.{is_set-above, is_set-and, is_set-not, is_set-or, is_set-zero}
pub use Rattle.fio_message.specs.Decoding.{answer_in}
pub use Rattle.fio_message.specs.declared.answers.Answer.{Answer}
pub use Rattle.fio_message.specs.declared.commands.Command.{Command}
pub use Rattle.fio_message.specs.declared.fields.InputItem.{InputItem}
pub use Rattle.fio_message.specs.declared.limits.TheConstants.{INPUTS}
pub use Rattle.std.proofs.Math.Path.{fun_ext}
pub use Rattle.std.proofs.lemmas.List.{drop_at, length-map, map-append}
pub use Rattle.std.proofs.lemmas.List.Sums.{fold-append}
pub use Rattle.std.specs.Bool.{beq}
pub use Rattle.std.specs.Int.{bit_not}
pub use Rattle.std.specs.Int.Bits.{bit_and, bit_or}
