-- The names that most proofs of this crate cite, re-exported in one place.
pub use Rattle.std.proofs.Common.{Bool, Fits, List, None, Option, Some, [], ap, append_assoc, ap₂, arith, cond, drop, eqb, false, get_or, get_or-set_other, get_or-set_same, if◌then◌else◌, inl, inr, is_some, leb, length, length-append, ltb, map, max, min, not, refl, replicate, subst, suc, sym, take, true, w8, zero, ℕ, ◌%◌, ◌&&◌, ◌*◌, ◌++◌, ◌+◌, ◌-◌, ◌/◌, ◌<◌, ◌==◌, ◌^◌, ◌||◌, ◌∙◌, ◌∷◌, ◌≡◌, ◌≢◌, ◌≤◌, ◌⊎◌}
pub use Rattle.std.proofs.Math.Bool.{or-false, or-true}
pub use Rattle.std.proofs.Math.Nat.{div-lt_iff_lt-mul, div-mul-le_self, le-div_iff_mul-le, mul-le-mul_left, mul-le-mul_right}
pub use Rattle.std.proofs.lemmas.Bool.{cases_eq, cases_lt, eq-eqb, false_from_ne_true, ltb-false, ltb-true, ne_eqb, not-true}
pub use Rattle.std.proofs.lemmas.Bool.Decides.{eqb_tells, nat_tests}
pub use Rattle.std.proofs.lemmas.List.{get_or-map, length-map, take-append-drop, take_all, take_more}
pub use Rattle.std.proofs.lemmas.Simd.{Each1-get_or, Each1-replicate, get_or-chunk, get_or-put_chunk_above, get_or-put_chunk_at, get_or-put_chunk_below, get_or-replicate, get_or-sel_l, get_or-zip2, length-sel_l, length-zip2, mask_l-lt, mask_l-mod, tops_compared}
pub use Rattle.std.specs.Bool.{beq}
pub use Rattle.std.specs.Int.{bit_not, trailing_zeros, w64}
pub use Rattle.std.specs.Int.Bits.{bit_and, bit_or, bit_xor}
pub use Rattle.std.specs.List.{AllByRecursion, list_all, position, prefix_len}
pub use Rattle.std.specs.Prelude.{slice_index, slice_set, unwrap_or}
pub use Rattle.fio_message.proofs.Bits.{is_set-above, is_set-and, is_set-clear_other, is_set-clear_same, is_set-low, is_set-mask_l, is_set-merged, is_set-not, is_set-ones, is_set-placed_at, is_set-placed_below, is_set-set_other, is_set-set_same, is_set-shr, is_set-xor, is_set-zero, is_set_masked}
pub use Rattle.fio_message.specs.Bits.{bit_of}
unfoldable pub use Rattle.fio_message.specs.Bits.{is_set}
pub use Rattle.fio_message.specs.declared.fields.InputItem.{InputItem}
pub use lib.Lanes.{Each1, mask_l, sel_l, top, zip2}
pub use Rattle.fio_input.specs.Delivery.{AfterEachApplied, AtEachScan, ChangesAreApart, ChangesAreFew, ConfigurationsLeaveFewOpen, FewStayOpen, HasFewOpen, HasFiltersOf, NoneIsApplied, NoneIsAppliedTo, OpenHaveFiltersOf, OpenKeepFiltersOf, ReportsAreFew, all_reports_in, changes_in, filter_to, is_changed, open_inputs, reports_in, scans_in}
unfoldable pub use Rattle.fio_input.specs.Delivery.{sum_below}
pub use Rattle.fio_input.specs.FilterHistory.{Configure, FilterEvent, Scan, all_present, applied_items, applies_to, input_samples, input_setting, input_state, is_reported, last_item_of, raw_levels, setting_by, state_at_configuration}
pub use Rattle.fio_input.specs.FilterRule.{Setting, ends_run, filter_in_force, filtered_state, latest_are}
pub use Rattle.fio_input.specs.Filters.{AreFiltersAfter, KeepsInput}
pub use Rattle.fio_input.specs.Runs.{meets_filter, next_length, run_length}
