use Rattle.fio_input.proofs.Names.{◌≡◌, ℕ, ◌+◌, ◌-◌, ◌*◌, ◌%◌, ◌^◌, ◌<◌, ◌≤◌, false, leb, get_or, refl, sym, ap, ap₂, ◌∙◌, subst, arith, bit_or, is_set, bit_of, is_set-zero, is_set-above, is_set-placed_below, is_set-placed_at, next_length, meets_filter}
use Rattle.fio_input.proofs.Groups.{group_more}
use Rattle.fio_input.proofs.LevelLanes.{next_in_lanes, meets_in_lanes}
use Rattle.fio_input.proofs.Stepped.{IsStepped, IsMet, differing_is_set}
use Rattle.fio_input.proofs.lanes.step_runs.Goals as goal

pub loop-group-init : goal.loop-group-init
loop-group-init c =
    record {
      long = omega arith;
      lengths = λ i h. absurd (omega arith);
      rest = λ i h. refl;
      met = λ i h. absurd (omega arith);
      no_rest = λ i h k. is_set-zero i;
    }

-- a group in which each sample is the filtered state is left out
pub loop-group-preserved-then-now-levels_from : goal.loop-group-preserved-then-now-levels_from
loop-group-preserved-then-now-levels_from c =
    let first = 16 * c.loop-group.group in
    let before = c.loop-group.invariant in
    let lengths = c.loop-group.run_lengths in
    let same = λ (lane : ℕ) (h : lane < 16).
    sym (c.levels_from-now.ensures.bits lane h) ∙ ap (λ levels. is_set levels lane) c.if-now-levels_from.true
    ∙ c.levels_from.ensures.bits lane h in
    record {
      long = before.long;
      lengths = λ i h.
          group_more (IsStepped c.args.run_lengths.now lengths c.args.levels c.args.raw c.args.filtered) first 16
          before.lengths
          (λ lane h differs. absurd (differs (same lane h)))
          i (omega arith);
      rest = λ i h. before.rest i (omega arith);
      met = λ i h.
          group_more (IsMet c.args.leading.now c.args.trailing.now lengths c.args.raw c.args.filtered c.loop-group.met) first 16
          before.met
          (λ lane h differs. absurd (differs (same lane h)))
          i (omega arith);
      no_rest = λ i h within. before.no_rest i (omega arith) within;
    }

pub loop-group-preserved : goal.loop-group-preserved
loop-group-preserved c =
    let first = 16 * c.loop-group.group in
    let before = c.loop-group.invariant in
    let room : first + 16 ≤ 64 = omega arith in
    let leading = c.args.leading.now in
    let trailing = c.args.trailing.now in
    let lengths = c.next_lengths-lengths.result in
    let stored = c.store.new.octets in
    let met = bit_or c.loop-group.met (c.runs_met.result * 2 ^ first % 2 ^ 64) in
    let level = λ (lane : ℕ). is_set c.args.levels (first + lane) in
    let sample = λ (lane : ℕ). is_set c.args.raw (first + lane) in
    let meets = λ (i : ℕ). meets_filter (get_or leading i 0) (get_or trailing i 0) (is_set c.args.raw i) in
    let level_is = λ (lane : ℕ) (h : lane < 16). c.lanes_of-before.ensures lane h ∙ ap bit_of (c.levels_from-in-loop-group.ensures.bits lane h) in
    let sample_is = λ (lane : ℕ) (h : lane < 16). c.lanes_of-samples.ensures lane h ∙ ap bit_of (c.levels_from-now.ensures.bits lane h) in
    let length_is = λ (lane : ℕ) (h : lane < 16).
    c.next_lengths-lengths.ensures lane h
    ∙ next_in_lanes _ _ (level lane) (sample lane) (level_is lane h) (sample_is lane h) (get_or c.load.result lane 0)
    ∙ ap (λ n. next_length n (level lane) (sample lane)) (c.load.ensures lane h ∙ before.rest (first + lane) (omega arith)) in
    let met_is : (lane : ℕ) → lane < 16 → is_set c.runs_met.result lane ≡ meets (first + lane) (get_or lengths lane 0) =
    λ lane h.
    c.runs_met.ensures.lanes lane h ∙ ap (λ filter. leb filter (get_or lengths lane 0)) (c.filters_in_force-filters.ensures lane h)
    ∙ meets_in_lanes _ _ (level lane) (sample lane) (level_is lane h) (sample_is lane h) _ _ (get_or lengths lane 0)
    ∙ ap₂ (λ e r. meets_filter e r (sample lane) (get_or lengths lane 0)) (c.load-in-loop-group.ensures lane h) (c.load-in-loop-group-2.ensures lane h) in
    record {
      long = c.store.auto.octets ∙ before.long;
      lengths = λ i h.
          group_more (IsStepped c.args.run_lengths.now stored c.args.levels c.args.raw c.args.filtered) first 16
          (λ i h differs. c.store.ensures.below i h ∙ before.lengths i h differs)
          (λ lane h differs. c.store.ensures.stored lane h ∙ length_is lane h)
          i (omega arith);
      rest = λ i h. c.store.ensures.above i (omega arith) ∙ before.rest i (omega arith);
      met = λ i h.
          group_more (IsMet leading trailing stored c.args.raw c.args.filtered met) first 16
          (λ i h differs. is_set-placed_below c.loop-group.met c.runs_met.result first i h (omega arith)
          ∙ before.met i h differs ∙ ap (meets i) (sym (c.store.ensures.below i h)))
          (λ lane h differs. is_set-placed_at c.loop-group.met c.runs_met.result first lane (omega arith) (before.no_rest (first + lane) (omega arith) (omega arith))
          ∙ met_is lane h ∙ ap (meets (first + lane)) (sym (c.store.ensures.stored lane h)))
          i (omega arith);
      no_rest = λ i h within.
          let e : first + (i - first) ≡ i = omega arith in
          subst (λ k. is_set met k ≡ false) e
          (is_set-placed_at c.loop-group.met c.runs_met.result first (i - first) (omega arith) (before.no_rest (first + (i - first)) (omega arith) (omega arith))
          ∙ is_set-above c.runs_met.result 16 (i - first) c.runs_met.ensures.range (omega arith));
    }

-- few inputs are stepped one after another
pub returns-then-stepped-le-FEW-clause-lengths : goal.returns-then-stepped-le-FEW-clause-lengths
returns-then-stepped-le-FEW-clause-lengths c input h differs =
    c.step_few.ensures.lengths input h (differing_is_set c.args.raw c.args.filtered input differs)

pub returns-then-stepped-le-FEW-clause-met : goal.returns-then-stepped-le-FEW-clause-met
returns-then-stepped-le-FEW-clause-met c input h differs =
    c.step_few.ensures.met input h (differing_is_set c.args.raw c.args.filtered input differs)
