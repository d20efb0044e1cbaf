-- The judge that leaves late answers out finds no breach in the log of a tap on the line of a right link.
use Rattle.fio_ends.proofs.Names.{◌≡◌, ◌+◌, ◌≤◌, inl, inr, ℕ, Bool, false, true, List, [], ◌∷◌, ◌++◌, map, Option, Some, refl, sym, subst, arith, slice_get, AllByRecursion, AreInRange, Checker, IsKept, Machine, RuleLimits, SentFrame, Settings, SuitModule, after, after_delivery, blocks_of, frame_heard, kept, life_of, observation_in, start, late_above, LogJudging, log_starting, log_with, log_with_event, outcomes_in_log, LateAnswers, LogOutcome, Bus, event_of_remark, found_saying, IsNoBreach, AreTapped, AtEnds, Noted, PassesToCpu, PassesToModule, Tap, TapStep, frame_sent, last_passed, log_tapped, machine_below, untapped, nat_tests}
use Rattle.fio_check.specs.declared.log_judge.LogStart.TheVariants.{LateAnswers as StartLate}
use Rattle.fio_ends.specs.TapLogs.{TapsBreakNoRule}
use Rattle.fio_ends.proofs.LateJudges.{IsJudged, IsKnownLost, frame_judged, remark_judged}
use Rattle.fio_ends.proofs.LateRules.{Holds, Takes}
use Rattle.fio_ends.proofs.LateRuns.{AreAnswers, IsAnswer, event_goes, kept_next, no_outcome}
use Rattle.fio_ends.proofs.TapAnswers.{answer_passed, answer_passes}
use Rattle.fio_ends.proofs.TapBlocks.{block_passes}
use Rattle.fio_ends.proofs.TapCommands.{command_passes, other_passes, poll_passes}
use Rattle.fio_ends.proofs.TapEvents.{stays}
use Rattle.fio_ends.proofs.TapKnown.{IsCommandFrame, KeepsTap, TappedOf, tapped_above, tapped_lost}

-- nothing has passed at the start
keeps_start : (first : ℕ) → KeepsTap first start untapped
keeps_start first = grind (arith, nat_tests, inl)

module _ (settings : Settings) (range : AreInRange settings) (limits : RuleLimits) (suit : SuitModule settings limits) (first : ℕ) where
  abbrev Of : Machine → Tap → Checker → Option ℕ → Option ℕ → Bool → Type 0
  Of = TappedOf settings limits first

  known_of_lost : (machine : Machine) (tap : Tap) → IsKnownLost (Of machine tap)
  known_of_lost machine tap =
      tapped_lost limits first machine.to_module machine.to_cpu tap machine.polls machine.round (blocks_of settings (life_of machine.history))

  -- what is known of a link with a tap
  record Reaches (machine : Machine) (tap : Tap) : Type 0 where
    pub is_kept : IsKept settings first machine
    pub all : AreAnswers machine.to_cpu
    pub keeps : KeepsTap first machine tap

  abbrev with_command : Tap → ℕ → Tap
  with_command tap index = record tap { to_module = index ∷ tap.to_module }

  abbrev with_answer : Tap → ℕ → Tap
  with_answer tap index = record tap { to_cpu = index ∷ tap.to_cpu }

  module _ (machine : Machine) (tap : Tap) (r : Reaches machine tap) where
    command_reaches : (place : ℕ) (frame : SentFrame) → last_passed tap.to_module ≤ place + 1 → slice_get machine.to_module place ≡ Some frame
        → Reaches machine (with_command tap (place + 1))
    command_reaches place frame le at =
        record { is_kept = r.is_kept; all = r.all; keeps = command_passes settings limits first machine tap r.is_kept r.keeps place frame le at }

    answer_reaches : (place : ℕ) (frame : SentFrame) → last_passed tap.to_cpu ≤ place + 1 → slice_get machine.to_cpu place ≡ Some frame
        → Reaches machine (with_answer tap (place + 1))
    answer_reaches place frame le at =
        record { is_kept = r.is_kept; all = r.all; keeps = answer_passed settings limits first machine tap r.keeps place frame le at }

    takes_command : (place : ℕ) (frame : SentFrame) → last_passed tap.to_module ≤ place + 1 → slice_get machine.to_module place ≡ Some frame
        → IsCommandFrame first frame → (checker : Checker) (late : LateAnswers) → Holds (Of machine tap) checker late
        → Takes Bus (Of machine (with_command tap (place + 1))) checker late true (observation_in true frame.octets)
    takes_command place frame le at (inl same) checker late k = poll_passes settings limits first machine tap r.is_kept r.keeps place frame le at same checker late k
    takes_command place frame le at (inr (command, fine, within, same)) checker late k =
        other_passes settings limits first machine tap r.is_kept r.keeps place frame le at command fine within same checker late k

    takes_answer : (place : ℕ) (frame : SentFrame) → last_passed tap.to_cpu ≤ place + 1 → slice_get machine.to_cpu place ≡ Some frame
        → IsAnswer frame.octets → (checker : Checker) (late : LateAnswers) → Holds (Of machine tap) checker late
        → Takes Bus (Of machine (with_answer tap (place + 1))) checker late false (observation_in false frame.octets)
    takes_answer place frame le at (inl other) checker late k =
        answer_passes settings limits first machine tap r.keeps place frame le at checker late k other.0 other.1 other.2
    takes_answer place frame le at (inr block) checker late k =
        block_passes settings range limits suit first machine tap r.is_kept r.keeps place frame le at checker late k block.0 block.1

  -- ---- all steps

  all_judged : (steps : List TapStep) (machine : Machine) (tap : Tap) → Reaches machine tap → AreTapped settings first machine tap steps
      → (log : LogJudging) → IsJudged Bus (Of machine tap) log → AllByRecursion IsNoBreach (outcomes_in_log log (log_tapped settings first machine steps))
  all_judged [] machine tap r tapped log j = tt
  all_judged (AtEnds event ∷ steps) machine tap r tapped log j =
      let may = tapped.0 in
      let later = after settings first machine event in
      let s = stays settings limits first machine tap r.is_kept r.keeps event may.0 may.1 may.2 may.3 in
      all_judged steps later tap
      (record {
        is_kept = kept_next settings range limits suit first machine event r.is_kept may.0 may.1;
        all = (event_goes settings range limits suit first machine r.is_kept r.all event may.0 may.1 may.2).1;
        keeps = s.keeps;
      })
      tapped.1 log
      (record { placed = j.placed; late = j.late; is = j.is; holds = s.known log.link.checker j.late.awaited j.late.polled j.late.answered j.holds })
  all_judged (PassesToModule said index ∷ steps) machine tap r tapped log j =
      after_delivery (λ n found. AreTapped settings first machine (with_command tap n) steps
      → AllByRecursion IsNoBreach (outcomes_in_log log (map (found_saying said) (frame_sent found) ++ log_tapped settings first machine steps)))
      machine.to_module (last_passed tap.to_module) index tapped.0
      (λ place frame le at more.
      let here = frame_judged Bus (Of machine tap) (known_of_lost machine tap) (Of machine (with_command tap (place + 1))) log true said frame.octets j
      (takes_command machine tap r place frame le at (r.keeps.sent place frame at)) in
      (here.1, all_judged steps machine (with_command tap (place + 1)) (command_reaches machine tap r place frame le at) more (log_with log true said frame.octets) here.0))
      tapped.1
  all_judged (PassesToCpu said index ∷ steps) machine tap r tapped log j =
      after_delivery (λ n found. AreTapped settings first machine (with_answer tap n) steps
      → AllByRecursion IsNoBreach (outcomes_in_log log (map (found_saying said) (frame_heard found) ++ log_tapped settings first machine steps)))
      machine.to_cpu (last_passed tap.to_cpu) index tapped.0
      (λ place frame le at more.
      let here = frame_judged Bus (Of machine tap) (known_of_lost machine tap) (Of machine (with_answer tap (place + 1))) log false said frame.octets j
      (takes_answer machine tap r place frame le at (r.all place frame at)) in
      (here.1, all_judged steps machine (with_answer tap (place + 1)) (answer_reaches machine tap r place frame le at) more (log_with log false said frame.octets) here.0))
      tapped.1
  all_judged (Noted remark ∷ steps) machine tap r tapped log j =
      let next = log_with_event log (event_of_remark remark) in
      subst (λ (outcomes : List LogOutcome). AllByRecursion IsNoBreach (outcomes ++ outcomes_in_log next (log_tapped settings first machine steps)))
      (sym (no_outcome settings range limits suit first log remark))
      (all_judged steps machine tap r tapped.1 next (remark_judged Bus (Of machine tap) (known_of_lost machine tap) log remark j))

  -- ---- where the log begins

  record Begins (machine : Machine) (later : List TapStep) : Type 0 where
    pub tap : Tap
    pub reaches : Reaches machine tap
    pub tapped : AreTapped settings first machine tap later

  begins : (before later : List TapStep) (machine : Machine) (tap : Tap) → Reaches machine tap → AreTapped settings first machine tap (before ++ later)
      → Begins (machine_below settings first machine before) later
  begins [] later machine tap r tapped = record { tap = tap; reaches = r; tapped = tapped }
  begins (AtEnds event ∷ before) later machine tap r tapped =
      let may = tapped.0 in
      begins before later (after settings first machine event) tap
      (record {
        is_kept = kept_next settings range limits suit first machine event r.is_kept may.0 may.1;
        all = (event_goes settings range limits suit first machine r.is_kept r.all event may.0 may.1 may.2).1;
        keeps = (stays settings limits first machine tap r.is_kept r.keeps event may.0 may.1 may.2 may.3).keeps;
      })
      tapped.1
  begins (PassesToModule said index ∷ before) later machine tap r tapped =
      after_delivery (λ n found. AreTapped settings first machine (with_command tap n) (before ++ later) → Begins (machine_below settings first machine before) later)
      machine.to_module (last_passed tap.to_module) index tapped.0
      (λ place frame le at more. begins before later machine (with_command tap (place + 1)) (command_reaches machine tap r place frame le at) more)
      tapped.1
  begins (PassesToCpu said index ∷ before) later machine tap r tapped =
      after_delivery (λ n found. AreTapped settings first machine (with_answer tap n) (before ++ later) → Begins (machine_below settings first machine before) later)
      machine.to_cpu (last_passed tap.to_cpu) index tapped.0
      (λ place frame le at more. begins before later machine (with_answer tap (place + 1)) (answer_reaches machine tap r place frame le at) more)
      tapped.1
  begins (Noted remark ∷ before) later machine tap r tapped = begins before later machine tap r tapped.1

-- the law on late answers at a tap
pub taps_break_no_rule : TapsBreakNoRule
unfolding TapsBreakNoRule
taps_break_no_rule place settings limits first before later other range suit tapped =
    let none : AreAnswers [] = λ place frame at. absurd (cc at) in
    let b = begins settings range limits suit first before later start untapped
    (record { is_kept = kept settings range first [] start refl tt; all = none; keeps = keeps_start first }) tapped in
    let machine = machine_below settings first start before in
    all_judged settings range limits suit first later machine b.tap b.reaches b.tapped (log_starting limits (Some place) StartLate)
    (record {
      placed = other;
      late = late_above;
      is = refl;
      holds = tapped_above limits first machine.to_module machine.to_cpu b.tap machine.polls machine.round (blocks_of settings (life_of machine.history));
    })
