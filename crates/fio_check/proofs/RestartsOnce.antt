-- While stamps rise, only answers to a watchdog are restarts.
use Rattle.fio_check.proofs.Names.{◌≡◌, ◌⊎◌, ℕ, inl, inr, Bool, true, false, List, [], ◌∷◌, Option, Some, None, refl, sym, subst, ◌==◌, ◌&&◌, ◌||◌, not, option_and_then, if◌then◌else◌, is_some_and, Checker, Frame, FrameOutcome, Judging, LogLine, Observation, content_here, found_in_frame, judging_with, loads_below, observation_in, outcome_in, place_lost, arith}
use Rattle.fio_message.specs.declared.answers.Answer.{Answer}
use Rattle.fio_check.specs.Checkers.{checker_within}
use Rattle.fio_check.specs.ContentSaid.{is_before, stamp_of}
use Rattle.fio_check.specs.Lines.{answer_from}
use Rattle.fio_check.specs.LinkJudges.{Lost, any_stamp_in, any_stamp_of, asked_below, judging_at, judging_below_outcome, judging_kept, judging_lost, judging_taken, stamp_in}
use Rattle.fio_check.specs.LinkLaws.{OnlyWatchdogRestarts, StampsRise, breaks_watchdog, is_before_kept, is_before_none, stamps_with}
use Rattle.fio_check.specs.declared.observation.Observation.TheVariants as seen
use Rattle.fio_check.specs.declared.outcome.FrameOutcome.TheVariants.{Kept, Broken, BrokenContent, Excused, NotJudged, Restarted}
use Rattle.fio_check.specs.declared.outcome.Excuse.TheVariants.{Load, Unheard}
use Rattle.fio_check.proofs.Excuses.{excuses_what_is_shown}

pub both-true : (one other : Bool) → one && other ≡ true → (one ≡ true) × (other ≡ true)
both-true true other is = (refl, is)
both-true false other is = absurd (cc)

pub not-true : (one : Bool) → not one ≡ true → one ≡ false
not-true true is = absurd (cc)
not-true false is = refl

-- ---- the stamps that a judge keeps

-- a stamp that is before none of these is not before this one
abbrev pub Quiet : List ℕ → Option ℕ → Type 0
Quiet above kept = (stamp : ℕ) → is_before_none (Some stamp) above ≡ true → is_some_and kept (is_before stamp) ≡ false

quiet-none : (above : List ℕ) → Quiet above None
quiet-none above stamp none = refl

quiet-with : (own : Option ℕ) (above : List ℕ) (kept : Option ℕ) → Quiet above kept → Quiet (stamps_with own above) kept
quiet-with None above kept quiet = quiet
quiet-with (Some own) above kept quiet =
    λ stamp none. quiet stamp ((both-true (not (is_before stamp own)) (is_before_none (Some stamp) above) none).1)

quiet-own : (own : Option ℕ) (above : List ℕ) → Quiet (stamps_with own above) own
quiet-own None above = quiet-none above
quiet-own (Some own) above =
    λ stamp none. not-true (is_before stamp own) ((both-true (not (is_before stamp own)) (is_before_none (Some stamp) above) none).0)

-- no stamp that a judge keeps is ahead of these
pub record Kept-by (judging : Judging) (above : List ℕ) : Type 0 where
  pub latest : Quiet above judging.latest
  pub asked : Quiet above judging.asked

kept-with : (judging : Judging) (own : Option ℕ) (above : List ℕ) → Kept-by judging above → Kept-by judging (stamps_with own above)
kept-with judging own above kept =
    record { latest = quiet-with own above judging.latest kept.latest; asked = quiet-with own above judging.asked kept.asked }

own-or-none : (answer : Option Answer) → (option_and_then stamp_of answer ≡ None) ⊎ (option_and_then stamp_of answer ≡ option_and_then any_stamp_of answer)
own-or-none answer = grind arith

at-stamp : (judging : Judging) (stamp own : Option ℕ) (above : List ℕ) → (stamp ≡ None) ⊎ (stamp ≡ own) → Kept-by judging above
    → Kept-by (judging_at judging stamp) (stamps_with own above)
at-stamp judging None own above one kept = kept-with judging own above kept
at-stamp judging (Some stamp) own above (inl none) kept = absurd (cc)
at-stamp judging (Some stamp) own above (inr same) kept = record {
  latest = subst (Quiet (stamps_with own above)) (sym same) (quiet-own own above);
  asked = quiet-with own above judging.asked kept.asked;
}

asked-by : (same : Bool) (asked latest : Option ℕ) (above : List ℕ) → Quiet above asked → Quiet above latest → Quiet above (if same then asked else latest)
asked-by true asked latest above one other = one
asked-by false asked latest above one other = other

asked-poll : (number : ℕ) (polled asked latest : Option ℕ) (above : List ℕ) → Quiet above asked → Quiet above latest
    → Quiet above (option_and_then (λ polled. if number == polled then asked else latest) polled)
asked-poll number None asked latest above one other = quiet-none above
asked-poll number (Some polled) asked latest above one other = asked-by (number == polled) asked latest above one other

asked-quiet : (judging : Judging) (observation : Observation) (above : List ℕ) → Kept-by judging above → Quiet above (asked_below judging observation)
asked-quiet judging (seen.Poll number) above kept = asked-poll number judging.checker.facts.polled judging.asked judging.latest above kept.asked kept.latest
asked-quiet judging (seen.Command answer absent) above kept = kept.asked
asked-quiet judging (seen.Block number status entries absent) above kept = kept.asked
asked-quiet judging (seen.Answer code accepts) above kept = kept.asked
asked-quiet judging seen.Unreadable above kept = kept.asked

taken-quiet : (judging : Judging) (checker : Checker) (from_cpu : Bool) (octets : List ℕ) (above : List ℕ) → Kept-by judging above
    → Kept-by (judging_taken judging checker from_cpu octets) above
taken-quiet judging checker from_cpu octets above kept =
    record { latest = kept.latest; asked = asked-quiet judging (observation_in from_cpu octets) above kept }

pub lost-quiet : (judging : Judging) (loads : ℕ) (own : Option ℕ) (above : List ℕ) → Kept-by (place_lost judging loads own) (stamps_with own above)
lost-quiet judging loads own above = record { latest = quiet-own own above; asked = quiet-none (stamps_with own above) }

kept-quiet : (judging : Judging) (from_cpu : Bool) (octets : List ℕ) (above : List ℕ) → Kept-by judging above
    → Kept-by (judging_kept judging from_cpu octets) (stamps_with (any_stamp_in from_cpu octets) above)
kept-quiet judging from_cpu octets above kept =
    at-stamp (judging_taken judging judging.checker from_cpu octets) (stamp_in from_cpu octets) (any_stamp_in from_cpu octets) above
    (own-or-none (answer_from from_cpu octets)) (taken-quiet judging judging.checker from_cpu octets above kept)

outcome-quiet : (outcome : FrameOutcome) (judging : Judging) (from_cpu : Bool) (octets : List ℕ) (above : List ℕ) → Kept-by judging above
    → Kept-by (judging_below_outcome outcome judging from_cpu octets) (stamps_with (any_stamp_in from_cpu octets) above)
outcome-quiet Kept judging from_cpu octets above kept = kept-quiet judging from_cpu octets above kept
outcome-quiet (BrokenContent breach) judging from_cpu octets above kept = kept-quiet judging from_cpu octets above kept
outcome-quiet (Broken breach) judging from_cpu octets above kept =
    let own = any_stamp_in from_cpu octets in
    record { latest = quiet-with own above judging.latest kept.latest; asked = quiet-with own above judging.asked kept.asked }
outcome-quiet (Excused Load) judging from_cpu octets above kept = lost-quiet judging (loads_below judging from_cpu octets) (any_stamp_in from_cpu octets) above
outcome-quiet (Excused Unheard) judging from_cpu octets above kept =
    let taken = judging_taken judging (checker_within judging.checker.limits) from_cpu octets in
    kept-with taken (any_stamp_in from_cpu octets) above (taken-quiet judging (checker_within judging.checker.limits) from_cpu octets above kept)
outcome-quiet Restarted judging from_cpu octets above kept = lost-quiet judging (loads_below judging from_cpu octets) (any_stamp_in from_cpu octets) above
outcome-quiet (NotJudged reason) judging true octets above kept =
    let own = any_stamp_in true octets in
    record { latest = quiet-with own above judging.latest kept.latest; asked = quiet-with own above judging.asked kept.asked }
outcome-quiet (NotJudged reason) judging false octets above kept = kept-with judging (any_stamp_in false octets) above kept

either-false : (one other : Bool) → one ≡ false → other ≡ false → one || other ≡ true → ⊥
either-false one other first second is = grind arith

not-before : (judging : Judging) (own : Option ℕ) (above : List ℕ) → Kept-by judging above → is_before_none own above ≡ true
    → is_before_kept judging own ≡ true → ⊥
not-before judging None above kept none is = cc
not-before judging (Some own) above kept none is =
    either-false (is_some_and judging.latest (is_before own)) (is_some_and judging.asked (is_before own)) (kept.latest own none) (kept.asked own none) is

pub only-watchdog : (judging : Judging) (above : List ℕ) (lines : List LogLine) → Kept-by judging above → StampsRise above lines
    → OnlyWatchdogRestarts judging lines
only-watchdog judging above [] kept rise = rise
only-watchdog judging above (Lost ∷ lines) kept rise =
    only-watchdog (judging_lost judging) above lines (record { latest = kept.latest; asked = kept.asked }) rise
only-watchdog judging above (Frame at from_cpu octets ∷ lines) kept rise = (
  λ is. (elim ((excuses_what_is_shown judging at from_cpu octets).restarted is)
      as (λ _. breaks_watchdog (found_in_frame (content_here judging) from_cpu octets) ≡ true) [
        | inl back ↦ absurd (not-before judging (any_stamp_in from_cpu octets) above kept rise.0 back)
        | inr found ↦ found
      ]),
  only-watchdog (judging_with judging at from_cpu octets) (stamps_with (any_stamp_in from_cpu octets) above) lines
      (outcome-quiet (outcome_in judging at from_cpu octets) judging from_cpu octets above kept) rise.1,
)
