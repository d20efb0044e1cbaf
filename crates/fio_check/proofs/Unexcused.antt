-- Where no load of the counter excuses anything, no event is excused.
use Rattle.fio_check.proofs.Names.{◌≡◌, ◌≤◌, ◌<◌, ◌∙◌, ℕ, zero, suc, Bool, true, false, List, Option, None, Some, refl, ap, sym, arith, length, inl, inr, not, ◌==◌, eqb_tells, slice_get_cases, Gap, ContentEvent, Sent, Recorded, ContentFacts, LineEvent, content_at, content_event_at, content_with, option_map, Command, content_step, forgetting, is_loading, latest_said, without_excuse, ◌&&◌}
use Rattle.fio_check.specs.ContentRules.{breaks_time, is_excused}
use Rattle.fio_check.proofs.ContentNext.{content_is_kept, content_next}
use Rattle.fio_check.proofs.ContentPlaces.{latest_next, placed}
use Rattle.fio_check.proofs.ShownPlaces.{event_of}

and-none : (b : Bool) → (b && false) ≡ false
and-none true = refl
and-none false = refl

pub none_excused : (facts : ContentFacts) (event : ContentEvent) → facts.excuses ≡ 0 → is_excused facts event ≡ false
unfolding is_excused
none_excused facts event none =
    ap (λ n. breaks_time (without_excuse facts) event && not (n == 0)) none ∙ and-none (breaks_time (without_excuse facts) event)

pub step_only : (facts : ContentFacts) (event : ContentEvent) → facts.excuses ≡ 0 → content_with facts event ≡ content_step facts event
step_only facts event none = ap (λ b. forgetting b (content_step facts event)) (none_excused facts event none)

-- nor is a command excused
pub sent_unexcused : (facts : ContentFacts) (command : Command) → is_excused facts (Sent command) ≡ false
unfolding is_excused
sent_unexcused facts command = refl

pub sent_step : (facts : ContentFacts) (command : Command) → content_with facts (Sent command) ≡ content_step facts (Sent command)
sent_step facts command = ap (λ b. forgetting b (content_step facts (Sent command))) (sent_unexcused facts command)

-- nor a gap mark
pub gap_unexcused : (facts : ContentFacts) → is_excused facts (Recorded Gap) ≡ false
unfolding is_excused
gap_unexcused facts = refl

pub gap_step : (facts : ContentFacts) → content_with facts (Recorded Gap) ≡ content_step facts (Recorded Gap)
gap_step facts = ap (λ b. forgetting b (content_step facts (Recorded Gap))) (gap_unexcused facts)

-- and none is there below an event that is no load
step-none : (facts : ContentFacts) (event : ContentEvent) → facts.excuses ≡ 0 → is_loading event ≡ None → (content_step facts event).excuses ≡ 0
step-none facts event none quiet = grind arith

pub still_none : (facts : ContentFacts) (event : ContentEvent) → facts.excuses ≡ 0 → is_loading event ≡ None → (content_with facts event).excuses ≡ 0
still_none facts event none quiet = ap (λ (f : ContentFacts). f.excuses) (step_only facts event none) ∙ step-none facts event none quiet

module _ (events : List LineEvent) where
  -- where no load is above
  unsaid : (place : ℕ) (event : ContentEvent) → content_event_at events place ≡ Some event → latest_said is_loading events (suc place) ≡ None
      → (is_loading event ≡ None) × (latest_said is_loading events place ≡ None)
  unsaid place event is none = grind (arith, latest_next, placed)

  pub none_above : (place : ℕ) → place ≤ length events → latest_said is_loading events place ≡ None → (content_at events place).excuses ≡ 0
  none_above zero within none = ap (λ (f : ContentFacts). f.excuses) ((content_is_kept events).first)
  none_above (suc place) within none =
      elim ((slice_get_cases events place).1) as (λ _. (content_at events (suc place)).excuses ≡ 0) [
        | inl at ↦
            let parts = unsaid place at.0.event (ap (option_map event_of) at.2) none in
            ap (λ (f : ContentFacts). f.excuses) (content_next events place at.0 at.2)
            ∙ still_none (content_at events place) at.0.event (none_above place (omega (arith, within)) parts.1) parts.0
        | inr past ↦ absurd (omega (arith, within, past.0))
      ]

  -- an event above is no load
  pub quiet_above : (place from : ℕ) (event : ContentEvent) → from < place → content_event_at events from ≡ Some event → latest_said is_loading events place ≡ None → is_loading event ≡ None
  quiet_above zero from event below is none = absurd (omega (arith, below))
  quiet_above (suc place) from event below is none =
      elim (eqb_tells from place) as (λ _. is_loading event ≡ None) [
        | inl same ↦ (unsaid place event (ap (content_event_at events) (sym same.1) ∙ is) none).0
        | inr apart ↦ quiet_above place from event (omega (arith, below, apart.1)) is (by (content_event_at events place) refl)
      ]
    where
      by : (found : Option ContentEvent) → content_event_at events place ≡ found → latest_said is_loading events place ≡ None
      by None here = sym (rw here refl) ∙ none
      by (Some event) here = (unsaid place event here none).1

  pub none_loaded_above : (place from : ℕ) → from ≤ place → latest_said is_loading events place ≡ None → latest_said is_loading events from ≡ None
  none_loaded_above zero from low none = (let same : from ≡ 0 = omega (arith, low) in ap (latest_said is_loading events) same ∙ none)
  none_loaded_above (suc place) from low none =
      elim (eqb_tells from (suc place)) as (λ _. latest_said is_loading events from ≡ None) [
        | inl same ↦ ap (latest_said is_loading events) same.1 ∙ none
        | inr apart ↦ none_loaded_above place from (omega (arith, low, apart.1)) (by (content_event_at events place) refl)
      ]
    where
      by : (found : Option ContentEvent) → content_event_at events place ≡ found → latest_said is_loading events place ≡ None
      by None here = sym (rw here refl) ∙ none
      by (Some event) here = (unsaid place event here none).1
