-- Where no item that ignores an input was sent since the clear block above its latest entry, none was sent since the latest
-- clear block.
use Rattle.fio_check.proofs.Names.{◌≡◌, ◌≤◌, ◌∙◌, ℕ, zero, suc, Bool, true, false, List, Option, Some, None, refl, sym, subst, ap, arith, length, if◌then◌else◌, not, slice_get, slice_get_within, slice_get_cases, inl, inr, ContentFacts, InputAbove, SentItem, content_at, content_with, ContentEvent, LineEvent, InputItem, WatchedState, input_below_clear, input_with_entry, input_with_item, unnamed, ◌&&◌}
use Rattle.fio_check.proofs.ContentNext.{content_next}
use Rattle.fio_check.proofs.KeptContent.{ended_input}

-- an item that ignores the input and was sent since the latest clear block shades each entry that is watched
abbrev IsShaded : InputAbove → Type 0
IsShaded above = above.hidden ≡ true → (watched : WatchedState) → above.watched ≡ Some watched → watched.shaded ≡ true

shaded-item : (above : InputAbove) (item : InputItem) (ignore : Bool) → item.ignore ≡ ignore → IsShaded above → IsShaded (input_with_item (unnamed above) (Some item))
shaded-item above item ignore is shades = grind arith

shaded-sent : (above : InputAbove) (item : Option InputItem) → IsShaded above → IsShaded (input_with_item (unnamed above) item)
shaded-sent above None shades = shades
shaded-sent above (Some item) shades = shaded-item above item item.ignore refl shades

shaded-entry : (facts : ContentFacts) (level : Bool) (wide : ℕ) (above : InputAbove) → IsShaded (input_with_entry facts level wide above)
shaded-entry facts level wide above hidden watched at = by (facts.clear && not above.reopened) at
  where
    by : (opened : Bool) → ◌≡◌ {A = Option WatchedState} (if opened then Some (record { level = level; shaded = above.hidden }) else None) (Some watched) → watched.shaded ≡ true
    by true at = (let same : (record { level = level; shaded = above.hidden }) ≡ watched = cc in sym (ap (λ (w : WatchedState). w.shaded) same) ∙ hidden)
    by false at = absurd (cc)

shaded-clear : (above : InputAbove) (item : Option SentItem) → IsShaded (input_below_clear above item)
shaded-clear above None hidden watched at = absurd (cc)
shaded-clear above (Some item) hidden watched at = absurd (cc)

shaded-with : (facts : ContentFacts) (event : ContentEvent) (input : ℕ) → IsShaded (facts.inputs input) → IsShaded ((content_with facts event).inputs input)
shaded-with facts event input shades = grind (arith, ended_input, shaded-clear, shaded-entry, shaded-sent)

shaded-at : (events : List LineEvent) (place : ℕ) → place ≤ length events → (input : ℕ) → IsShaded ((content_at events place).inputs input)
shaded-at events zero within input = λ hidden watched at. absurd (cc)
shaded-at events (suc place) within input =
    elim ((slice_get_cases events place).1) as (λ _. IsShaded ((content_at events (suc place)).inputs input)) [
      | inl at ↦
          subst (λ (facts : ContentFacts). IsShaded (facts.inputs input)) (sym (content_next events place at.0 at.2)) (shaded-with (content_at events place) at.0.event input
          (shaded-at events place (omega (arith, within)) input))
      | inr past ↦ absurd (omega (arith, within, past.0))
    ]

-- an input that is steady is not hidden
pub steady_unhidden : (events : List LineEvent) (place : ℕ) (found : LineEvent) → slice_get events place ≡ Some found → (input : ℕ) (level : Bool)
    → ((content_at events place).inputs input).watched ≡ Some (record { level = level; shaded = false }) → ((content_at events place).inputs input).hidden ≡ false
steady_unhidden events place found here input level steady = grind (arith, shaded-at, slice_get_within)
