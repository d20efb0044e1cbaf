-- Laws of the rules on content.
use Rattle.std.specs.Prelude.{◌≡◌, ℕ, suc, List, Some, slice_get}
use Rattle.fio_check.specs.ContentAbove.{content_at}
use Rattle.fio_check.specs.ContentEvents.{LineEvent}
use Rattle.fio_check.specs.ContentFacts.{content_with, no_content}

-- what is updated event by event equals what is defined by places
pub record KeepsContent (events : List LineEvent) : Type 0 where
  pub first : content_at events 0 ≡ no_content
  pub next : (place : ℕ) (found : LineEvent) → slice_get events place ≡ Some found
      → content_at events (suc place) ≡ content_with (content_at events place) found.event
