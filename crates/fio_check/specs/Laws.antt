-- Laws of the rules of a transcript.
use Rattle.std.specs.Prelude.{◌≡◌, ◌↔◌, ℕ, suc, ◌<◌, List, Option, Some, None, slice_get}
use Rattle.fio_check.specs.Facts.{facts_at, facts_with, no_facts}
use Rattle.fio_check.specs.Lines.{TranscriptLine}
use Rattle.fio_check.specs.Observations.{observation_on}
use Rattle.fio_check.specs.Places.{Placed, latest_above}
use Rattle.fio_check.specs.Verdicts.{IsVerdict, verdict_on}
use Rattle.fio_check.specs.declared.verdict.Verdict.{Verdict}

-- it is said at its place above this one, and not again between the two
pub record IsLatestAbove {A : Type 0} (at : ℕ → Option A) (place : ℕ) (found : Placed A)
    : Type 0 where
  pub above : found.place < place
  pub here : at found.place ≡ Some found.value
  pub none_between : (between : ℕ) → found.place < between → between < place → at between ≡ None

-- the latest above each place is the latest that is said above it
abbrev pub IsTheLatest : {A : Type 0} → (ℕ → Option A) → Type 0
IsTheLatest {A} at =
    (place : ℕ) (found : Placed A)
    → (latest_above at place ≡ Some found) ↔ IsLatestAbove at place found

-- a transcript has exactly one verdict, which is this one
abbrev pub HasOneVerdict : List TranscriptLine → Type 0
HasOneVerdict lines = (verdict : Verdict) → IsVerdict lines verdict ↔ (verdict ≡ verdict_on lines)

-- what is updated line by line equals what is defined by the lines above
pub record KeepsFacts (lines : List TranscriptLine) : Type 0 where
  pub first : facts_at lines 0 ≡ no_facts
  pub next : (place : ℕ) (line : TranscriptLine) → slice_get lines place ≡ Some line
      → facts_at lines (suc place) ≡ facts_with (facts_at lines place) (observation_on line)
