-- What is kept line by line is what is above the next line.
use Rattle.std.proofs.Common.{arith}
use Rattle.fio_check.proofs.Names.{◌≡◌, ℕ, suc, List, Some, refl, slice_get, facts_at, facts_with, KeepsFacts, TranscriptLine, observation_at, observation_on, Observation}
use Rattle.fio_check.proofs.Places.{is_some_and-map}

-- the facts with a line more, by what it says
facts-next : (lines : List TranscriptLine) (place : ℕ) (observation : Observation) → observation_at lines place ≡ observation
    → facts_at lines (suc place) ≡ facts_with (facts_at lines place) observation
facts-next lines place observation is = grind (arith, is_some_and-map)

-- the line at a place says this
pub seen_at : (lines : List TranscriptLine) (place : ℕ) (line : TranscriptLine) → slice_get lines place ≡ Some line
    → observation_at lines place ≡ observation_on line
seen_at lines place line here = rw here refl

pub facts_next : (lines : List TranscriptLine) (place : ℕ) (line : TranscriptLine) → slice_get lines place ≡ Some line
    → facts_at lines (suc place) ≡ facts_with (facts_at lines place) (observation_on line)
facts_next lines place line here = facts-next lines place (observation_on line) (seen_at lines place line here)

pub facts_are_kept : (lines : List TranscriptLine) → KeepsFacts lines
facts_are_kept lines = record { first = refl; next = facts_next lines }
