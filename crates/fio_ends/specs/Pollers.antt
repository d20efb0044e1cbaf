-- What the poller of a transcript makes of each line.
use Rattle.std.specs.Prelude.{◌≡◌, ◌≢◌, ℕ, suc, ◌+◌, ◌%◌, false, List, ◌++◌, take, Option, Some, option_map, slice_get}
use Rattle.fio_message.specs.Blocks.{Block}
use Rattle.fio_message.specs.Decoding.{decoded_answer}
use Rattle.fio_cpu.specs.declared.poller.Heard.TheVariants.{Stale}
use Rattle.fio_cpu.specs.Hearing.{heard_as}
use Rattle.fio_cpu.specs.Poller.{Polling}
use Rattle.fio_cpu.specs.Record.{items_of_block}
use Rattle.fio_check.specs.Facts.{number_polled}
use Rattle.fio_check.specs.Lines.{TranscriptLine}
use Rattle.fio_check.specs.Observations.{observation_on}
use Rattle.fio_check.specs.Pollers.{block_on, poller_of}
use Rattle.fio_check.specs.Verdicts.{verdict_on}
use Rattle.fio_check.specs.declared.verdict.Verdict.TheVariants.{Good}

-- the poller of the lines above a place
abbrev pub poller_at : List TranscriptLine → ℕ → Option Polling
poller_at lines place = poller_of (take place lines)

-- the number of that poller
abbrev pub number_at : List TranscriptLine → ℕ → Option ℕ
number_at lines place = option_map (λ poller. poller.number) (poller_at lines place)

-- a block answer that a poller takes: it has the poller's number, and is recorded
pub record IsTaken (before after : Option Polling) (block : Block) : Type 0 where
  pub poller : Polling
  pub there : before ≡ Some poller
  pub same_number : block.number ≡ poller.number
  pub taken : after
      ≡ Some (record { number = (poller.number + 1) % 256; items = poller.items ++ items_of_block block })

-- A transcript fits its poller: each poll has the poller's number, and each block answer heard is
-- taken, so none is stale.
pub record IsOfPoller (lines : List TranscriptLine) : Type 0 where
  -- this is stated of the poller below the poll, since a poll changes no poller that has started
  pub polls : (place number : ℕ) (line : TranscriptLine) → slice_get lines place ≡ Some line
      → number_polled (observation_on line) ≡ Some number
      → number_at lines (suc place) ≡ Some number
  pub blocks : (place : ℕ) (line : TranscriptLine) (block : Block) → slice_get lines place ≡ Some line
      → block_on line ≡ Some block
      → IsTaken (poller_at lines place) (poller_at lines (suc place)) block
  pub none_stale : (place number : ℕ) (line : TranscriptLine) (poller : Polling)
      → slice_get lines place ≡ Some line → line.from_cpu ≡ false
      → poller_at lines place ≡ Some poller
      → heard_as poller.number (decoded_answer line.octets) ≢ Stale number

-- a good transcript fits its poller
abbrev pub GoodIsOfPoller : Type 0
GoodIsOfPoller = (lines : List TranscriptLine) (frames : ℕ) →
    verdict_on lines ≡ Good frames → IsOfPoller lines
