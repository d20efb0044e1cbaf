-- The record in the transcript of a prompt run.
use Rattle.std.specs.Prelude.{◌≡◌, ℕ, List, [], Some, None}
use Rattle.fio_module.specs.Settings.{Settings, AreInRange}
use Rattle.fio_cpu.specs.Poller.{Polling}
use Rattle.fio_check.specs.Lines.{TranscriptLine}
use Rattle.fio_link.specs.declared.event.Event.{Event}
use Rattle.fio_link.specs.Link.{Machine, polling_of}
use Rattle.fio_check.specs.Pollers.{poller_of}
use Rattle.fio_ends.specs.PromptRuns.{IsPromptRun}
use Rattle.fio_ends.specs.Transcripts.{HaveFrames, transcript_of}

-- The poller of a transcript is that of a machine, with its number and its record, item by item. If the
-- transcript has no poller, since no poll was sent, nothing is recorded.
pub record HasRunsPoller (first : ℕ) (machine : Machine) (lines : List TranscriptLine) : Type 0 where
  pub same : (poller : Polling) → poller_of lines ≡ Some poller
      → poller ≡ polling_of first machine
  pub none : poller_of lines ≡ None → machine.items ≡ []

-- the transcript of each prompt run has the poller of its machine
abbrev pub KeepsRecord : Type 0
KeepsRecord =
    (settings : Settings) (first : ℕ) (events : List Event) (machine : Machine) →
    AreInRange settings → IsPromptRun settings first events machine →
    (lines : List TranscriptLine) → HaveFrames lines (transcript_of settings first events) →
    HasRunsPoller first machine lines
