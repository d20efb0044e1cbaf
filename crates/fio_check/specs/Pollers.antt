-- The poller of a transcript: a CPU that polls as its lines say, and hears what they say.
use Rattle.std.specs.Prelude.{List, [], fold, Option, Some, None, option_map}
use Rattle.fio_message.specs.Blocks.{Block}
use Rattle.fio_message.specs.Decoding.{answered_block}
use Rattle.fio_message.specs.declared.answers.Answer.{Answer}
use Rattle.fio_message.specs.declared.commands.Command.{Command}
use Rattle.fio_cpu.specs.Hearing.{after_hearing}
use Rattle.fio_cpu.specs.Poller.{Polling}
use Rattle.fio_check.specs.Facts.{number_polled}
use Rattle.fio_check.specs.Lines.{TranscriptLine, answer_from, command_from}
use Rattle.fio_check.specs.Observations.{observation_of}

-- the block that a line's frame encodes, if the CPU heard it
abbrev pub block_on : TranscriptLine → Option Block
block_on line = answered_block (answer_from line.from_cpu line.octets)

-- the poller below a command that is sent, or an answer that is heard: it starts at the first poll, with the number of
-- that poll and no items, and then hears each answer
abbrev pub poller_below : Option Polling → Option Command → Option Answer → Option Polling
poller_below None sent heard =
    option_map (λ first. record { number = first; items = [] }) (number_polled (observation_of sent heard))
poller_below (Some poller) sent heard = Some (after_hearing poller (answered_block heard))

-- the poller with a line more
abbrev pub poller_with : Option Polling → TranscriptLine → Option Polling
poller_with poller line =
    poller_below poller (command_from line.from_cpu line.octets) (answer_from line.from_cpu line.octets)

-- the poller of a transcript, if one of its lines is a poll
abbrev pub poller_of : List TranscriptLine → Option Polling
poller_of lines = fold poller_with None lines
