-- The transcript of a run: what the CPU's end of the link sends and hears.
use Rattle.std.specs.Prelude.{◌≡◌, ℕ, Bool, true, false, List, [], ◌∷◌, ◌++◌, map, Option, Some, None}
use Rattle.fio_message.specs.declared.commands.Command.TheVariants as commands
use Rattle.fio_message.specs.Commands.{command_octets}
use Rattle.fio_module.specs.Settings.{Settings}
use Rattle.fio_check.specs.Lines.{TranscriptLine}
use Rattle.fio_link.specs.declared.event.Event.{Event}
use Rattle.fio_link.specs.declared.event.Event.TheVariants.{Poll, Send, ToCpu}
use Rattle.fio_link.specs.Link.{Machine, SentFrame, start, number_of, item_numbered, after}

-- a frame that the CPU's end sends or hears
pub record CpuFrame : Type 0 where
  pub from_cpu : Bool
  pub octets : List ℕ

-- the frame that is heard, if there is one
abbrev pub frame_heard : Option SentFrame → List CpuFrame
frame_heard None = []
frame_heard (Some frame) = record { from_cpu = false; octets = frame.octets } ∷ []

-- the frame that the CPU's end sends or hears at an event, for a CPU whose first number is this one
abbrev pub frames_at : ℕ → Machine → Event → List CpuFrame
frames_at first machine Poll =
    record { from_cpu = true; octets = command_octets (commands.Poll (number_of first machine.round)) } ∷ []
frames_at first machine (Send command) = record { from_cpu = true; octets = command_octets command } ∷ []
frames_at first machine (ToCpu index) = frame_heard (item_numbered machine.to_cpu index)
frames_at first machine other = []

-- the frames at these events, in order
abbrev pub frames_from : Settings → ℕ → Machine → List Event → List CpuFrame
frames_from settings first machine [] = []
frames_from settings first machine (event ∷ events) =
    frames_at first machine event ++ frames_from settings first (after settings first machine event) events

-- the transcript of events from the start on, frame by frame
abbrev pub transcript_of : Settings → ℕ → List Event → List CpuFrame
transcript_of settings first events = frames_from settings first start events

-- the frame on a line
abbrev pub cpu_frame_on : TranscriptLine → CpuFrame
cpu_frame_on line = record { from_cpu = line.from_cpu; octets = line.octets }

-- lines have these frames, in order, and any numbers
abbrev pub HaveFrames : List TranscriptLine → List CpuFrame → Type 0
HaveFrames lines frames = map cpu_frame_on lines ≡ frames
