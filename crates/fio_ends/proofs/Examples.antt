-- Worked runs and their transcripts, by computation.
use Rattle.fio_ends.proofs.Names.{◌≡◌, ◌+◌, ℕ, true, false, List, [], ◌∷◌, refl, arith, TranscriptLine, verdict_on, Event, ToModule, ToCpu, Machine, start, after, CpuFrame, Broken, IsPromptRun, Send, standard_settings, Pair, Same, transcript_of, nat_tests}
use Rattle.fio_message.specs.declared.commands.Command.TheVariants as commands
use Rattle.fio_message.specs.Bits.{is_set}
use Rattle.fio_message.specs.Decoding.{message_in}
use Rattle.fio_link.specs.declared.event.Event.TheVariants.{Poll}

-- the machine after these events
abbrev done : ℕ → Machine → List Event → Machine
done first machine [] = machine
done first machine (event ∷ events) = done first (after (standard_settings 2) first machine event) events

-- a line for each frame, numbered from this number on
abbrev lines_from : ℕ → List CpuFrame → List TranscriptLine
lines_from number [] = []
lines_from number (frame ∷ frames) =
    record { number = number; from_cpu = frame.from_cpu; octets = frame.octets } ∷ lines_from (number + 1) frames

-- a poll that reaches the module late, after another: the answer to the other one is heard, and has E
abbrev late : List Event
late = Poll ∷ Poll ∷ ToModule 1 ∷ ToModule 2 ∷ ToCpu 2 ∷ Poll ∷ ToModule 3 ∷ ToCpu 3 ∷ []

late_frames : transcript_of (standard_settings 2) 255 late
    ≡ record { from_cpu = true; octets = 54 ∷ 255 ∷ [] }
    ∷ record { from_cpu = true; octets = 54 ∷ 255 ∷ [] }
    ∷ record { from_cpu = false; octets = 182 ∷ 255 ∷ 0 ∷ 2 ∷ 0 ∷ 0 ∷ 0 ∷ 0 ∷ [] }
    ∷ record { from_cpu = true; octets = 54 ∷ 0 ∷ [] }
    ∷ record { from_cpu = false; octets = 182 ∷ 0 ∷ 0 ∷ 0 ∷ 0 ∷ 0 ∷ 0 ∷ 0 ∷ [] }
    ∷ []
unfolding message_in is_set
late_frames = refl

-- it is a prompt run
late_is_prompt : IsPromptRun (standard_settings 2) 255 late (done 255 start late)
unfolding message_in is_set
late_is_prompt = grind (arith, nat_tests)

-- a poll that reaches the module twice breaks `same`
twice : verdict_on (lines_from 1 (transcript_of (standard_settings 2) 0
    (Poll ∷ ToModule 1 ∷ ToCpu 1 ∷ Poll ∷ ToModule 2 ∷ ToModule 2 ∷ ToCpu 3 ∷ []))) ≡ Broken 4 Same
unfolding message_in is_set
twice = refl

-- an answer that comes after the next command breaks `pair`
overtaken : verdict_on (lines_from 1 (transcript_of (standard_settings 2) 0
    (Poll ∷ ToModule 1 ∷ Send commands.Identify ∷ ToCpu 1 ∷ []))) ≡ Broken 3 Pair
unfolding message_in is_set
overtaken = refl
