-- The lines of a report.
use Rattle.std.specs.Prelude.{ℕ, List, ◌++◌, length, codes, decimal, Option, Some, None}
use Rattle.std.specs.List.{flat_map}
use Rattle.fio_cpu.specs.declared.poller.Heard.{Heard}
use Rattle.fio_cpu.specs.declared.record.Item.{Item}
use Rattle.fio_module.specs.Blocks.{waiting_of}
use Rattle.fio_module.specs.Life.{life_of, counter_of}
use Rattle.fio_module.specs.Settings.{Settings}
use Rattle.fio_world.specs.Faults.{refusal_text}
use Rattle.fio_text.specs.Digits.{digits_of}
use Rattle.fio_world.specs.declared.outcome.Outcome.{Outcome}
use Rattle.fio_world.specs.declared.outcome.Outcome.TheVariants as outcomes
use Rattle.fio_world.specs.declared.outcome.WorldError.{WorldError}
use Rattle.fio_world.specs.declared.outcome.WorldError.TheVariants as errors
use Rattle.fio_link.specs.Link.{Machine, Refusal, NotSent, OutOfOrder, PollIsOurs, number_of}
use Rattle.fio_show.specs.EntryLines.{item_line}
use Rattle.fio_show.specs.HeardWords.{heard_text}

-- ---- one event

-- how the CPU responded to a frame
abbrev pub heard_line : ℕ → Heard → List ℕ
heard_line number heard = decimal number ++ (codes " " ++ (heard_text heard ++ codes "\n"))

-- a frame was sent, with its number and its octets
abbrev pub sent_line : ℕ → ℕ → List ℕ → List ℕ
sent_line number index octets =
    decimal number ++ (codes " sent " ++ (decimal index
    ++ (codes " " ++ (digits_of octets ++ codes "\n"))))

-- the outcome of the event with this number
abbrev pub outcome_line : ℕ → Outcome → List ℕ
outcome_line number outcomes.Quiet = decimal number ++ codes " quiet\n"
outcome_line number (outcomes.Sent index frame) = sent_line number index frame.items
outcome_line number (outcomes.Heard heard) = heard_line number heard

-- the refusal that a fault reports, unless the fault is that memory ran out
abbrev pub refusal_in : WorldError → Option Refusal
refusal_in (errors.NotSent index) = Some (NotSent index)
refusal_in (errors.OutOfOrder index last) = Some (OutOfOrder index last)
refusal_in errors.PollIsOurs = Some PollIsOurs
refusal_in errors.Memory = None

-- why the event with this number is refused
abbrev pub refused_line : ℕ → Refusal → List ℕ
refused_line number reason =
    decimal number ++ (codes " refused " ++ (refusal_text reason ++ codes "\n"))

-- ---- the end of a run

-- the module's counter, the CPU's number, how many entries wait, and how many items the record has
abbrev pub count_lines : ℕ → ℕ → ℕ → ℕ → List ℕ
count_lines counter number waiting items =
    codes "counter " ++ (decimal counter
    ++ (codes "\nnumber " ++ (decimal number
    ++ (codes "\nwaiting " ++ (decimal waiting
    ++ (codes "\nrecord " ++ (decimal items ++ codes "\n")))))))

-- the same four lines, and the record
abbrev pub ending_lines : ℕ → ℕ → ℕ → List Item → List ℕ
ending_lines counter number waiting items =
    count_lines counter number waiting (length items) ++ flat_map item_line items

-- how a run that leads to this machine has ended
abbrev pub ending_text : Settings → ℕ → Machine → List ℕ
ending_text settings first machine =
    ending_lines (counter_of (life_of machine.history)) (number_of first machine.round)
    (length (waiting_of settings (life_of machine.history))) machine.items
