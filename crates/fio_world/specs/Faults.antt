-- The texts of faults and of refusals, with decimal numbers (own profile).
use Rattle.std.specs.Prelude.{ℕ, List, ◌++◌, codes, decimal}
use Rattle.fio_message.specs.Texts.{fault_text, memory_text}
use Rattle.fio_link.specs.Link.{Refusal, NotSent, OutOfOrder, PollIsOurs}
use Rattle.fio_text.specs.LineFaults.{at_line, bad_line_text}
use Rattle.fio_world.specs.declared.outcome.WorldError.{WorldError}
use Rattle.fio_world.specs.declared.outcome.WorldError.TheVariants as errors
use Rattle.fio_world.specs.declared.script.ScriptError.{ScriptError}
use Rattle.fio_world.specs.declared.script.ScriptError.TheVariants.{BadHeader, TooManyEvents, BadLine, BadFrame, Memory}

-- why the link refuses an event
abbrev pub refusal_text : Refusal → List ℕ
refusal_text (NotSent index) = codes "not sent " ++ decimal index
refusal_text (OutOfOrder index last) =
    codes "out of order " ++ (decimal index ++ (codes " after " ++ decimal last))
refusal_text PollIsOurs = codes "poll is ours"

-- why an event did not happen
abbrev pub world_error_text : WorldError → List ℕ
world_error_text (errors.NotSent index) = refusal_text (NotSent index)
world_error_text (errors.OutOfOrder index last) = refusal_text (OutOfOrder index last)
world_error_text errors.PollIsOurs = refusal_text PollIsOurs
world_error_text errors.Memory = memory_text

-- why a run stopped after `place` events
abbrev pub run_error_text : ℕ → WorldError → List ℕ
run_error_text place fault = codes "after " ++ (decimal place ++ (codes " events: " ++ world_error_text fault))

-- why a text is no script
abbrev pub script_error_text : ScriptError → List ℕ
script_error_text BadHeader = codes "line 1: bad header"
script_error_text (TooManyEvents line) = at_line line (codes "too many events")
script_error_text (BadLine line) = bad_line_text line
script_error_text (BadFrame line fault) = at_line line (codes "bad frame " ++ fault_text fault)
script_error_text Memory = memory_text
