-- Logs of a link whose module has a maker that answers commands himself: those of a link without his answers, with these put in.
use Rattle.std.specs.Prelude.{◌≡◌, ℕ, Bool, true, false, not, List, [], ◌∷◌}
use Rattle.std.specs.List.{AllByRecursion}
use Rattle.fio_message.specs.Answers.{IsAnswer, answer_octets, identity_answer}
use Rattle.fio_message.specs.Commands.{IsCommand, command_octets}
use Rattle.fio_message.specs.declared.answers.OtherAnswer.TheVariants.{ComplexOutputs, ControllerId, Identify, TrackInputs}
use Rattle.fio_message.specs.declared.answers.OtherAnswer.{OtherAnswer}
use Rattle.fio_message.specs.declared.commands.Command.TheVariants.{Other}
use Rattle.fio_message.specs.declared.commands.OtherCommand.{OtherCommand}
use Rattle.fio_message.specs.declared.commands.OtherCommand.TheVariants as commands
use Rattle.fio_check.specs.LinkJudges.{Frame, Judging, LogLine, outcomes_of}
use Rattle.fio_check.specs.declared.limits.RuleLimits.{RuleLimits}
use Rattle.fio_check.specs.declared.outcome.LogPlace.{LogPlace}
use Rattle.fio_link.specs.Link.{Machine}
use Rattle.fio_link.specs.declared.event.Event.{Event}
use Rattle.fio_module.specs.Makers.{makers_answer}
use Rattle.fio_module.specs.Settings.{Settings}
use Rattle.fio_ends.specs.LinkLogs.{AccusesNeither, IsMarkedLog, LogStep, judging_at_start, log_from}

-- the kind of the answer to a command that has only a body
abbrev pub answer_kind : OtherCommand → OtherAnswer
answer_kind commands.TrackInputs = TrackInputs
answer_kind commands.ComplexOutputs = ComplexOutputs
answer_kind commands.ControllerId = ControllerId

-- a line of such a log
pub data AnsweredLine : Type 0 where
  -- one of a log without the maker's answers
  Plain : (line : LogLine) → AnsweredLine
  -- a command 56, 57 or 59 with this body, logged there, and directly below it his answer with that body, logged below
  Answered : (at below : LogPlace) → (kind : OtherCommand) → (body answer : List ℕ) → AnsweredLine
  -- an identification with his body in place of the one octet
  Identified : (at : LogPlace) → (id : ℕ) → (answer : List ℕ) → AnsweredLine

-- the log without his answers
abbrev pub lines_without : List AnsweredLine → List LogLine
lines_without [] = []
lines_without (Plain line ∷ lines) = line ∷ lines_without lines
lines_without (Answered at below kind body answer ∷ lines) =
    Frame at true (command_octets (Other kind (record { items = body }))) ∷ lines_without lines
lines_without (Identified at id answer ∷ lines) = Frame at false (answer_octets (identity_answer id)) ∷ lines_without lines

-- the log with his answers
abbrev pub lines_with : List AnsweredLine → List LogLine
lines_with [] = []
lines_with (Plain line ∷ lines) = line ∷ lines_with lines
lines_with (Answered at below kind body answer ∷ lines) =
    Frame at true (command_octets (Other kind (record { items = body })))
    ∷ Frame below false (answer_octets (makers_answer (answer_kind kind) answer)) ∷ lines_with lines
lines_with (Identified at id answer ∷ lines) = Frame at false (answer_octets (makers_answer Identify answer)) ∷ lines_with lines

-- the first of these lines is a frame that was heard
abbrev pub begin_heard : List AnsweredLine → Bool
begin_heard (Plain (Frame at from_cpu octets) ∷ lines) = not from_cpu
begin_heard (Identified at id answer ∷ lines) = true
begin_heard lines = false

-- The maker may answer so: a frame has room for each message, and no command has two answers directly below it.
abbrev pub MayBeGiven : List AnsweredLine → Type 0
MayBeGiven [] = Unit {0}
MayBeGiven (Plain line ∷ lines) = MayBeGiven lines
MayBeGiven (Answered at below kind body answer ∷ lines) =
    IsCommand (Other kind (record { items = body })) × IsAnswer (makers_answer (answer_kind kind) answer)
    × (begin_heard lines ≡ false) × MayBeGiven lines
MayBeGiven (Identified at id answer ∷ lines) =
    IsAnswer (identity_answer id) × IsAnswer (makers_answer Identify answer) × MayBeGiven lines

-- The maker's answers accuse nobody: with them the judge of a link accuses neither end if it does not
-- without them, whatever it took above.
unfoldable pub AnswersAccuseNone : Type 0
AnswersAccuseNone =
    (judging : Judging) (lines : List AnsweredLine) → MayBeGiven lines →
    AllByRecursion AccusesNeither (outcomes_of judging (lines_without lines)) →
    AllByRecursion AccusesNeither (outcomes_of judging (lines_with lines))

-- So the judge accuses no right link whose maker answers: in what the CPU's end logs of a prompt run, whatever the maker answers
-- directly below his commands, and though any frames of the run may be missing at marks, no outcome accuses.
unfoldable pub JudgeAccusesNoMaker : Type 0
JudgeAccusesNoMaker =
    (begun : Bool) (settings : Settings) (limits : RuleLimits) (first : ℕ) (before : List Event) (steps : List LogStep) (machine last : Machine) →
    IsMarkedLog begun settings limits first before steps machine last →
    (lines : List AnsweredLine) → MayBeGiven lines → lines_without lines ≡ log_from settings first machine steps →
    AllByRecursion AccusesNeither (outcomes_of (judging_at_start begun limits) (lines_with lines))
