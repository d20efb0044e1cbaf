-- Commands that the maker of a module answers himself, and which answer of his the module awaits.
use Rattle.std.specs.Prelude.{◌≡◌, ℕ, ◌+◌, ◌≤◌, ◌==◌, nat_lt, List, [], length, Option, Some, None, if◌then◌else◌, ◌++◌, codes, decimal}
use Rattle.fio_message.specs.Answers.{answered_by_other, other_answer_of}
use Rattle.fio_message.specs.Commands.{other_command_code}
use Rattle.fio_message.specs.declared.answers.Answer.{Answer}
use Rattle.fio_message.specs.declared.answers.Answer.TheVariants as answers
use Rattle.fio_message.specs.declared.answers.OtherAnswer.{OtherAnswer}
use Rattle.fio_message.specs.declared.commands.Command.{Command}
use Rattle.fio_message.specs.declared.commands.Command.TheVariants.{Identify, Other}
use Rattle.fio_message.specs.declared.limits.TheConstants.{BODY_OCTETS}
use Rattle.fio_message.specs.declared.types.TheConstants.{ANSWER, IDENTIFY}
use Rattle.fio_message.specs.Decoding.{command_in}
use Rattle.fio_module.specs.declared.makers.AnswerRefusal.{AnswerRefusal}
use Rattle.fio_module.specs.declared.makers.AnswerRefusal.TheVariants.{NotAwaited, OtherAwaited, TooLong}
use Rattle.fio_module.specs.declared.state.ModuleState.{ModuleState}

-- a command of the maker: its type, and the octets after it
pub record ForMaker : Type 0 where
  pub code : ℕ
  pub body : List ℕ

-- the command of the maker that a command is: each of type 56, 57 or 59, and that of type 60, which has no octets after it
abbrev pub for_maker : Option Command → Option ForMaker
for_maker (Some (Other kind body)) = Some (record { code = other_command_code kind; body = body.items })
for_maker (Some Identify) = Some (record { code = IDENTIFY; body = [] })
for_maker other = None

-- the command of the maker that octets spell, if they spell one
abbrev pub makers_command_in : List ℕ → Option ForMaker
makers_command_in octets = for_maker (command_in octets)

-- the type of the answer to such a command, as a module keeps it; 0 says that no answer is awaited
abbrev pub awaited_code : Option ForMaker → ℕ
awaited_code None = 0
awaited_code (Some command) = command.code + ANSWER

-- the answer that is awaited after octets: that to the command of the maker that they spell, else none
abbrev pub awaited_after : List ℕ → Option OtherAnswer
awaited_after octets = other_answer_of (awaited_code (makers_command_in octets))

-- the answer that a module awaits from its maker
abbrev pub awaited_by : ModuleState → Option OtherAnswer
awaited_by value = other_answer_of value.awaited

-- a module that awaits the answer of this type, and is otherwise as it was
abbrev pub with_awaited : ℕ → ModuleState → ModuleState
with_awaited code value = record value { awaited = code }

-- why an answer of this kind is refused: it is not for a command of this type, or no frame has room for its body
abbrev pub refusal_of_kind : OtherAnswer → ℕ → ℕ → Option AnswerRefusal
refusal_of_kind kind command octets = if answered_by_other kind == command
    then (if nat_lt BODY_OCTETS octets then Some (TooLong octets) else None)
    else Some (OtherAwaited (answered_by_other kind))

-- why an answer to a command of this type, with a body of this number of octets, is refused, by the answer that is awaited
abbrev pub answer_refusal : Option OtherAnswer → ℕ → ℕ → Option AnswerRefusal
answer_refusal None command octets = Some NotAwaited
answer_refusal (Some kind) command octets = refusal_of_kind kind command octets

-- the text of such a refusal
abbrev pub answer_refusal_text : AnswerRefusal → List ℕ
answer_refusal_text NotAwaited = codes "no answer is awaited"
answer_refusal_text (OtherAwaited command) = codes "the answer to command " ++ (decimal command ++ codes " is awaited")
answer_refusal_text (TooLong octets) = codes "a body of " ++ (decimal octets ++ codes " octets is too long")

-- the answer of the maker with this body
abbrev pub makers_answer : OtherAnswer → List ℕ → Answer
makers_answer kind body = answers.Other kind (record { items = body })

-- the maker's answer is taken: it is the one that is awaited, no further one is, and nothing else changes
pub record TakesAnswer (old new : ModuleState) (command : ℕ) (body : List ℕ) (kind : OtherAnswer) : Type 0 where
  pub awaited : awaited_by old ≡ Some kind
  pub to : answered_by_other kind ≡ command
  pub fits : length body ≤ BODY_OCTETS
  pub done : new ≡ with_awaited 0 old
