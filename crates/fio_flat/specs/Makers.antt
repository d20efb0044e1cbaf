-- What becomes of the answers that the maker of a module gives in C.
use Rattle.std.specs.Prelude.{◌≡◌, ◌+◌, ℕ, List, ◌++◌, length, drop, Option, Some, None}
use Rattle.fio_message.specs.Answers.{answer_octets, answered_by_other}
use Rattle.fio_message.specs.declared.answers.OtherAnswer.{OtherAnswer}
use Rattle.fio_module.specs.Makers.{ForMaker, answer_refusal, awaited_by, with_awaited, makers_answer}
use Rattle.fio_module.specs.declared.makers.AnswerRefusal.{AnswerRefusal}
use Rattle.fio_module.specs.declared.makers.AnswerRefusal.TheVariants as refusals
use Rattle.fio_module.specs.Settings.{Settings}
use Rattle.fio_flat.specs.Module.{DeviceHistory, IsDeviceAfter}
use Rattle.fio_flat.specs.declared.module.SizedModule.{SizedModule}
use Rattle.fio_flat.specs.declared.written.TheConstants.{BODY_TOO_LONG, NOT_AWAITED, OTHER_AWAITED}

-- the type of a command of the maker, or 0 for none
abbrev pub makers_type : Option ForMaker → ℕ
makers_type None = 0
makers_type (Some command) = command.code

-- the count that says why an answer is refused
abbrev pub refusal_count : AnswerRefusal → ℕ
refusal_count refusals.NotAwaited = NOT_AWAITED
refusal_count (refusals.OtherAwaited command) = OTHER_AWAITED
refusal_count (refusals.TooLong octets) = BODY_TOO_LONG

-- why an answer to a command of this type with this body is refused by a module in C
abbrev pub refusal_by : SizedModule → ℕ → List ℕ → Option AnswerRefusal
refusal_by value command body = answer_refusal (awaited_by value.state) command (length body)

-- a module in C that awaits the answer of this type, and is otherwise as it was
abbrev pub awaits_code : ℕ → SizedModule → SizedModule
awaits_code code value = record value { state = with_awaited code value.state }

-- the module has been through the same, whatever it has been through
abbrev pub StandsAsBefore : SizedModule → SizedModule → Type 0
StandsAsBefore old new = (settings : Settings) (slots : List (List ℕ)) (history : DeviceHistory)
    → IsDeviceAfter settings old slots history → IsDeviceAfter settings new slots history

-- The octets of the maker's answer are written to the front of the buffer, and `count` is how many they are. It was awaited, and
-- none is any more.
pub record WritesMakers (command : ℕ) (body : List ℕ) (old new : SizedModule) (before after : List ℕ) (count : ℕ) : Type 0 where
  pub kind : OtherAnswer
  pub awaited : awaited_by old.state ≡ Some kind
  pub to : answered_by_other kind ≡ command
  pub counted : count ≡ 1 + length body
  pub written : after ≡ answer_octets (makers_answer kind body) ++ drop count before
  pub done : new ≡ awaits_code 0 old
