-- The reply that octets get after a history.
use Rattle.std.specs.Prelude.{◌≡◌, ℕ, ◌+◌, ◌*◌, max, false, not, List, ◌∷◌, Option, Some, None, option_map, is_some}
use Rattle.arrayvec.specs.ArrayVec.{ArrayVec}
use Rattle.fio_message.specs.declared.answers.Answer.{Answer}
use Rattle.fio_message.specs.declared.answers.Answer.TheVariants as answers
use Rattle.fio_message.specs.declared.commands.Command.{Command}
use Rattle.fio_message.specs.declared.commands.Command.TheVariants.{Status, LoadCounter, ConfigureInputs, Poll, Watchdog, RawInputs, FilteredInputs, SetOutputs, Identify, Other}
use Rattle.fio_message.specs.Answers.{SpellsAnswer, outputs_answer, identity_answer}
use Rattle.fio_message.specs.Status.{error_status, set_before_status}
use Rattle.fio_message.specs.Decoding.{command_in}
use Rattle.fio_input.specs.FilterHistory.{all_present, raw_levels, input_state}
use Rattle.fio_module.specs.Settings.{Settings}
use Rattle.fio_module.specs.Life.{History, Commanded, Life, life_of, counter_of, filter_events}
use Rattle.fio_module.specs.Sendings.{answer_of_sending, latest_sending}
use Rattle.fio_module.specs.Flags.{flags_of, watchdog_of, word_of}
use Rattle.fio_message.specs.declared.limits.TheConstants.{INPUTS}

-- the answer to a command after a life. A stamp is the counter after that life
abbrev pub answer_to : Settings → Life → Command → Option Answer
-- the flags that are left after the clearing; both error counts stay 0
answer_to settings life (Status clear) =
    Some (answers.Status (flags_of (Commanded (Status clear) ∷ life)) 0 0 (counter_of life))
-- S is clear: a load is never refused
answer_to settings life (LoadCounter load) = Some (answers.LoadCounter (error_status false))
-- S is set if an item names an input above 63: then the configuration is not applied
answer_to settings life (ConfigureInputs items) =
    Some (answers.ConfigureInputs (error_status (not (all_present items.items))))
answer_to settings life RawInputs =
    Some (answers.RawInputs (raw_levels (filter_events life)) (counter_of life))
answer_to settings life FilteredInputs =
    let inputs = word_of INPUTS (λ input. input_state input (filter_events life)) in
    Some (answers.FilteredInputs inputs (counter_of life))
answer_to settings life (Poll number) =
    option_map answer_of_sending (latest_sending settings (Commanded (Poll number) ∷ life))
answer_to settings life (SetOutputs levels controls) = Some (outputs_answer (counter_of life))
-- Y is set if the watchdog had been set before
answer_to settings life (Watchdog timeout) =
    Some (answers.Watchdog (set_before_status (is_some (watchdog_of life))))
answer_to settings life Identify = Some (identity_answer settings.id)
-- commands 56, 57 and 59 get no answer
answer_to settings life (Other kind body) = None

-- how many octets the longest answer has that a module ever gives: a block with the most entries, or inputs and a stamp
abbrev pub longest_answer : ℕ → ℕ
longest_answer per_block = max 13 (8 + 3 * per_block)

-- octets that encode no command get no answer
abbrev pub answer_if : Settings → Life → Option Command → Option Answer
answer_if settings life None = None
answer_if settings life (Some command) = answer_to settings life command

-- the reply to octets after a history
abbrev pub reply_to : Settings → History → List ℕ → Option Answer
reply_to settings history octets = answer_if settings (life_of history) (command_in octets)

-- there is a frame exactly if there is an answer, and the frame encodes it
abbrev pub Encodes : Option Answer → Option (ArrayVec ℕ) → Type 0
Encodes None frame = frame ≡ None
Encodes (Some answer) None = ⊥
Encodes (Some answer) (Some frame) = SpellsAnswer answer frame.items
