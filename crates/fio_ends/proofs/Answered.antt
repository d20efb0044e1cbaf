-- What an answer that the CPU hears says of the module's life at the command.
use Rattle.fio_ends.proofs.Names.{◌≡◌, ◌∙◌, ◌^◌, ◌<◌, ℕ, Bool, false, not, List, ◌∷◌, Some, None, refl, ap, sym, arith, same_Some, Answer, Command, answer_in, answer_octets, answer_to, answer_type_to, observation_of, all_present, Settings, Life, Commanded, filter_events, Machine, ContentFacts, ArrayVec, answer_code, counter_of, error_status, flags_of, input_state, is_some, raw_levels, set_before_status, to_be_bytes, w32, watchdog_of, word_of-fits, w64, from_le_bytes, to_le_bytes, from_be_bytes-to_be_bytes_4, from_le_bytes-to_le_bytes_8, OtherAnswer, word_of, nat_tests}
use Rattle.fio_message.specs.Decoding.{message_in}
use Rattle.fio_message.specs.declared.answers.Answer.TheVariants as answers
use Rattle.fio_message.specs.declared.commands.Command.TheVariants as commands
use Rattle.fio_message.specs.declared.commands.OtherCommand.TheVariants as other_commands
use Rattle.fio_check.specs.declared.observation.Observation.TheVariants as seen
use Rattle.fio_ends.proofs.ContentSteps.{HearsAnswer}

-- the states of all inputs after a life
abbrev pub states_of : Life → ℕ
states_of life = word_of 64 (λ input. input_state input (filter_events life))

-- an answer that is made of some value in this way
pub record IsMadeOf {Value : Type 0} (answer : Answer) (made : Value → Answer) : Type 0 where
  pub value : Value
  pub is : answer ≡ made value

-- an answer with a body alone
abbrev pub IsOther : Answer → Type 0
IsOther answer = IsMadeOf answer (λ (parts : OtherAnswer × ArrayVec ℕ). answers.Other parts.0 parts.1)

-- an answer that is this one
abbrev pub IsWholly : Answer → Answer → Type 0
IsWholly answer other = IsMadeOf answer (λ (none : Unit {0}). other)

-- what an answer to a command after a life says
abbrev pub Says : Life → Command → Answer → Type 0
Says life (commands.Status clear) answer = IsWholly answer (answers.Status (flags_of (Commanded (commands.Status clear) ∷ life)) 0 0 (counter_of life))
Says life (commands.LoadCounter load) answer = IsWholly answer (answers.LoadCounter (error_status false))
Says life (commands.ConfigureInputs items) answer = IsWholly answer (answers.ConfigureInputs (error_status (not (all_present items.items))))
Says life commands.RawInputs answer = IsMadeOf answer (λ (inputs : ℕ). answers.RawInputs inputs (counter_of life))
Says life commands.FilteredInputs answer = IsWholly answer (answers.FilteredInputs (states_of life) (counter_of life))
Says life (commands.Watchdog timeout) answer = IsWholly answer (answers.Watchdog (set_before_status (is_some (watchdog_of life))))
Says life (commands.Poll number) answer = ⊥
Says life other answer = IsOther answer

-- ---- octets are read back

status_back : (flags stamp : ℕ) → stamp < 2 ^ 32
    → answer_in (answer_octets (answers.Status flags 0 0 stamp)) ≡ Some (answers.Status flags 0 0 stamp)
unfolding message_in
status_back flags stamp fits = ap (λ s. Some (answers.Status flags 0 0 s)) (from_be_bytes-to_be_bytes_4 stamp fits)

load_back : (status : ℕ) → answer_in (answer_octets (answers.LoadCounter status)) ≡ Some (answers.LoadCounter status)
unfolding message_in
load_back status = refl

configure_back : (status : ℕ) → answer_in (answer_octets (answers.ConfigureInputs status)) ≡ Some (answers.ConfigureInputs status)
unfolding message_in
configure_back status = refl

watchdog_back : (status : ℕ) → answer_in (answer_octets (answers.Watchdog status)) ≡ Some (answers.Watchdog status)
unfolding message_in
watchdog_back status = refl

raw_back : (inputs stamp : ℕ) → stamp < 2 ^ 32
    → answer_in (answer_octets (answers.RawInputs inputs stamp)) ≡ Some (answers.RawInputs (from_le_bytes w64 (to_le_bytes w64 inputs)) stamp)
unfolding message_in
raw_back inputs stamp fits = ap (λ s. Some (answers.RawInputs (from_le_bytes w64 (to_le_bytes w64 inputs)) s)) (from_be_bytes-to_be_bytes_4 stamp fits)

filtered_back : (inputs stamp : ℕ) → inputs < 2 ^ 64 → stamp < 2 ^ 32
    → answer_in (answer_octets (answers.FilteredInputs inputs stamp)) ≡ Some (answers.FilteredInputs inputs stamp)
unfolding message_in
filtered_back inputs stamp small fits = grind (arith, nat_tests, w32, to_be_bytes, from_le_bytes-to_le_bytes_8, from_be_bytes-to_be_bytes_4)

-- ---- by the command

-- an answer of another type than those above has a body alone
other_answer : (answer : Answer) (type : ℕ) (accepted : Bool) → observation_of None (Some answer) ≡ seen.Answer type accepted
    → 182 < type → (type ≡ 186 → ⊥) → IsOther answer
other_answer (answers.Block number entries status stamp) type accepted is high none = absurd (cc is)
other_answer (answers.Watchdog status) type accepted is high none = let same : 186 ≡ type = cc is in absurd (none (sym same))
other_answer (answers.Other kind body) type accepted is high none = record { value = (kind, body); is = refl }
other_answer other type accepted is high none = let same : answer_code other ≡ type = cc is in absurd (omega arith)

-- and no answer but a block has the type of blocks
no_block : (answer : Answer) (type : ℕ) (accepted : Bool) → observation_of None (Some answer) ≡ seen.Answer type accepted → type ≡ 182 → ⊥
no_block other type accepted is of_block = grind arith

module _ (settings : Settings) (life : Life) (answer replied : Answer) (octets : List ℕ) (accepted : Bool) where
  read_as : {expected known : Answer} → Some expected ≡ Some replied → octets ≡ answer_octets replied → answer_in octets ≡ Some answer
      → answer_in (answer_octets expected) ≡ Some known → answer ≡ known
  read_as is spells read back =
      same_Some _ _ (sym read ∙ ap answer_in (spells ∙ ap answer_octets (sym (same_Some _ _ is))) ∙ back)

  whole : {expected : Answer} → Some expected ≡ Some replied → octets ≡ answer_octets replied → answer_in octets ≡ Some answer
      → answer_in (answer_octets expected) ≡ Some expected → IsWholly answer expected
  whole is spells read back = record { value = tt; is = read_as is spells read back }

  says : (command : Command) → answer_to settings life command ≡ Some replied → octets ≡ answer_octets replied → answer_in octets ≡ Some answer
      → observation_of None (answer_in octets) ≡ seen.Answer (answer_type_to command) accepted → Says life command answer
  says (commands.Status clear) is spells read heard = whole is spells read
      (status_back (flags_of (Commanded (commands.Status clear) ∷ life)) (counter_of life) (omega arith))
  says (commands.LoadCounter load) is spells read heard = whole is spells read (load_back (error_status false))
  says (commands.ConfigureInputs items) is spells read heard =
      whole is spells read (configure_back (error_status (not (all_present items.items))))
  says commands.RawInputs is spells read heard = record {
    value = _;
    is = read_as is spells read (raw_back (raw_levels (filter_events life)) (counter_of life) (omega arith));
  }
  says commands.FilteredInputs is spells read heard = whole is spells read
      (filtered_back (states_of life) (counter_of life) (word_of-fits 64 (λ input. input_state input (filter_events life))) (omega arith))
  says (commands.Watchdog timeout) is spells read heard =
      whole is spells read (watchdog_back (set_before_status (is_some (watchdog_of life))))
  says (commands.Poll number) is spells read heard = no_block answer 182 accepted (ap (observation_of None) (sym read) ∙ heard) refl
  says (commands.SetOutputs levels controls) is spells read heard =
      other_answer answer 183 accepted (ap (observation_of None) (sym read) ∙ heard) (omega arith) (λ same. absurd (omega (arith, same)))
  says commands.Identify is spells read heard =
      other_answer answer 188 accepted (ap (observation_of None) (sym read) ∙ heard) (omega arith) (λ same. absurd (omega (arith, same)))
  says (commands.Other other_commands.TrackInputs body) is spells read heard = absurd (cc is)
  says other is spells read heard = absurd (cc is)

pub says_of : (settings : Settings) (from : Life) (machine : Machine) (facts : ContentFacts) (place : ℕ) (command : Command) (answer : Answer)
    → (h : HearsAnswer settings from machine facts place command answer) → Says h.life command answer
says_of settings from machine facts place command answer h =
    says settings h.life answer h.heard_as.answer h.frame.octets h.heard_as.accepted command h.heard_as.replies h.heard_as.spells h.spells h.heard_as.heard
