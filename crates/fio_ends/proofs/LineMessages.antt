-- What the ends write is a message of octets that a frame can hold.
use Rattle.fio_ends.proofs.Names.{◌≡◌, ◌^◌, ◌<◌, ◌≤◌, ℕ, Bool, true, false, List, [], ◌∷◌, ◌++◌, length, length-take, take, drop, Option, Some, None, refl, subst, arith, option_map, if◌then◌else◌, same_Some, AllByRecursion, Command, Answer, command_in, command_octets, answer_octets, filter_events, IsCommand, Life, Commanded, life_of, log_of, entry_of, newest_poll, is_new, newest_end, start_after, count_from, Settings, AreInRange, answer_to, History, INPUTS, IsEntry, IsOctet, Sending, answer_if, answer_of_sending, block_status-fits, counter_of, error_status, first_sending, input_state, latest_sending, length-map, raw_levels, repeat_of, reply_to, set_before_status, to_be_bytes, w32, word_of-fits, IsOctets, IsFrameLength, inputs_octets, IsOctets-append, IsOctets-be32, IsOctets-le64, command_spelled, command_again, answer_again, word_of, part-fits, answer_fits, sendings_answer_polls, sent_number}
use Rattle.fio_message.specs.declared.commands.Command.TheVariants as commands

-- octets that a frame can hold as its message
abbrev pub IsMessage : List ℕ → Type 0
IsMessage octets = IsOctets octets × IsFrameLength (length octets)

pub command_is_message : (command : Command) → IsCommand command → IsMessage (command_octets command)
command_is_message command within = grind (arith, command_again)

-- ---- Replies

error-fits : (error : Bool) → error_status error < 2 ^ 8
error-fits true = omega arith
error-fits false = omega arith

before-fits : (before : Bool) → set_before_status before < 2 ^ 8
before-fits true = omega arith
before-fits false = omega arith

-- the entries of a sending, their number and the stamp are within their ranges
abbrev IsWithin : ℕ → Sending → Type 0
IsWithin most sending =
    AllByRecursion IsEntry sending.entries × (sending.stamp < 2 ^ 32) × (length sending.entries ≤ most)

within-if : (most : ℕ) (new : Bool) (fresh : Sending) (latest : Option Sending) (sending : Sending) → IsWithin most fresh
    → ((before : Sending) → latest ≡ Some before → IsWithin most before)
    → (if new then Some fresh else option_map repeat_of latest) ≡ Some sending → IsWithin most sending
within-if most true fresh latest sending within known is = subst (IsWithin most) (same_Some _ _ is) within
within-if most false fresh None sending within known is = absurd (cc is)
within-if most false fresh (Some before) sending within known is = subst (IsWithin most) (same_Some _ _ is) (known before refl)

within : (settings : Settings) (life : Life) (sending : Sending) → latest_sending settings life ≡ Some sending
    → IsWithin settings.per_block sending
within settings [] sending is = absurd (cc is)
within settings (Commanded (commands.Poll number) ∷ life) sending is =
    let log = log_of life in
    let start = start_after settings log (newest_end settings life) in
    let count = count_from settings log start in
    let taken = take count (drop start log) in
    within-if settings.per_block (is_new (newest_poll life) number) (first_sending settings life number) (latest_sending settings life) sending
    (part-fits life count start, omega arith, omega (arith, length-map taken entry_of, length-take count (drop start log)))
    (within settings life) is
within settings (other ∷ life) sending is = within settings life sending is

-- what holds of an answer holds of the one that is found
abbrev AreOctetsOf : Answer → Type 0
AreOctetsOf answer = IsOctets (answer_octets answer)

block-octets : (settings : Settings) → AreInRange settings → (found : Option Sending) (number : ℕ) → IsOctet number
    → Some number ≡ sent_number found
    → ((sending : Sending) → found ≡ Some sending → IsWithin settings.per_block sending)
    → (answer : Answer) → option_map answer_of_sending found ≡ Some answer → AreOctetsOf answer
block-octets settings range None number fits same within answer is = absurd (cc is)
block-octets settings range (Some sending) number fits same within answer is =
    let w = within sending refl in
    let named : number ≡ sending.number = same_Some _ _ same in
    let count : length sending.entries ≤ 255 = omega (arith, w.2, range.few_per_block) in
    let a = answer_again (answer_of_sending sending) (
      omega (arith, fits, named),
      count,
      w.0,
      block_status-fits sending.more sending.lost sending.again sending.out_of_sequence,
      w.1,
    ) in
    subst AreOctetsOf (same_Some _ _ is) a.octets

inputs-octets : (inputs stamp : ℕ) → IsOctets (inputs_octets inputs ++ to_be_bytes w32 stamp)
inputs-octets inputs stamp =
    IsOctets-append (inputs_octets inputs) (to_be_bytes w32 stamp) (IsOctets-le64 inputs) (IsOctets-be32 stamp)

answer-octets : (settings : Settings) → AreInRange settings → (life : Life) (command : Command) → IsCommand command
    → (answer : Answer) → answer_to settings life command ≡ Some answer → AreOctetsOf answer
answer-octets settings range life (commands.Status clear) fits answer is =
    subst AreOctetsOf (same_Some _ _ is) (omega arith, (word_of-fits 8 _, (omega arith, (omega arith, IsOctets-be32 _))))
answer-octets settings range life (commands.LoadCounter load) fits answer is =
    subst AreOctetsOf (same_Some _ _ is) (omega arith, (error-fits false, tt))
answer-octets settings range life (commands.ConfigureInputs items) fits answer is =
    subst AreOctetsOf (same_Some _ _ is) (omega arith, (error-fits _, tt))
answer-octets settings range life commands.RawInputs fits answer is =
    subst AreOctetsOf (same_Some _ _ is) (omega arith, inputs-octets (raw_levels (filter_events life)) (counter_of life))
answer-octets settings range life commands.FilteredInputs fits answer is =
    let inputs = word_of INPUTS (λ input. input_state input (filter_events life)) in
    subst AreOctetsOf (same_Some _ _ is) (omega arith, inputs-octets inputs (counter_of life))
answer-octets settings range life (commands.Poll number) fits answer is =
    let polled = Commanded (commands.Poll number) ∷ life in
    block-octets settings range (latest_sending settings polled) number fits (sendings_answer_polls settings polled)
    (within settings polled) answer is
answer-octets settings range life (commands.SetOutputs levels controls) fits answer is =
    subst AreOctetsOf (same_Some _ _ is) (omega arith, (omega arith, IsOctets-be32 _))
answer-octets settings range life (commands.Watchdog timeout) fits answer is =
    subst AreOctetsOf (same_Some _ _ is) (omega arith, (before-fits _, tt))
answer-octets settings range life commands.Identify fits answer is =
    subst AreOctetsOf (same_Some _ _ is) (omega arith, (omega (arith, range.id_fits), tt))
answer-octets settings range life (commands.Other kind body) fits answer is = absurd (cc is)

reply-if : (settings : Settings) → AreInRange settings → (life : Life) (octets : List ℕ) → IsOctets octets
    → (found : Option Command) → command_in octets ≡ found
    → (answer : Answer) → answer_if settings life found ≡ Some answer → IsMessage (answer_octets answer)
reply-if settings range life octets all None none answer is = absurd (cc is)
reply-if settings range life octets all (Some command) some answer is =
    let fits : IsCommand command = (command_spelled octets command all some).within in
    let short = answer_fits settings life command answer is in
    (answer-octets settings range life command fits answer is, (omega arith, omega (arith, short, range.few_per_block)))

-- the reply to octets is a message
pub reply_is_message : (settings : Settings) → AreInRange settings → (history : History) (octets : List ℕ) → IsOctets octets
    → (answer : Answer) → reply_to settings history octets ≡ Some answer → IsMessage (answer_octets answer)
reply_is_message settings range history octets all answer is =
    reply-if settings range (life_of history) octets all (command_in octets) refl answer is
