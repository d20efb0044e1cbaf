-- No answer is longer than the longest.
use Rattle.fio_module.proofs.Names.{◌≡◌, ℕ, ◌*◌, ◌≤◌, Bool, true, false, List, [], ◌∷◌, length, take, drop, Option, Some, None, refl, subst, arith, length-append, length-map, length-take, flat_map, if◌then◌else◌, option_map, Answer, answer_octets, entry_octets, Poll, Settings, Life, Commanded, log_of, entry_of, start_after, count_from, newest_poll, newest_end, is_new, Sending, answer_of_sending, first_sending, latest_sending, repeat_of}
use Rattle.fio_message.specs.declared.commands.Command.{Command}
use Rattle.fio_message.specs.declared.commands.Command.TheVariants as commands
use Rattle.fio_message.specs.declared.fields.Entry.{Entry}
use Rattle.fio_module.specs.Replies.{answer_to, longest_answer}
use Rattle.std.proofs.lemmas.Option.{same_Some}

-- the octets of entries
length-entries : (entries : List Entry) → length (flat_map entry_octets entries) ≡ 3 * length entries
length-entries [] = refl
length-entries (entry ∷ entries) =
    omega (arith, length-append (entry_octets entry) (flat_map entry_octets entries), length-entries entries)

few-if : (new : Bool) (most : ℕ) (fresh : Sending) (latest : Option Sending) (sending : Sending) → length fresh.entries ≤ most
    → ((before : Sending) → latest ≡ Some before → length before.entries ≤ most)
    → (if new then Some fresh else option_map repeat_of latest) ≡ Some sending → length sending.entries ≤ most
few-if true most fresh latest sending few known is = subst (λ (s : Sending). length s.entries ≤ most) (same_Some _ _ is) few
few-if false most fresh None sending few known is = absurd (cc is)
few-if false most fresh (Some before) sending few known is =
    subst (λ (s : Sending). length s.entries ≤ most) (same_Some _ _ is) (known before refl)

-- no block that is sent has more entries than there may be
few_entries : (settings : Settings) (life : Life) (sending : Sending) → latest_sending settings life ≡ Some sending
    → length sending.entries ≤ settings.per_block
few_entries settings [] sending is = absurd (cc is)
few_entries settings (Commanded (Poll number) ∷ life) sending is =
    let log = log_of life in
    let start = start_after settings log (newest_end settings life) in
    let count = count_from settings log start in
    few-if (is_new (newest_poll life) number) settings.per_block (first_sending settings life number) (latest_sending settings life) sending
    (omega (arith, length-map (take count (drop start log)) entry_of, length-take count (drop start log)))
    (few_entries settings life) is
few_entries settings (other ∷ life) sending is = few_entries settings life sending is

block_fits : (settings : Settings) (found : Option Sending) (answer : Answer)
    → ((sending : Sending) → found ≡ Some sending → length sending.entries ≤ settings.per_block)
    → option_map answer_of_sending found ≡ Some answer → length (answer_octets answer) ≤ longest_answer settings.per_block
block_fits settings None answer few is = absurd (cc is)
block_fits settings (Some sending) answer few is =
    let body = flat_map entry_octets sending.entries in
    subst (λ a. length (answer_octets a) ≤ longest_answer settings.per_block) (same_Some _ _ is)
    (omega (arith, few sending refl, length-entries sending.entries, length-append body))

-- no answer to a command is longer
pub answer_fits : (settings : Settings) (life : Life) (command : Command) (answer : Answer)
    → answer_to settings life command ≡ Some answer → length (answer_octets answer) ≤ longest_answer settings.per_block
answer_fits settings life (commands.Poll number) answer is =
    let polled = Commanded (Poll number) ∷ life in
    block_fits settings (latest_sending settings polled) answer (few_entries settings polled) is
answer_fits settings life (commands.Other kind body) answer is = absurd (cc is)
answer_fits settings life command answer is =
    subst (λ a. length (answer_octets a) ≤ longest_answer settings.per_block) (same_Some _ _ is) (omega arith)
