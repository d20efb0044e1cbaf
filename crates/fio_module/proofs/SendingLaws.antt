-- The latest sending carries the newest block, and the number of the latest poll.
use Rattle.fio_module.proofs.Names.{◌≡◌, ℕ, Bool, true, false, List, [], ◌∷◌, ◌++◌, Option, Some, None, refl, ap, sym, subst, inl, inr, if◌then◌else◌, option_map, eqb_tells, Poll, Settings, Life, Commanded, MadeBlock, newest_poll, is_new, blocks_of, next_block, Sending, latest_sending, first_sending, repeat_of, Carries, SendingsCarry, SendingsAnswerPolls}

carries-if : (new : Bool) (made : List MadeBlock) (block : MadeBlock) (fresh : Sending) (latest : Option Sending) (sending : Sending)
    → Carries fresh block
    → ((sending : Sending) → latest ≡ Some sending
    → (earlier : List MadeBlock) × (newest : MadeBlock) × (made ≡ earlier ++ newest ∷ []) × Carries sending newest)
    → (if new then Some fresh else option_map repeat_of latest) ≡ Some sending
    → (earlier : List MadeBlock) × (newest : MadeBlock)
    × ((if new then made ++ block ∷ [] else made) ≡ earlier ++ newest ∷ []) × Carries sending newest
carries-if true made block fresh latest sending carried known is =
    let same : fresh ≡ sending = cc in
    let P : Sending → Type 0 = λ s. Carries s block in
    (made, block, refl, subst P same carried)
carries-if false made block fresh None sending carried known is = absurd (cc is)
carries-if false made block fresh (Some before) sending carried known is =
    let old = known before refl in
    let same : repeat_of before ≡ sending = cc in
    let P : Sending → Type 0 = λ s. Carries s old.1 in (
      old.0,
      old.1,
      old.2,
      subst P same (record { entries = old.3.entries; more = old.3.more; lost = old.3.lost; stamp = old.3.stamp }),
    )

-- the latest sending carries the newest block
pub sendings_carry : SendingsCarry
sendings_carry settings [] sending is = absurd (cc is)
sendings_carry settings (Commanded (Poll number) ∷ life) sending is =
    carries-if (is_new (newest_poll life) number) (blocks_of settings life) (next_block settings life)
    (first_sending settings life number) (latest_sending settings life) sending
    (record { entries = refl; more = refl; lost = refl; stamp = refl })
    (sendings_carry settings life) is
sendings_carry settings (other ∷ life) sending is = sendings_carry settings life sending is

-- the number of a sending, if there is one
abbrev pub sent_number : Option Sending → Option ℕ
sent_number latest = option_map (λ sending. sending.number) latest

number-if : (latest : Option Sending) (fresh : Sending) (number : ℕ) → fresh.number ≡ number
    → Some number
    ≡ sent_number (if is_new (sent_number latest) number then Some fresh else option_map repeat_of latest)
number-if None fresh number is = ap Some (sym is)
number-if (Some sending) fresh number is =
    elim (eqb_tells sending.number number) [
      | inl same ↦ rw same.0 (ap Some (sym same.1))
      | inr other ↦ rw other.0 (ap Some (sym is))
    ]

number-after : (polled : Option ℕ) (latest : Option Sending) (fresh : Sending) (number : ℕ)
    → polled ≡ sent_number latest → fresh.number ≡ number
    → Some number ≡ sent_number (if is_new polled number then Some fresh else option_map repeat_of latest)
number-after polled latest fresh number same is = rw same (number-if latest fresh number is)

-- the latest sending has the number of the latest poll
pub sendings_answer_polls : SendingsAnswerPolls
sendings_answer_polls settings [] = refl
sendings_answer_polls settings (Commanded (Poll number) ∷ life) =
    number-after (newest_poll life) (latest_sending settings life) (first_sending settings life number) number
    (sendings_answer_polls settings life) refl
sendings_answer_polls settings (other ∷ life) = sendings_answer_polls settings life

repeated-if : (polled : Option ℕ) (latest : Option Sending) (number : ℕ)
    → polled ≡ sent_number latest → is_new polled number ≡ false → (sending : Sending) × (latest ≡ Some sending)
repeated-if polled None number same repeated =
    let new : is_new polled number ≡ true = rw same refl in
    absurd (cc (repeated, new))
repeated-if polled (Some sending) number same repeated = (sending, refl)

-- a poll that is not new has a sending to repeat
pub repeated_sending : (settings : Settings) (life : Life) (number : ℕ) → is_new (newest_poll life) number ≡ false
    → (sending : Sending) × (latest_sending settings life ≡ Some sending)
repeated_sending settings life number repeated =
    repeated-if (newest_poll life) (latest_sending settings life) number (sendings_answer_polls settings life) repeated
