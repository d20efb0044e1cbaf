-- Clean rounds with other events in them: the CPU takes one block in each.
use Rattle.fio_link.proofs.Names.{◌≡◌, ℕ, ◌+◌, ◌^◌, ◌<◌, ◌≤◌, List, [], ◌∷◌, ◌++◌, length, Some, slice_get, refl, ap, sym, subst, ◌∙◌, arith, inl, inr, option_map, AllByRecursion, command_octets, answer_octets, Block, command_in, command_back, Settings, AreInRange, Life, Commanded, life_of, life_after_command, answer_of_sending, Event, SentFrame, Machine, number_of, answer_frames, after_delivery_to_module, after, Leads, HasBlock, HaveNoRestart, next_round, IsCleanRound, EachCleanRoundTakesOne}
use Rattle.fio_message.specs.declared.commands.Command.TheVariants as commands
use Rattle.fio_link.specs.declared.event.Event.TheVariants as events
use Rattle.fio_link.specs.Delivery.{IsWithinRound, RoundWithNothingBetweenIsClean, TakesOne}
use Rattle.fio_link.proofs.MadeBlocks.{each-append}
use Rattle.fio_link.proofs.RoundNumbers.{number_of-fits}
use Rattle.fio_link.proofs.Spelled.{said}
use Rattle.fio_link.proofs.Received.{latest_sent, newest_fits, carried_back}
use Rattle.fio_link.proofs.Kept.{after_frame, HasInvariant, after_poll}
use Rattle.fio_link.proofs.Events.{frame_at_place}
use Rattle.fio_link.proofs.Rows.{keeps, keeps_all}
use Rattle.fio_link.proofs.Runs.{takes}
use Rattle.fio_link.proofs.WithoutPolls.{HasMore, IsTaken, IsInRound, round_once, round_all, in_round_start}
use Rattle.fio_module.proofs.ListParts.{get_last}

-- events that lead over a machine between
pub leads-parts : (settings : Settings) (first : ℕ) (events later : List Event) (machine last : Machine) → Leads settings first machine (events ++ later) last
    → (between : Machine) × Leads settings first machine events between × Leads settings first between later last
leads-parts settings first [] later machine last leads = (machine, refl, leads)
leads-parts settings first (event ∷ events) later machine last leads =
    let rest = leads-parts settings first events later (after settings first machine event) last leads.1 in
    (rest.0, (leads.0, rest.1), rest.2)

-- nor do they restart anything
pub within_no_restart : (events : List Event) → AllByRecursion IsWithinRound events → HaveNoRestart events
within_no_restart [] within = tt
within_no_restart (events.Poll ∷ rest) within = absurd within.0
within_no_restart (events.Restart ∷ rest) within = absurd within.0
within_no_restart (other ∷ rest) within = (tt, within_no_restart rest within.1)

-- the module answers a poll that was sent in this round
pub record IsAnswered (settings : Settings) (first round : ℕ) (machine later : Machine) : Type 0 where
  pub answer : Block
  pub answered : HasBlock later.to_cpu (length machine.to_cpu) answer round
  pub polls : later.polls ≡ round ∷ machine.polls
  pub life : life_of later.history ≡ Commanded (commands.Poll (number_of first round)) ∷ life_of machine.history

abbrev pub poll_frame : ℕ → ℕ → SentFrame
poll_frame first round = record { octets = command_octets (commands.Poll (number_of first round)); round = round }

pub poll_answered : (settings : Settings) → AreInRange settings → (first round : ℕ) (machine : Machine) (place : ℕ)
    → slice_get machine.to_module place ≡ Some (poll_frame first round)
    → IsAnswered settings first round machine (after settings first machine (events.ToModule (place + 1)))
poll_answered settings range first round machine place at =
    let number = number_of first round in
    let frame = poll_frame first round in
    let life : Life = Commanded (commands.Poll number) ∷ life_of machine.history in
    let fits : number < 2 ^ 8 = omega (arith, number_of-fits first round) in
    let spelled : command_in frame.octets ≡ Some (commands.Poll number) =
    command_back (commands.Poll number) frame.octets (record { within = fits; spelled = refl }) in
    let found = latest_sent settings life number refl in
    let sending = found.0 in
    let l = found.1 in
    let named : sending.number ≡ number = l.number in
    let reads = carried_back settings.per_block sending l.block range.few_per_block (omega (arith, number_of-fits first round))
    (newest_fits settings life l.earlier l.block l.made) l.carried in
    let answer_frame : SentFrame = record { octets = answer_octets (answer_of_sending sending); round = round } in
    let answering : Machine = after_poll machine place frame (answer_frame ∷ []) in
    let same : answering ≡ after settings first machine (events.ToModule (place + 1)) =
    sym (ap (after_delivery_to_module settings machine (place + 1)) (frame_at_place machine.to_module place ∙ at)
    ∙ ap (after_frame settings machine place frame) spelled
    ∙ ap (λ latest. after_poll machine place frame (answer_frames (option_map answer_of_sending latest) round)) l.is) in
    subst (IsAnswered settings first round machine) same (record {
      answer = said sending;
      answered = record { frame = answer_frame; at_place = get_last machine.to_cpu answer_frame; spells = reads; of_round = refl };
      polls = refl;
      life = ap (λ command. life_after_command command (life_of machine.history)) spelled;
    })

-- What a clean round does.
pub record HasCleanRound (settings : Settings) (first : ℕ) (begin receipt last : Machine) : Type 0 where
  pub takes : TakesOne begin last
  pub newest : next_round last.polls ≡ begin.round + 1
  -- its events in two parts, without a restart
  pub before : List Event
  pub after_it : List Event
  pub none_before : HaveNoRestart before
  pub none_after : HaveNoRestart after_it
  pub sent : Leads settings first begin before receipt
  -- the machine that has just received the poll
  pub polled : Machine
  pub received : Leads settings first receipt (events.ToModule (length begin.to_module + 1) ∷ []) polled
  pub rest : Leads settings first polled after_it last
  pub life : life_of polled.history ≡ Commanded (commands.Poll (number_of first begin.round)) ∷ life_of receipt.history
  pub polls : polled.polls ≡ begin.round ∷ receipt.polls

module _ (settings : Settings) (range : AreInRange settings) (first : ℕ) (begin receipt last : Machine)
    (i : HasInvariant settings first begin) (c : IsCleanRound settings first begin receipt last) where
  abbrev base : Machine
  base = after settings first begin events.Poll

  abbrev polled : Machine
  polled = after settings first receipt (events.ToModule (length begin.to_module + 1))

  abbrev place : ℕ
  place = length receipt.to_cpu

  abbrev rest_events : List Event
  rest_events = c.after ++ events.ToCpu (place + 1) ∷ []

  i_base : HasInvariant settings first base
  i_base = keeps settings range first begin i events.Poll refl

  i_receipt : HasInvariant settings first receipt
  i_receipt = keeps_all settings range first c.before base receipt c.sent.1 i_base

  i_polled : HasInvariant settings first polled
  i_polled = keeps settings range first receipt i_receipt (events.ToModule (length begin.to_module + 1)) c.answered.0

  i_last : HasInvariant settings first last
  i_last = keeps_all settings range first rest_events polled last c.answered.1 i_polled

  o_receipt : IsInRound base receipt
  o_receipt =
      round_all settings range first base c.before base receipt c.none_before c.sent.1 i_base (in_round_start settings first base i_base)

  o_polled : IsInRound base polled
  o_polled = round_once settings range first base receipt i_receipt o_receipt (events.ToModule (length begin.to_module + 1)) tt c.answered.0

  all_within : AllByRecursion IsWithinRound rest_events
  all_within = each-append IsWithinRound c.after (events.ToCpu (place + 1) ∷ []) c.none_after (tt, tt)

  o_last : IsInRound base last
  o_last = round_all settings range first base rest_events polled last all_within c.answered.1 i_polled o_polled

  -- the poll is still among the frames
  pub poll_stays : slice_get receipt.to_module (length begin.to_module) ≡ Some (poll_frame first begin.round)
  poll_stays = o_receipt.more.to_module (length begin.to_module) (poll_frame first begin.round) (get_last begin.to_module (poll_frame first begin.round))

  is_answered : IsAnswered settings first begin.round receipt polled
  is_answered = poll_answered settings range first begin.round receipt (length begin.to_module) poll_stays

  -- the answer stays among the frames
  answered_in : (machine : Machine) → HasMore polled machine → HasBlock machine.to_cpu place is_answered.answer begin.round
  answered_in machine more =
      let has = is_answered.answered in
      record { frame = has.frame; at_place = more.to_cpu place has.frame has.at_place; spells = has.spells; of_round = has.of_round }

  newest : next_round last.polls ≡ begin.round + 1
  newest =
      let more = (round_all settings range first polled rest_events polled last all_within c.answered.1 i_polled (in_round_start settings first polled i_polled)).more in
      let low = i_last.answers.answered place is_answered.answer begin.round (answered_in last more) in
      omega (arith, o_last.received)

  not_less : (between : Machine) → IsTaken between last → between.round ≤ last.round
  not_less between (inl none) = omega (arith, none.0)
  not_less between (inr one) = omega (arith, one.round)

  -- the CPU hears it in its round, or has taken another answer to a poll of its round
  never_none : (between : Machine) → Leads settings first polled c.after between
      → Leads settings first between (events.ToCpu (place + 1) ∷ []) last → HasInvariant settings first between
      → last.round ≡ begin.round → IsTaken base between → ⊥
  never_none between to from i_between same (inl none) =
      let more = (round_all settings range first polled c.after polled between c.none_after to i_polled (in_round_start settings first polled i_polled)).more in
      let one_more = (takes settings range first between i_between place is_answered.answer begin.round (answered_in between more) from.0).1 (sym none.0) in
      let now : last.round ≡ between.round + 1 = ap (λ (m : Machine). m.round) from.1 ∙ one_more in
      omega (arith, none.0)
  never_none between to from i_between same (inr one) =
      let here = round_all settings range first between (events.ToCpu (place + 1) ∷ []) between last (tt, tt) from i_between (in_round_start settings first between i_between) in
      let grown = not_less between here.taken in
      omega (arith, one.round)

  of_taken : IsTaken base last → TakesOne base last
  of_taken (inr one) = one
  of_taken (inl none) =
      let parts = leads-parts settings first c.after (events.ToCpu (place + 1) ∷ []) polled last c.answered.1 in
      let i_between = keeps_all settings range first c.after polled parts.0 parts.1 i_polled in
      let so_far = round_all settings range first base c.after polled parts.0 c.none_after parts.1 i_polled o_polled in
      absurd (never_none parts.0 parts.1 parts.2 i_between none.0 so_far.taken)

  pub has_clean_round : HasCleanRound settings first begin receipt last
  has_clean_round =
      let t = of_taken o_last.taken in
      record {
        takes = record { answer = t.answer; place = t.place; answered = t.answered; round = t.round; items = t.items };
        newest = newest;
        before = events.Poll ∷ c.before;
        after_it = rest_events;
        none_before = (tt, within_no_restart c.before c.none_before);
        none_after = within_no_restart rest_events all_within;
        sent = c.sent;
        polled = polled;
        received = (c.answered.0, refl);
        rest = c.answered.1;
        life = is_answered.life;
        polls = is_answered.polls;
      }

-- with nothing between
pub nothing_between_is_clean : (settings : Settings) (first : ℕ) (machine : Machine) → RoundWithNothingBetweenIsClean settings first machine
nothing_between_is_clean settings first machine last leads =
    record { before = []; after = []; none_before = tt; none_after = tt; sent = (refl, refl); answered = leads.1 }

-- in each clean round the CPU takes one block
pub each_clean_round_takes_one : (settings : Settings) → AreInRange settings → (first : ℕ) (machine : Machine)
    → HasInvariant settings first machine → EachCleanRoundTakesOne settings first machine
each_clean_round_takes_one settings range first machine i receipt later c = (has_clean_round settings range first machine receipt later i c).takes
