-- Stamps are never set back in a log that lasts fewer than 2^31 scans and in which no load takes effect, whatever block is sent
-- again.
use Rattle.fio_ends.proofs.Names.{◌≡◌, ◌∙◌, ◌+◌, ◌<◌, ◌≤◌, ◌^◌, ◌⊎◌, inl, inr, ℕ, Bool, true, false, List, [], ◌∷◌, length, Option, Some, None, refl, ap, sym, subst, arith, if◌then◌else◌, ◌||◌, ◌==◌, eqb_tells, slice_get_within, option_and_then, list_any, Answer, Command, Block, IsCommand, poll_in, answer_in, answered_block, answer_type_to, is_absent, observation_of, is_some_and, says_again, same_Some, Life, life_of, loads_of, scans_of, Settings, AreInRange, MadeBlock, blocks_of, ContentFacts, content_with, Heard, Sent, Done, items_of_block, Event, SentFrame, Machine, number_of, after, after_sending, after_taken, item_numbered, Leads, HaveNoRestart, command_octets, block_answer, counter_of, frame_at_place, is_before, no_poll_in, option_or, polls_with, stamp_of}
use Rattle.fio_message.specs.declared.answers.Answer.TheVariants as answers
use Rattle.fio_message.specs.declared.commands.Command.TheVariants as commands
use Rattle.fio_check.specs.declared.observation.Observation.TheVariants as seen
use Rattle.fio_link.specs.declared.event.Event.TheVariants as events
use Rattle.fio_ends.proofs.Answered.{says_of}
use Rattle.fio_ends.proofs.AnswersKept.{done_heard, items_keep}
use Rattle.fio_ends.proofs.Clocks.{clock, counter_is_clock, not_before, offset_of}
use Rattle.fio_ends.proofs.ContentSteps.{HearsAnswer, IsInvariant, IsKnown, IsPastBus, IsSending, Takes, past_cases}
use Rattle.fio_ends.proofs.Following.{AreBefore, GoesOn, goes_on-both, goes_on-same}
use Rattle.fio_ends.proofs.JudgeLost.{life_on}
use Rattle.fio_ends.proofs.Lives.{goes_on-since, loads_grow, made_since, scans_grow}
use Rattle.fio_ends.proofs.MadeNow.{made_now}
use Rattle.fio_ends.proofs.Receives.{before_received}
use Rattle.fio_ends.proofs.Sends.{before_other}
use Rattle.fio_ends.proofs.Stamps.{stamp_says}

-- ---- what a judge keeps of stamps

pub record StampState : Type 0 where
  pub latest : Option ℕ
  pub asked : Option ℕ
  -- the latest stamp, also of a block that is sent again
  pub any : Option ℕ
  -- the number of the latest poll
  pub polled : Option ℕ
  -- a stamp was set back
  pub back : Bool

-- the stamp above an answer
abbrev pub above_answer : StampState → Answer → Option ℕ
above_answer s (answers.Block number entries status stamp) = if says_again status then s.asked else s.latest
above_answer s answer = s.latest

abbrev pub any_stamp : Answer → Option ℕ
any_stamp (answers.Block number entries status stamp) = Some stamp
any_stamp answer = stamp_of answer

abbrev pub comes_back : StampState → Answer → Bool
comes_back s answer = is_some_and (any_stamp answer) (λ stamp. is_some_and (above_answer s answer) (is_before stamp))

abbrev pub stamps_heard : StampState → Option Answer → StampState
stamps_heard s None = s
stamps_heard s (Some answer) = record s { latest = option_or (stamp_of answer) s.latest; any = option_or (any_stamp answer) s.any; back = s.back || comes_back s answer }

-- at a poll
abbrev pub stamps_polled : StampState → ℕ → StampState
stamps_polled s number = record s {
  asked = option_and_then (λ polled. if number == polled then s.asked else s.latest) s.polled;
  polled = Some number;
}

abbrev pub stamps_after : ℕ → StampState → Machine → Event → StampState
stamps_after first s machine events.Poll = stamps_polled s (number_of first machine.round)
stamps_after first s machine (events.ToCpu index) = stamps_heard s (option_and_then (λ (frame : SentFrame). answer_in frame.octets) (item_numbered machine.to_cpu index))
stamps_after first s machine other = s

no_stamp_before : (stamp above : Option ℕ) → ((s c : ℕ) → stamp ≡ Some s → above ≡ Some c → is_before s c ≡ false) → is_some_and stamp (λ s. is_some_and above (is_before s)) ≡ false
no_stamp_before stamp above kept = grind arith

neither : (a b : Bool) → a ≡ false → b ≡ false → (a || b) ≡ false
neither a b first second = rw (first, second) refl

module _ (settings : Settings) (range : AreInRange settings) (first : ℕ) (begin : Machine) where
  abbrev begun_life : Life
  begun_life = life_of begin.history

  -- a stamp of a life since the log began
  pub record IsOf (life : Life) (stamp : ℕ) : Type 0 where
    pub scans : ℕ
    pub time : stamp ≡ clock (offset_of begun_life) scans
    pub since : scans_of begun_life ≤ scans
    pub upto : scans ≤ scans_of life

  pub of_later : (before now : Life) (stamp : ℕ) → GoesOn before now → IsOf before stamp → IsOf now stamp
  of_later before now stamp g o = (let grown = scans_grow before now g in record { scans = o.scans; time = o.time; since = o.since; upto = omega (arith, o.upto, grown) })

  -- a stamp of a life at which a block was not made
  pub record IsAbove (from : Life) (round stamp : ℕ) : Type 0 where
    pub life : Life
    pub upto : GoesOn life from
    pub begun : GoesOn begun_life life
    pub few : length (blocks_of settings life) ≤ round
    pub of : IsOf life stamp

  pub record KeepsStamps (s : StampState) (from : Life) (machine : Machine) (facts : ContentFacts) : Type 0 where
    pub none : s.back ≡ false
    pub latest : (stamp : ℕ) → s.latest ≡ Some stamp → IsOf from stamp
    pub asked : (stamp : ℕ) → s.asked ≡ Some stamp → IsAbove from machine.round stamp
    -- if the log begins above the first block
    pub any : blocks_of settings begun_life ≡ [] → (stamp : ℕ) → s.any ≡ Some stamp → IsOf from stamp
    pub polled : (number : ℕ) → s.polled ≡ Some number → (number ≡ number_of first machine.round) ⊎ AreBefore machine.to_module machine.polls machine.round (length machine.to_module)

  -- what is asked of the rest of a log: it is short, and no load takes effect in it
  pub record IsCalmOn (machine : Machine) (later : List Event) : Type 0 where
    pub last : Machine
    pub leads : Leads settings first machine later last
    pub none : HaveNoRestart later
    pub steady : loads_of (life_of last.history) ≡ loads_of begun_life
    pub short : scans_of (life_of last.history) < scans_of begun_life + 2 ^ 31

  pub calm_on : (machine : Machine) (event : Event) (rest : List Event) → IsCalmOn machine (event ∷ rest) → IsCalmOn (after settings first machine event) rest
  calm_on machine event rest a = record { last = a.last; leads = a.leads.1; none = a.none.1; steady = a.steady; short = a.short }

  pub lives_on : (later : List Event) (machine last : Machine) → Leads settings first machine later last → HaveNoRestart later → GoesOn (life_of machine.history) (life_of last.history)
  lives_on [] machine last leads none = goes_on-same _ _ (ap (λ (m : Machine). life_of m.history) leads)
  lives_on (event ∷ later) machine last leads none =
      goes_on-both _ _ _ (life_on settings first machine event none.0) (lives_on later (after settings first machine event) last leads.1 none.1)

  -- so it is at a machine of it
  record IsCalm (now : Life) : Type 0 where
    pub steady : (life : Life) → GoesOn begun_life life → GoesOn life now → loads_of life ≡ loads_of begun_life
    pub short : (life : Life) → GoesOn life now → scans_of life < scans_of begun_life + 2 ^ 31

  calm_now : (machine : Machine) (later : List Event) → IsCalmOn machine later → IsCalm (life_of machine.history)
  calm_now machine later a = grind (arith, goes_on-both, lives_on, loads_grow, scans_grow)

  -- the counter of a life is a stamp of it, and is not before one of an earlier life
  of_counter : (now life : Life) → IsCalm now → GoesOn begun_life life → GoesOn life now → IsOf life (counter_of life)
  of_counter now life calm begun upto = record {
    scans = scans_of life;
    time = counter_is_clock begun_life life begun (calm.steady life begun upto);
    since = scans_grow begun_life life begun;
    upto = omega arith;
  }

  later_stamp : (now before life : Life) (stamp : ℕ) → IsCalm now → GoesOn begun_life life → GoesOn life now → GoesOn before life → IsOf before stamp → is_before (counter_of life) stamp ≡ false
  later_stamp now before life stamp calm begun upto g o =
      let grown = scans_grow before life g in
      let short = calm.short life upto in
      subst (λ t. is_before t stamp ≡ false) (sym (counter_is_clock begun_life life begun (calm.steady life begun upto)))
      (subst (λ t. is_before (clock (offset_of begun_life) (scans_of life)) t ≡ false) (sym o.time)
      (not_before (offset_of begun_life) o.scans (scans_of life) (omega (arith, o.upto, grown)) (omega (arith, o.since, short))))

  -- ---- an answer that is heard

  -- the counter of a life of the log, that goes on from what is above, and from the first poll for the block that is due
  module _ (s : StampState) (from : Life) (machine : Machine) (facts : ContentFacts) (known : IsKnown settings first begin from machine) (p : KeepsStamps s from machine facts)
      (calm : IsCalm (life_of machine.history)) where
    abbrev now : Life
    now = life_of machine.history

    latest_before : (life : Life) → GoesOn from life → GoesOn life now → (stamp : ℕ) → s.latest ≡ Some stamp → is_before (counter_of life) stamp ≡ false
    latest_before life g upto stamp at = later_stamp now from life stamp calm (goes_on-both begun_life from life known.begun g) upto g (p.latest stamp at)

    -- below it, if it is not set back
    heard_with : (answer : Answer) (later : Machine) (facts_below : ContentFacts) (life : Life) → GoesOn from life → GoesOn life now
        → ((stamp : ℕ) → stamp_of answer ≡ Some stamp → stamp ≡ counter_of life)
        → (blocks_of settings begun_life ≡ [] → (stamp : ℕ) → any_stamp answer ≡ Some stamp → IsOf now stamp) → comes_back s answer ≡ false
        → machine.round ≤ later.round
        → ((number : ℕ) → s.polled ≡ Some number → (number ≡ number_of first later.round) ⊎ AreBefore later.to_module later.polls later.round (length later.to_module))
        → KeepsStamps (stamps_heard s (Some answer)) now later facts_below
    heard_with answer later facts_below life g upto says says_any none rounds polled = record {
      none = neither s.back (comes_back s answer) p.none none;
      latest = λ stamp at. by (stamp_of answer) refl stamp at;
      any = λ first stamp at. by_any first (any_stamp answer) refl stamp at;
      asked = λ stamp at. (let a = p.asked stamp at in record {
        life = a.life;
        upto = goes_on-both a.life from now a.upto known.now;
        begun = a.begun;
        few = (let few = a.few in omega (arith, few, rounds));
        of = a.of;
      });
      polled = polled;
    }
      where
        by : (found : Option ℕ) → stamp_of answer ≡ found → (stamp : ℕ) → option_or found s.latest ≡ Some stamp → IsOf now stamp
        by (Some here) is stamp at =
            let same : here ≡ stamp = same_Some _ _ at in
            subst (IsOf now) (sym (says here is) ∙ same) (of_later life now (counter_of life) upto (of_counter now life calm (goes_on-both begun_life from life known.begun g) upto))
        by None is stamp at = of_later from now stamp known.now (p.latest stamp at)

        by_any : blocks_of settings begun_life ≡ [] → (found : Option ℕ) → any_stamp answer ≡ found → (stamp : ℕ) → option_or found s.any ≡ Some stamp → IsOf now stamp
        by_any first (Some here) is stamp at = says_any first stamp (is ∙ at)
        by_any first None is stamp at = of_later from now stamp known.now (p.any first stamp at)

  -- ---- the invariant

  stamps_hear : (s : StampState) (from : Life) (machine : Machine) (facts : ContentFacts) (place : ℕ) (rest : List Event) (command : Command) (answer : Answer) → IsKnown settings first begin from machine
      → HearsAnswer settings from machine facts place command answer → IsCalmOn machine (events.ToCpu (place + 1) ∷ rest) → KeepsStamps s from machine facts
      → KeepsStamps (stamps_after first s machine (events.ToCpu (place + 1))) (life_of machine.history) (record machine { last_to_cpu = place + 1 }) (content_with facts (Heard answer))
  stamps_hear s from machine facts place rest command answer known h a p =
      let now = life_of machine.history in
      let calm = calm_now machine (events.ToCpu (place + 1) ∷ rest) a in
      let says = stamp_says h.life command answer (says_of settings from machine facts place command answer h) in
      let upto = goes_on-since command h.life now h.since in
      let heard : option_and_then (λ (frame : SentFrame). answer_in frame.octets) (item_numbered machine.to_cpu (place + 1)) ≡ Some answer =
      ap (option_and_then (λ (frame : SentFrame). answer_in frame.octets)) (frame_at_place machine.to_cpu place ∙ h.at_place) ∙ h.spells in
      subst (λ found. KeepsStamps (stamps_heard s found) now (record machine { last_to_cpu = place + 1 }) (content_with facts (Heard answer))) (sym heard)
      (heard_with s from machine facts known p calm answer (record machine { last_to_cpu = place + 1 }) (content_with facts (Heard answer)) h.life h.goes_on upto says
      (λ first stamp is. of_answer calm upto answer (ap (observation_of None) (sym h.spells) ∙ h.heard_as.heard) says stamp is)
      (none answer (ap (observation_of None) (sym h.spells) ∙ h.heard_as.heard) says
      (λ stamp life_stamp. latest_before s from machine facts known p calm h.life h.goes_on upto stamp life_stamp)) (omega arith) p.polled)
    where
      of_answer : IsCalm (life_of machine.history) → GoesOn h.life (life_of machine.history) → (answer : Answer) → observation_of None (Some answer) ≡ seen.Answer (answer_type_to command) h.heard_as.accepted
          → ((stamp : ℕ) → stamp_of answer ≡ Some stamp → stamp ≡ counter_of h.life) → (stamp : ℕ) → any_stamp answer ≡ Some stamp → IsOf (life_of machine.history) stamp
      of_answer calm upto (answers.Block count entries status stamp) said says at is =
          let never : seen.Block count status (length entries.items) (list_any (λ entry. is_absent entry.input) entries.items) ≡ seen.Answer (answer_type_to command) h.heard_as.accepted = said in
          absurd (cc never)
      of_answer calm upto other said says stamp is =
          subst (IsOf (life_of machine.history)) (sym (says stamp is))
          (of_later h.life (life_of machine.history) (counter_of h.life) upto (of_counter (life_of machine.history) h.life calm (goes_on-both begun_life from h.life known.begun h.goes_on) upto))

      none : (answer : Answer) → observation_of None (Some answer) ≡ seen.Answer (answer_type_to command) h.heard_as.accepted → ((stamp : ℕ) → stamp_of answer ≡ Some stamp → stamp ≡ counter_of h.life)
          → ((stamp : ℕ) → s.latest ≡ Some stamp → is_before (counter_of h.life) stamp ≡ false) → comes_back s answer ≡ false
      none (answers.Block count entries status stamp) said says later =
          let never : seen.Block count status (length entries.items) (list_any (λ entry. is_absent entry.input) entries.items) ≡ seen.Answer (answer_type_to command) h.heard_as.accepted = said in
          absurd (cc never)
      none (answers.Status flags receive transmit stamp) said says later =
          no_stamp_before (Some stamp) s.latest (λ t c is at. subst (λ t. is_before t c ≡ false) (sym (says stamp refl) ∙ same_Some _ _ is) (later c at))
      none (answers.RawInputs inputs stamp) said says later =
          no_stamp_before (Some stamp) s.latest (λ t c is at. subst (λ t. is_before t c ≡ false) (sym (says stamp refl) ∙ same_Some _ _ is) (later c at))
      none (answers.FilteredInputs inputs stamp) said says later =
          no_stamp_before (Some stamp) s.latest (λ t c is at. subst (λ t. is_before t c ≡ false) (sym (says stamp refl) ∙ same_Some _ _ is) (later c at))
      none other said says later = refl

  stamps_take : (s : StampState) (from : Life) (machine : Machine) (facts facts_below : ContentFacts) (place : ℕ) (rest : List Event) (number : ℕ) (answer : Block) (block : MadeBlock)
      → IsKnown settings first begin from machine → Takes settings first from machine place number answer block → IsCalmOn machine (events.ToCpu (place + 1) ∷ rest) → KeepsStamps s from machine facts
      → KeepsStamps (stamps_after first s machine (events.ToCpu (place + 1))) (life_of machine.history) (after_taken machine place answer) facts_below
  stamps_take s from machine facts facts_below place rest number answer block known t a p =
      let calm = calm_now machine (events.ToCpu (place + 1) ∷ rest) a in
      let upto = goes_on-since (commands.Poll number) t.life now t.since in
      let k = known.is_kept in
      subst (λ found. KeepsStamps (stamps_heard s found) now (after_taken machine place answer) facts_below) (sym heard)
      (heard_with s from machine facts known p calm said (after_taken machine place answer) facts_below t.life t.goes_on upto
      (says calm upto (says_again answer.status) refl)
      (λ first stamp is. of_block calm first stamp (same_Some _ _ is))
      (by_again calm upto (says_again answer.status) refl) (omega arith)
      (λ number at. inr (record { sent = λ place n r low has. (let le = k.always.polls.sent place n r has in omega (arith, le)); received = k.always.at_most })))
    where
      now : Life
      now = life_of machine.history

      said : Answer
      said = block_answer answer

      spelt : (found : Option Answer) → answered_block found ≡ Some answer → found ≡ Some said
      spelt None is = absurd (cc is)
      spelt (Some (answers.Block count entries status stamp)) is = ap (λ (b : Block). Some (block_answer b)) (same_Some _ _ is)
      spelt (Some other) is = absurd (cc is)

      heard : option_and_then (λ (frame : SentFrame). answer_in frame.octets) (item_numbered machine.to_cpu (place + 1)) ≡ Some said
      heard = ap (option_and_then (λ (frame : SentFrame). answer_in frame.octets)) (frame_at_place machine.to_cpu place ∙ t.heard.at_place) ∙ spelt (answer_in t.heard.frame.octets) t.heard.spells

      fresh : says_again answer.status ≡ false → answer.stamp ≡ counter_of t.life
      fresh is = t.carried.stamp ∙ ap (λ (b : MadeBlock). b.stamp) (made_now settings first begin from machine place number answer block known t is).is

      of_block : IsCalm now → blocks_of settings begun_life ≡ [] → (stamp : ℕ) → answer.stamp ≡ stamp → IsOf now stamp
      of_block calm first stamp is =
          let begun = goes_on-both begun_life from now known.begun known.now in
          let m = made_since settings begun_life now machine.round block begun (let none = ap length first in omega (arith, none)) t.made in
          let stamp_is : answer.stamp ≡ counter_of m.life = t.carried.stamp ∙ ap (λ (b : MadeBlock). b.stamp) m.is in
          subst (IsOf now) (sym stamp_is ∙ is) (of_later m.life now (counter_of m.life) m.upto (of_counter now m.life calm m.begun m.upto))

      says : IsCalm now → GoesOn t.life now → (again : Bool) → says_again answer.status ≡ again → (stamp : ℕ) → stamp_of said ≡ Some stamp → stamp ≡ counter_of t.life
      says calm upto true is stamp at = absurd (cc (sym (ap (λ a. if a then None else Some answer.stamp) is) ∙ at))
      says calm upto false is stamp at = sym (same_Some _ _ (sym (ap (λ a. if a then None else Some answer.stamp) is) ∙ at)) ∙ fresh is

      by_again : IsCalm now → GoesOn t.life now → (again : Bool) → says_again answer.status ≡ again → comes_back s said ≡ false
      by_again calm upto false is =
          rw is (no_stamp_before (Some answer.stamp) s.latest (λ n c same at.
          subst (λ n. is_before n c ≡ false) (sym (fresh is) ∙ same_Some _ _ same) (latest_before s from machine facts known p calm t.life t.goes_on upto c at)))
      by_again calm upto true is =
          rw is (no_stamp_before (Some answer.stamp) s.asked (λ n c same at.
          (let above = p.asked c at in
          let to_now = goes_on-both above.life from now above.upto known.now in
          let m = made_since settings above.life now machine.round block to_now above.few t.made in
          let stamp_is : answer.stamp ≡ counter_of m.life = t.carried.stamp ∙ ap (λ (b : MadeBlock). b.stamp) m.is in
          subst (λ n. is_before n c ≡ false) (sym stamp_is ∙ same_Some _ _ same)
          (later_stamp now above.life m.life c calm (goes_on-both begun_life above.life m.life above.begun m.begun) m.upto m.begun above.of))))

  -- a poll
  stamps_poll : (s : StampState) (from : Life) (machine : Machine) (facts facts_below : ContentFacts) → IsKnown settings first begin from machine → KeepsStamps s from machine facts
      → KeepsStamps (stamps_polled s (number_of first machine.round)) (life_of machine.history) (after_sending machine (commands.Poll (number_of first machine.round))) facts_below
  stamps_poll s from machine facts facts_below known p = record {
    none = p.none;
    latest = λ stamp at. of_later from now stamp known.now (p.latest stamp at);
    any = λ first stamp at. of_later from now stamp known.now (p.any first stamp at);
    asked = λ stamp at. by s.polled refl stamp at;
    polled = λ polled at. inl (sym (same_Some _ _ at));
  }
    where
      now : Life
      now = life_of machine.history

      number : ℕ
      number = number_of first machine.round

      old : (stamp : ℕ) → s.asked ≡ Some stamp → IsAbove now machine.round stamp
      old stamp at = (let a = p.asked stamp at in record { life = a.life; upto = goes_on-both a.life from now a.upto known.now; begun = a.begun; few = a.few; of = a.of })

      by : (polled : Option ℕ) → s.polled ≡ polled → (stamp : ℕ) → option_and_then (λ polled. if number == polled then s.asked else s.latest) polled ≡ Some stamp → IsAbove now machine.round stamp
      by None is stamp at = absurd (cc at)
      by (Some polled) is stamp at = elim (eqb_tells number polled) as (λ _. IsAbove now machine.round stamp) [
        | inl same ↦ old stamp (sym (ap (λ b. if b then s.asked else s.latest) same.0) ∙ at)
        | inr other ↦
            let late : s.latest ≡ Some stamp = sym (ap (λ b. if b then s.asked else s.latest) other.0) ∙ at in
            elim (p.polled polled is) as (λ _. IsAbove now machine.round stamp) [
              | inl here ↦ absurd (other.1 (sym here))
              | inr before ↦
                  record {
                    life = now;
                    upto = goes_on-same now now refl;
                    begun = goes_on-both begun_life from now known.begun known.now;
                    few = (let made = known.is_kept.one_life.made in let received = before.received in omega (arith, made, received));
                    of = of_later from now stamp known.now (p.latest stamp late);
                  }
            ]
      ]

  -- another command
  stamps_send : (s : StampState) (from : Life) (machine : Machine) (facts facts_below : ContentFacts) (command : Command) → poll_in (command_octets command) ≡ None → IsKnown settings first begin from machine
      → KeepsStamps s from machine facts → KeepsStamps s (life_of machine.history) (after_sending machine command) facts_below
  stamps_send s from machine facts facts_below command no_poll known p = record {
    none = p.none;
    latest = λ stamp at. of_later from (life_of machine.history) stamp known.now (p.latest stamp at);
    any = λ first stamp at. of_later from (life_of machine.history) stamp known.now (p.any first stamp at);
    asked = λ stamp at. (let a = p.asked stamp at in
        record { life = a.life; upto = goes_on-both a.life from (life_of machine.history) a.upto known.now; begun = a.begun; few = a.few; of = a.of });
    polled = λ number at. elim (p.polled number at) as (λ _. (number ≡ number_of first machine.round) ⊎ AreBefore (after_sending machine command).to_module machine.polls machine.round (length (after_sending machine command).to_module)) [
      | inl here ↦ inl here
      | inr before ↦ inr (before_other machine.to_module (record { octets = command_octets command; round = machine.round }) machine.polls machine.round no_poll before)
    ];
  }

  stamps_past : (s : StampState) (from : Life) (machine : Machine) (facts : ContentFacts) (event : Event) → IsPastBus event → KeepsStamps s from machine facts
      → KeepsStamps (stamps_after first s machine event) from (after settings first machine event) facts
  stamps_past s from machine facts event past p = grind (arith, past_cases)

  stamps_sent : (s : StampState) (from : Life) (machine : Machine) (facts : ContentFacts) (event : Event) (command : Command) → IsKnown settings first begin from machine
      → IsSending first machine event command → IsCommand command → KeepsStamps s from machine facts
      → KeepsStamps (stamps_after first s machine event) (life_of machine.history) (after_sending machine command) (content_with facts (Sent command))
  stamps_sent s from machine facts events.Poll command known may within p =
      subst (λ c. KeepsStamps (stamps_polled s (number_of first machine.round)) (life_of machine.history) (after_sending machine c) (content_with facts (Sent c))) (sym may)
      (stamps_poll s from machine facts _ known p)
  stamps_sent s from machine facts (events.Send sent) command known may within p =
      subst (λ c. KeepsStamps s (life_of machine.history) (after_sending machine c) (content_with facts (Sent c))) (sym may.0) (stamps_send s from machine facts _ sent (no_poll_in sent may.1) known p)
  stamps_sent s from machine facts (events.Scan raw) command known may within p = absurd may
  stamps_sent s from machine facts (events.Raise mask) command known may within p = absurd may
  stamps_sent s from machine facts events.LineSync command known may within p = absurd may
  stamps_sent s from machine facts (events.ToModule index) command known may within p = absurd may
  stamps_sent s from machine facts (events.ToCpu index) command known may within p = absurd may
  stamps_sent s from machine facts events.Restart command known may within p = absurd may

  abbrev pub stamps_above : StampState
  stamps_above = record { latest = None; asked = None; any = None; polled = None; back = false }

  pub stamps_begin : (from : Life) (machine : Machine) (facts : ContentFacts) → KeepsStamps stamps_above from machine facts
  stamps_begin from machine facts = record { none = refl; latest = λ stamp at. absurd (cc at); asked = λ stamp at. absurd (cc at); any = λ first stamp at. absurd (cc at); polled = λ number at. absurd (cc at) }

  pub stamps_are_invariant : IsInvariant settings first begin Done StampState stamps_above (stamps_after first) (λ s machine later. IsCalmOn machine later) KeepsStamps
  stamps_are_invariant = record {
    goes_on = λ s machine event rest a. calm_on machine event rest a;
    begins = λ known. stamps_begin (life_of begin.history) begin _;
    happens = λ s from machine facts event rest known past a p. stamps_past s from machine facts event past p;
    sends = λ s from machine facts event command known may within p. stamps_sent s from machine facts event command known may within p;
    receives = λ s from machine facts place frame known new at reads p. record {
      none = p.none;
      latest = p.latest;
      asked = p.asked;
      any = p.any;
      polled = λ number is. elim (p.polled number is) as (λ _. (number ≡ number_of first machine.round)
          ⊎ AreBefore machine.to_module (polls_with (poll_in frame.octets) frame.round machine.polls) machine.round (length machine.to_module)) [
            | inl here ↦ inl here
            | inr before ↦
                inr (before_received machine.to_module machine.polls machine.round (length machine.to_module) place frame (poll_in frame.octets) at refl
                (slice_get_within machine.to_module place frame at) before)
          ];
    };
    hears = λ s from machine facts place rest command answer known h a p. (
      done_heard facts h.life command answer h.awaits (says_of settings from machine facts place command answer h),
      stamps_hear s from machine facts place rest command answer known h a p,
    );
    takes = λ s from machine facts place rest number answer block known t polls a p. (
      (
        refl,
        items_keep Done (λ facts input low wide status stamp level. (refl, tt, tt)) (items_of_block answer) (content_with facts (Heard (block_answer answer))) answer.status answer.stamp,
      ),
      stamps_take s from machine facts _ place rest number answer block known t a p,
    );
  }
