-- The rule `clock` never accuses: a stamp is later than the one before it, or the same.
use Rattle.fio_ends.proofs.Names.{◌≡◌, ◌∙◌, ◌+◌, ℕ, Bool, true, false, List, [], ◌∷◌, Option, Some, None, refl, ap, sym, subst, arith, fold, if◌then◌else◌, is_some_and, same_Some, Answer, Command, Block, answer_in, says_again, Settings, Life, life_of, loads_of, scans_of, MadeBlock, Item, Entry, Gap, items_of_block, ContentFacts, Ended, Heard, Recorded, Sent, events_of_block, Clock, Event, SentFrame, Machine, start, after_sending, after_taken, IsNear, KeepsRule, StampsAreNear, below_clear, block_answer, content_begun, content_step, counter_of, frame_at_place, is_before, is_clear_end, is_some, items_and_end, option_and_then, option_or, scans_above, stamp_of, without_excuse, hears_stamp}
use Rattle.fio_message.specs.declared.commands.Command.TheVariants as commands
use Rattle.fio_link.specs.declared.event.Event.TheVariants as events
use Rattle.fio_ends.proofs.Answered.{says_of}
use Rattle.fio_ends.proofs.Clocks.{clock, counter_is_clock, not_before, offset_of}
use Rattle.fio_ends.proofs.ContentSteps.{HearsAnswer, IsKnown, IsSending, Takes}
use Rattle.fio_ends.proofs.Following.{GoesOn, goes_on-both}
use Rattle.fio_ends.proofs.ContentLines.{EachKeeps}
use Rattle.fio_ends.proofs.Lives.{goes_on-since, loads_grow, scans_grow}
use Rattle.fio_ends.proofs.MadeNow.{made_now}
use Rattle.fio_ends.proofs.Steady.{IsSteady}
use Rattle.fio_ends.proofs.Stamps.{ClockState, IsAsked, IsStamped, KeepsClock, block_stamp, clock_after, clock_is, none_before, stamp_says}

module _ (settings : Settings) (first : ℕ) (begin : Machine) where
  abbrev begin_life : Life
  begin_life = life_of begin.history

  module _ (state : ClockState) (from : Life) (machine : Machine) (facts : ContentFacts) (known : IsKnown settings first begin from machine)
      (p : KeepsClock begin_life state from machine facts) (place : ℕ) (rest : List Event)
      (near : StampsAreNear settings first machine state.asked state.before (events.ToCpu (place + 1) ∷ rest)) (steady : IsSteady begin_life (life_of machine.history)) (stamp : Option ℕ) where
    abbrev now : Life
    now = life_of machine.history

    -- the command was received after a life, whose counter is the stamp, if there is one
    module _ (life : Life) (goes_on : GoesOn from life) (upto : GoesOn life now) (asked_is : state.asked ≡ scans_of life)
        (stamp_is : (s : ℕ) → stamp ≡ Some s → s ≡ counter_of life)
        (hears : hears_stamp machine (events.ToCpu (place + 1)) ≡ is_some stamp) where
      time : (s : ℕ) → stamp ≡ Some s → s ≡ clock (offset_of begin_life) state.asked
      time s is =
          let g = goes_on-both begin_life from life known.begun goes_on in
          let low = loads_grow begin_life life g in
          let high = loads_grow life now upto in
          let loads : loads_of life ≡ loads_of begin_life = omega (arith, steady, low, high) in
          stamp_is s is ∙ counter_is_clock begin_life life g loads ∙ ap (clock (offset_of begin_life)) (sym asked_is)

      none_is_before : is_some_and stamp (λ s. is_some_and facts.clock (is_before s)) ≡ false
      none_is_before = none_before stamp facts.clock (λ s c at above.
          (let f = p.stamped c above in
          let low = scans_grow from life goes_on in
          let heard : hears_stamp machine (events.ToCpu (place + 1)) ≡ true = hears ∙ ap is_some at in
          let close : IsNear (Some f.scans) state.asked = subst (λ b. IsNear b state.asked) f.before_is (near.0 heard) in
          subst (λ t. is_before t c ≡ false) (sym (time s at))
          (subst (λ t. is_before (clock (offset_of begin_life) state.asked) t ≡ false) (sym f.time)
          (not_before (offset_of begin_life) f.scans state.asked (omega (arith, f.within, asked_is)) close))))

      -- so it is below the answer
      stamped_below : (found : Option ℕ) → stamp ≡ found → (s : ℕ) → option_or found facts.clock ≡ Some s
          → IsStamped (offset_of begin_life) now (if is_some found then Some state.asked else state.before) s
      stamped_below (Some here) at s is =
          let same : here ≡ s = same_Some _ _ is in
          let high = scans_grow life now upto in
          record {
            scans = state.asked;
            before_is = refl;
            time = sym same ∙ time here at;
            within = omega (arith, asked_is);
          }
      stamped_below None at s is =
          let f = p.stamped s is in
          let grown = scans_grow from now known.now in
          record { scans = f.scans; before_is = f.before_is; time = f.time; within = omega (arith, f.within) }

  -- ---- the invariant

  -- sending asks for nothing else
  sent_before : (state : ClockState) (machine : Machine) (event : Event) (command : Command) → IsSending first machine event command
      → (clock_after state machine event).before ≡ state.before
  sent_before state machine event command may = grind arith

  pub clock-sends : (state : ClockState) (from : Life) (machine : Machine) (facts : ContentFacts) (event : Event) (command : Command) → IsKnown settings first begin from machine
      → IsSending first machine event command → KeepsClock begin_life state from machine facts
      → KeepsClock begin_life (clock_after state machine event) (life_of machine.history) (after_sending machine command) (content_step facts (Sent command))
  clock-sends state from machine facts event command known may p = record {
    stamped = λ stamp at.
        (let f = p.stamped stamp at in
        let grown = scans_grow from (life_of machine.history) known.now in
        record { scans = f.scans; before_is = sent_before state machine event command may ∙ f.before_is; time = f.time; within = omega (arith, f.within) });
  }

  -- an answer that is no block
  pub clock-hears : (state : ClockState) (from : Life) (machine : Machine) (facts : ContentFacts) (place : ℕ) (rest : List Event) (command : Command) (answer : Answer)
      → IsKnown settings first begin from machine → HearsAnswer settings from machine facts place command answer
      → StampsAreNear settings first machine state.asked state.before (events.ToCpu (place + 1) ∷ rest) → IsAsked state.asked from machine → IsSteady begin_life (life_of machine.history)
      → KeepsClock begin_life state from machine facts
      → KeepsRule Clock (without_excuse facts) (Heard answer)
      × KeepsClock begin_life (clock_after state machine (events.ToCpu (place + 1))) (life_of machine.history) (record machine { last_to_cpu = place + 1 }) (content_step facts (Heard answer))
  clock-hears state from machine facts place rest command answer known h near received steady p =
      let now = life_of machine.history in
      let says = says_of settings from machine facts place command answer h in
      let upto = goes_on-since command h.life now h.since in
      let asked = received h.received command h.life h.since h.goes_on in
      let hears : hears_stamp machine (events.ToCpu (place + 1)) ≡ is_some (stamp_of answer) =
      ap (λ found. is_some (option_and_then (λ (frame : SentFrame). option_and_then stamp_of (answer_in frame.octets)) found)) (frame_at_place machine.to_cpu place ∙ h.at_place)
      ∙ ap (λ found. is_some (option_and_then stamp_of found)) h.spells in (
        clock_is facts answer
            ∙ none_is_before state from machine facts known p place rest near steady (stamp_of answer) h.life h.goes_on upto asked (stamp_says h.life command answer says) hears,
        record {
          stamped = λ s is.
              subst (λ b. IsStamped (offset_of begin_life) now (if b then Some state.asked else state.before) s) (sym hears)
              (stamped_below state from machine facts known p place rest near steady (stamp_of answer) h.life h.goes_on upto asked (stamp_says h.life command answer says) hears
              (stamp_of answer) refl s is);
        },
      )

  -- below the items of a block the stamp is known as above them
  clock_ended : (clear : Bool) (ended : ContentFacts) (stamp : ℕ) → (if clear then below_clear ended stamp else ended).clock ≡ ended.clock
  clock_ended true ended stamp = refl
  clock_ended false ended stamp = refl

  clock_below : (above : ContentFacts) (items : List Item) (status stamp : ℕ) → (fold content_step above (items_and_end items status stamp)).clock ≡ above.clock
  clock_below above [] status stamp = clock_ended (is_clear_end (Ended status stamp)) _ stamp
  clock_below above (Gap ∷ items) status stamp = clock_below (content_step above (Recorded Gap)) items status stamp
  clock_below above (Entry input level low wide ∷ items) status stamp = clock_below (content_step above (Recorded (Entry input level low wide))) items status stamp

  -- they have no stamp
  no_stamps : (facts : ContentFacts) (items : List Item) (status stamp : ℕ) → EachKeeps (λ facts. KeepsRule Clock (without_excuse facts)) content_step facts (items_and_end items status stamp)
  no_stamps facts [] status stamp = (tt, tt)
  no_stamps facts (Gap ∷ items) status stamp = (tt, no_stamps (content_step facts (Recorded Gap)) items status stamp)
  no_stamps facts (Entry input level low wide ∷ items) status stamp = (refl, no_stamps (content_step facts (Recorded (Entry input level low wide))) items status stamp)

  -- a block
  pub clock-takes : (state : ClockState) (from : Life) (machine : Machine) (facts : ContentFacts) (place : ℕ) (rest : List Event) (number : ℕ) (answer : Block) (block : MadeBlock)
      → IsKnown settings first begin from machine → Takes settings first from machine place number answer block
      → StampsAreNear settings first machine state.asked state.before (events.ToCpu (place + 1) ∷ rest) → IsAsked state.asked from machine → IsSteady begin_life (life_of machine.history)
      → KeepsClock begin_life state from machine facts
      → EachKeeps (λ facts. KeepsRule Clock (without_excuse facts)) content_step facts (events_of_block answer)
      × KeepsClock begin_life (clock_after state machine (events.ToCpu (place + 1))) (life_of machine.history) (after_taken machine place answer) (fold content_step facts (events_of_block answer))
  clock-takes state from machine facts place rest number answer block known t near received steady p =
      let now = life_of machine.history in
      let command = commands.Poll number in
      let upto = goes_on-since command t.life now t.since in
      let asked = received t.received command t.life t.since t.goes_on in
      let stamp = stamp_of (block_answer answer) in
      let hears : hears_stamp machine (events.ToCpu (place + 1)) ≡ is_some stamp =
      ap (λ found. is_some (option_and_then (λ (frame : SentFrame). option_and_then stamp_of (answer_in frame.octets)) found)) (frame_at_place machine.to_cpu place ∙ t.heard.at_place)
      ∙ ap is_some (block_stamp (answer_in t.heard.frame.octets) answer t.heard.spells) in
      let says = stamp_made (says_again answer.status) refl in
      let heard = content_step facts (Heard (block_answer answer)) in
      let below = clock_below heard (items_of_block answer) answer.status answer.stamp in (
        (
          clock_is facts (block_answer answer)
              ∙ none_is_before state from machine facts known p place rest near steady stamp t.life t.goes_on upto asked says hears,
          no_stamps heard (items_of_block answer) answer.status answer.stamp,
        ),
        record {
          stamped = λ s is.
              subst (λ b. IsStamped (offset_of begin_life) now (if b then Some state.asked else state.before) s) (sym hears)
              (stamped_below state from machine facts known p place rest near steady stamp t.life t.goes_on upto asked says hears
              stamp refl s (sym below ∙ is));
        },
      )
    where
      stamp_made : (again : Bool) → says_again answer.status ≡ again → (s : ℕ) → stamp_of (block_answer answer) ≡ Some s → s ≡ counter_of t.life
      stamp_made true is s at = absurd (cc (sym (ap (λ a. if a then None else Some answer.stamp) is) ∙ at))
      stamp_made false is s at =
          let m = made_now settings first begin from machine place number answer block known t is in
          sym (same_Some _ _ (sym (ap (λ a. if a then None else Some answer.stamp) is) ∙ at)) ∙ t.carried.stamp ∙ ap (λ (b : MadeBlock). b.stamp) m.is

-- what the rule reads above a log
abbrev pub clock_above : Bool → ClockState
clock_above begun = record { asked = 0; before = scans_above begun }

-- at the start of both ends the counter is that of the block above
pub clock_begun : KeepsClock [] (clock_above true) [] start content_begun
clock_begun = grind (arith, offset_of, same_Some, time)
