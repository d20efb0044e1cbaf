-- What holds since a CPU has begun anew, with any number and nothing under way: it takes a stretch of the module's blocks.
use Rattle.fio_link.proofs.Names.{◌≡◌, ℕ, ◌+◌, ◌-◌, ◌≤◌, ◌⊎◌, Bool, true, false, List, [], ◌∷◌, ◌++◌, length, Option, Some, None, slice_get, refl, ap, sym, subst, ◌∙◌, arith, inl, inr, append-nil, option_map, Answer, Command, answer_octets, Block, says_again, command_in, polled_number, block_in, Settings, AreInRange, History, Life, life_of, life_after_command, MadeBlock, newest_poll, is_new, blocks_of, Sending, answer_of_sending, answer_if, Item, Event, SentFrame, Machine, start, number_of, answer_frames, after_delivery_to_module, Leads, HasPoll, HasBlock, HaveNoRestart, blocks_in, next_round, CarriesBlock}
use Rattle.std.specs.Prelude.{not}
use Rattle.fio_message.specs.declared.commands.Command.TheVariants as commands
use Rattle.fio_module.proofs.ListParts.{get_last}
use Rattle.fio_link.specs.CpuRestarts.{with_new_cpu, BeginsAgain}
use Rattle.fio_link.proofs.SentMessages.{each_more, none_more}
use Rattle.fio_link.proofs.Spelled.{said}
use Rattle.fio_link.proofs.Received.{no_block_reply, said_again}
use Rattle.fio_link.proofs.Kept.{after_frame, after_poll, blocks_if}
use Rattle.fio_link.proofs.HeardRows.{after_taken, InOrder}
use Rattle.fio_link.proofs.Events.{IsKeptByEvents, along}
use Rattle.fio_link.proofs.OneLife.{record_of, poll_continues, Continues}
use Rattle.fio_link.proofs.SinceRound.{CarriesSince, Since, since_received, since_taken}
use Rattle.fio_link.proofs.CpuOrder.{IsAnswered, is_poll, answered, order_rows, order_next, order_begun}

module _ (settings : Settings) (range : AreInRange settings) (first : ℕ) where
  -- the CPU has begun anew, and these blocks had been made: no poll has been received since then
  pub record IsUnpolled (made blocks : List MadeBlock) (polls : List ℕ) (items : List Item) : Type 0 where
    pub none : polls ≡ []
    pub same : blocks ≡ made
    pub nothing : items ≡ []

  -- or since the first was, the CPU takes a stretch of blocks
  pub record HasBegun (made blocks : List MadeBlock) (latest : Option ℕ) (machine : Machine) : Type 0 where
    pub before : List MadeBlock
    pub since : Since first start before blocks latest machine
    pub polled : 1 ≤ next_round machine.polls
    pub begins : (before ≡ made) ⊎ BeginsAgain made before machine.to_cpu

  abbrev pub Begins : List MadeBlock → List MadeBlock → Option ℕ → Machine → Type 0
  Begins made blocks latest machine = IsUnpolled made blocks machine.polls machine.items ⊎ HasBegun made blocks latest machine

  abbrev pub BeginsAt : List MadeBlock → Machine → Type 0
  BeginsAt made machine = Begins made (blocks_in settings machine) (newest_poll (life_of machine.history)) machine

  module _ (made : List MadeBlock) where
    module _ (machine : Machine) (o : InOrder first machine) (place : ℕ) (frame : SentFrame)
        (le : machine.last_to_module ≤ place + 1) (at : slice_get machine.to_module place ≡ Some frame) where
      abbrev life : Life
      life = life_of machine.history

      abbrev blocks : List MadeBlock
      blocks = blocks_in settings machine

      -- the first poll is received
      first_poll : (number : ℕ) (new : Bool) → is_new (newest_poll life) number ≡ new → number ≡ number_of first frame.round
          → HasPoll machine.to_module place number frame.round
          → (a : IsAnswered settings life number new) → IsUnpolled made blocks machine.polls machine.items
          → HasBegun made (blocks_if settings life new) (Some number)
          (after_poll machine place frame (record { octets = answer_octets (answer_of_sending a.sending); round = frame.round } ∷ []))
      first_poll number new is named poll a u =
          let none : next_round machine.polls ≡ 0 = ap next_round u.none in
          let low = o.polls.sent place number frame.round poll in
          let behind = o.answers.behind in
          let begun : machine.round ≡ 0 = omega arith in
          let round : frame.round ≡ 0 = omega arith in
          let f : SentFrame = record { octets = answer_octets (answer_of_sending a.sending); round = frame.round } in
          record {
            before = a.earlier;
            since = record {
              rest = a.block ∷ [];
              split = a.made;
              made = omega arith;
              polled = ap Some named;
              started = omega arith;
              kept = let first_time : 0 ≡ machine.round - 0 = omega arith in u.nothing ∙ ap (λ n. record_of n (a.block ∷ [])) first_time;
              carries = each_more block_in machine.to_cpu f
                  (λ p answer r. 0 ≤ r → CarriesSince (blocks_if settings life new) (length a.earlier + (r - 0)) answer)
                  (λ p answer r has le. absurd (omega (arith, o.answers.answered p answer r has)))
                  (λ answer spells le.
                  let there : length a.earlier + (frame.round - 0) ≡ length a.earlier = omega arith in
                  record {
                    block = a.block;
                    is_made = ap (λ bs. slice_get bs (length a.earlier + (frame.round - 0))) a.made
                        ∙ ap (slice_get (a.earlier ++ a.block ∷ [])) there ∙ get_last a.earlier a.block;
                    carried = subst (λ x. CarriesBlock x a.block) (cc (a.reads, spells)) a.carried;
                  });
            };
            polled = omega arith;
            begins = begins new refl;
          }
        where
          begins : (n : Bool) → new ≡ n
              → (a.earlier ≡ made) ⊎ BeginsAgain made a.earlier (machine.to_cpu ++ record { octets = answer_octets (answer_of_sending a.sending); round = frame.round } ∷ [])
          begins true is_so = inl (a.since is_so ∙ u.same)
          begins false is_so =
              let none : next_round machine.polls ≡ 0 = ap next_round u.none in
              let same : blocks_if settings life new ≡ blocks = ap (blocks_if settings life) is_so in
              inr (record {
                newest = a.block;
                is_newest = sym u.same ∙ sym same ∙ a.made;
                again = λ p answer has.
                    each_more block_in machine.to_cpu (record { octets = answer_octets (answer_of_sending a.sending); round = frame.round })
                    (λ p answer r. says_again answer.status ≡ true)
                    (λ p answer r has. absurd (omega (arith, o.answers.answered p answer r has)))
                    (λ answer spells.
                    let same : said a.sending ≡ answer = cc (a.reads, spells) in
                    subst (λ (x : Block). says_again x.status ≡ true) same (said_again a.sending ∙ a.again ∙ ap not is_so))
                    p answer 0 has;
              })

      -- answers to the first polls still say so
      again_poll : (number : ℕ) (before : List MadeBlock) (new : Bool) → Continues new frame.round machine.polls
          → (a : IsAnswered settings life number new) → 1 ≤ next_round machine.polls
          → BeginsAgain made before machine.to_cpu
          → BeginsAgain made before (machine.to_cpu ++ record { octets = answer_octets (answer_of_sending a.sending); round = frame.round } ∷ [])
      again_poll number before new met a polled b =
          record {
            newest = b.newest;
            is_newest = b.is_newest;
            again = λ p answer has.
                each_more block_in machine.to_cpu (record { octets = answer_octets (answer_of_sending a.sending); round = frame.round })
                (λ p answer r. r ≡ 0 → says_again answer.status ≡ true)
                (λ p answer r has zero. b.again p answer (subst (HasBlock machine.to_cpu p answer) zero has))
                (λ answer spells zero.
                let same : said a.sending ≡ answer = cc (a.reads, spells) in
                subst (λ (x : Block). says_again x.status ≡ true) same (says new refl met zero))
                p answer 0 has refl;
          }
        where
          says : (n : Bool) → new ≡ n → Continues n frame.round machine.polls → frame.round ≡ 0 → says_again (said a.sending).status ≡ true
          says true is_so m zero = absurd (omega (arith, m.0))
          says false is_so m zero = said_again a.sending ∙ a.again ∙ ap not is_so

      again_other : (before : List MadeBlock) (reply : Option Answer)
          → ((answer : Answer) → reply ≡ Some answer → block_in (answer_octets answer) ≡ None)
          → BeginsAgain made before machine.to_cpu → BeginsAgain made before (machine.to_cpu ++ answer_frames reply frame.round)
      again_other before None other b = subst (BeginsAgain made before) (sym (append-nil machine.to_cpu)) b
      again_other before (Some answer) other b =
          record {
            newest = b.newest;
            is_newest = b.is_newest;
            again = λ p a has. b.again p a (none_more block_in machine.to_cpu (record { octets = answer_octets answer; round = frame.round }) (other answer refl) p a 0 has);
          }

      begun_frame : (before : List MadeBlock) → Since first start before blocks (newest_poll life) machine → 1 ≤ next_round machine.polls
          → (command : Option Command) → command_in frame.octets ≡ command
          → BeginsAgain made before machine.to_cpu → BeginsAgain made before (after_frame settings machine place frame command).to_cpu
      begun_frame before since polled (Some (commands.Poll number)) spells b =
          let a = answered settings range first machine o place frame le at number spells in
          let p = poll_continues first machine o (newest_poll life) since.polled place number frame le at (ap polled_number spells) in
          subst (λ (sent : Option Sending). BeginsAgain made before (machine.to_cpu ++ answer_frames (option_map answer_of_sending sent) frame.round))
          (sym a.is_sent) (again_poll number before (is_new (newest_poll life) number) p.met a polled b)
      begun_frame before since polled command spells b =
          again_other before (answer_if settings life command) (no_block_reply settings life command refl) b

      still_polled : (command : Option Command) → 1 ≤ next_round machine.polls
          → 1 ≤ next_round (after_frame settings machine place frame command).polls
      still_polled (Some (commands.Poll number)) polled = omega arith
      still_polled command polled = polled

      unpolled_frame : (command : Option Command) → command_in frame.octets ≡ command
          → IsUnpolled made blocks machine.polls machine.items
          → Begins made (blocks_of settings (life_after_command command life)) (newest_poll (life_after_command command life))
          (after_frame settings machine place frame command)
      unpolled_frame (Some (commands.Poll number)) spells u =
          let a = answered settings range first machine o place frame le at number spells in
          let poll = is_poll settings range first machine o place frame le at number spells in
          inr (subst (λ (sent : Option Sending). HasBegun made (blocks_if settings life (is_new (newest_poll life) number)) (Some number)
          (after_poll machine place frame (answer_frames (option_map answer_of_sending sent) frame.round))) (sym a.is_sent)
          (first_poll number (is_new (newest_poll life) number) refl (o.polls.numbers place number frame.round poll) poll a u))
      unpolled_frame command spells u = inl u

      begins_received : BeginsAt made machine → BeginsAt made (after_delivery_to_module settings machine (place + 1) (Some frame))
      begins_received (inl u) = unpolled_frame (command_in frame.octets) refl u
      begins_received (inr b) =
          inr (record {
            before = b.before;
            since = since_received settings range first start b.before machine o b.since place frame le at;
            polled = still_polled (command_in frame.octets) b.polled;
            begins = again_if b.begins;
          })
        where
          again_if : (b.before ≡ made) ⊎ BeginsAgain made b.before machine.to_cpu
              → (b.before ≡ made) ⊎ BeginsAgain made b.before (after_delivery_to_module settings machine (place + 1) (Some frame)).to_cpu
          again_if (inl same) = inl same
          again_if (inr again) = inr (begun_frame b.before b.since b.polled (command_in frame.octets) refl again)

    -- something happens that the blocks, the polls and the answers do not see
    begun_moved : (now : List MadeBlock) (latest : Option ℕ) (machine : Machine) (history : History) (frames : List SentFrame) (index : ℕ)
        → HasBegun made now latest machine
        → HasBegun made now latest (record machine { history = history; to_module = frames; last_to_cpu = index })
    begun_moved now latest machine history frames index b =
        let s = b.since in
        record {
          before = b.before;
          since = record { rest = s.rest; split = s.split; made = s.made; polled = s.polled; started = s.started; kept = s.kept; carries = s.carries };
          polled = b.polled;
          begins = b.begins;
        }

    begins_moved : (now : List MadeBlock) (latest : Option ℕ) (machine : Machine) (history : History) (frames : List SentFrame) (index : ℕ)
        → Begins made now latest machine
        → Begins made now latest (record machine { history = history; to_module = frames; last_to_cpu = index })
    begins_moved now latest machine history frames index (inl u) = inl u
    begins_moved now latest machine history frames index (inr b) = inr (begun_moved now latest machine history frames index b)

    begins_taken : (machine : Machine) (o : InOrder first machine) (place : ℕ) (answer : Block)
        → HasBlock machine.to_cpu place answer machine.round → BeginsAt made machine → BeginsAt made (after_taken machine place answer)
    begins_taken machine o place answer has (inl u) =
        let none : next_round machine.polls ≡ 0 = ap next_round u.none in
        absurd (omega (arith, o.answers.answered place answer machine.round has))
    begins_taken machine o place answer has (inr b) =
        inr (record {
          before = b.before;
          since = since_taken settings range first start b.before machine o b.since place answer has;
          polled = b.polled;
          begins = b.begins;
        })

    begins_rows : IsKeptByEvents settings first (InOrder first) (BeginsAt made)
    begins_rows =
        record {
          scans = λ machine raw i b. begins_moved (blocks_in settings machine) (newest_poll (life_of machine.history)) machine _ machine.to_module machine.last_to_cpu b;
          syncs = λ machine i b. begins_moved (blocks_in settings machine) (newest_poll (life_of machine.history)) machine _ machine.to_module machine.last_to_cpu b;
          raises = λ machine mask i b. begins_moved (blocks_in settings machine) (newest_poll (life_of machine.history)) machine _ machine.to_module machine.last_to_cpu b;
          sends = λ machine command i number b. begins_moved (blocks_in settings machine) (newest_poll (life_of machine.history)) machine machine.history _ machine.last_to_cpu b;
          receives = λ machine place frame i le at b. begins_received machine i place frame le at b;
          passes = λ machine index i le b. begins_moved (blocks_in settings machine) (newest_poll (life_of machine.history)) machine machine.history machine.to_module index b;
          takes = λ machine place answer i has b. begins_taken machine i place answer has b;
        }

  -- what holds at the end of a life
  pub record EndsLife (made : List MadeBlock) (last : Machine) : Type 0 where
    pub order : InOrder first last
    pub begins : BeginsAt made last

  pub ends_life : (machine last : Machine) (events : List Event) → HaveNoRestart events → Leads settings first (with_new_cpu machine) events last
      → EndsLife (blocks_in settings machine) last
  ends_life machine last events none leads =
      let o = order_begun settings range first machine in
      let begun = inl (record { none = refl; same = refl; nothing = refl }) in
      record {
        order = along settings first (InOrder first) (InOrder first) (λ machine o. o) (order_rows settings range first) (order_next settings range first) events (with_new_cpu machine) last none leads o o;
        begins = along settings first (InOrder first) (BeginsAt (blocks_in settings machine)) (λ machine o. o) (begins_rows (blocks_in settings machine)) (order_next settings range first)
            events (with_new_cpu machine) last none leads o begun;
      }
