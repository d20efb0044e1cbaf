-- What runs keep since a clean round, whatever came before it, while nothing is restarted.
use Rattle.fio_link.proofs.Names.{◌≡◌, ℕ, ◌+◌, ◌-◌, ◌≤◌, Bool, true, false, List, [], ◌∷◌, ◌++◌, length, Option, Some, None, slice_get, refl, ap, sym, subst, ◌∙◌, arith, length-append, append-nil, append_assoc, option_map, flat_map, take-append-le, Answer, Command, answer_octets, Block, command_in, polled_number, block_in, Settings, AreInRange, Life, life_of, life_after_command, MadeBlock, newest_poll, is_new, blocks_of, next_block, Sending, answer_of_sending, first_sending, repeat_of, answer_if, items_of_block, Event, SentFrame, Machine, number_of, refusal, answer_frames, after_delivery_to_module, after_delivery_to_cpu, after, Leads, HasBlock, IsNotRestart, HaveNoRestart, blocks_in, next_round, CarriesBlock, newest_number}
use Rattle.fio_message.specs.declared.commands.Command.TheVariants as commands
use Rattle.fio_module.proofs.ListParts.{get_in_back, get_last}
use Rattle.fio_link.specs.declared.event.Event.TheVariants as events
use Rattle.fio_link.proofs.Places.{get_before_push}
use Rattle.fio_link.proofs.SentMessages.{each_more, none_more}
use Rattle.fio_link.proofs.Spelled.{said}
use Rattle.fio_link.proofs.MadeBlocks.{next_fits}
use Rattle.fio_link.proofs.Received.{no_block_reply, same_number, first_carries, again_carries, carried_back, carried_says, latest_sent, newest_fits}
use Rattle.fio_link.proofs.Kept.{after_frame, HasInvariant, after_poll, after_other, blocks_if, sending_if}
use Rattle.fio_link.proofs.HeardRows.{after_taken, InOrder, in_order, after_heard}
use Rattle.fio_link.proofs.Events.{after_delivery}
use Rattle.fio_link.proofs.Rows.{keeps}
use Rattle.fio_link.proofs.OneLife.{recorded_of, record_of, Continues, poll_continues, record_of-next}

-- a block answer of a round carries the block with this index after these
pub record CarriesSince (blocks : List MadeBlock) (place : ℕ) (answer : Block) : Type 0 where
  pub block : MadeBlock
  pub is_made : slice_get blocks place ≡ Some block
  pub carried : CarriesBlock answer block

-- What holds since the clean round that ended at this machine, for the blocks made in the present life and its
-- latest poll: each new poll made a block of its round, and the record has gained what the taken ones are.
pub record Since (first : ℕ) (base : Machine) (before blocks : List MadeBlock) (latest : Option ℕ) (machine : Machine) : Type 0 where
  pub rest : List MadeBlock
  pub split : blocks ≡ before ++ rest
  pub made : next_round machine.polls ≡ base.round + length rest
  pub polled : latest ≡ newest_number first machine.polls
  pub started : base.round ≤ machine.round
  pub kept : machine.items ≡ base.items ++ record_of (machine.round - base.round) rest
  pub carries : (place : ℕ) (answer : Block) (round : ℕ) → HasBlock machine.to_cpu place answer round → base.round ≤ round
      → CarriesSince blocks (length before + (round - base.round)) answer

-- the same of a machine, for the settings
abbrev pub IsSinceBlocks : Settings → ℕ → Machine → List MadeBlock → Machine → Type 0
IsSinceBlocks settings first base before machine =
    Since first base before (blocks_in settings machine) (newest_poll (life_of machine.history)) machine

abbrev pub IsSince : Settings → ℕ → Machine → Machine → Type 0
IsSince settings first base machine = IsSinceBlocks settings first base (blocks_in settings base) machine

-- one more block changes none that were made
carries-longer : (blocks : List MadeBlock) (block : MadeBlock) (place : ℕ) (answer : Block) → CarriesSince blocks place answer
    → CarriesSince (blocks ++ block ∷ []) place answer
carries-longer blocks block place answer c =
    record { block = c.block; is_made = get_before_push blocks (block ∷ []) place c.block c.is_made; carried = c.carried }

module _ (first : ℕ) (base : Machine) (before blocks : List MadeBlock) (latest : Option ℕ) (machine : Machine)
    (o : Since first base before blocks latest machine) (place : ℕ) (frame : SentFrame) where
  -- a frame that is no poll is received, and what it gets is no block answer
  since-other : (reply : Option Answer)
      → ((answer : Answer) → reply ≡ Some answer → block_in (answer_octets answer) ≡ None)
      → Since first base before blocks latest (after_other machine place frame (answer_frames reply frame.round))
  since-other None other =
      record {
        rest = o.rest;
        split = o.split;
        made = o.made;
        polled = o.polled;
        started = o.started;
        kept = o.kept;
        carries = subst (λ frames. (p : ℕ) (a : Block) (r : ℕ) → HasBlock frames p a r → base.round ≤ r
            → CarriesSince blocks (length before + (r - base.round)) a) (sym (append-nil machine.to_cpu)) o.carries;
      }
  since-other (Some answer) other =
      let f : SentFrame = record { octets = answer_octets answer; round = frame.round } in
      record {
        rest = o.rest;
        split = o.split;
        made = o.made;
        polled = o.polled;
        started = o.started;
        kept = o.kept;
        carries = λ p a r h. o.carries p a r (none_more block_in machine.to_cpu f (other answer refl) p a r h);
      }

  -- a new poll is received
  since-new : (number : ℕ) (block : MadeBlock) (octets : List ℕ) (answer : Block)
      → number ≡ number_of first frame.round → Continues true frame.round machine.polls
      → machine.round ≤ next_round machine.polls
      → block_in octets ≡ Some answer → CarriesBlock answer block
      → Since first base before (blocks ++ block ∷ []) (Some number)
      (after_poll machine place frame (record { octets = octets; round = frame.round } ∷ []))
  since-new number block octets answer numbered met upto reads carried =
      let made : next_round machine.polls ≡ base.round + length o.rest = o.made in
      let next : frame.round ≡ next_round machine.polls = met.0 in
      let count : length blocks ≡ length before + length o.rest = ap length o.split ∙ length-append before o.rest in
      let there : length before + (frame.round - base.round) ≡ length blocks = omega arith in
      record {
        rest = o.rest ++ block ∷ [];
        split = ap (λ bs. bs ++ block ∷ []) o.split ∙ append_assoc before o.rest (block ∷ []);
        made = omega (arith, length-append o.rest (block ∷ []));
        polled = ap Some numbered;
        started = o.started;
        kept = o.kept ∙ ap (λ bs. base.items ++ flat_map recorded_of bs) (sym (take-append-le (machine.round - base.round) o.rest (block ∷ []) (omega arith)));
        carries = each_more block_in machine.to_cpu (record { octets = octets; round = frame.round })
            (λ p a r. base.round ≤ r → CarriesSince (blocks ++ block ∷ []) (length before + (r - base.round)) a)
            (λ p a r h le. carries-longer blocks block (length before + (r - base.round)) a (o.carries p a r h le))
            (λ a spells le. record {
              block = block;
              is_made = ap (slice_get (blocks ++ block ∷ [])) there ∙ get_last blocks block;
              carried = subst (λ x. CarriesBlock x block) (cc (reads, spells)) carried;
            });
      }

  -- the newest poll is received again, and the newest block is sent again
  since-repeated : (number : ℕ) (octets : List ℕ) (answer : Block) (earlier : List MadeBlock) (block : MadeBlock)
      → number ≡ number_of first frame.round → Continues false frame.round machine.polls
      → blocks ≡ earlier ++ block ∷ []
      → block_in octets ≡ Some answer → CarriesBlock answer block
      → Since first base before blocks (Some number)
      (after_poll machine place frame (record { octets = octets; round = frame.round } ∷ []))
  since-repeated number octets answer earlier block numbered met newest reads carried =
      let made : next_round machine.polls ≡ base.round + length o.rest = o.made in
      let next : frame.round + 1 ≡ next_round machine.polls = met.0 in
      let count : length blocks ≡ length before + length o.rest = ap length o.split ∙ length-append before o.rest in
      let last : length blocks ≡ length earlier + 1 = ap length newest ∙ length-append earlier (block ∷ []) in
      record {
        rest = o.rest;
        split = o.split;
        made = met.0 ∙ o.made;
        polled = ap Some numbered;
        started = o.started;
        kept = o.kept;
        carries = each_more block_in machine.to_cpu (record { octets = octets; round = frame.round })
            (λ p a r. base.round ≤ r → CarriesSince blocks (length before + (r - base.round)) a)
            o.carries
            (λ a spells le.
            let there : length before + (frame.round - base.round) ≡ length earlier = omega arith in
            record {
              block = block;
              is_made = ap (λ bs. slice_get bs (length before + (frame.round - base.round))) newest
                  ∙ ap (slice_get (earlier ++ block ∷ [])) there ∙ get_last earlier block;
              carried = subst (λ x. CarriesBlock x block) (cc (reads, spells)) carried;
            });
      }

module _ (settings : Settings) (range : AreInRange settings) (first : ℕ) (base : Machine) (before : List MadeBlock) (machine : Machine)
    (i : InOrder first machine) (o : IsSinceBlocks settings first base before machine) where
  abbrev life : Life
  life = life_of machine.history

  -- a poll is received, new or not
  received_poll : (place number : ℕ) (frame : SentFrame) (new : Bool) → is_new (newest_poll life) number ≡ new
      → number ≡ number_of first frame.round → number ≤ 255 → Continues new frame.round machine.polls
      → Since first base before (blocks_if settings life new) (Some number)
      (after_poll machine place frame (answer_frames (option_map answer_of_sending (sending_if settings life number new)) frame.round))
  received_poll place number frame true is named fits met =
      let sending = first_sending settings life number in
      let carried = first_carries settings life number in
      since-new first base before (blocks_of settings life) (newest_poll life) machine o place frame
      number (next_block settings life) (answer_octets (answer_of_sending sending)) (said sending) named met i.answers.behind
      (carried_back settings.per_block sending (next_block settings life) range.few_per_block fits (next_fits settings life) carried)
      (carried_says sending (next_block settings life) carried)
  received_poll place number frame false is named fits met =
      let found = latest_sent settings life number (same_number (newest_poll life) number is) in
      let l = found.1 in
      let again = repeat_of found.0 in
      let sent_number : again.number ≡ number = l.number in
      let carried = again_carries found.0 l.block l.carried in
      subst (λ (latest : Option Sending). Since first base before (blocks_of settings life) (Some number)
      (after_poll machine place frame (answer_frames (option_map answer_of_sending (option_map repeat_of latest)) frame.round))) (sym l.is)
      (since-repeated first base before (blocks_of settings life) (newest_poll life) machine o place frame
      number (answer_octets (answer_of_sending again)) (said again) l.earlier l.block named met l.made
      (carried_back settings.per_block again l.block range.few_per_block (omega arith) (newest_fits settings life l.earlier l.block l.made) carried)
      (carried_says again l.block carried))

  -- a frame is received that is read as this command, or as none
  received_frame : (place : ℕ) (frame : SentFrame) → machine.last_to_module ≤ place + 1
      → slice_get machine.to_module place ≡ Some frame
      → (command : Option Command) → command_in frame.octets ≡ command
      → Since first base before (blocks_of settings (life_after_command command life)) (newest_poll (life_after_command command life))
      (after_frame settings machine place frame command)
  received_frame place frame le at (Some (commands.Poll number)) spells =
      let p = poll_continues first machine i (newest_poll life) o.polled place number frame le at
      (ap polled_number spells) in
      received_poll place number frame (is_new (newest_poll life) number) refl p.named p.fits p.met
  received_frame place frame le at command spells =
      since-other first base before (blocks_of settings life) (newest_poll life) machine o place frame
      (answer_if settings life command) (no_block_reply settings life command refl)

  -- the module receives a frame
  pub since_received : (place : ℕ) (frame : SentFrame) → machine.last_to_module ≤ place + 1
      → slice_get machine.to_module place ≡ Some frame
      → IsSinceBlocks settings first base before (after_delivery_to_module settings machine (place + 1) (Some frame))
  since_received place frame le at = received_frame place frame le at (command_in frame.octets) refl

  -- the CPU hears a frame and takes nothing
  pub since_passed : (index : ℕ) → IsSinceBlocks settings first base before (record machine { last_to_cpu = index })
  since_passed index =
      record { rest = o.rest; split = o.split; made = o.made; polled = o.polled; started = o.started; kept = o.kept; carries = o.carries }

  -- the CPU takes the block of its round
  pub since_taken : (place : ℕ) (answer : Block) → HasBlock machine.to_cpu place answer machine.round
      → IsSinceBlocks settings first base before (after_taken machine place answer)
  since_taken place answer block =
      let b = o.carries place answer machine.round block o.started in
      let k = machine.round - base.round in
      let one_more : machine.round + 1 - base.round ≡ k + 1 = omega (arith, o.started) in
      let at : slice_get (before ++ o.rest) (length before + k) ≡ Some b.block =
      ap (λ bs. slice_get bs (length before + k)) (sym o.split) ∙ b.is_made in
      let less : length before + k - length before ≡ k = omega arith in
      let found : slice_get o.rest k ≡ Some b.block =
      ap (slice_get o.rest) (sym less) ∙ get_in_back before o.rest (length before + k) b.block (omega arith) at in
      record {
        rest = o.rest;
        split = o.split;
        made = o.made;
        polled = o.polled;
        started = omega (arith, o.started);
        kept =
            ap (λ its. its ++ items_of_block answer) o.kept
            ∙ append_assoc base.items (record_of k o.rest) (items_of_block answer)
            ∙ ap (λ its. base.items ++ its) (record_of-next o.rest k (record_of k o.rest) answer b.block found b.carried refl)
            ∙ ap (λ n. base.items ++ record_of n o.rest) (sym one_more);
        carries = o.carries;
      }

  -- the CPU hears a frame
  since_heard : (place : ℕ) (frame : SentFrame) → machine.last_to_cpu ≤ place + 1
      → slice_get machine.to_cpu place ≡ Some frame
      → IsSinceBlocks settings first base before (after_delivery_to_cpu first machine (place + 1) (Some frame))
  since_heard place frame le at =
      after_heard first machine i (IsSinceBlocks settings first base before) place frame le at
      (since_passed (place + 1)) (since_taken place)

  -- each event but a restart keeps it
  since_once : (event : Event) → IsNotRestart event → refusal machine event ≡ None
      → IsSinceBlocks settings first base before (after settings first machine event)
  since_once events.Restart none fine = absurd none
  since_once (events.ToModule index) none fine =
      after_delivery (λ n found. IsSinceBlocks settings first base before (after_delivery_to_module settings machine n found))
      machine.to_module machine.last_to_module index fine since_received
  since_once (events.ToCpu index) none fine =
      after_delivery (λ n found. IsSinceBlocks settings first base before (after_delivery_to_cpu first machine n found))
      machine.to_cpu machine.last_to_cpu index fine since_heard
  since_once event none fine =
      record { rest = o.rest; split = o.split; made = o.made; polled = o.polled; started = o.started; kept = o.kept; carries = o.carries }

-- events that lead on keep it
pub since_all : (settings : Settings) → AreInRange settings
    → (first : ℕ) (base : Machine) (events : List Event) (machine last : Machine)
    → HaveNoRestart events → Leads settings first machine events last
    → HasInvariant settings first machine → IsSince settings first base machine
    → IsSince settings first base last
since_all settings range first base [] machine last none leads i o = subst (IsSince settings first base) (sym leads) o
since_all settings range first base (event ∷ events) machine last none leads i o =
    since_all settings range first base events (after settings first machine event) last none.1 leads.1
    (keeps settings range first machine i event leads.0)
    (since_once settings range first base (blocks_in settings base) machine (in_order settings first machine i) o event none.0 leads.0)
