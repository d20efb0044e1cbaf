-- Each event of the link machine but a restart keeps what runs without restarts keep.
use Rattle.fio_link.proofs.Names.{◌≡◌, ℕ, ◌+◌, ◌≤◌, Bool, true, false, List, [], ◌∷◌, length, Option, Some, slice_get, refl, ap, sym, subst, ◌∙◌, arith, option_map, Command, answer_octets, Block, command_in, polled_number, Settings, AreInRange, Life, life_of, life_after_command, newest_poll, is_new, blocks_of, next_block, Sending, answer_of_sending, first_sending, repeat_of, answer_if, Event, SentFrame, Machine, start, number_of, answer_frames, polls_with, after_delivery_to_module, after, Leads, IsRun, HasBlock, HaveNoRestart, blocks_in, next_round}
use Rattle.fio_message.specs.declared.commands.Command.TheVariants as commands
use Rattle.fio_link.specs.Rounds.{CarriesBlockOf}
use Rattle.fio_link.proofs.Spelled.{said}
use Rattle.fio_link.proofs.MadeBlocks.{next_fits}
use Rattle.fio_link.proofs.Received.{no_block_reply, same_number, first_carries, again_carries, carried_back, said_again, latest_sent, newest_fits}
use Rattle.fio_link.proofs.AllLives.{past_log, past_blocks}
use Rattle.fio_link.proofs.Makers.{makers_of, makers_after}
use Rattle.fio_link.proofs.Kept.{after_frame, HasInvariant, after_poll, blocks_if, sending_if, makers_if}
use Rattle.fio_link.proofs.HeardRows.{after_taken, in_order}
use Rattle.fio_link.proofs.Events.{IsKeptByEvents, along}
use Rattle.fio_link.proofs.Rows.{keeps-start, keeps_all, kept_without_restart}
use Rattle.fio_link.proofs.OneLife.{InOneLife, all_in_life, Continues, poll_continues, record_of-next, life-other, life-new, life-repeated}

-- what a run without restarts keeps of a machine
abbrev pub HasOneLife : Settings → ℕ → Machine → Type 0
HasOneLife settings first machine =
    InOneLife first (past_log machine.history) (past_blocks settings machine.history) (blocks_in settings machine)
    (newest_poll (life_of machine.history)) (makers_of machine.history machine.polls) machine

module _ (settings : Settings) (range : AreInRange settings) (first : ℕ) (machine : Machine)
    (i : HasInvariant settings first machine) (o : HasOneLife settings first machine) where
  abbrev life : Life
  life = life_of machine.history

  abbrev makers : List ℕ
  makers = makers_of machine.history machine.polls

  -- each block answer carries the block of its round
  pub carries_own : (place : ℕ) (answer : Block) (round : ℕ) → HasBlock machine.to_cpu place answer round
      → CarriesBlockOf first (blocks_in settings machine) answer round
  carries_own place answer round has =
      let b = i.carry place answer round has in
      let same : round ≡ b.place = o.own b.place round b.made_by in
      let all = all_in_life settings machine.history o.no_log o.no_blocks in
      record {
        number = b.number;
        in_sequence = b.in_sequence;
        block = b.block;
        is_made =
            ap (slice_get (blocks_in settings machine)) same
            ∙ ap (λ blocks. slice_get blocks b.place) (sym all) ∙ b.is_made;
        carried = b.carried;
      }

  -- a poll is received, new or not
  received_poll : (place number : ℕ) (frame : SentFrame) (new : Bool) → is_new (newest_poll life) number ≡ new
      → number ≡ number_of first frame.round → number ≤ 255 → Continues new frame.round machine.polls
      → InOneLife first (past_log machine.history) (past_blocks settings machine.history) (blocks_if settings life new) (Some number) (makers_if makers frame.round new)
      (after_poll machine place frame (answer_frames (option_map answer_of_sending (sending_if settings life number new)) frame.round))
  received_poll place number frame true is named fits met =
      let sending = first_sending settings life number in
      let block = next_block settings life in
      let made : next_round machine.polls ≡ length (blocks_of settings life) = o.made in
      let count : length makers ≡ length (blocks_of settings life) =
      i.received.makers_in_order.count ∙ ap length (all_in_life settings machine.history o.no_log o.no_blocks) in
      let upto : machine.round ≤ next_round machine.polls = i.answers.behind in
      life-new first (past_log machine.history) (past_blocks settings machine.history) (blocks_of settings life) (newest_poll life) makers machine o place frame
      number block (answer_octets (answer_of_sending sending)) (said sending) named met count (omega arith)
      (carried_back settings.per_block sending block range.few_per_block fits
      (next_fits settings life) (first_carries settings life number))
      (said_again sending)
  received_poll place number frame false is named fits met =
      let found = latest_sent settings life number (same_number (newest_poll life) number is) in
      let l = found.1 in
      let again = repeat_of found.0 in
      let sent_number : again.number ≡ number = l.number in
      subst (λ (latest : Option Sending). InOneLife first (past_log machine.history) (past_blocks settings machine.history) (blocks_of settings life) (Some number) makers
      (after_poll machine place frame (answer_frames (option_map answer_of_sending (option_map repeat_of latest)) frame.round))) (sym l.is)
      (life-repeated first (past_log machine.history) (past_blocks settings machine.history) (blocks_of settings life) (newest_poll life) makers machine o place frame
      number (answer_octets (answer_of_sending again)) (said again) named met
      (carried_back settings.per_block again l.block range.few_per_block (omega arith)
      (newest_fits settings life l.earlier l.block l.made) (again_carries found.0 l.block l.carried))
      (said_again again))

  -- a frame is received that is read as this command, or as none
  received_frame : (place : ℕ) (frame : SentFrame) → machine.last_to_module ≤ place + 1
      → slice_get machine.to_module place ≡ Some frame
      → (command : Option Command) → command_in frame.octets ≡ command
      → InOneLife first (past_log machine.history) (past_blocks settings machine.history) (blocks_of settings (life_after_command command life)) (newest_poll (life_after_command command life))
      (makers_after (polled_number command) (newest_poll life) (makers_of machine.history)
      (polls_with (polled_number command) frame.round machine.polls))
      (after_frame settings machine place frame command)
  received_frame place frame le at (Some (commands.Poll number)) spells =
      let p = poll_continues first machine (in_order settings first machine i) (newest_poll life) o.polled place number frame le at
      (ap polled_number spells) in
      received_poll place number frame (is_new (newest_poll life) number) refl p.named p.fits p.met
  received_frame place frame le at command spells =
      life-other first (past_log machine.history) (past_blocks settings machine.history) (blocks_of settings life) (newest_poll life) makers machine o place frame
      (answer_if settings life command) (no_block_reply settings life command refl)

  -- the module receives a frame
  one_life_received : (place : ℕ) (frame : SentFrame) → machine.last_to_module ≤ place + 1
      → slice_get machine.to_module place ≡ Some frame
      → HasOneLife settings first (after_delivery_to_module settings machine (place + 1) (Some frame))
  one_life_received place frame le at =
      received_frame place frame le at (command_in frame.octets) refl

  -- the CPU takes the block of its round
  one_life_taken : (place : ℕ) (answer : Block) → HasBlock machine.to_cpu place answer machine.round
      → HasOneLife settings first (after_taken machine place answer)
  one_life_taken place answer block =
      let b = carries_own place answer machine.round block in
      record {
        no_log = o.no_log;
        no_blocks = o.no_blocks;
        made = o.made;
        own = o.own;
        polled = o.polled;
        kept = record_of-next (blocks_in settings machine) machine.round machine.items answer b.block b.is_made b.carried o.kept;
        again = o.again;
      }

-- what a run without restarts has kept
pub record IsKept (settings : Settings) (first : ℕ) (machine : Machine) : Type 0 where
  pub always : HasInvariant settings first machine
  pub one_life : HasOneLife settings first machine

module _ (settings : Settings) (range : AreInRange settings) (first : ℕ) where
  -- each event but a restart keeps it
  one_life_rows : IsKeptByEvents settings first (HasInvariant settings first) (HasOneLife settings first)
  one_life_rows =
      record {
        scans = λ machine raw i o. o;
        syncs = λ machine i o. o;
        raises = λ machine mask i o. o;
        sends = λ machine command i number o. o;
        receives = λ machine place frame i le at o. one_life_received settings range first machine i o place frame le at;
        passes = λ machine index i le o. o;
        takes = λ machine place answer i has o. one_life_taken settings range first machine i o place answer has;
      }

  -- events that lead on keep it
  pub kept_all : (events : List Event) (machine last : Machine) → HaveNoRestart events → Leads settings first machine events last
      → IsKept settings first machine → IsKept settings first last
  kept_all events machine last none leads k =
      record {
        always = keeps_all settings range first events machine last leads k.always;
        one_life = kept_without_restart settings range first (HasOneLife settings first) one_life_rows
            events machine last none leads k.always k.one_life;
      }

  -- every run without restarts keeps all of it
  pub kept : (events : List Event) (machine : Machine) → IsRun settings first events machine → HaveNoRestart events
      → IsKept settings first machine
  kept events machine run none =
      kept_all events start machine none run (record {
        always = keeps-start settings first;
        one_life = record {
          no_log = refl;
          no_blocks = refl;
          made = refl;
          own = λ k r is. absurd (cc is);
          polled = refl;
          kept = refl;
          again = refl;
        };
      })

  -- what each event keeps by that, all events keep
  pub kept_in_life : (P : Machine → Type 0) → IsKeptByEvents settings first (IsKept settings first) P
      → (events : List Event) (machine last : Machine) → HaveNoRestart events → Leads settings first machine events last
      → IsKept settings first machine → P machine → P last
  kept_in_life P k =
      along settings first (IsKept settings first) P (λ machine k. in_order settings first machine k.always) k
      (λ machine k event none fine. kept_all (event ∷ []) machine (after settings first machine event) (none, tt) (fine, refl) k)
