-- A frame that the module receives keeps what every run keeps.
use Rattle.fio_link.proofs.Names.{◌≡◌, ℕ, ◌+◌, ◌≤◌, Bool, true, false, List, [], ◌∷◌, ◌++◌, length, map, Option, Some, slice_get, refl, ap, sym, subst, ◌∙◌, arith, length-append, append_assoc, option_map, map-append, Command, answer_octets, command_in, polled_number, Settings, AreInRange, History, Life, life_of, life_after_command, Transition, whole_log, MadeBlock, newest_poll, is_new, blocks_of, end_of_blocks, newest_end, next_block, Sending, answer_of_sending, is_out_of_sequence, first_sending, repeat_of, answer_if, SentFrame, Machine, number_of, answer_frames, polls_with, after_delivery_to_module, HasPoll, with_poll_number, received_numbers, next_round}
use Rattle.fio_message.specs.declared.commands.Command.TheVariants as commands
use Rattle.fio_module.proofs.Ends.{last_end-append}
use Rattle.fio_module.proofs.ListParts.{get_last}
use Rattle.fio_link.proofs.RoundNumbers.{number_of-fits}
use Rattle.fio_link.proofs.Spelled.{said}
use Rattle.fio_link.proofs.MadeBlocks.{next_fits}
use Rattle.fio_link.proofs.AllLives.{past_log, behind, joined, past_blocks, all_blocks, reached}
use Rattle.fio_link.proofs.Received.{no_block_reply, same_number, first_carries, again_carries, carried_back, carried_says, said_out_of_sequence, latest_sent, newest_fits}
use Rattle.fio_link.proofs.Makers.{makers_of, makers_after, makers-repeated, makers-new, carry-new}
use Rattle.fio_link.proofs.RisingPieces.{rises-new}
use Rattle.fio_link.proofs.Kept.{after_frame, Invariant, HasInvariant, meets, after_poll, blocks_if, sending_if, makers_if, keeps_other, keeps_poll}

module _ (settings : Settings) (range : AreInRange settings) (first : ℕ) (machine : Machine)
    (i : HasInvariant settings first machine) where
  abbrev h : History
  h = machine.history

  abbrev life : Life
  life = life_of h

  abbrev log : List Transition
  log = whole_log h

  abbrev past : ℕ
  past = length (past_log h)

  abbrev all : List MadeBlock
  all = all_blocks settings h

  abbrev makers : List ℕ
  makers = makers_of h machine.polls

  -- a new poll is received
  new_poll : (place number : ℕ) (frame : SentFrame) → machine.last_to_module ≤ place + 1
      → HasPoll machine.to_module place number frame.round
      → is_new (newest_poll life) number ≡ true
      → Invariant first log (past_blocks settings h ++ map (behind past) (blocks_if settings life true))
      (past + end_of_blocks (blocks_if settings life true)) (Some number) (number ∷ received_numbers h)
      (makers ++ frame.round ∷ [])
      (after_poll machine place frame (answer_frames (option_map answer_of_sending (sending_if settings life number true)) frame.round))
  new_poll place number frame le poll is =
      let bs = blocks_of settings life in
      let block = next_block settings life in
      let sending = first_sending settings life number in
      let round = frame.round in
      let low : round ≤ machine.round = i.polls.sent place number round poll in
      let high : next_round machine.polls ≤ round + 1 = i.polls.ahead place number round le poll in
      let upto : machine.round ≤ next_round machine.polls = i.answers.behind in
      let named : number ≡ number_of first round = i.polls.numbers place number round poll in
      let met : is_out_of_sequence (newest_poll life) number ≡ false =
      meets first round number (newest_poll life) machine.polls (received_numbers h) true i.received.numbered i.received.newest
      named (omega arith) high is in
      let fits : number ≤ 255 = omega (arith, number_of-fits first round) in
      let grown : past_blocks settings h ++ map (behind past) (bs ++ block ∷ []) ≡ all ++ behind past block ∷ [] =
      ap (λ made. past_blocks settings h ++ made) (map-append (behind past) bs (block ∷ []))
      ∙ sym (append_assoc (past_blocks settings h) (map (behind past) bs) (behind past block ∷ [])) in
      let end : end_of_blocks (bs ++ block ∷ []) ≡ block.end = last_end-append 0 bs block in
      let limit = past + end_of_blocks (bs ++ block ∷ []) in
      let carries = carried_says sending block (first_carries settings life number) in
      subst (λ made. Invariant first log made limit (Some number) (number ∷ received_numbers h) (makers ++ round ∷ [])
      (after_poll machine place frame (answer_frames (Some (answer_of_sending sending)) round))) (sym grown)
      (keeps_poll first log all (reached settings h) (newest_poll life) (received_numbers h) makers machine i place frame le
      number limit (all ++ behind past block ∷ []) (makers ++ round ∷ []) (said sending) (answer_octets (answer_of_sending sending)) poll
      (carried_back settings.per_block sending block range.few_per_block fits
      (next_fits settings life) (first_carries settings life number))
      (makers-new makers (next_round machine.polls) round all (behind past block) high i.received.makers_in_order)
      (record {
        place = length makers;
        round = round;
        last = length-append makers (round ∷ []);
        made_by = get_last makers round;
        newest = refl;
      })
      (carry-new first all makers machine.to_cpu (behind past block) round i.carry)
      (record {
        number = named;
        in_sequence = said_out_of_sequence sending ∙ met;
        place = length all;
        block = behind past block;
        is_made = get_last all (behind past block);
        made_by = ap (slice_get (makers ++ round ∷ [])) (sym i.received.makers_in_order.count) ∙ get_last makers round;
        carried = record { entries = carries.entries; more = carries.more; lost = carries.lost; stamp = carries.stamp };
      })
      (rises-new log all makers (reached settings h) limit machine.round round machine.items
      (behind past block) (omega arith) (omega arith) i.received.makers_in_order.count i.rising))

  -- the newest poll is received again
  repeated_poll : (place number : ℕ) (frame : SentFrame) → machine.last_to_module ≤ place + 1
      → HasPoll machine.to_module place number frame.round
      → is_new (newest_poll life) number ≡ false
      → Invariant first log all (reached settings h) (Some number) (number ∷ received_numbers h) makers
      (after_poll machine place frame (answer_frames (option_map answer_of_sending (sending_if settings life number false)) frame.round))
  repeated_poll place number frame le poll is =
      let round = frame.round in
      let low : round ≤ machine.round = i.polls.sent place number round poll in
      let high : next_round machine.polls ≤ round + 1 = i.polls.ahead place number round le poll in
      let upto : machine.round ≤ next_round machine.polls = i.answers.behind in
      let named : number ≡ number_of first round = i.polls.numbers place number round poll in
      let met : round + 1 ≡ next_round machine.polls =
      meets first round number (newest_poll life) machine.polls (received_numbers h) false i.received.numbered i.received.newest
      named (omega arith) high is in
      let fits : number ≤ 255 = omega (arith, number_of-fits first round) in
      let known : newest_poll life ≡ Some number = same_number (newest_poll life) number is in
      let found = latest_sent settings life number known in
      let l = found.1 in
      let block = l.block in
      let earlier = past_blocks settings h ++ map (behind past) l.earlier in
      let split : all ≡ earlier ++ behind past block ∷ [] =
      ap (λ made. past_blocks settings h ++ map (behind past) made) l.made
      ∙ ap (λ made. past_blocks settings h ++ made) (map-append (behind past) l.earlier (block ∷ []))
      ∙ sym (append_assoc (past_blocks settings h) (map (behind past) l.earlier) (behind past block ∷ [])) in
      let m = i.received.maker number known in
      let count : length all ≡ length earlier + 1 = ap length split ∙ length-append earlier (behind past block ∷ []) in
      let this : m.round ≡ round = let e : next_round machine.polls ≡ m.round + 1 = m.newest in omega arith in
      let there : m.place ≡ length earlier =
      let e : length makers ≡ m.place + 1 = m.last in
      let g : length makers ≡ length all = i.received.makers_in_order.count in
      omega arith in
      let again = repeat_of found.0 in
      let carried = again_carries found.0 block l.carried in
      let sent_number : again.number ≡ number = l.number in
      let carries = carried_says again block carried in
      subst (λ (latest : Option Sending). Invariant first log all (reached settings h) (Some number) (number ∷ received_numbers h) makers
      (after_poll machine place frame (answer_frames (option_map answer_of_sending (option_map repeat_of latest)) round))) (sym l.is)
      (keeps_poll first log all (reached settings h) (newest_poll life) (received_numbers h) makers machine i place frame le
      number (reached settings h) all makers (said again) (answer_octets (answer_of_sending again)) poll
      (carried_back settings.per_block again block range.few_per_block (omega arith)
      (newest_fits settings life l.earlier block l.made) carried)
      (makers-repeated makers (next_round machine.polls) (round + 1) all high i.received.makers_in_order)
      (record { place = m.place; round = round; last = m.last; made_by = m.made_by ∙ ap Some this; newest = refl })
      i.carry
      (record {
        number = sent_number ∙ named;
        in_sequence = said_out_of_sequence again;
        place = length earlier;
        block = behind past block;
        is_made = ap (λ blocks. slice_get blocks (length earlier)) split ∙ get_last earlier (behind past block);
        made_by = ap (slice_get makers) (sym there) ∙ m.made_by ∙ ap Some this;
        carried = record { entries = carries.entries; more = carries.more; lost = carries.lost; stamp = carries.stamp };
      })
      i.rising)

  -- a poll is received, new or not
  received_poll : (place number : ℕ) (frame : SentFrame) → machine.last_to_module ≤ place + 1
      → HasPoll machine.to_module place number frame.round
      → (new : Bool) → is_new (newest_poll life) number ≡ new
      → Invariant first log (past_blocks settings h ++ map (behind past) (blocks_if settings life new))
      (past + end_of_blocks (blocks_if settings life new)) (Some number) (number ∷ received_numbers h)
      (makers_if makers frame.round new)
      (after_poll machine place frame (answer_frames (option_map answer_of_sending (sending_if settings life number new)) frame.round))
  received_poll place number frame le poll true is = new_poll place number frame le poll is
  received_poll place number frame le poll false is = repeated_poll place number frame le poll is

  -- a frame is received that is read as this command, or as none
  received_frame : (place : ℕ) (frame : SentFrame) → machine.last_to_module ≤ place + 1
      → slice_get machine.to_module place ≡ Some frame
      → (command : Option Command) → command_in frame.octets ≡ command
      → Invariant first log (joined settings (past_blocks settings h) past (life_after_command command life))
      (past + newest_end settings (life_after_command command life))
      (newest_poll (life_after_command command life)) (with_poll_number (polled_number command) (received_numbers h))
      (makers_after (polled_number command) (newest_poll life) (makers_of h)
      (polls_with (polled_number command) frame.round machine.polls))
      (after_frame settings machine place frame command)
  received_frame place frame le at (Some (commands.Poll number)) spells =
      let poll : HasPoll machine.to_module place number frame.round =
      record { frame = frame; at_place = at; spells = ap polled_number spells; of_round = refl } in
      received_poll place number frame le poll (is_new (newest_poll life) number) refl
  received_frame place frame le at command spells =
      keeps_other first log all (reached settings h) (newest_poll life) (received_numbers h) makers machine i place frame le
      (answer_if settings life command) (no_block_reply settings life command refl)

  -- the module receives a frame
  pub keeps_received : (place : ℕ) (frame : SentFrame) → machine.last_to_module ≤ place + 1
      → slice_get machine.to_module place ≡ Some frame
      → HasInvariant settings first (after_delivery_to_module settings machine (place + 1) (Some frame))
  keeps_received place frame le at = received_frame place frame le at (command_in frame.octets) refl
