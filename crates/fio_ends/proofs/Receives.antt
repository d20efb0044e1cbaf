-- The module receives a frame, and may answer it.
use Rattle.fio_ends.proofs.Names.{◌≡◌, ◌∙◌, ◌+◌, ◌<◌, ◌≤◌, inl, inr, ℕ, Bool, true, false, List, ◌++◌, length, Option, Some, None, refl, ap, sym, subst, arith, append-nil, if◌then◌else◌, ◌==◌, option_map, slice_get, nat_tests, eqb_tells, same_Some, slice_get_within, Answer, Command, answer_octets, command_in, poll_in, Settings, AreInRange, Life, life_of, newest_poll, is_new, answer_to, Facts, ToModule, SentFrame, Machine, number_of, after_delivery_to_module, refusal, after, next_round, get_last, number_of-fits, next_fits, after_delivery, IsKept, due_after, life_after_command, Commanded, [], Sending, again_carries, answer_frames, answer_if, answer_of_sending, carried_back, first_carries, first_sending, polls_with, repeat_of, reply_to, said, same_number, said_again, latest_sent, newest_fits, sending_if, continues}
use Rattle.fio_message.specs.declared.commands.Command.TheVariants as commands
use Rattle.fio_ends.proofs.BlocksOfLives.{blocks_stay}
use Rattle.fio_ends.proofs.Heard.{heard_as}
use Rattle.fio_ends.proofs.Following.{AreBefore, IsBlockFor, Answers, Stage, Follows, GoesOn, goes_on-more}

-- the polls received with one of a round before are of rounds before
pub before_received : (frames : List SentFrame) (polls : List ℕ) (round below place : ℕ) (frame : SentFrame) (polled : Option ℕ)
    → slice_get frames place ≡ Some frame → poll_in frame.octets ≡ polled → place < below
    → AreBefore frames polls round below → AreBefore frames (polls_with polled frame.round polls) round below
before_received frames polls round below place frame None at is low b = b
before_received frames polls round below place frame (Some number) at is low b =
    record {
      sent = b.sent;
      received = (let less = b.sent place number frame.round low (record { frame = frame; at_place = at; spells = is; of_round = refl }) in omega arith);
    }

-- a life goes on with a command
goes_on-command : (before now : Life) (command : Option Command) → GoesOn before now → GoesOn before (life_after_command command now)
goes_on-command before now None g = g
goes_on-command before now (Some command) g = goes_on-more before now (Commanded command) g

-- the frame in which a reply is sent
reply_frame : (frames : List SentFrame) (reply : Option Answer) (round : ℕ) (frame : SentFrame)
    → slice_get (frames ++ answer_frames reply round) (length frames) ≡ Some frame
    → (answer : Answer) × (reply ≡ Some answer) × (answer_octets answer ≡ frame.octets)
reply_frame frames None round frame at =
    let none : slice_get frames (length frames) ≡ Some frame = ap (λ all. slice_get all (length frames)) (sym (append-nil frames)) ∙ at in
    absurd (omega (arith, slice_get_within frames (length frames) frame none))
reply_frame frames (Some answer) round frame at =
    let pushed : SentFrame = record { octets = answer_octets answer; round = round } in
    let same : pushed ≡ frame = same_Some _ _ (sym (get_last frames pushed) ∙ at) in
    (answer, refl, ap (λ (s : SentFrame). s.octets) same)

module _ (settings : Settings) (range : AreInRange settings) (first : ℕ) (machine : Machine)
    (k : IsKept settings first machine) (facts : Facts) where
  abbrev life : Life
  life = life_of machine.history

  -- the answer to the poll sent last
  block_for : (number : ℕ) (place : ℕ) (new : Bool) (answer : Answer) → is_new (newest_poll life) number ≡ new
      → number ≡ number_of first machine.round
      → (facts.advanced ≡ true → AreBefore machine.to_module machine.polls machine.round place)
      → option_map answer_of_sending (sending_if settings life number new) ≡ Some answer
      → IsBlockFor facts life number (answer_octets answer)
  block_for number place true answer is named before spelled =
      let sending = first_sending settings life number in
      let fits : number ≤ 255 = omega (arith, number_of-fits first machine.round) in
      subst (λ a. IsBlockFor facts life number (answer_octets a)) (same_Some _ _ spelled)
      (record {
        block = said sending;
        spells = carried_back settings.per_block sending _ range.few_per_block fits (next_fits settings life) (first_carries settings life number);
        numbered = refl;
        again = λ advanced. said_again sending;
        fresh = λ first. is;
      })
  block_for number place false answer is named before spelled =
      let found = latest_sent settings life number (same_number (newest_poll life) number is) in
      let l = found.1 in
      let again = repeat_of found.0 in
      let sent_number : again.number ≡ number = l.number in
      let fits : number ≤ 255 = omega (arith, number_of-fits first machine.round) in
      let upto : machine.round ≤ next_round machine.polls = k.always.answers.behind in
      let high : next_round machine.polls ≤ machine.round + 1 = k.always.at_most in
      let met = continues first machine.round number machine.polls false named upto high
      (ap (λ latest. is_new latest number) (sym k.one_life.polled) ∙ is) in
      let spells : Some (answer_of_sending again) ≡ Some answer =
      ap (λ (latest : Option Sending). option_map answer_of_sending (option_map repeat_of latest)) (sym l.is) ∙ spelled in
      subst (λ a. IsBlockFor facts life number (answer_octets a)) (same_Some _ _ spells)
      (record {
        block = said again;
        spells = carried_back settings.per_block again l.block range.few_per_block (omega arith)
            (newest_fits settings life l.earlier l.block l.made) (again_carries found.0 l.block l.carried);
        numbered = l.number;
        again = λ advanced. absurd (omega (arith, met.0, (before advanced).received));
        fresh = λ first. absurd (cc (sym (said_again again) ∙ first));
      })

  -- the answer to the command sent last
  answer_for : (command : Command) (place : ℕ) (answer : Answer)
      → ((number : ℕ) → command ≡ commands.Poll number → (number ≡ number_of first machine.round)
      × (facts.advanced ≡ true → AreBefore machine.to_module machine.polls machine.round place))
      → answer_to settings life command ≡ Some answer
      → Answers settings facts life command (answer_octets answer)
  answer_for (commands.Poll number) place answer polled is =
      let known = polled number refl in
      block_for number place (is_new (newest_poll life) number) answer refl known.0 known.1 is
  answer_for other place answer polled is = heard_as settings life other answer refl is

  module _ (from : Life) (due : ℕ) (f : Follows settings first from machine due facts) where
    -- what is due after a delivery
    abbrev due_then : ℕ → ℕ
    due_then place = if (place + 1) == length machine.to_module then length machine.to_cpu + 1 else due

    -- the stage after the module has received the frame at a place
    stage_received : (place : ℕ) (frame : SentFrame) → slice_get machine.to_module place ≡ Some frame
        → machine.last_to_module < place + 1 → Stage settings first from facts machine due
        → Stage settings first from facts (after_delivery_to_module settings machine (place + 1) (Some frame)) (due_then place)
    stage_received place frame at new (inl quiet) =
        absurd (omega (arith, slice_get_within machine.to_module place frame at, quiet.all))
    stage_received place frame at new (inr (inr done)) =
        absurd (omega (arith, slice_get_within machine.to_module place frame at, done.1.all))
    stage_received place frame at new (inr (inl (command, u))) =
        let within = slice_get_within machine.to_module place frame at in
        elim (eqb_tells place u.place) as (λ _. Stage settings first from facts (after_delivery_to_module settings machine (place + 1) (Some frame)) (due_then place)) [
          | inl same ↦
              let here : place ≡ u.place = same.1 in
              let last : ((place + 1) == length machine.to_module) ≡ true = (let e : length machine.to_module ≡ u.place + 1 = u.sent_last in grind (arith, nat_tests)) in
              let frame_is : u.frame ≡ frame = same_Some _ _ (sym u.at_place ∙ ap (slice_get machine.to_module) (sym here) ∙ at) in
              let spells : command_in frame.octets ≡ Some command = ap (λ (s : SentFrame). command_in s.octets) (sym frame_is) ∙ u.spells in
              inr (inr (
                command,
                record {
                  asked = u.asked;
                  sent_last = record { place = u.place; frame = u.frame; last = u.sent_last; at_place = u.at_place; spells = u.spells };
                  all = (let e : length machine.to_module ≡ u.place + 1 = u.sent_last in omega arith);
                  place = length machine.to_cpu;
                  life = life;
                  goes_on = f.now;
                  since =
                      record {
                        more = [];
                        is = ap (λ read. life_after_command read life) spells;
                        none = tt;
                      };
                  due_is = ap (λ at_end. if at_end then length machine.to_cpu + 1 else due) last;
                  answer = λ sent at_sent.
                      (let reply = reply_frame machine.to_cpu (reply_to settings machine.history frame.octets) frame.round sent at_sent in
                      let is : answer_to settings life command ≡ Some reply.0 = ap (answer_if settings life) (sym spells) ∙ reply.1 in
                      subst (Answers settings facts life command) reply.2
                      (answer_for command u.place reply.0
                      (λ number is_poll. ((u.asked.polled number is_poll).1, u.before number is_poll)) is));
                },
              ))
          | inr other ↦
              let low : place < u.place = (let e : length machine.to_module ≡ u.place + 1 = u.sent_last in omega (arith, other.1)) in
              let not_last : ((place + 1) == length machine.to_module) ≡ false = (let e : length machine.to_module ≡ u.place + 1 = u.sent_last in grind (arith, nat_tests)) in
              inr (inl (
                command,
                record {
                  asked = u.asked;
                  place = u.place;
                  frame = u.frame;
                  sent_last = u.sent_last;
                  at_place = u.at_place;
                  spells = u.spells;
                  passed = omega arith;
                  none_due = ap (λ at_end. if at_end then length machine.to_cpu + 1 else due) not_last ∙ u.none_due;
                  before = λ number is advanced.
                      before_received machine.to_module machine.polls machine.round u.place place frame (poll_in frame.octets)
                      at refl low (u.before number is advanced);
                },
              ))
        ]

    follows_received : (place : ℕ) (frame : SentFrame) → slice_get machine.to_module place ≡ Some frame
        → machine.last_to_module < place + 1
        → Follows settings first from (after_delivery_to_module settings machine (place + 1) (Some frame)) (due_then place) facts
    follows_received place frame at new =
        record {
          number = f.number;
          answered = λ is.
              before_received machine.to_module machine.polls machine.round (length machine.to_module) place frame
              (poll_in frame.octets) at refl (slice_get_within machine.to_module place frame at) (f.answered is);
          more = λ m is. (let b = f.more m is in
              record {
                earlier = b.earlier;
                block = b.block;
                next = b.next;
                at_place = blocks_stay settings life (command_in frame.octets) b.earlier b.block b.at_place;
                same = b.same;
              });
          now = goes_on-command from life (command_in frame.octets) f.now;
          stage = stage_received place frame at new f.stage;
        }

    -- a frame is delivered to the module that was not delivered before
    pub follows-to_module : (index : ℕ) → refusal machine (ToModule index) ≡ None → machine.last_to_module < index
        → Follows settings first from (after settings first machine (ToModule index)) (due_after machine due (ToModule index)) facts
    follows-to_module index fine new =
        after_delivery (λ n found. machine.last_to_module < n
        → Follows settings first from (after_delivery_to_module settings machine n found) (due_after machine due (ToModule n)) facts)
        machine.to_module machine.last_to_module index fine
        (λ place frame le at new. follows_received place frame at new) new
