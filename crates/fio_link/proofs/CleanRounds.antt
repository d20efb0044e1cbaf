-- A clean round takes a block, whatever came before.
use Rattle.fio_link.proofs.Names.{◌≡◌, ℕ, ◌+◌, ◌^◌, ◌<◌, ◌≤◌, ◌==◌, Bool, true, false, List, [], ◌∷◌, ◌++◌, length, Option, Some, None, refl, ap, sym, subst, ◌∙◌, arith, length-append, if◌then◌else◌, slice_get_within, nat_tests, command_octets, answer_octets, Block, command_in, block_in, command_back, Settings, AreInRange, Life, Commanded, life_of, life_after_command, blocks_of, Sending, answer_of_sending, latest_sending, items_of_block, Event, SentFrame, Machine, number_of, item_numbered, delivery_refusal, refusal, after_sending, after_delivered_block, after, Leads, IsRun, CleanRoundTakesBlock}
use Rattle.fio_message.specs.declared.commands.Command.TheVariants as commands
use Rattle.fio_link.specs.declared.event.Event.TheVariants as events
use Rattle.fio_link.specs.Delivery.{TakesBlock}
use Rattle.fio_link.proofs.RoundNumbers.{number_of-fits}
use Rattle.fio_link.proofs.Spelled.{said}
use Rattle.fio_link.proofs.Received.{latest_sent, newest_fits, carried_back, carried_says}
use Rattle.fio_link.proofs.Kept.{after_poll}
use Rattle.fio_link.proofs.HeardRows.{after_taken}
use Rattle.fio_link.proofs.Events.{deliverable, frame_at_place}
use Rattle.fio_module.proofs.ListParts.{get_last}

-- the frames delivered last are among those that were sent
pub record LastWereSent (machine : Machine) : Type 0 where
  pub to_module : machine.last_to_module ≤ length machine.to_module
  pub to_cpu : machine.last_to_cpu ≤ length machine.to_cpu

-- a block changes no frame, taken or not
sent-if : (machine : Machine) (block : Block) (same : Bool) → LastWereSent machine
    → LastWereSent (if same then record machine { round = machine.round + 1; items = machine.items ++ items_of_block block } else machine)
sent-if machine block true s = record { to_module = s.to_module; to_cpu = s.to_cpu }
sent-if machine block false s = s

sent-block : (first : ℕ) (machine : Machine) (found : Option Block) → LastWereSent machine
    → LastWereSent (after_delivered_block first machine found)
sent-block first machine None s = s
sent-block first machine (Some block) s = sent-if machine block (block.number == number_of first machine.round) s

-- each event keeps it
sent_after : (settings : Settings) (first : ℕ) (machine : Machine) (event : Event) → refusal machine event ≡ None
    → LastWereSent machine → LastWereSent (after settings first machine event)
sent_after settings first machine events.Poll fine s = grind (arith, nat_tests, length-append)
sent_after settings first machine (events.Send command) fine s = grind (arith, nat_tests, length-append)
sent_after settings first machine (events.ToModule index) fine s = grind (arith, nat_tests, deliverable, frame_at_place, slice_get_within, length-append)
sent_after settings first machine (events.ToCpu index) fine s = grind (arith, nat_tests, deliverable, frame_at_place, sent-block, slice_get_within)
sent_after settings first machine other fine s = record { to_module = s.to_module; to_cpu = s.to_cpu }

pub sent_all : (settings : Settings) (first : ℕ) (events : List Event) (machine last : Machine)
    → Leads settings first machine events last → LastWereSent machine → LastWereSent last
sent_all settings first [] machine last leads s = subst LastWereSent (sym leads) s
sent_all settings first (event ∷ events) machine last leads s =
    sent_all settings first events (after settings first machine event) last leads.1
    (sent_after settings first machine event leads.0 s)

-- the newest frame may be delivered
pub newest_fine : (frames : List SentFrame) (f : SentFrame) (last : ℕ) → last ≤ length frames
    → delivery_refusal (length (frames ++ f ∷ [])) last (length frames + 1) ≡ None
newest_fine frames f last le = grind (arith, nat_tests, length-append)

-- and is the one that was sent last
pub newest_frame : (frames : List SentFrame) (f : SentFrame) → item_numbered (frames ++ f ∷ []) (length frames + 1) ≡ Some f
newest_frame frames f = frame_at_place (frames ++ f ∷ []) (length frames) ∙ get_last frames f

-- a clean round, with what it does to the rounds of the polls received and to the module's life
pub record IsCleanRound (settings : Settings) (first : ℕ) (machine later : Machine) : Type 0 where
  pub takes : TakesBlock settings first machine later
  pub polls : later.polls ≡ machine.round ∷ machine.polls
  pub life : life_of later.history ≡ Commanded (commands.Poll (number_of first machine.round)) ∷ life_of machine.history

module _ (settings : Settings) (range : AreInRange settings) (first : ℕ) (machine : Machine) (s : LastWereSent machine) where
  abbrev number : ℕ
  number = number_of first machine.round

  -- the poll's frame, and the machine after it is sent
  abbrev frame : SentFrame
  frame = record { octets = command_octets (commands.Poll number); round = machine.round }

  abbrev polled : Machine
  polled = after_sending machine (commands.Poll number)

  -- the module's life with the poll
  abbrev life : Life
  life = Commanded (commands.Poll number) ∷ life_of machine.history

  abbrev answer_frame : Sending → SentFrame
  answer_frame sending = record { octets = answer_octets (answer_of_sending sending); round = machine.round }

  abbrev answering : Sending → Machine
  answering sending = after_poll polled (length machine.to_module) frame (answer_frame sending ∷ [])

  abbrev taking : Sending → Machine
  taking sending = after_taken (answering sending) (length machine.to_cpu) (said sending)

  -- the poll's octets spell it
  spelled : command_in frame.octets ≡ Some (commands.Poll number)
  spelled =
      let fits : number < 2 ^ 8 = omega (arith, number_of-fits first machine.round) in
      command_back (commands.Poll number) frame.octets (record { within = fits; spelled = refl })

  -- the module receives it and answers with its latest sending
  module_answers : (sending : Sending) → latest_sending settings life ≡ Some sending
      → after settings first polled (events.ToModule (length machine.to_module + 1)) ≡ answering sending
  module_answers sending is = grind (arith, nat_tests, newest_frame, spelled, after_poll)

  -- the CPU takes what was answered
  cpu_takes : (sending : Sending) → block_in (answer_octets (answer_of_sending sending)) ≡ Some (said sending)
      → sending.number ≡ number
      → after settings first (answering sending) (events.ToCpu (length machine.to_cpu + 1)) ≡ taking sending
  cpu_takes sending reads named = grind (arith, nat_tests, newest_frame)

  -- so the round takes a block
  pub takes_block : (later : Machine) × IsCleanRound settings first machine later
  takes_block =
      let found = latest_sent settings life number refl in
      let sending = found.0 in
      let l = found.1 in
      let named : sending.number ≡ number = l.number in
      let reads = carried_back settings.per_block sending l.block range.few_per_block (omega (arith, number_of-fits first machine.round))
      (newest_fits settings life l.earlier l.block l.made) l.carried in
      let answers = module_answers sending l.is in
      let takes = cpu_takes sending reads named in
      let lives : life_of (taking sending).history ≡ life = ap (λ command. life_after_command command (life_of machine.history)) spelled in (
        taking sending,
        record {
          polls = refl;
          life = lives;
          takes = record {
            leads = (
              refl,
              (
                newest_fine machine.to_module frame machine.last_to_module s.to_module,
                subst (λ m. Leads settings first m (events.ToCpu (length machine.to_cpu + 1) ∷ []) (taking sending)) (sym answers)
                    (newest_fine machine.to_cpu (answer_frame sending) machine.last_to_cpu s.to_cpu, sym takes),
              ),
            );
            answer = said sending;
            answered = record {
              frame = answer_frame sending;
              at_place = get_last machine.to_cpu (answer_frame sending);
              spells = reads;
              of_round = refl;
            };
            round = refl;
            items = refl;
            earlier = l.earlier;
            block = l.block;
            newest = ap (blocks_of settings) lives ∙ l.made;
            carried = carried_says sending l.block l.carried;
          };
        },
      )

-- the frames delivered last in a run are among those that were sent
pub last_were_sent : (settings : Settings) (first : ℕ) (events : List Event) (machine : Machine)
    → IsRun settings first events machine → LastWereSent machine
last_were_sent settings first events machine run = grind (arith, nat_tests, sent_all)

-- after any run
pub clean_round_takes_block : (settings : Settings) → AreInRange settings → (first : ℕ) (machine : Machine)
    → LastWereSent machine → CleanRoundTakesBlock settings first machine
clean_round_takes_block settings range first machine s =
    let found = takes_block settings range first machine s in
    (found.0, found.1.takes)
