-- Along a prompt run an invariant of content holds, from its start or from any command on.
use Rattle.fio_ends.proofs.Names.{◌≡◌, ◌∙◌, ◌+◌, ◌%◌, ◌<◌, ◌≤◌, ◌⊎◌, inl, inr, ℕ, Bool, true, false, List, [], ◌∷◌, length, Option, Some, None, refl, ap, sym, subst, arith, if◌then◌else◌, ◌==◌, slice_get, AllByRecursion, list_any, nat_tests, Answer, Command, command_octets, IsCommand, Life, life_of, answer_in, block_in, Settings, AreInRange, ContentFacts, ContentKept, kept_at_start, Heard, Sent, content_events, events_of_block, number_after, no_facts, answer_type_to, is_absent, names_absent, observation_of, ContentRule, Facts, Event, SentFrame, Machine, number_of, sending_refusal, after_sending, after_delivery_to_module, after_delivered_block, after_delivery_to_cpu, refusal, after, Leads, HasBlock, IsNotRestart, HaveNoRestart, blocks_in, CarriesBlockOf, number_of-fits, number_of-next, after_taken, in_order, same_round, after_delivery, IsKept, carries_own, kept_all, kept, frame_heard, frames_at, frames_from, due_after, IsPrompt, ArePrompt, IsWithinRanges, Block, items_of_block, command_in, same_Some, InputAbove, InputItem, content_with, fold, fold-append, ◌&&◌, Observation, block_answer, facts_with, frame_at_place, input_with_item, item_for, items_sent, number_with_command, observation_of_command, polling, unnamed, unwrap_or, ended_unpolled}
use Rattle.fio_message.specs.declared.commands.Command.TheVariants as commands
use Rattle.std.specs.Prelude.{◌||◌}
use Rattle.fio_check.specs.declared.observation.Observation.TheVariants as seen
use Rattle.fio_link.specs.declared.event.Event.TheVariants as events
use Rattle.fio_ends.proofs.FirstPolls.{polls_begin, polls_raised, polls_received, polls_scanned, polls_sent, polls_synced, polls_taken}
use Rattle.fio_ends.proofs.Heard.{IsHeardAs}
use Rattle.fio_ends.proofs.Following.{Answers, Follows, GoesOn, IsBlockFor, IsReceived, Keeps, Stage, facts_below, from_after, goes_on-both, goes_on-same, may_begin}
use Rattle.fio_ends.proofs.Sends.{other_said, read_back, said_of, sends-other, sends-poll}
use Rattle.fio_ends.proofs.Hears.{block_said, no_block_said}
use Rattle.fio_ends.proofs.PromptRuns.{BeginsWithCommand, ReachesLater, keeps-event}
use Rattle.fio_ends.proofs.ContentLines.{FramesKeep, content_below, frames_keep}
use Rattle.fio_ends.proofs.ContentSteps.{IsInvariant, IsKnown, IsSending, PollsKnown}
use Rattle.fio_ends.proofs.ContentFrame.{Agrees, KeepsContent, agrees-below, agrees-start, awaits_sent, block_events, number_stays, one_frame, sent_keeps}

-- ---- the polls

-- of a command that is sent below a poll, or is one: an input of which no item was sent since has none in it
left_since : (polled since : Bool) (above : InputAbove) (item : Option InputItem) → polled ≡ true
    → ((polled && (input_with_item (unnamed above) item).named) || since) ≡ false → (since ≡ false) × (item ≡ None)
left_since polled since above item held free = grind arith

-- below a block no poll is sent
unpolled_below : (facts : ContentFacts) (block : Block) → (fold content_with facts (events_of_block block)).polled ≡ false
unpolled_below facts block = grind (arith, nat_tests, fold-append, content_with, block_answer, items_of_block, ended_unpolled)

-- ---- an answer that is no block answer

-- its one event is that it is heard
heard_events : (number : Option ℕ) (answer : Option Answer) (type : ℕ) (accepted : Bool) → observation_of None answer ≡ seen.Answer type accepted
    → (found : Answer) × (answer ≡ Some found) × (content_events number None answer ≡ Heard found ∷ []) × (number_after number None answer ≡ number)
heard_events number answer type accepted is = grind arith

module _ (settings : Settings) (range : AreInRange settings) (first : ℕ) (begin : Machine) (rule : ContentRule)
    (S : Type 0) (initial : S) (next : S → Machine → Event → S)
    (Holds : S → Machine → List Event → Type 0) (P : S → Life → Machine → ContentFacts → Type 0)
    (i : IsInvariant settings first begin rule S initial next Holds P) where
  -- a command, by what its line says
  sent : (state : S) (from : Life) (machine : Machine) (facts : Facts) (kept : ContentKept) (event : Event) (command : Command) (said : Observation)
      → IsKnown settings first begin from machine → PollsKnown settings machine kept.facts → P state from machine kept.facts
      → IsSending first machine event command → IsCommand command → observation_of_command command ≡ said
      → ((number : ℕ) → (facts_with facts said).polled ≡ Some number → number_with_command kept.number command ≡ Some (number_of first machine.round))
      → ((facts_with facts said).polled ≡ None → number_with_command kept.number command ≡ None)
      → KeepsContent settings rule (P (next state machine event) (life_of machine.history)) first facts kept (record { from_cpu = true; octets = command_octets command } ∷ []) (after_sending machine command)
  sent state from machine facts kept event command said known polls p may within says number unpolled =
      let reads = read_back command within in
      let frame : SentFrame = record { octets = command_octets command; round = machine.round } in
      one_frame settings rule (P (next state machine event) (life_of machine.history)) first facts kept (record { from_cpu = true; octets = command_octets command }) (after_sending machine command)
      said (number_with_command kept.number command) (Sent command ∷ [])
      (said_of command within ∙ says)
      (ap (λ read. number_after kept.number read None) reads)
      (ap (λ read. content_events kept.number read None) reads)
      (sent_keeps rule kept.facts command, tt) (i.sends state from machine kept.facts event command known may within p)
      (record {
        number = number;
        unpolled = unpolled;
        awaits = λ code other awaited last. awaits_sent kept.facts machine.to_module frame command other reads last;
        polls = polls_sent settings machine.to_module machine.polls machine.last_to_module machine.round (life_of machine.history) kept.facts.clear kept.facts.polled kept.facts.since_poll
            polls frame known.is_kept.one_life.made command reads (content_with kept.facts (Sent command)).since_poll
            (λ held input free. left_since (unwrap_or (polling (Sent command)) kept.facts.polled) (kept.facts.since_poll input) (kept.facts.inputs input) (item_for input (items_sent command)) held free);
      })

  numbered : (machine : Machine) (facts : Facts) (kept : ContentKept) → Agrees settings first machine facts kept → (polled : Option ℕ) → facts.polled ≡ polled
      → (kept.number ≡ Some (number_of first machine.round)) ⊎ (kept.number ≡ None)
  numbered machine facts kept a None is = inr (a.unpolled is)
  numbered machine facts kept a (Some polled) is = inl (a.number polled is)

  own_number : (machine : Machine) (kept : ContentKept) → (kept.number ≡ Some (number_of first machine.round)) ⊎ (kept.number ≡ None)
      → number_with_command kept.number (commands.Poll (number_of first machine.round)) ≡ Some (number_of first machine.round)
  own_number machine kept (inl is) = rw is refl
  own_number machine kept (inr none) = rw none refl

  module _ (state : S) (from : Life) (machine : Machine) (facts : Facts) (kept : ContentKept) (known : IsKnown settings first begin from machine)
      (a : Agrees settings first machine facts kept) (p : P state from machine kept.facts) where
    pub content-poll : let number = number_of first machine.round in
        KeepsContent settings rule (P (next state machine events.Poll) (life_of machine.history)) first facts kept (record { from_cpu = true; octets = command_octets (commands.Poll number) } ∷ [])
        (after_sending machine (commands.Poll number))
    content-poll =
        let number = number_of first machine.round in
        let fits : number < 256 = omega (arith, number_of-fits first machine.round) in
        sent state from machine facts kept events.Poll (commands.Poll number) (seen.Poll number) known a.polls p refl fits refl
        (λ polled is. own_number machine kept (numbered machine facts kept a facts.polled refl)) (λ is. absurd (cc is))

    pub content-send : (command : Command) → sending_refusal command ≡ None → IsCommand command
        → KeepsContent settings rule (P (next state machine (events.Send command)) (life_of machine.history)) first facts kept (record { from_cpu = true; octets = command_octets command } ∷ []) (after_sending machine command)
    content-send command fine within =
        let stays = number_stays kept.number command fine in
        sent state from machine facts kept (events.Send command) command (seen.Command (answer_type_to command) (names_absent command)) known a.polls p (refl, fine) within (other_said command fine)
        (λ polled is. stays ∙ a.number polled is) (λ is. stays ∙ a.unpolled is)

  module _ (state : S) (from : Life) (machine : Machine) (due : ℕ) (facts : Facts) (kept : ContentKept) (known : IsKnown settings first begin from machine)
      (f : Follows settings first from machine due facts) (a : Agrees settings first machine facts kept) (p : P state from machine kept.facts) where
    abbrev k : IsKept settings first machine
    k = known.is_kept

    abbrev now : Life
    now = life_of machine.history

    -- an event without a frame
    no_frame : (state_then : S) (later : Machine) → later.round ≡ machine.round → later.to_module ≡ machine.to_module → PollsKnown settings later kept.facts → P state_then from later kept.facts
        → KeepsContent settings rule (P state_then from) first facts kept [] later
    no_frame state_then later round frames polls holds =
        record { keep = tt; holds = holds; agrees = agrees-below settings first machine later facts kept round frames polls a }

    -- what is to be shown of an answer that is heard
    abbrev Hears : ℕ → List ℕ → Machine → Type 0
    Hears place octets later = (rest : List Event) → Holds state machine (events.ToCpu (place + 1) ∷ rest)
        → KeepsContent settings rule (P (next state machine (events.ToCpu (place + 1))) now) first facts kept (record { from_cpu = false; octets = octets } ∷ []) later

    abbrev Received : Command → Type 0
    Received command = IsReceived settings first from now facts machine.to_module machine.to_cpu machine.last_to_module machine.round due command

    hears_other : (command : Command) (place : ℕ) (frame : SentFrame) → slice_get machine.to_cpu place ≡ Some frame → (r : Received command)
        → IsHeardAs settings r.life command frame.octets
        → Hears place frame.octets (after_delivered_block first (record machine { last_to_cpu = place + 1 }) (block_in frame.octets))
    hears_other command place frame at r h =
        let octets = frame.octets in
        let later = record machine { last_to_cpu = place + 1 } in
        let type = answer_type_to command in
        let none : block_in octets ≡ None = no_block_said (answer_in octets) type h.accepted h.heard in
        let found = heard_events kept.number (answer_in octets) type h.accepted h.heard in
        subst (λ found. Hears place octets (after_delivered_block first later found)) (sym none) (λ rest holds.
        let step = i.hears state from machine kept.facts place rest command found.0 known
        (record {
          sent_last = r.sent_last;
          received = r.all;
          life = r.life;
          goes_on = r.goes_on;
          since = r.since;
          awaits = a.awaits type command r.asked.awaited r.sent_last;
          frame = frame;
          at_place = at;
          spells = found.1;
          heard_as = h;
        }) holds p in
        one_frame settings rule (P (next state machine (events.ToCpu (place + 1))) now) first facts kept (record { from_cpu = false; octets = octets }) later (seen.Answer type h.accepted)
        kept.number (Heard found.0 ∷ []) h.heard found.3 found.2 (step.0, tt) step.1
        (record { number = a.number; unpolled = a.unpolled; awaits = λ code command is. absurd (cc is); polls = a.polls }))

    hears_block : (number : ℕ) (place : ℕ) (frame : SentFrame) → slice_get machine.to_cpu place ≡ Some frame → machine.last_to_cpu ≤ place + 1
        → (r : Received (commands.Poll number))
        → IsBlockFor facts r.life number frame.octets
        → Hears place frame.octets (after_delivered_block first (record machine { last_to_cpu = place + 1 }) (block_in frame.octets))
    hears_block number place frame at le r h =
        let b = h.block in
        let own = number_of first machine.round in
        let blocks = blocks_in settings machine in
        let polled = r.asked.polled number refl in
        let has : HasBlock machine.to_cpu place b frame.round =
        record { frame = frame; at_place = at; spells = h.spells; of_round = refl } in
        let alike : b.number ≡ own = h.numbered ∙ polled.1 in
        let same = same_round first machine (in_order settings first machine k.always) place b frame.round le has alike in
        let c : CarriesBlockOf first blocks b machine.round =
        subst (CarriesBlockOf first blocks b) same (carries_own settings range first machine k.always k.one_life place b frame.round has) in
        let met : (b.number == own) ≡ true = grind (arith, nat_tests) in
        let taken : after_delivered_block first (record machine { last_to_cpu = place + 1 }) (block_in frame.octets) ≡ after_taken machine place b =
        ap (after_delivered_block first (record machine { last_to_cpu = place + 1 })) h.spells
        ∙ ap (λ is. if is then after_taken machine place b else record machine { last_to_cpu = place + 1 }) met in
        let known_number : kept.number ≡ Some own = a.number number polled.0 in
        let found = block_events own (answer_in frame.octets) b h.spells alike in
        subst (Hears place frame.octets) (sym taken) (λ rest holds.
        (let takes = i.takes state from machine kept.facts place rest number b c.block known
        (record {
          sent_last = r.sent_last;
          received = r.all;
          life = r.life;
          goes_on = r.goes_on;
          since = r.since;
          fresh = h.fresh;
          heard = subst (HasBlock machine.to_cpu place b) same has;
          made = c.is_made;
          carried = c.carried;
          after_is = ap (after_delivery_to_cpu first machine (place + 1)) (frame_at_place machine.to_cpu place ∙ at) ∙ taken;
        })
        a.polls holds p in
        one_frame settings rule (P (next state machine (events.ToCpu (place + 1))) now) first facts kept (record { from_cpu = false; octets = frame.octets }) (after_taken machine place b)
        (seen.Block b.number b.status (length b.entries) (list_any (λ entry. is_absent entry.input) b.entries))
        (Some ((own + 1) % 256)) (events_of_block b) (block_said (answer_in frame.octets) b h.spells)
        (ap (λ n. number_after n None (answer_in frame.octets)) known_number ∙ found.1)
        (ap (λ n. content_events n None (answer_in frame.octets)) known_number ∙ found.0)
        takes.0 takes.1
        (record {
          number = λ polled is. ap Some (sym (number_of-next first machine.round));
          unpolled = λ is. absurd (cc (is, polled.0));
          awaits = λ code command is. absurd (cc is);
          polls = polls_taken settings machine.to_module machine.polls machine.last_to_module machine.round now _ _ _ (unpolled_below kept.facts b)
              k.always.polls.sent k.always.at_most;
        })))

    hears : (command : Command) (place : ℕ) (frame : SentFrame) → slice_get machine.to_cpu place ≡ Some frame → machine.last_to_cpu ≤ place + 1
        → (r : Received command)
        → Answers settings facts r.life command frame.octets
        → Hears place frame.octets (after_delivery_to_cpu first machine (place + 1) (Some frame))
    hears (commands.Poll number) place frame at le r h = hears_block number place frame at le r h
    hears other place frame at le r h = hears_other other place frame at r h

    hears_due : (place : ℕ) (frame : SentFrame) → slice_get machine.to_cpu place ≡ Some frame
        → machine.last_to_cpu < place + 1 → place + 1 ≡ due → Stage settings first from facts machine due
        → Hears place frame.octets (after_delivery_to_cpu first machine (place + 1) (Some frame))
    hears_due place frame at new is (inl quiet) = absurd (omega (arith, quiet.past))
    hears_due place frame at new is (inr (inl u)) = absurd (omega (arith, u.1.none_due))
    hears_due place frame at new is (inr (inr (command, r))) =
        let here : place ≡ r.place = (let e : due ≡ r.place + 1 = r.due_is in omega arith) in
        hears command place frame at (omega arith) r (r.answer frame (ap (slice_get machine.to_cpu) (sym here) ∙ at))

    -- the frame sent last is read as a command
    last_reads : (place : ℕ) (frame : SentFrame) → machine.last_to_module < place + 1 → slice_get machine.to_module place ≡ Some frame
        → Stage settings first from facts machine due → place + 1 ≡ length machine.to_module → (command : Command) × (command_in frame.octets ≡ Some command)
    last_reads place frame new at (inl quiet) last = absurd (omega (arith, quiet.all))
    last_reads place frame new at (inr (inr received)) last = absurd (omega (arith, received.1.all))
    last_reads place frame new at (inr (inl (command, u))) last =
        let here : u.place ≡ place = omega (arith, u.sent_last) in
        let is : u.frame ≡ frame = same_Some _ _ (sym u.at_place ∙ ap (slice_get machine.to_module) here ∙ at) in
        (command, ap (λ (s : SentFrame). command_in s.octets) (sym is) ∙ u.spells)

    -- each event keeps the invariant
    pub content-event : (event : Event) → refusal machine event ≡ None → IsNotRestart event → IsWithinRanges event → IsPrompt machine due event
        → (rest : List Event) → Holds state machine (event ∷ rest)
        → KeepsContent settings rule (P (next state machine event) (from_after machine from event)) first facts kept (frames_at first machine event) (after settings first machine event)
    content-event (events.Scan raw) fine none within prompt rest holds =
        no_frame (next state machine (events.Scan raw)) (after settings first machine (events.Scan raw)) refl refl
        (polls_scanned settings machine.to_module machine.polls machine.last_to_module machine.round now kept.facts.clear kept.facts.polled kept.facts.since_poll a.polls raw)
        (i.happens state from machine kept.facts (events.Scan raw) rest known tt holds p)
    content-event events.LineSync fine none within prompt rest holds =
        no_frame (next state machine events.LineSync) (after settings first machine events.LineSync) refl refl
        (polls_synced settings machine.to_module machine.polls machine.last_to_module machine.round now kept.facts.clear kept.facts.polled kept.facts.since_poll a.polls)
        (i.happens state from machine kept.facts events.LineSync rest known tt holds p)
    content-event (events.Raise mask) fine none within prompt rest holds =
        no_frame (next state machine (events.Raise mask)) (after settings first machine (events.Raise mask)) refl refl
        (polls_raised settings machine.to_module machine.polls machine.last_to_module machine.round now kept.facts.clear kept.facts.polled kept.facts.since_poll a.polls mask)
        (i.happens state from machine kept.facts (events.Raise mask) rest known tt holds p)
    content-event events.Restart fine none within prompt rest holds = absurd none
    content-event events.Poll fine none within prompt rest holds = content-poll state from machine facts kept known a p
    content-event (events.Send command) fine none within prompt rest holds = content-send state from machine facts kept known a p command fine within
    content-event (events.ToModule index) fine none within prompt rest holds =
        let made_then : IsKept settings first (after settings first machine (events.ToModule index)) =
        kept_all settings range first (events.ToModule index ∷ []) machine (after settings first machine (events.ToModule index)) (tt, tt) (fine, refl) k in
        after_delivery (λ n found. IsKept settings first (after_delivery_to_module settings machine n found) → machine.last_to_module < n
        → KeepsContent settings rule (P (next state machine (events.ToModule n)) from) first facts kept [] (after_delivery_to_module settings machine n found))
        machine.to_module machine.last_to_module index fine
        (λ place frame le at made_then new. no_frame (next state machine (events.ToModule (place + 1))) (after_delivery_to_module settings machine (place + 1) (Some frame)) refl refl
        (polls_received settings machine.to_module machine.polls machine.last_to_module machine.round now kept.facts.clear kept.facts.polled kept.facts.since_poll a.polls
        place frame (omega (arith, new)) at k.one_life.made made_then.one_life.made)
        (i.receives state from machine kept.facts place frame known new at (last_reads place frame new at f.stage) p)) made_then prompt
    content-event (events.ToCpu index) fine none within prompt rest holds =
        after_delivery (λ n found. machine.last_to_cpu < n → n ≡ due → (rest : List Event) → Holds state machine (events.ToCpu n ∷ rest)
        → KeepsContent settings rule (P (next state machine (events.ToCpu n)) now) first facts kept (frame_heard found) (after_delivery_to_cpu first machine n found))
        machine.to_cpu machine.last_to_cpu index fine
        (λ place frame le at new is. hears_due place frame at new is f.stage) prompt.0 prompt.1 rest holds

  -- what is known stays so
  pub begun_after : (from : Life) (machine : Machine) (event : Event) → GoesOn (life_of begin.history) from → GoesOn from (life_of machine.history) → GoesOn (life_of begin.history) (from_after machine from event)
  begun_after from machine events.Poll begun now = goes_on-both (life_of begin.history) from (life_of machine.history) begun now
  begun_after from machine (events.Send command) begun now = goes_on-both (life_of begin.history) from (life_of machine.history) begun now
  begun_after from machine (events.ToCpu index) begun now = goes_on-both (life_of begin.history) from (life_of machine.history) begun now
  begun_after from machine (events.Scan raw) begun now = begun
  begun_after from machine events.LineSync begun now = begun
  begun_after from machine (events.Raise mask) begun now = begun
  begun_after from machine (events.ToModule index) begun now = begun
  begun_after from machine events.Restart begun now = begun

  round_heard : (machine : Machine) (index : ℕ) (found : Option SentFrame) → machine.round ≤ (after_delivery_to_cpu first machine index found).round
  round_heard machine index found = grind arith

  round_received : (machine : Machine) (index : ℕ) (found : Option SentFrame) → machine.round ≤ (after_delivery_to_module settings machine index found).round
  round_received machine index None = omega arith
  round_received machine index (Some frame) = omega arith

  pub rounds_after : (machine : Machine) (event : Event) → begin.round ≤ machine.round → begin.round ≤ (after settings first machine event).round
  rounds_after machine event low = grind (arith, round_heard, round_received)

  -- so all events do
  pub all_keep_content : (state : S) (later : List Event) (from : Life) (machine last : Machine) (due : ℕ) (facts : Facts) (kept : ContentKept) → IsKnown settings first begin from machine
      → Follows settings first from machine due facts → Agrees settings first machine facts kept → P state from machine kept.facts
      → Leads settings first machine later last → HaveNoRestart later → AllByRecursion IsWithinRanges later
      → ArePrompt settings first machine due later → Holds state machine later
      → FramesKeep rule kept (frames_from settings first machine later)
  all_keep_content state [] from machine last due facts kept known f a p leads none within prompt holds = tt
  all_keep_content state (event ∷ later) from machine last due facts kept known f a p leads none within prompt holds =
      let frames = frames_at first machine event in
      let next_machine = after settings first machine event in
      let here = keeps-event settings range first from machine due facts known.is_kept f event leads.0 none.0 within.0 prompt.0 in
      let now : IsKept settings first next_machine = kept_all settings range first (event ∷ []) machine next_machine (none.0, tt) (leads.0, refl) known.is_kept in
      let content = content-event state from machine due facts kept known f a p event leads.0 none.0 within.0 prompt.0 later holds in
      frames_keep rule kept frames (frames_from settings first next_machine later) content.keep
      (all_keep_content (next state machine event) later (from_after machine from event) next_machine last (due_after machine due event) (facts_below facts frames) (content_below kept frames)
      (record {
        is_kept = now;
        begun = begun_after from machine event known.begun known.now;
        rounds = rounds_after machine event known.rounds;
        now = here.follows.now;
      })
      here.follows content.agrees content.holds leads.1 none.1 within.1 prompt.1 (i.goes_on state machine event later holds))

  -- a command with which a log begins, and what is below it
  first_keeps : (event : Event) (later : List Event) (last : Machine) (r : ReachesLater settings range first begin last (event ∷ later))
      → Holds initial begin (event ∷ later)
      → from_after begin r.from event ≡ life_of begin.history
      → Keeps settings first (from_after begin r.from event) no_facts (frames_at first begin event) (after settings first begin event) (due_after begin r.due event)
      → KeepsContent settings rule (P (next initial begin event) (from_after begin r.from event)) first no_facts (kept_at_start false) (frames_at first begin event) (after settings first begin event)
      → FramesKeep rule (kept_at_start false) (frames_from settings first begin (event ∷ later))
  first_keeps event later last r holds same here content =
      let frames = frames_at first begin event in
      let next_machine = after settings first begin event in
      let now : IsKept settings first next_machine = kept_all settings range first (event ∷ []) begin next_machine (r.no_restart.0, tt) (r.leads.0, refl) r.is_kept in
      frames_keep rule (kept_at_start false) frames (frames_from settings first next_machine later) content.keep
      (all_keep_content (next initial begin event) later (from_after begin r.from event) next_machine last (due_after begin r.due event) (facts_below no_facts frames) (content_below (kept_at_start false) frames)
      (record {
        is_kept = now;
        begun = goes_on-same (life_of begin.history) (from_after begin r.from event) same;
        rounds = rounds_after begin event (omega arith);
        now = here.follows.now;
      })
      here.follows content.agrees content.holds r.leads.1 r.no_restart.1 r.within.1 r.prompt.1 (i.goes_on initial begin event later holds))

  pub known_first : IsKept settings first begin → IsKnown settings first begin (life_of begin.history) begin
  known_first k = record {
    is_kept = k;
    begun = record { more = []; is = refl };
    rounds = omega arith;
    now = record { more = []; is = refl };
  }

  pub later_keeps : (later : List Event) (last : Machine) → BeginsWithCommand later → ReachesLater settings range first begin last later
      → Holds initial begin later → FramesKeep rule (kept_at_start false) (frames_from settings first begin later)
  later_keeps [] last begins r holds = absurd begins
  later_keeps (events.Poll ∷ later) last begins r holds =
      let known = known_first r.is_kept in
      first_keeps events.Poll later last r holds refl
      (sends-poll settings first begin no_facts (may_begin settings first r.from begin r.due r.facts r.follows))
      (content-poll initial (life_of begin.history) begin no_facts (kept_at_start false) known (agrees-start settings false first begin (polls_begin settings begin.to_module begin.polls begin.last_to_module begin.round (life_of begin.history) false (λ input. false))) (i.begins known))
  later_keeps (events.Send command ∷ later) last begins r holds =
      let known = known_first r.is_kept in
      first_keeps (events.Send command) later last r holds refl
      (sends-other settings first begin no_facts (may_begin settings first r.from begin r.due r.facts r.follows) command r.leads.0 r.within.0)
      (content-send initial (life_of begin.history) begin no_facts (kept_at_start false) known (agrees-start settings false first begin (polls_begin settings begin.to_module begin.polls begin.last_to_module begin.round (life_of begin.history) false (λ input. false))) (i.begins known) command r.leads.0 r.within.0)
  later_keeps (other ∷ later) last begins r holds = absurd begins
