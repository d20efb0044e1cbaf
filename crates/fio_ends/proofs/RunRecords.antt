-- The poller of a prompt run's transcript is the run's own.
use Rattle.fio_ends.proofs.Names.{◌≡◌, ◌∙◌, ◌+◌, ◌<◌, ◌⊎◌, inl, inr, ℕ, true, false, List, [], ◌∷◌, ◌++◌, map, Option, Some, None, refl, ap, sym, subst, arith, fold, slice_get, AllByRecursion, same_Some, Command, command_octets, IsCommand, answer_in, block_in, Settings, AreInRange, after_hearing, Polling, facts_with, no_facts, number_polled, TranscriptLine, answer_type_to, names_absent, observation_in, observation_on, Facts, Observation, Event, Machine, SentFrame, start, number_of, item_numbered, after_delivered_block, after_delivery_to_cpu, after_delivery_to_module, refusal, sending_refusal, after_sending, after, Leads, IsNotRestart, HaveNoRestart, number_of-fits, after_delivery, IsKept, kept_all, kept, block_on, poller_with, poller_of, CpuFrame, frame_heard, cpu_frame_on, frames_at, frames_from, due_after, IsPrompt, ArePrompt, IsWithinRanges, Life, life_of, answer_from, answered_block, polling_of, HasRunsPoller, KeepsRecord}
use Rattle.fio_message.specs.declared.commands.Command.TheVariants as commands
use Rattle.fio_message.specs.Blocks.{Block as BlockOf}
use Rattle.fio_check.specs.declared.observation.Observation.TheVariants as seen
use Rattle.fio_link.specs.declared.event.Event.TheVariants as events
use Rattle.fio_ends.proofs.Pollers.{poller_by, poller_by-is}
use Rattle.fio_ends.proofs.GoodLines.{said_by}
use Rattle.fio_ends.proofs.Heard.{IsHeardAs}
use Rattle.fio_ends.proofs.Following.{Stage, Answers, Follows, IsReceived, facts_below, follows-start, from_after}
use Rattle.fio_ends.proofs.Sends.{said_of, other_said}
use Rattle.fio_ends.proofs.Hears.{no_block_said}
use Rattle.fio_ends.proofs.PromptRuns.{keeps-event}

-- ---- the poller of all lines

-- the block in a frame that the CPU hears
abbrev block_by : CpuFrame → Option BlockOf
block_by frame = answered_block (answer_from frame.from_cpu frame.octets)

-- the poller below frames
abbrev poller_by_frames : Option Polling → List CpuFrame → Option Polling
poller_by_frames poller [] = poller
poller_by_frames poller (frame ∷ frames) = poller_by_frames (poller_by poller (number_polled (said_by frame)) (block_by frame)) frames

of_lines : (poller : Option Polling) (lines : List TranscriptLine)
    → fold poller_with poller lines ≡ poller_by_frames poller (map cpu_frame_on lines)
of_lines poller [] = refl
of_lines poller (line ∷ lines) =
    ap (λ p. fold poller_with p lines) (poller_by-is poller line)
    ∙ of_lines (poller_by poller (number_polled (observation_on line)) (block_on line)) lines

of_both : (poller : Option Polling) (frames more : List CpuFrame)
    → poller_by_frames poller (frames ++ more) ≡ poller_by_frames (poller_by_frames poller frames) more
of_both poller [] more = refl
of_both poller (frame ∷ frames) more = of_both (poller_by poller (number_polled (said_by frame)) (block_by frame)) frames more

-- ---- one event

-- the poller is the run's, or there is none: no poll was sent, and nothing is recorded
abbrev IsRunsPoller : ℕ → Machine → Facts → Option Polling → Type 0
IsRunsPoller first machine facts poller =
    ((poller ≡ None) × (facts.polled ≡ None) × (machine.items ≡ [])) ⊎ (poller ≡ Some (polling_of first machine))

-- a poller hears as the machine does
hears_as : (first index : ℕ) (machine : Machine) (found : Option BlockOf)
    → after_hearing (polling_of first machine) found
    ≡ polling_of first (after_delivered_block first (record machine { last_to_cpu = index }) found)
hears_as first index machine found = grind arith

module _ (settings : Settings) (range : AreInRange settings) (first : ℕ) where
  -- a poll is sent
  polls : (machine : Machine) (facts : Facts) (poller : Option Polling) (o : Observation)
      → o ≡ seen.Poll (number_of first machine.round)
      → IsRunsPoller first machine facts poller
      → IsRunsPoller first (after_sending machine (commands.Poll (number_of first machine.round))) (facts_with facts o)
      (poller_by poller (number_polled o) None)
  polls machine facts poller o said (inl none) =
      inr (ap (λ p. poller_by p (number_polled o) None) none.0
      ∙ ap (λ q. poller_by None (number_polled q) None) said
      ∙ ap (λ items. Some (record { number = number_of first machine.round; items = items })) (sym none.2))
  polls machine facts poller o said (inr is) = inr (ap (λ p. poller_by p (number_polled o) None) is)

  -- another line leaves it
  passes : (machine later : Machine) (facts : Facts) (poller : Option Polling) (o : Observation)
      → number_polled o ≡ None → (facts_with facts o).polled ≡ facts.polled
      → polling_of first later ≡ polling_of first machine
      → IsRunsPoller first machine facts poller
      → IsRunsPoller first later (facts_with facts o) (poller_by poller (number_polled o) None)
  passes machine later facts poller o none same at (inl unpolled) =
      inl (
        ap (λ p. poller_by p (number_polled o) None) unpolled.0 ∙ ap (λ n. poller_by None n None) none,
        same ∙ unpolled.1,
        ap (λ (p : Polling). p.items) at ∙ unpolled.2,
      )
  passes machine later facts poller o none same at (inr is) =
      inr (ap (λ p. poller_by p (number_polled o) None) is ∙ ap Some (sym at))

  module _ (from : Life) (machine : Machine) (due : ℕ) (facts : Facts) (f : Follows settings first from machine due facts) (poller : Option Polling)
      (r : IsRunsPoller first machine facts poller) where
    -- an event without a line
    stays_by : (later : Machine) → polling_of first later ≡ polling_of first machine → IsRunsPoller first later facts poller
    stays_by later at = by r
      where
        by : IsRunsPoller first machine facts poller → IsRunsPoller first later facts poller
        by (inl unpolled) = inl (unpolled.0, unpolled.1, ap (λ (p : Polling). p.items) at ∙ unpolled.2)
        by (inr is) = inr (is ∙ ap Some (sym at))

    as_received : (index : ℕ) (found : Option SentFrame)
        → polling_of first (after_delivery_to_module settings machine index found) ≡ polling_of first machine
    as_received index None = refl
    as_received index (Some frame) = refl

    sends : (command : Command) → sending_refusal command ≡ None → IsCommand command
        → IsRunsPoller first (after_sending machine command) (facts_with facts (observation_in true (command_octets command)))
        (poller_by poller (number_polled (observation_in true (command_octets command))) None)
    sends command fine within =
        let said = said_of command within ∙ other_said command fine in
        let o : Observation = seen.Command (answer_type_to command) (names_absent command) in
        subst (λ q. IsRunsPoller first (after_sending machine command) (facts_with facts q) (poller_by poller (number_polled q) None)) (sym said)
        (passes machine (after_sending machine command) facts poller o refl refl refl r)

    -- the CPU hears the answer that is due, where there is a poller
    hears_some : (place : ℕ) (octets : List ℕ) → poller ≡ Some (polling_of first machine)
        → poller_by poller (number_polled (observation_in false octets)) (block_in octets)
        ≡ Some (polling_of first (after_delivered_block first (record machine { last_to_cpu = place + 1 }) (block_in octets)))
    hears_some place octets is =
        ap (λ p. poller_by p (number_polled (observation_in false octets)) (block_in octets)) is
        ∙ ap Some (hears_as first (place + 1) machine (block_in octets))

    -- and where there is none, since no poll was sent
    hears_none : (command : Command) (place : ℕ) (octets : List ℕ)
        → (done : IsReceived settings first from (life_of machine.history) facts machine.to_module machine.to_cpu machine.last_to_module machine.round due command)
        → Answers settings facts done.life command octets → (poller ≡ None) × (facts.polled ≡ None) × (machine.items ≡ [])
        → IsRunsPoller first (after_delivered_block first (record machine { last_to_cpu = place + 1 }) (block_in octets))
        (facts_with facts (observation_in false octets))
        (poller_by poller (number_polled (observation_in false octets)) (block_in octets))
    hears_none (commands.Poll number) place octets done h unpolled =
        absurd (cc (unpolled.1, (done.asked.polled number refl).0))
    hears_none other place octets done h unpolled = hears_other other place octets h
      where
        hears_other : (command : Command) (place : ℕ) (octets : List ℕ) → IsHeardAs settings done.life command octets
            → IsRunsPoller first (after_delivered_block first (record machine { last_to_cpu = place + 1 }) (block_in octets))
            (facts_with facts (observation_in false octets))
            (poller_by poller (number_polled (observation_in false octets)) (block_in octets))
        hears_other command place octets h =
            let later = record machine { last_to_cpu = place + 1 } in
            let none : block_in octets ≡ None = no_block_said (answer_in octets) (answer_type_to command) h.accepted h.heard in
            subst (λ found. IsRunsPoller first (after_delivered_block first later found) (facts_with facts (observation_in false octets))
            (poller_by poller (number_polled (observation_in false octets)) found)) (sym none)
            (subst (λ o. IsRunsPoller first later (facts_with facts o) (poller_by poller (number_polled o) None)) (sym h.heard)
            (passes machine later facts poller (seen.Answer (answer_type_to command) h.accepted) refl refl refl r))

    hears : (place : ℕ) (frame : SentFrame) → slice_get machine.to_cpu place ≡ Some frame
        → machine.last_to_cpu < place + 1 → place + 1 ≡ due → Stage settings first from facts machine due
        → IsRunsPoller first machine facts poller
        → IsRunsPoller first (after_delivery_to_cpu first machine (place + 1) (Some frame)) (facts_with facts (observation_in false frame.octets))
        (poller_by poller (number_polled (observation_in false frame.octets)) (block_in frame.octets))
    hears place frame at new is stage (inr there) = inr (hears_some place frame.octets there)
    hears place frame at new is (inl quiet) (inl unpolled) = absurd (omega (arith, quiet.past))
    hears place frame at new is (inr (inl u)) (inl unpolled) = absurd (omega (arith, u.1.none_due))
    hears place frame at new is (inr (inr (command, done))) (inl unpolled) =
        let here : place ≡ done.place = (let e : due ≡ done.place + 1 = done.due_is in omega arith) in
        hears_none command place frame.octets done (done.answer frame (ap (slice_get machine.to_cpu) (sym here) ∙ at)) unpolled

    -- each event keeps it
    runs_poller : (event : Event) → refusal machine event ≡ None → IsNotRestart event → IsWithinRanges event
        → IsPrompt machine due event
        → IsRunsPoller first (after settings first machine event) (facts_below facts (frames_at first machine event))
        (poller_by_frames poller (frames_at first machine event))
    runs_poller (events.Scan raw) fine none within prompt =
        stays_by (after settings first machine (events.Scan raw)) refl
    runs_poller events.LineSync fine none within prompt =
        stays_by (after settings first machine events.LineSync) refl
    runs_poller (events.Raise mask) fine none within prompt =
        stays_by (after settings first machine (events.Raise mask)) refl
    runs_poller events.Restart fine none within prompt = absurd none
    runs_poller events.Poll fine none within prompt =
        let number = number_of first machine.round in
        let fits : number < 256 = omega (arith, number_of-fits first machine.round) in
        polls machine facts poller (observation_in true (command_octets (commands.Poll number))) (said_of (commands.Poll number) fits) r
    runs_poller (events.Send command) fine none within prompt = sends command fine within
    runs_poller (events.ToModule index) fine none within prompt = stays_by (after settings first machine (events.ToModule index)) (as_received index (item_numbered machine.to_module index))
    runs_poller (events.ToCpu index) fine none within prompt =
        after_delivery (λ n found. machine.last_to_cpu < n → n ≡ due
        → IsRunsPoller first (after_delivery_to_cpu first machine n found) (facts_below facts (frame_heard found)) (poller_by_frames poller (frame_heard found)))
        machine.to_cpu machine.last_to_cpu index fine
        (λ place frame le at new is. hears place frame at new is f.stage r) (omega arith) (omega arith)

  -- so all events do
  all_have : (events : List Event) (from : Life) (machine last : Machine) (due : ℕ) (facts : Facts) (poller : Option Polling)
      → IsKept settings first machine → Follows settings first from machine due facts → IsRunsPoller first machine facts poller
      → Leads settings first machine events last → HaveNoRestart events → AllByRecursion IsWithinRanges events
      → ArePrompt settings first machine due events
      → (facts' : Facts) × IsRunsPoller first last facts' (poller_by_frames poller (frames_from settings first machine events))
  all_have [] from machine last due facts poller k f r leads none within prompt =
      (facts, subst (λ m. IsRunsPoller first m facts poller) (sym leads) r)
  all_have (event ∷ events) from machine last due facts poller k f r leads none within prompt =
      let here = keeps-event settings range first from machine due facts k f event leads.0 none.0 within.0 prompt.0 in
      let frames = frames_at first machine event in
      let next = after settings first machine event in
      let now : IsKept settings first next =
      kept_all settings range first (event ∷ []) machine next (none.0, tt) (leads.0, refl) k in
      let rest = all_have events (from_after machine from event) next last (due_after machine due event) (facts_below facts frames) (poller_by_frames poller frames) now here.follows
      (runs_poller from machine due facts f poller r event leads.0 none.0 within.0 prompt.0) leads.1 none.1 within.1 prompt.1 in
      (rest.0, subst (IsRunsPoller first last rest.0) (sym (of_both poller frames (frames_from settings first next events))) rest.1)

has_poller : (first : ℕ) (machine : Machine) (facts : Facts) (lines : List TranscriptLine)
    → IsRunsPoller first machine facts (poller_of lines) → HasRunsPoller first machine lines
has_poller first machine facts lines (inl unpolled) =
    record { same = λ poller is. absurd (cc (unpolled.0, is)); none = λ is. unpolled.2 }
has_poller first machine facts lines (inr there) =
    record { same = λ poller is. same_Some _ _ (sym is ∙ there); none = λ is. absurd (cc (is, there)) }

-- the record of a prompt run's transcript is that of the run's poller
pub keeps_record : KeepsRecord
keeps_record settings first events machine range run lines has =
    let found = all_have settings range first events [] start machine 0 no_facts None
    (kept settings range first [] start refl tt) (follows-start settings first) (inl (refl, refl, refl))
    run.is_run run.no_restart run.within run.prompt in
    has_poller first machine found.0 lines
    (subst (IsRunsPoller first machine found.0)
    (sym (of_lines None lines ∙ ap (poller_by_frames None) has)) found.1)
