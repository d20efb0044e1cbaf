-- Both ends over two lines follow the link machine, event by event.
use Rattle.fio_ends.proofs.Names.{◌≡◌, ◌+◌, ◌%◌, ◌<◌, ◌==◌, ℕ, Bool, true, false, List, [], ◌∷◌, ◌++◌, Option, Some, None, refl, ap, sym, subst, arith, if◌then◌else◌, Command, Answer, block_in, command_octets, IsCommand, Settings, AreInRange, Polling, after_hearing, Event, Machine, start, number_of, after, refusal, Leads, Arrives, AtCpu, AtModule, Block, EndOf, FLAG, Framing, Happens, History, IsFraming, LeadOverLines, LineSync, Loss, Octet, Raise, Restart, Scan, Send, ToCpu, ToModule, WireEvent, WireLine, WiredEnds, after_delivered_block, after_delivery_to_cpu, after_delivery_to_module, after_line_event, after_message, after_receipt, after_sending, answer_frames, ends_at_start, events_on_wire, items_of_block, line_after, message_heard, number_of-fits, number_of-next, polling_of, reply_to, runs_are_sound, with_answer_written, with_written, Headline, IsRun, headline, MayCome, MayHappen, after_happening, HoldsOverLines, LinesAreRuns, HeadlineOverLines}
use Rattle.fio_message.specs.declared.commands.Command.TheVariants as commands
use Rattle.fio_module.specs.Life as lives
use Rattle.fio_link.specs.declared.event.Event.TheVariants.{Poll}
use Rattle.fio_ends.proofs.LineMessages.{command_is_message, reply_is_message}
use Rattle.fio_ends.proofs.LineFrames.{IsLine, Ended, line_written, line_answered, line_octet, line_lost, line_ended}

-- The ends have what the machine has.
pub record Follows (framing : Framing) (first : ℕ) (machine : Machine) (ends : WiredEnds) : Type 0 where
  pub history : ends.history ≡ machine.history
  pub polling : ends.polling ≡ polling_of first machine
  pub to_module : IsLine framing machine.to_module machine.last_to_module ends.to_module
  pub to_cpu : IsLine framing machine.to_cpu machine.last_to_cpu ends.to_cpu

module _ (settings : Settings) (range : AreInRange settings) (framing : Framing) (is_framing : IsFraming framing) (first : ℕ) where
  abbrev Goes : Machine → Event → WiredEnds → Type 0
  Goes machine event next = (refusal machine event ≡ None) × Follows framing first (after settings first machine event) next

  -- a line brings to the module what is no end of a frame
  module_quiet : (machine : Machine) (ends : WiredEnds) (line : WireLine) (heard : Option (List ℕ)) → Follows framing first machine ends
      → IsLine framing machine.to_module machine.last_to_module line → heard ≡ None
      → Follows framing first machine (after_receipt settings framing (record ends { to_module = line }) heard)
  module_quiet machine ends line heard f l none =
      subst (λ h. Follows framing first machine (after_receipt settings framing (record ends { to_module = line }) h)) (sym none)
      (record { history = f.history; polling = f.polling; to_module = l; to_cpu = f.to_cpu })

  cpu_quiet : (machine : Machine) (ends : WiredEnds) (line : WireLine) (heard : Option (List ℕ)) → Follows framing first machine ends
      → IsLine framing machine.to_cpu machine.last_to_cpu line → heard ≡ None
      → Follows framing first machine (after_message (record ends { to_cpu = line }) heard)
  cpu_quiet machine ends line heard f l none =
      subst (λ h. Follows framing first machine (after_message (record ends { to_cpu = line }) h)) (sym none)
      (record { history = f.history; polling = f.polling; to_module = f.to_module; to_cpu = l })

  -- a frame ends at the module, which replies
  module_ended : (machine : Machine) (ends : WiredEnds) (number : ℕ) (f : Follows framing first machine ends)
      → Ended framing is_framing machine.to_module machine.last_to_module ends.to_module f.to_module number
      → Goes machine (ToModule number) (after_line_event settings framing ends (AtModule (EndOf number)))
  module_ended machine ends number f e =
      let frame = e.frame in
      let before = record ends { to_module = line_after ends.to_module (EndOf number) } in
      let reply : History → Option Answer = λ history. reply_to settings history frame.octets in
      let answered : IsLine framing (machine.to_cpu ++ answer_frames (reply machine.history) frame.round) machine.last_to_cpu
      (with_answer_written framing ends.to_cpu (reply machine.history)) =
      line_answered framing is_framing machine.to_cpu machine.last_to_cpu ends.to_cpu f.to_cpu (reply machine.history) frame.round
      (λ answer is. reply_is_message settings range machine.history frame.octets e.message.0 answer is) in
      let next : Follows framing first (after_delivery_to_module settings machine number (Some frame))
      (after_receipt settings framing before (Some frame.octets)) =
      record {
        history = ap (λ (h : History). lives.Received frame.octets ∷ h) f.history;
        polling = f.polling;
        to_module = e.next_line;
        to_cpu =
            subst (λ h. IsLine framing (machine.to_cpu ++ answer_frames (reply machine.history) frame.round) machine.last_to_cpu
            (with_answer_written framing ends.to_cpu (reply h))) (sym f.history) answered;
      } in (
        e.fine,
        subst (λ found. Follows framing first (after_delivery_to_module settings machine number found)
            (after_receipt settings framing before (message_heard framing.own ends.to_module.reading (Octet FLAG)))) (sym e.is)
            (subst (λ heard. Follows framing first (after_delivery_to_module settings machine number (Some frame))
            (after_receipt settings framing before heard)) (sym e.heard) next),
      )

  -- a frame ends at the CPU, which takes its block or does not
  module _ (machine : Machine) (ends : WiredEnds) (number : ℕ) (f : Follows framing first machine ends)
      (e : Ended framing is_framing machine.to_cpu machine.last_to_cpu ends.to_cpu f.to_cpu number) where
    abbrev delivered : Machine
    delivered = record machine { last_to_cpu = number }

    abbrev hearing : Polling → WiredEnds
    hearing polling = record ends { polling = polling; to_cpu = line_after ends.to_cpu (EndOf number) }

    taken_if : (taken : Bool) (block : Block)
        → Follows framing first
        (if taken then record delivered { round = machine.round + 1; items = machine.items ++ items_of_block block } else delivered)
        (hearing (if taken
        then record { number = (number_of first machine.round + 1) % 256; items = machine.items ++ items_of_block block }
        else polling_of first machine))
    taken_if false block = record { history = f.history; polling = refl; to_module = f.to_module; to_cpu = e.next_line }
    taken_if true block = record {
      history = f.history;
      polling =
          ap (λ n. record { number = n; items = machine.items ++ items_of_block block }) (sym (number_of-next first machine.round));
      to_module = f.to_module;
      to_cpu = e.next_line;
    }

    hears : (found : Option Block)
        → Follows framing first (after_delivered_block first delivered found) (hearing (after_hearing (polling_of first machine) found))
    hears None = record { history = f.history; polling = refl; to_module = f.to_module; to_cpu = e.next_line }
    hears (Some block) = taken_if (block.number == number_of first machine.round) block

    cpu_ended : Goes machine (ToCpu number) (after_line_event settings framing ends (AtCpu (EndOf number)))
    cpu_ended =
        let frame = e.frame in
        let before = record ends { to_cpu = line_after ends.to_cpu (EndOf number) } in
        let next : Follows framing first (after_delivery_to_cpu first machine number (Some frame))
        (after_message before (Some frame.octets)) =
        subst (λ polling. Follows framing first (after_delivery_to_cpu first machine number (Some frame))
        (hearing (after_hearing polling (block_in frame.octets)))) (sym f.polling) (hears (block_in frame.octets)) in (
          e.fine,
          subst (λ found. Follows framing first (after_delivery_to_cpu first machine number found)
              (after_message before (message_heard framing.own ends.to_cpu.reading (Octet FLAG)))) (sym e.is)
              (subst (λ heard. Follows framing first (after_delivery_to_cpu first machine number (Some frame))
              (after_message before heard)) (sym e.heard) next),
        )

  -- a command is written
  sends : (machine : Machine) (ends : WiredEnds) (command : Command) → Follows framing first machine ends → IsCommand command
      → Follows framing first (after_sending machine command)
      (record ends { to_module = with_written framing ends.to_module (command_octets command) })
  sends machine ends command f fits = record {
    history = f.history;
    polling = f.polling;
    to_module =
        line_written framing is_framing machine.to_module machine.last_to_module ends.to_module f.to_module
        (record { octets = command_octets command; round = machine.round }) (command_is_message command fits);
    to_cpu = f.to_cpu;
  }

  -- something reaches the module that is no frame
  reaches : (machine : Machine) (ends : WiredEnds) (event : lives.Event) → Follows framing first machine ends
      → Follows framing first (record machine { history = event ∷ machine.history }) (record ends { history = event ∷ ends.history })
  reaches machine ends event f = record {
    history = ap (λ (h : History). event ∷ h) f.history;
    polling = f.polling;
    to_module = f.to_module;
    to_cpu = f.to_cpu;
  }

  happens : (machine : Machine) (ends : WiredEnds) (event : Event) → Follows framing first machine ends → MayHappen event
      → Goes machine event (after_happening framing ends event)
  happens machine ends (Scan raw) f may = (refl, reaches machine ends (lives.Scan raw) f)
  happens machine ends LineSync f may = (refl, reaches machine ends lives.LineSync f)
  happens machine ends (Raise mask) f may = (refl, reaches machine ends (lives.Raise mask) f)
  happens machine ends Restart f may = (
    refl,
    record {
      history = ap (λ (h : History). lives.Restart ∷ h) f.history;
      polling = f.polling;
      to_module =
          record { written = f.to_module.written; same_last = f.to_module.same_last; messages = f.to_module.messages; reading = tt };
      to_cpu = f.to_cpu;
    },
  )
  happens machine ends Poll f may =
      let number = number_of first machine.round in (
        refl,
        subst (λ (p : Polling). Follows framing first (after_sending machine (commands.Poll number))
            (record ends { to_module = with_written framing ends.to_module (command_octets (commands.Poll p.number)) })) (sym f.polling)
            (sends machine ends (commands.Poll number) f (omega (arith, number_of-fits first machine.round))),
      )
  happens machine ends (Send command) f may = (may.0, sends machine ends command f may.1)
  happens machine ends (ToModule number) f may = absurd may
  happens machine ends (ToCpu number) f may = absurd may

  -- the machine to which the events of the link lead
  abbrev LeadsOn : Machine → List WireEvent → WiredEnds → Type 0
  LeadsOn machine events last =
      (end : Machine) × Leads settings first machine (events_on_wire events) end × Follows framing first end last

  on : (machine : Machine) (event : Event) (events : List WireEvent) (next last : WiredEnds) → Goes machine event next
      → (Follows framing first (after settings first machine event) next → LeadsOn (after settings first machine event) events last)
      → (end : Machine) × Leads settings first machine (event ∷ events_on_wire events) end × Follows framing first end last
  on machine event events later last goes rest =
      let last_machine = rest goes.1 in
      (last_machine.0, (goes.0, last_machine.1), last_machine.2)

  follow_all : (events : List WireEvent) (machine : Machine) (ends last : WiredEnds) → Follows framing first machine ends
      → LeadOverLines settings framing ends events last → LeadsOn machine events last
  follow_all [] machine ends last f lead = (machine, refl, subst (Follows framing first machine) (sym lead) f)
  follow_all (Happens event ∷ events) machine ends last f lead =
      let next = after_happening framing ends event in
      on machine event events next last (happens machine ends event f lead.0)
      (λ g. follow_all events (after settings first machine event) next last g lead.1)
  follow_all (AtModule (Arrives (Octet octet)) ∷ events) machine ends last f lead =
      let line = line_octet framing is_framing machine.to_module machine.last_to_module ends.to_module f.to_module octet lead.0 in
      follow_all events machine (after_line_event settings framing ends (AtModule (Arrives (Octet octet)))) last
      (module_quiet machine ends (line_after ends.to_module (Arrives (Octet octet))) (message_heard framing.own ends.to_module.reading (Octet octet)) f line.1 line.0)
      lead.1
  follow_all (AtModule (EndOf number) ∷ events) machine ends last f lead =
      let next = after_line_event settings framing ends (AtModule (EndOf number)) in
      let ended = line_ended framing is_framing machine.to_module machine.last_to_module ends.to_module f.to_module number lead.0 in
      on machine (ToModule number) events next last (module_ended machine ends number f ended)
      (λ g. follow_all events (after settings first machine (ToModule number)) next last g lead.1)
  follow_all (AtModule (Arrives Loss) ∷ events) machine ends last f lead =
      follow_all events machine (after_line_event settings framing ends (AtModule (Arrives Loss))) last
      (module_quiet machine ends (line_after ends.to_module (Arrives Loss)) None f
      (line_lost framing is_framing machine.to_module machine.last_to_module ends.to_module f.to_module) refl) lead.1
  follow_all (AtCpu (Arrives (Octet octet)) ∷ events) machine ends last f lead =
      let line = line_octet framing is_framing machine.to_cpu machine.last_to_cpu ends.to_cpu f.to_cpu octet lead.0 in
      follow_all events machine (after_line_event settings framing ends (AtCpu (Arrives (Octet octet)))) last
      (cpu_quiet machine ends (line_after ends.to_cpu (Arrives (Octet octet))) (message_heard framing.own ends.to_cpu.reading (Octet octet)) f line.1 line.0)
      lead.1
  follow_all (AtCpu (EndOf number) ∷ events) machine ends last f lead =
      let next = after_line_event settings framing ends (AtCpu (EndOf number)) in
      let ended = line_ended framing is_framing machine.to_cpu machine.last_to_cpu ends.to_cpu f.to_cpu number lead.0 in
      on machine (ToCpu number) events next last (cpu_ended machine ends number f ended)
      (λ g. follow_all events (after settings first machine (ToCpu number)) next last g lead.1)
  follow_all (AtCpu (Arrives Loss) ∷ events) machine ends last f lead =
      follow_all events machine (after_line_event settings framing ends (AtCpu (Arrives Loss))) last
      (cpu_quiet machine ends (line_after ends.to_cpu (Arrives Loss)) None f
      (line_lost framing is_framing machine.to_cpu machine.last_to_cpu ends.to_cpu f.to_cpu) refl) lead.1

  -- one event that may come
  pub follow_one : (event : WireEvent) (machine : Machine) (ends : WiredEnds) → Follows framing first machine ends
      → MayCome framing ends event → (end : Machine) × Follows framing first end (after_line_event settings framing ends event)
  follow_one event machine ends f may =
      let run = follow_all (event ∷ []) machine ends (after_line_event settings framing ends event) f (may, refl) in
      (run.0, run.2)

  pub begin : first < 256 → Follows framing first start (ends_at_start first)
  begin fits =
      let number : first ≡ number_of first 0 = omega arith in
      record {
        history = refl;
        polling = ap (λ n. record { number = n; items = [] }) number;
        to_module = record { written = refl; same_last = refl; messages = tt; reading = tt };
        to_cpu = record { written = refl; same_last = refl; messages = tt; reading = tt };
      }

-- the machine to which the events of the link lead
record IsFollowed (settings : Settings) (framing : Framing) (first : ℕ) (events : List WireEvent) (last : WiredEnds) : Type 0 where
  machine : Machine
  is_run : IsRun settings first (events_on_wire events) machine
  follows : Follows framing first machine last

followed : HoldsOverLines IsFollowed
followed settings framing first events last range is_framing fits lead =
    let run = follow_all settings range framing is_framing first events start (ends_at_start first) last
    (begin settings range framing is_framing first fits) lead in
    record { machine = run.0; is_run = run.1; follows = run.2 }

-- Both ends over two lines are a run of the link.
pub lines_are_runs : LinesAreRuns
lines_are_runs settings framing first events last range is_framing fits lead =
    let run = followed settings framing first events last range is_framing fits lead in
    record {
      machine = run.machine;
      sound = runs_are_sound settings first (events_on_wire events) run.machine range run.is_run;
      history = run.follows.history;
      polling = run.follows.polling;
      to_module = run.follows.to_module.written;
      to_cpu = run.follows.to_cpu.written;
    }

-- So the headline holds of the record at the end of the line.
pub headline_over_lines : HeadlineOverLines
headline_over_lines settings framing first events last range is_framing fits lead =
    let run = followed settings framing first events last range is_framing fits lead in
    subst (λ (polling : Polling). Headline settings first (events_on_wire events) polling.items) (sym run.follows.polling)
    (headline settings first (events_on_wire events) run.machine range run.is_run)
