-- In a log that begins with both ends no more loads of the counter take effect than are sent in it: each frame is received once.
use Rattle.fio_ends.proofs.Names.{◌≡◌, ◌+◌, ◌<◌, ◌≤◌, ℕ, zero, suc, List, [], ◌∷◌, ◌++◌, take, Option, Some, None, refl, ap, subst, arith, slice_get, AllByRecursion, same_Some, Command, IsCommand, command_in, asked_number, counter_events, Settings, Life, LineSynced, life_of, life_after_command, loads_of, Event, SentFrame, Machine, start, number_of, after_sending, after_delivery_to_module, after_delivery_to_cpu, after, Leads, item_numbered, HaveNoRestart, ArePrompt, IsPrompt, IsNotRestart, refusal, due_after, IsWithinRanges, number_of-fits, after_delivery, LoadsAreSent, loads_sent}
use Rattle.fio_message.specs.declared.commands.Command.TheVariants as commands
use Rattle.fio_link.specs.declared.event.Event.TheVariants as events
use Rattle.fio_ends.proofs.Sends.{read_back}

-- ---- frames

-- whether a frame has a load
abbrev is_load : Option Command → ℕ
is_load (Some (commands.LoadCounter load)) = 1
is_load other = 0

-- how many of these have one
abbrev loads_among : List SentFrame → ℕ
loads_among [] = 0
loads_among (frame ∷ frames) = is_load (command_in frame.octets) + loads_among frames

among-append : (frames : List SentFrame) (frame : SentFrame) → loads_among (frames ++ frame ∷ []) ≡ loads_among frames + is_load (command_in frame.octets)
among-append [] frame = omega arith
among-append (first ∷ frames) frame = omega (arith, among-append frames frame)

-- of the first ones there are no more if more are sent
front-append : (count : ℕ) (frames : List SentFrame) (frame : SentFrame) → loads_among (take count frames) ≤ loads_among (take count (frames ++ frame ∷ []))
front-append zero frames frame = omega arith
front-append (suc count) [] frame = omega arith
front-append (suc count) (first ∷ frames) frame = omega (arith, front-append count frames frame)

front-all : (count : ℕ) (frames : List SentFrame) → loads_among (take count frames) ≤ loads_among frames
front-all zero frames = omega arith
front-all (suc count) [] = omega arith
front-all (suc count) (first ∷ frames) = omega (arith, front-all count frames)

-- and one at a later place is one more
front-more : (count place : ℕ) (frames : List SentFrame) (frame : SentFrame) → count ≤ place → slice_get frames place ≡ Some frame
    → loads_among (take count frames) + is_load (command_in frame.octets) ≤ loads_among (take (suc place) frames)
front-more count place [] frame low at = absurd (cc at)
front-more zero zero (first ∷ frames) frame low at =
    (let same : is_load (command_in first.octets) ≡ is_load (command_in frame.octets) = ap (λ (f : SentFrame). is_load (command_in f.octets)) (same_Some _ _ at) in omega (arith, same))
front-more zero (suc place) (first ∷ frames) frame low at = omega (arith, front-more zero place frames frame (omega arith) at)
front-more (suc count) zero (first ∷ frames) frame low at = absurd (omega (arith, low))
front-more (suc count) (suc place) (first ∷ frames) frame low at = omega (arith, front-more count place frames frame (omega (arith, low)) at)

-- ---- the module

abbrev is_asked : Option ℕ → ℕ
is_asked None = 0
is_asked (Some number) = 1

-- the loads that took effect, and the one that is asked for
abbrev loads_asked : Life → ℕ
loads_asked life = loads_of life + is_asked (asked_number (counter_events life))

synced : (life : Life) → loads_asked (LineSynced ∷ life) ≡ loads_asked life
synced life = grind arith

received : (command : Option Command) (life : Life) → loads_asked (life_after_command command life) ≤ loads_asked life + is_load command
received command life = grind arith

-- ---- both ends

record IsCounted (machine : Machine) (sent : ℕ) : Type 0 where
  pub all : loads_among machine.to_module ≡ sent
  pub asked : loads_asked (life_of machine.history) ≤ loads_among (take machine.last_to_module machine.to_module)

counted_start : IsCounted start 0
counted_start = record { all = refl; asked = omega arith }

counted-most : (machine : Machine) (sent : ℕ) → IsCounted machine sent → loads_of (life_of machine.history) ≤ sent
counted-most machine sent c = omega (arith, c.all, c.asked, front-all machine.last_to_module machine.to_module)

-- a command is sent
counted-sent : (machine : Machine) (sent : ℕ) (command : Command) → IsCommand command → IsCounted machine sent → IsCounted (after_sending machine command) (sent + is_load (Some command))
counted-sent machine sent command within c = grind (arith, among-append, front-append, read_back)

-- the CPU hears a frame
counted-heard : (first : ℕ) (machine : Machine) (sent index : ℕ) (found : Option SentFrame) → IsCounted machine sent
    → IsCounted (after_delivery_to_cpu first machine index found) sent
counted-heard first machine sent index found c = grind arith

module _ (settings : Settings) (first : ℕ) where
  -- the module receives one, for the first time
  counted-received : (machine : Machine) (sent place : ℕ) (frame : SentFrame) → machine.last_to_module < place + 1 → slice_get machine.to_module place ≡ Some frame → IsCounted machine sent
      → IsCounted (after_delivery_to_module settings machine (place + 1) (Some frame)) sent
  counted-received machine sent place frame new at c =
      let next : suc place ≡ place + 1 = omega arith in
      let more = subst (λ n. loads_among (take machine.last_to_module machine.to_module) + is_load (command_in frame.octets) ≤ loads_among (take n machine.to_module)) next
      (front-more machine.last_to_module place machine.to_module frame (omega (arith, new)) at) in
      let asked = received (command_in frame.octets) (life_of machine.history) in
      record { all = c.all; asked = omega (arith, c.asked, more, asked) }

  as_sent : (machine : Machine) (sent : ℕ) → IsCounted machine sent → IsCounted machine (sent + 0)
  as_sent machine sent c = record { all = omega (arith, c.all); asked = c.asked }

  counted-event : (event : Event) (machine : Machine) (due sent : ℕ) → refusal machine event ≡ None → IsNotRestart event → IsWithinRanges event → IsPrompt machine due event → IsCounted machine sent
      → IsCounted (after settings first machine event) (sent + loads_sent event)
  counted-event (events.Send (commands.LoadCounter load)) machine due sent fine none within prompt c = counted-sent machine sent (commands.LoadCounter load) within c
  counted-event (events.Send command) machine due sent fine none within prompt c = counted-sent machine sent command within c
  counted-event events.Poll machine due sent fine none within prompt c =
      (let fits : number_of first machine.round < 256 = omega (arith, number_of-fits first machine.round) in counted-sent machine sent (commands.Poll (number_of first machine.round)) fits c)
  counted-event events.LineSync machine due sent fine none within prompt c =
      (let same = synced (life_of machine.history) in record { all = omega (arith, c.all); asked = omega (arith, c.asked, same) })
  counted-event (events.Scan raw) machine due sent fine none within prompt c = record { all = omega (arith, c.all); asked = c.asked }
  counted-event (events.Raise mask) machine due sent fine none within prompt c = record { all = omega (arith, c.all); asked = c.asked }
  counted-event events.Restart machine due sent fine none within prompt c = absurd none
  counted-event (events.ToModule index) machine due sent fine none within prompt c =
      after_delivery (λ n found. machine.last_to_module < n → IsCounted (after_delivery_to_module settings machine n found) (sent + 0)) machine.to_module machine.last_to_module index fine
      (λ place frame le at new. as_sent (after_delivery_to_module settings machine (place + 1) (Some frame)) sent (counted-received machine sent place frame new at c)) prompt
  counted-event (events.ToCpu index) machine due sent fine none within prompt c =
      as_sent (after settings first machine (events.ToCpu index)) sent (counted-heard first machine sent index (item_numbered machine.to_cpu index) c)

  are_sent : (events : List Event) (machine last : Machine) (due sent : ℕ) → IsCounted machine sent → Leads settings first machine events last
      → HaveNoRestart events → AllByRecursion IsWithinRanges events → ArePrompt settings first machine due events → LoadsAreSent settings first sent machine events
  are_sent [] machine last due sent c leads none within prompt = tt
  are_sent (event ∷ rest) machine last due sent c leads none within prompt = (
    counted-most machine sent c,
    are_sent rest (after settings first machine event) last (due_after machine due event) (sent + loads_sent event) (counted-event event machine due sent leads.0 none.0 within.0 prompt.0 c)
        leads.1 none.1 within.1 prompt.1,
  )

  -- from the start of both ends
  pub loads_are_sent : (events : List Event) (last : Machine) → Leads settings first start events last → HaveNoRestart events
      → AllByRecursion IsWithinRanges events → ArePrompt settings first start 0 events → LoadsAreSent settings first 0 start events
  loads_are_sent events last leads none within prompt = are_sent events start last 0 0 counted_start leads none within prompt
