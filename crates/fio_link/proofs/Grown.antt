-- What events without a restart do to the module's life.
use Rattle.std.proofs.lemmas.Bool.Decides.{nat_tests}
use Rattle.fio_link.proofs.Names.{◌≡◌, ℕ, ◌+◌, ◌≤◌, Bool, true, false, List, [], ◌∷◌, ◌++◌, Option, Some, None, refl, ap, sym, subst, ◌∙◌, arith, append_assoc, if◌then◌else◌, Command, ConfigureInputs, Block, command_in, scans_in, Settings, Life, Scanned, LineSynced, Commanded, life_of, life_after_command, scans_of, filter_events, scans_in-append, scans_of-append, items_of_block, Event, SentFrame, Machine, after_delivery_to_module, after_delivered_block, after_delivery_to_cpu, after, Leads, IsNotRestart, HaveNoRestart, IsWithin, LeadsInTime}
use Rattle.fio_module.specs.Life.{Raised}
use Rattle.fio_link.specs.declared.event.Event.TheVariants as events
use Rattle.fio_link.specs.Settled.{LeadsOn}

-- how many scans there are among events
abbrev pub scans_among : List Event → ℕ
scans_among [] = 0
scans_among (events.Scan raw ∷ events) = scans_among events + 1
scans_among (other ∷ events) = scans_among events

-- what events without a restart do to the module's life and to the CPU's round
pub record Grows (machine last : Machine) (scans : ℕ) : Type 0 where
  pub stretch : Life
  pub life : life_of last.history ≡ stretch ++ life_of machine.history
  pub few : scans_in (filter_events stretch) ≤ scans
  pub round : machine.round ≤ last.round

-- a frame that is delivered to the module
grows-command : (life : Life) (found : Option Command)
    → (stretch : Life) × (life_after_command found life ≡ stretch ++ life) × (scans_in (filter_events stretch) ≤ 0)
grows-command life None = ([], refl, omega arith)
grows-command life (Some (ConfigureInputs items)) = (Commanded (ConfigureInputs items) ∷ [], refl, omega arith)
grows-command life (Some command) = (Commanded command ∷ [], refl, omega arith)

grows-received : (settings : Settings) (machine : Machine) (index : ℕ) (found : Option SentFrame)
    → Grows machine (after_delivery_to_module settings machine index found) 0
grows-received settings machine index None = grind (arith, nat_tests)
grows-received settings machine index (Some frame) =
    let c = grows-command (life_of machine.history) (command_in frame.octets) in
    record { stretch = c.0; life = c.1; few = c.2; round = omega arith }

-- a frame that is delivered to the CPU
grows-taken : (machine before : Machine) (block : Block) (same : Bool) → life_of before.history ≡ life_of machine.history
    → machine.round ≤ before.round
    → Grows machine (if same then record before { round = before.round + 1; items = before.items ++ items_of_block block } else before) 0
grows-taken machine before block true life round = grind (arith, nat_tests)
grows-taken machine before block false life round = grind (arith, nat_tests)

grows-block : (first : ℕ) (machine before : Machine) (found : Option Block) → life_of before.history ≡ life_of machine.history
    → machine.round ≤ before.round → Grows machine (after_delivered_block first before found) 0
grows-block first machine before None life round = grind (arith, nat_tests)
grows-block first machine before (Some block) life round = grind (arith, nat_tests, grows-taken)

grows-heard : (first : ℕ) (machine : Machine) (index : ℕ) (found : Option SentFrame)
    → Grows machine (after_delivery_to_cpu first machine index found) 0
grows-heard first machine index None = grind (arith, nat_tests)
grows-heard first machine index (Some frame) = grind (arith, nat_tests, grows-block)

-- one event
grows-once : (settings : Settings) (first : ℕ) (machine : Machine) (event : Event) → IsNotRestart event
    → Grows machine (after settings first machine event) (scans_among (event ∷ []))
grows-once settings first machine (events.Scan raw) not =
    record { stretch = Scanned raw ∷ []; life = refl; few = omega arith; round = omega arith }
grows-once settings first machine events.LineSync not =
    record { stretch = LineSynced ∷ []; life = refl; few = omega arith; round = omega arith }
grows-once settings first machine (events.Raise mask) not =
    record { stretch = Raised mask ∷ []; life = refl; few = omega arith; round = omega arith }
grows-once settings first machine events.Restart not = absurd not
grows-once settings first machine (events.ToModule index) not = grind (arith, nat_tests, grows-received)
grows-once settings first machine (events.ToCpu index) not = grind (arith, nat_tests, grows-heard)
grows-once settings first machine _ not = grind (arith, nat_tests)

-- and what follows
grows-then : (machine next last : Machine) (once scans : ℕ) → Grows machine next once → Grows next last scans
    → Grows machine last (once + scans)
grows-then machine next last once scans g h =
    let parts = scans_in-append h.stretch g.stretch in
    record {
      stretch = h.stretch ++ g.stretch;
      life = h.life ∙ ap (λ l. h.stretch ++ l) g.life ∙ sym (append_assoc h.stretch g.stretch (life_of machine.history));
      few = omega (arith, g.few, h.few);
      round = omega (arith, g.round, h.round);
    }

scans-more : (event : Event) (later : List Event) → scans_among (event ∷ []) + scans_among later ≡ scans_among (event ∷ later)
scans-more (events.Scan raw) later = omega arith
scans-more other later = omega arith

pub grows : (settings : Settings) (first : ℕ) (machine last : Machine) (events : List Event) → HaveNoRestart events
    → Leads settings first machine events last → Grows machine last (scans_among events)
grows settings first machine last [] none leads = grind (arith, nat_tests)
grows settings first machine last (event ∷ events) none leads =
    let next = after settings first machine event in
    subst (Grows machine last) (scans-more event events)
    (grows-then machine next last (scans_among (event ∷ [])) (scans_among events)
    (grows-once settings first machine event none.0) (grows settings first next last events none.1 leads.1))

-- the scans of a stretch are those that came to the module
pub scans_grown : (machine last : Machine) (stretch : Life) → life_of last.history ≡ stretch ++ life_of machine.history
    → scans_of (life_of last.history) ≡ scans_in (filter_events stretch) + scans_of (life_of machine.history)
scans_grown machine last stretch is = ap scans_of is ∙ scans_of-append stretch (life_of machine.history)

-- events with few scans among them lead on in time
pub few_in_time : (settings : Settings) (first scans : ℕ) (earlier machine last : Machine) (events : List Event) → HaveNoRestart events
    → Leads settings first machine events last → scans_among events ≤ scans → IsWithin 0 earlier machine
    → LeadsInTime settings first scans earlier machine last
few_in_time settings first scans earlier machine last events none leads few within = grind (arith, nat_tests, grows, scans_grown)

-- what leads on and what follows lead on
pub leads-append : (settings : Settings) (first : ℕ) (events more : List Event) (machine between last : Machine)
    → Leads settings first machine events between → Leads settings first between more last
    → Leads settings first machine (events ++ more) last
leads-append settings first [] more machine between last leads more_leads = subst (λ m. Leads settings first m more last) leads more_leads
leads-append settings first (event ∷ events) more machine between last leads more_leads =
    (leads.0, leads-append settings first events more (after settings first machine event) between last leads.1 more_leads)

none-append : (events more : List Event) → HaveNoRestart events → HaveNoRestart more → HaveNoRestart (events ++ more)
none-append [] more none rest = rest
none-append (event ∷ events) more none rest = (none.0, none-append events more none.1 rest)

pub leads_on-then : (settings : Settings) (first : ℕ) (machine between last : Machine) → LeadsOn settings first machine between
    → LeadsOn settings first between last → LeadsOn settings first machine last
leads_on-then settings first machine between last l m = grind (arith, nat_tests, none-append, leads-append)
