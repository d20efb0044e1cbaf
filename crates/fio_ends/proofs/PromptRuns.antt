-- In the transcript of a prompt run a checker finds nothing.
use Rattle.fio_ends.proofs.Names.{◌≡◌, arith, ℕ, List, [], ◌∷◌, ◌++◌, None, refl, sym, subst, AllByRecursion, Settings, AreInRange, facts_with, no_facts, standard_rule_limits, Facts, RuleLimits, Event, Machine, start, refusal, after, Leads, IsNotRestart, HaveNoRestart, IsKept, kept_all, kept, CpuFrame, frames_at, frames_from, due_after, IsPrompt, ArePrompt, IsWithinRanges, Life, Scanned, LineSynced, Raised, SuitModule, HasNoBreach, IsGood, NeverAccuses}
use Rattle.fio_module.specs.Life as module_events
use Rattle.fio_link.specs.declared.event.Event.TheVariants as events
use Rattle.fio_ends.proofs.GoodLines.{KeepRules, good_if_none, nothing_found, said_by}
use Rattle.fio_ends.proofs.Following.{Follows, Keeps, facts_below, from_after, follows-history, follows-start, may_begin, may_send}
use Rattle.fio_ends.proofs.Sends.{sends-poll, sends-other}
use Rattle.fio_ends.proofs.Receives.{follows-to_module}
use Rattle.fio_ends.proofs.Hears.{keeps-to_cpu}

-- the first event is a command of the CPU's end
abbrev pub BeginsWithCommand : List Event → Type 0
BeginsWithCommand (events.Poll ∷ events) = Unit {0}
BeginsWithCommand (events.Send command ∷ events) = Unit {0}
BeginsWithCommand events = ⊥

module _ (settings : Settings) (range : AreInRange settings) (first : ℕ) where
  -- an event that adds no line
  no_line : (from : Life) (facts : Facts) (machine : Machine) (due : ℕ) → Follows settings first from machine due facts
      → Keeps settings first from facts [] machine due
  no_line from facts machine due f = record { rules = λ limits suit. tt; follows = f }

  -- each event keeps it
  pub keeps-event : (from : Life) (machine : Machine) (due : ℕ) (facts : Facts) → IsKept settings first machine
      → Follows settings first from machine due facts
      → (event : Event) → refusal machine event ≡ None → IsNotRestart event → IsWithinRanges event → IsPrompt machine due event
      → Keeps settings first (from_after machine from event) facts (frames_at first machine event)
      (after settings first machine event) (due_after machine due event)
  keeps-event from machine due facts k f (events.Scan raw) fine none within prompt =
      no_line from facts _ due (follows-history settings first from machine due facts (module_events.Scan raw ∷ machine.history) (Scanned raw) tt refl refl f)
  keeps-event from machine due facts k f events.LineSync fine none within prompt =
      no_line from facts _ due (follows-history settings first from machine due facts (module_events.LineSync ∷ machine.history) LineSynced tt refl refl f)
  keeps-event from machine due facts k f (events.Raise mask) fine none within prompt =
      no_line from facts _ due (follows-history settings first from machine due facts (module_events.Raise mask ∷ machine.history) (Raised mask) tt refl refl f)
  keeps-event from machine due facts k f events.Restart fine none within prompt = absurd none
  keeps-event from machine due facts k f events.Poll fine none within prompt =
      sends-poll settings first machine facts (may_send settings first from machine due facts f)
  keeps-event from machine due facts k f (events.Send command) fine none within prompt =
      sends-other settings first machine facts (may_send settings first from machine due facts f) command fine within
  keeps-event from machine due facts k f (events.ToModule index) fine none within prompt =
      no_line from facts _ _ (follows-to_module settings range first machine k facts from due f index fine (omega arith))
  keeps-event from machine due facts k f (events.ToCpu index) fine none within prompt =
      keeps-to_cpu settings range first machine k from due facts f index fine (omega arith) (omega arith)

  -- frames that keep the rules, one part after another
  both_keep : (limits : RuleLimits) (facts : Facts) (frames more : List CpuFrame) → KeepRules limits facts frames
      → KeepRules limits (facts_below facts frames) more → KeepRules limits facts (frames ++ more)
  both_keep limits facts [] more above rest = rest
  both_keep limits facts (frame ∷ frames) more above rest =
      (above.0, both_keep limits (facts_with facts (said_by frame)) frames more above.1 rest)

  -- so all events do
  all_keep : (limits : RuleLimits) → SuitModule settings limits → (events : List Event) (from : Life) (machine last : Machine) (due : ℕ) (facts : Facts) → IsKept settings first machine
      → Follows settings first from machine due facts
      → Leads settings first machine events last → HaveNoRestart events → AllByRecursion IsWithinRanges events
      → ArePrompt settings first machine due events
      → KeepRules limits facts (frames_from settings first machine events)
  all_keep limits suit [] from machine last due facts k f leads none within prompt = tt
  all_keep limits suit (event ∷ events) from machine last due facts k f leads none within prompt =
      let here = keeps-event from machine due facts k f event leads.0 none.0 within.0 prompt.0 in
      let now : IsKept settings first (after settings first machine event) =
      kept_all settings range first (event ∷ []) machine (after settings first machine event) (none.0, tt) (leads.0, refl) k in
      both_keep limits facts (frames_at first machine event) (frames_from settings first (after settings first machine event) events) (here.rules limits suit)
      (all_keep limits suit events (from_after machine from event) (after settings first machine event) last (due_after machine due event)
      (facts_below facts (frames_at first machine event)) now here.follows leads.1 none.1 within.1 prompt.1)

  -- what is known where a log begins later
  pub record ReachesLater (at last : Machine) (later : List Event) : Type 0 where
    pub from : Life
    pub due : ℕ
    pub facts : Facts
    pub is_kept : IsKept settings first at
    pub follows : Follows settings first from at due facts
    pub leads : Leads settings first at later last
    pub no_restart : HaveNoRestart later
    pub within : AllByRecursion IsWithinRanges later
    pub prompt : ArePrompt settings first at due later

  -- after the events before it
  pub reaches : (before later : List Event) (from : Life) (machine at last : Machine) (due : ℕ) (facts : Facts) → IsKept settings first machine
      → Follows settings first from machine due facts → Leads settings first machine before at
      → Leads settings first machine (before ++ later) last → HaveNoRestart (before ++ later) → AllByRecursion IsWithinRanges (before ++ later)
      → ArePrompt settings first machine due (before ++ later)
      → ReachesLater at last later
  reaches [] later from machine at last due facts k f here leads none within prompt =
      subst (λ m. ReachesLater m last later) (sym here)
      (record { from = from; due = due; facts = facts; is_kept = k; follows = f; leads = leads; no_restart = none; within = within; prompt = prompt })
  reaches (event ∷ before) later from machine at last due facts k f here leads none within prompt =
      let keeps = keeps-event from machine due facts k f event leads.0 none.0 within.0 prompt.0 in
      let next = after settings first machine event in
      let now : IsKept settings first next = kept_all settings range first (event ∷ []) machine next (none.0, tt) (leads.0, refl) k in
      reaches before later (from_after machine from event) next at last (due_after machine due event) (facts_below facts (frames_at first machine event)) now keeps.follows
      here.1 leads.1 none.1 within.1 prompt.1

  -- a command, and what is below it
  after_command : (limits : RuleLimits) → SuitModule settings limits → (event : Event) (rest : List Event) (machine last : Machine) → (r : ReachesLater machine last (event ∷ rest))
      → Keeps settings first (from_after machine r.from event) no_facts (frames_at first machine event) (after settings first machine event) (due_after machine r.due event)
      → KeepRules limits no_facts (frames_from settings first machine (event ∷ rest))
  after_command limits suit event rest machine last r here =
      let next = after settings first machine event in
      let now : IsKept settings first next = kept_all settings range first (event ∷ []) machine next (r.no_restart.0, tt) (r.leads.0, refl) r.is_kept in
      both_keep limits no_facts (frames_at first machine event) (frames_from settings first next rest) (here.rules limits suit)
      (all_keep limits suit rest (from_after machine r.from event) next last (due_after machine r.due event) (facts_below no_facts (frames_at first machine event))
      now here.follows r.leads.1 r.no_restart.1 r.within.1 r.prompt.1)

  -- a log that begins with a command keeps the rules
  pub later_keep : (limits : RuleLimits) → SuitModule settings limits → (later : List Event) (machine last : Machine) → BeginsWithCommand later
      → ReachesLater machine last later → KeepRules limits no_facts (frames_from settings first machine later)
  later_keep limits suit [] machine last begins r = absurd begins
  later_keep limits suit (events.Poll ∷ rest) machine last begins r =
      after_command limits suit events.Poll rest machine last r (sends-poll settings first machine no_facts (may_begin settings first r.from machine r.due r.facts r.follows))
  later_keep limits suit (events.Send command ∷ rest) machine last begins r =
      after_command limits suit (events.Send command) rest machine last r
      (sends-other settings first machine no_facts (may_begin settings first r.from machine r.due r.facts r.follows) command r.leads.0 r.within.0)
  later_keep limits suit (other ∷ rest) machine last begins r = absurd begins

-- no false accusation
pub never_accuses : NeverAccuses HasNoBreach
never_accuses settings first events machine range run lines has limits suit =
    nothing_found limits lines (subst (KeepRules limits no_facts) (sym has)
    (all_keep settings range first limits suit events [] start machine 0 no_facts
    (kept settings range first [] start refl tt) (follows-start settings first) run.is_run run.no_restart run.within run.prompt))

pub is_good : NeverAccuses IsGood
is_good settings first events machine range run lines has suit =
    good_if_none lines (never_accuses settings first events machine range run lines has standard_rule_limits suit)
