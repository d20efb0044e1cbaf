-- A rule with an invariant never accuses, from the start of both ends or from any event on.
use Rattle.fio_ends.proofs.Names.{life_of, loads_of, ◌≡◌, ℕ, Bool, true, false, List, [], ◌∷◌, refl, sym, subst, Life, Settings, AreInRange, ContentFacts, kept_at_start, no_facts, ContentRule, Event, Machine, start, Leads, HaveNoRestart, kept, frames_from, ◌++◌, TranscriptLine, Always, HaveFrames, IsPromptRun, LoadsAreSent, begun_is, content_begun, NoneBreaks, Premise}
use Rattle.fio_ends.specs.ContentRuns.{ContentNeverAccuses}
use Rattle.fio_ends.proofs.Following.{follows-start}
use Rattle.fio_ends.proofs.LaterLogs.{from_any}
use Rattle.fio_ends.proofs.PromptRuns.{BeginsWithCommand, reaches}
use Rattle.fio_ends.proofs.ContentBegun.{start_keeps}
use Rattle.fio_ends.proofs.ContentLines.{FramesKeep, NoneBreaksIn, none_breaks}
use Rattle.fio_ends.proofs.FirstLoads.{loads_are_sent}
use Rattle.fio_ends.proofs.ContentSteps.{IsInvariant, PollsKnown}
use Rattle.fio_ends.proofs.FirstPolls.{polls_begun}
use Rattle.fio_ends.proofs.ContentFrame.{agrees-start}
use Rattle.fio_ends.proofs.ContentRuns.{all_keep_content, known_first, later_keeps}

-- what is to be shown of a log, so that a rule never accuses: what the rule reads of the events above holds at its begin
abbrev pub Asks : {S : Type 0} → (Bool → S) → Premise → (Bool → Settings → ℕ → Machine → S → Machine → List Event → Type 0) → Type 0
Asks initial Asked Holds =
    (begun : Bool) (settings : Settings) (first : ℕ) (machine last : Machine) (later : List Event) → HaveNoRestart later
    → Leads settings first machine later last → (begun ≡ true → LoadsAreSent settings first (loads_of (life_of machine.history)) machine later)
    → Asked begun settings first machine later last → Holds begun settings first machine (initial begun) machine later

-- a rule with an invariant never accuses, where this holds of a log; what it reads of the events above may depend on the settings
module _ (rule : ContentRule) (S : Type 0) (initial : Bool → S) (next : Settings → S → Machine → Event → S) (Asked : Premise)
    (Holds : Bool → Settings → ℕ → Machine → S → Machine → List Event → Type 0) (P : Bool → Settings → ℕ → Machine → S → Life → Machine → ContentFacts → Type 0)
    (asks : Asks initial Asked Holds)
    (invariant : (begun : Bool) (settings : Settings) (first : ℕ) (begin : Machine) → AreInRange settings
    → IsInvariant settings first begin rule S (initial begun) (next settings) (Holds begun settings first begin) (P begun settings first begin))
    (starts : (settings : Settings) (first : ℕ) → P true settings first start (initial true) [] start content_begun) where
  -- from the start of both ends
  whole : (settings : Settings) (first : ℕ) (later : List Event) (last : Machine) → AreInRange settings → IsPromptRun settings first later last
      → Asked true settings first start later last → (lines : List TranscriptLine) → HaveFrames lines (frames_from settings first start later)
      → NoneBreaks true lines rule
  whole settings first later last range run premise lines has =
      let i = invariant true settings first start range in
      let k = kept settings range first [] start refl tt in
      let loads = loads_are_sent settings first later last run.is_run run.no_restart run.within run.prompt in
      none_breaks rule true lines (start_keeps rule true)
      (subst (FramesKeep rule (kept_at_start true)) (sym has)
      (all_keep_content settings range first start rule S (initial true) (next settings) (Holds true settings first start) (P true settings first start) i
      (initial true) later [] start last 0 no_facts (kept_at_start true)
      (known_first settings range first start rule S (initial true) (next settings) (Holds true settings first start) (P true settings first start) i k)
      (follows-start settings first) (agrees-start settings true first start (subst (PollsKnown settings start) (sym begun_is) (polls_begun settings (λ input. false)))) (subst (P true settings first start (initial true) [] start) (sym begun_is) (starts settings first))
      run.is_run run.no_restart run.within run.prompt (asks true settings first start last later run.no_restart run.is_run (λ is. loads) premise)))

  -- from a command on
  later_ones : (settings : Settings) (first : ℕ) (before later : List Event) (machine last : Machine) → AreInRange settings
      → IsPromptRun settings first (before ++ later) last → Leads settings first start before machine → BeginsWithCommand later
      → Asked false settings first machine later last → (lines : List TranscriptLine) → HaveFrames lines (frames_from settings first machine later)
      → NoneBreaksIn false rule lines
  later_ones settings first before later machine last range run leads begins premise lines has =
      let r = reaches settings range first before later [] start machine last 0 no_facts (kept settings range first [] start refl tt) (follows-start settings first)
      leads run.is_run run.no_restart run.within run.prompt in
      none_breaks rule false lines tt
      (subst (FramesKeep rule (kept_at_start false)) (sym has)
      (later_keeps settings range first machine rule S (initial false) (next settings) (Holds false settings first machine) (P false settings first machine)
      (invariant false settings first machine range) later last begins r
      (asks false settings first machine last later r.no_restart r.leads (λ is. absurd (cc is)) premise)))

  never_accuses : ContentNeverAccuses rule Asked
  unfolding ContentNeverAccuses
  never_accuses false settings first before later machine last range run leads begins premise lines has =
      from_any settings first last (NoneBreaksIn false rule) (λ machine later. Asked false settings first machine later last)
      (λ before later machine run leads begins premise lines has. later_ones settings first before later machine last range run leads begins premise lines has)
      (λ place event at. absurd (cc at)) later before machine run leads premise lines has
  never_accuses true settings first before later machine last range run leads begins premise lines has =
      nothing_before before begins run leads
    where
      nothing_before : (before : List Event) → before ≡ [] → IsPromptRun settings first (before ++ later) last → Leads settings first start before machine
          → NoneBreaks true lines rule
      nothing_before (event ∷ before) none run leads = absurd (cc none)
      nothing_before [] none run leads =
          subst (λ m. Asked true settings first m later last → HaveFrames lines (frames_from settings first m later) → NoneBreaks true lines rule) (sym leads)
          (λ premise has. whole settings first later last range run premise lines has) premise has

-- one whose events read no time
pub content_never_accuses : (rule : ContentRule) (S : Type 0) (initial : S) (next : S → Machine → Event → S)
    (P : Settings → ℕ → Machine → S → Life → Machine → ContentFacts → Type 0)
    → ((settings : Settings) (first : ℕ) (begin : Machine) → AreInRange settings
    → IsInvariant settings first begin rule S initial next (λ state machine later. Unit {0}) (P settings first begin))
    → ((settings : Settings) (first : ℕ) → P settings first start initial [] start content_begun)
    → ContentNeverAccuses rule Always
content_never_accuses rule S initial next P invariant starts =
    never_accuses rule S (λ begun. initial) (λ settings. next) Always (λ begun settings first begin state machine later. Unit {0}) (λ begun. P)
    (λ begun settings first machine last later none leads loads premise. tt) (λ begun. invariant) starts

-- one whose events do
pub timed_never_accuses : (rule : ContentRule) (S : Type 0) (initial : Bool → S) (next : Settings → S → Machine → Event → S) (Asked : Premise)
    (Holds : Bool → Settings → ℕ → Machine → S → Machine → List Event → Type 0) (P : Bool → Settings → ℕ → Machine → S → Life → Machine → ContentFacts → Type 0)
    → Asks initial Asked Holds
    → ((begun : Bool) (settings : Settings) (first : ℕ) (begin : Machine) → AreInRange settings
    → IsInvariant settings first begin rule S (initial begun) (next settings) (Holds begun settings first begin) (P begun settings first begin))
    → ((settings : Settings) (first : ℕ) → P true settings first start (initial true) [] start content_begun)
    → ContentNeverAccuses rule Asked
timed_never_accuses rule S initial next Asked Holds P asks invariant starts = never_accuses rule S initial next Asked Holds P asks invariant starts
