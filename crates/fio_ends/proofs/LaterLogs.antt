-- A log that begins at any event of a prompt run: what it has from its first command on is a log that begins there.
use Rattle.fio_ends.proofs.Names.{◌≡◌, ◌∙◌, ◌+◌, ◌-◌, ◌<◌, ◌≤◌, inl, inr, ℕ, true, false, List, [], ◌∷◌, ◌++◌, length, Option, Some, None, refl, ap, sym, subst, arith, append_assoc, if◌then◌else◌, Settings, AreInRange, no_facts, standard_rule_limits, TranscriptLine, Event, Machine, SentFrame, start, after, Leads, item_numbered, kept, CpuFrame, frame_heard, cpu_frame_on, frames_from, HasNoBreach, HaveFrames, IsGood, IsPromptRun, cases_lt, events_from_command, from_first_command, machine_at_command, checker_anywhere, found_from, begins_anywhere, below_heard, leads-append, FromCommand, HasNoBreachAnywhere, NeverAccusesLater}
use Rattle.fio_link.specs.declared.event.Event.TheVariants as events
use Rattle.fio_ends.proofs.Following.{follows-start}
use Rattle.fio_ends.proofs.GoodLines.{KeepRules, good_if_none, nothing_found}
use Rattle.fio_ends.proofs.PromptRuns.{BeginsWithCommand, later_keep, reaches}

-- lines of which the first has a frame that was sent, or heard
first_sent : (P : List TranscriptLine → Type 0) (lines : List TranscriptLine) (frame : CpuFrame) (frames : List CpuFrame) → frame.from_cpu ≡ true
    → HaveFrames lines (frame ∷ frames) → P lines → P (from_first_command lines)
first_sent P [] frame frames sent has holds = absurd (cc has)
first_sent P (line ∷ lines) frame frames sent has holds =
    let same : cpu_frame_on line ≡ frame = cc in
    let is : line.from_cpu ≡ true = ap (λ (f : CpuFrame). f.from_cpu) same ∙ sent in
    subst P (sym (ap (λ s. if s then line ∷ lines else from_first_command lines) is)) holds

first_heard : (P : List TranscriptLine → Type 0) (lines : List TranscriptLine) (found : Option SentFrame) (frames : List CpuFrame)
    → HaveFrames lines (frame_heard found ++ frames) → ((below : List TranscriptLine) → HaveFrames below frames → P (from_first_command below))
    → P (from_first_command lines)
first_heard P lines None frames has further = further lines has
first_heard P [] (Some frame) frames has further = absurd (cc has)
first_heard P (line ∷ lines) (Some frame) frames has further =
    let same : cpu_frame_on line ≡ record { from_cpu = false; octets = frame.octets } = cc in
    let is : line.from_cpu ≡ false = ap (λ (f : CpuFrame). f.from_cpu) same in
    let rest : HaveFrames lines frames = cc in
    subst P (sym (ap (λ s. if s then line ∷ lines else from_first_command lines) is)) (further lines rest)

no_lines : (lines : List TranscriptLine) → HaveFrames lines [] → lines ≡ []
no_lines [] has = refl
no_lines (line ∷ lines) has = absurd (cc has)

module _ (settings : Settings) (first : ℕ) (last : Machine) where
  -- what is led to from a machine on the way
  leads_on : (events more : List Event) (machine between : Machine) → Leads settings first machine (events ++ more) last → Leads settings first machine events between
      → Leads settings first between more last
  leads_on [] more machine between all here = subst (λ m. Leads settings first m more last) (sym here) all
  leads_on (event ∷ events) more machine between all here = leads_on events more (after settings first machine event) between all.1 here.1

  -- a log that begins one event later
  pub record IsMoved (before later : List Event) (event : Event) (machine : Machine) : Type 0 where
    pub run : IsPromptRun settings first ((before ++ event ∷ []) ++ later) last
    pub leads : Leads settings first start (before ++ event ∷ []) (after settings first machine event)

  pub moved : (before later : List Event) (event : Event) (machine : Machine) → IsPromptRun settings first (before ++ (event ∷ later)) last
      → Leads settings first start before machine → IsMoved before later event machine
  moved before later event machine run leads =
      let next = leads_on before (event ∷ later) start machine run.is_run leads in
      record {
        run = subst (λ all. IsPromptRun settings first all last) (sym (append_assoc before (event ∷ []) later)) run;
        leads = leads-append settings first before (event ∷ []) start machine (after settings first machine event) leads (next.0, refl);
      }

  -- what holds of the lines of each log that begins with a command, and of none, holds from the first command on of each log
  module _ (P : List TranscriptLine → Type 0) (Holds : Machine → List Event → Type 0)
      (from_command : (before later : List Event) (machine : Machine) → IsPromptRun settings first (before ++ later) last → Leads settings first start before machine
      → BeginsWithCommand later → Holds machine later → (lines : List TranscriptLine) → HaveFrames lines (frames_from settings first machine later) → P lines)
      (none : P []) where
    pub from_any : (later before : List Event) (machine : Machine) → IsPromptRun settings first (before ++ later) last → Leads settings first start before machine
        → Holds (machine_at_command settings first machine later) (events_from_command later)
        → (lines : List TranscriptLine) → HaveFrames lines (frames_from settings first machine later) → P (from_first_command lines)
    from_any [] before machine run leads holds lines has = subst (λ all. P (from_first_command all)) (sym (no_lines lines has)) none
    from_any (events.Poll ∷ later) before machine run leads holds lines has =
        first_sent P lines _ _ refl has (from_command before (events.Poll ∷ later) machine run leads tt holds lines has)
    from_any (events.Send command ∷ later) before machine run leads holds lines has =
        first_sent P lines _ _ refl has (from_command before (events.Send command ∷ later) machine run leads tt holds lines has)
    from_any (events.ToCpu index ∷ later) before machine run leads holds lines has =
        let m = moved before later (events.ToCpu index) machine run leads in
        first_heard P lines (item_numbered machine.to_cpu index) (frames_from settings first (after settings first machine (events.ToCpu index)) later) has
        (from_any later (before ++ events.ToCpu index ∷ []) (after settings first machine (events.ToCpu index)) m.run m.leads holds)
    from_any (events.ToModule index ∷ later) before machine run leads holds lines has =
        let m = moved before later (events.ToModule index) machine run leads in
        from_any later (before ++ events.ToModule index ∷ []) (after settings first machine (events.ToModule index)) m.run m.leads holds lines has
    from_any (events.Scan raw ∷ later) before machine run leads holds lines has =
        let m = moved before later (events.Scan raw) machine run leads in
        from_any later (before ++ events.Scan raw ∷ []) (after settings first machine (events.Scan raw)) m.run m.leads holds lines has
    from_any (events.LineSync ∷ later) before machine run leads holds lines has =
        let m = moved before later events.LineSync machine run leads in
        from_any later (before ++ events.LineSync ∷ []) (after settings first machine events.LineSync) m.run m.leads holds lines has
    from_any (events.Raise mask ∷ later) before machine run leads holds lines has =
        let m = moved before later (events.Raise mask) machine run leads in
        from_any later (before ++ events.Raise mask ∷ []) (after settings first machine (events.Raise mask)) m.run m.leads holds lines has
    from_any (events.Restart ∷ later) before machine run leads holds lines has =
        let m = moved before later events.Restart machine run leads in
        from_any later (before ++ events.Restart ∷ []) (after settings first machine events.Restart) m.run m.leads holds lines has

-- ---- the rules of transcripts

begun_right : (settings : Settings) (first : ℕ) (last : Machine) → AreInRange settings → (before later : List Event) (machine : Machine)
    → IsPromptRun settings first (before ++ later) last → Leads settings first start before machine → BeginsWithCommand later → Unit {0}
    → (lines : List TranscriptLine) → HaveFrames lines (frames_from settings first machine later) → HasNoBreach settings lines
begun_right settings first last range before later machine run leads begins asked lines has limits suit =
    let r = reaches settings range first before later [] start machine last 0 no_facts (kept settings range first [] start refl tt) (follows-start settings first)
    leads run.is_run run.no_restart run.within run.prompt in
    nothing_found limits lines (subst (KeepRules limits no_facts) (sym has) (later_keep settings range first limits suit later machine last begins r))

pub never_accuses_later : NeverAccusesLater (FromCommand HasNoBreach)
never_accuses_later settings first before later machine last range run leads lines has =
    from_any settings first last (HasNoBreach settings) (λ machine later. Unit {0}) (begun_right settings first last range)
    (λ limits suit place within. absurd (omega (arith, within))) later before machine run leads tt lines has

pub is_good_later : NeverAccusesLater (FromCommand IsGood)
is_good_later settings first before later machine last range run leads lines has suit =
    good_if_none (from_first_command lines) (never_accuses_later settings first before later machine last range run leads lines has standard_rule_limits suit)

pub never_accuses_anywhere : NeverAccusesLater HasNoBreachAnywhere
never_accuses_anywhere settings first before later machine last range run leads lines has limits suit place within =
    let begins = begins_anywhere limits lines in
    let heard = below_heard lines in
    let count = heard.count in
    elim (cases_lt (place + length (from_first_command lines)) (length lines)) as (λ _. found_from (checker_anywhere limits) lines place ≡ None) [
      | inl above ↦ begins.passes place above
      | inr below ↦ (let further = below_place place heard.above (omega (arith, below, count)) in
          let low : further.0 < length (from_first_command lines) = omega (arith, count, within, further.1) in
          subst (λ p. found_from (checker_anywhere limits) lines p ≡ None) (sym further.1) (begins.starts heard.above further.0 count low
          ∙ never_accuses_later settings first before later machine last range run leads lines has limits suit further.0 low))
    ]
  where
    below_place : (place above : ℕ) → above ≤ place → (further : ℕ) × (place ≡ above + further)
    below_place place above low = (place - above, omega (arith, low))
