-- The judge that leaves late answers out finds no breach in the log of a right CPU's end, along a run whose frames may be late.
use Rattle.fio_ends.proofs.Names.{◌≡◌, ◌∙◌, ◌⊎◌, ◌+◌, ◌≤◌, inl, inr, ℕ, Bool, true, false, List, [], ◌∷◌, ◌++◌, map, Option, Some, None, refl, ap, sym, subst, arith, append-nil, if◌then◌else◌, option_map, same_Some, slice_get, AllByRecursion, Answer, AreInRange, Block, Checker, Command, CpuFrame, Event, HaveNoRestart, IsKept, IsNotRestart, IsWithinRanges, Leads, Machine, RuleLimits, SentFrame, Settings, SuitModule, after, after_delivered_block, after_delivery, after_delivery_to_cpu, after_delivery_to_module, answer_frames, answer_if, answer_octets, answer_of_sending, answer_type_to, block_in, command_in, frame_heard, frames_at, get_after_push, in_order, kept, kept_all, life_of, observation_in, poll_in, polls_with, refusal, reply_to, said, start, next_round, ◌==◌, number_of, after_taken, HasPoll, blocks_of, answered, late_above, LogEvent, LogJudging, log_starting, log_with, log_with_event, outcome_of_event, outcomes_in_log, LateAnswers, LogOutcome, LogPlace, Cpu, BeginsPart, MayHaveHeldFrame, Remark, Remarked, SaysMessage, SeenStep, SpeaksOfLoss, Unseen, event_of_remark, events_seen, found_saying, log_seen, IsInLog, IsNoBreach}
use Rattle.fio_message.specs.declared.commands.Command.TheVariants as commands
use Rattle.fio_link.specs.declared.event.Event.TheVariants as events
use Rattle.fio_check.specs.declared.log_judge.LogStart.TheVariants.{LateAnswers as StartLate}
use Rattle.fio_check.specs.declared.observation.Observation.TheVariants as seen
use Rattle.fio_ends.specs.EventLogs.{Seen}
use Rattle.fio_ends.specs.LateLogs.{LateAnswersBreakNoRule}
use Rattle.fio_ends.proofs.BlocksOfLives.{blocks_stay}
use Rattle.fio_ends.proofs.Heard.{heard_as}
use Rattle.fio_ends.proofs.LateCommands.{sent_other, sent_poll}
use Rattle.fio_ends.proofs.LateBlocks.{heard_block}
use Rattle.fio_ends.proofs.LateHeard.{heard_answer}
use Rattle.fio_ends.proofs.LateJudges.{IsJudged, IsKnownLost, frame_judged, remark_judged}
use Rattle.fio_ends.proofs.LateRules.{Holds, Takes}
use Rattle.fio_ends.proofs.LateKnown.{KnownOf, known_above, known_lost}

-- ---- the frames sent to the CPU are answers

-- octets are heard as an answer: a block answer, or another
abbrev pub IsAnswer : List ℕ → Type 0
IsAnswer octets =
    ((code : ℕ) × (accepted : Bool) × (observation_in false octets ≡ seen.Answer code accepted))
    ⊎ ((block : Block) × (block_in octets ≡ Some block))

abbrev pub AreAnswers : List SentFrame → Type 0
AreAnswers frames = (place : ℕ) (frame : SentFrame) → slice_get frames place ≡ Some frame → IsAnswer frame.octets

answers_more : (frames : List SentFrame) (reply : Option Answer) (round : ℕ) → AreAnswers frames
    → ((answer : Answer) → reply ≡ Some answer → IsAnswer (answer_octets answer)) → AreAnswers (frames ++ answer_frames reply round)
answers_more frames None round all new = subst AreAnswers (sym (append-nil frames)) all
answers_more frames (Some answer) round all new =
    let f : SentFrame = record { octets = answer_octets answer; round = round } in
    λ place frame at.
    elim (get_after_push frames f place frame at) as (λ _. IsAnswer frame.octets) [
      | inl old ↦ all place frame old
      | inr pushed ↦ subst (λ (g : SentFrame). IsAnswer g.octets) (sym pushed.1) (new answer refl)
    ]

module _ (settings : Settings) (range : AreInRange settings) (first : ℕ) (machine : Machine) (kept : IsKept settings first machine) where
  module _ (place : ℕ) (frame : SentFrame) (le : machine.last_to_module ≤ place + 1) (at : slice_get machine.to_module place ≡ Some frame) where
    -- so is what the module replies
    reply_by : (command : Option Command) → command_in frame.octets ≡ command → (answer : Answer)
        → answer_if settings (life_of machine.history) command ≡ Some answer → IsAnswer (answer_octets answer)
    reply_by None spells answer is = absurd (cc is)
    reply_by (Some (commands.Poll number)) spells answer is =
        let a = answered settings range first machine (in_order settings first machine kept.always) place frame le at number spells in
        let same : answer_of_sending a.sending ≡ answer = same_Some _ _ (sym (ap (option_map answer_of_sending) a.is_sent) ∙ is) in
        inr (said a.sending, subst (λ (x : Answer). block_in (answer_octets x) ≡ Some (said a.sending)) same a.reads)
    reply_by (Some other) spells answer is =
        let h = heard_as settings (life_of machine.history) other answer refl is in
        inl (answer_type_to other, h.accepted, h.heard)

    -- ---- the module receives a frame

    received : (round : ℕ) (polled : Option ℕ) → poll_in frame.octets ≡ polled → next_round machine.polls ≤ round + 1
        → ((place n r : ℕ) → HasPoll machine.to_module place n r → r ≤ round) → next_round (polls_with polled frame.round machine.polls) ≤ round + 1
    received round None is low sent = low
    received round (Some number) is low sent =
        let less : frame.round ≤ round = sent place number frame.round (record { frame = frame; at_place = at; spells = is; of_round = refl }) in
        omega arith

    module _ (limits : RuleLimits) where
      known_received : (checker : Checker) (awaited polled : Option ℕ) (answered : Bool) → KnownOf settings limits first machine checker awaited polled answered
          → KnownOf settings limits first (after_delivery_to_module settings machine (place + 1) (Some frame)) checker awaited polled answered
      known_received checker awaited polled answered k = record {
        limited = k.limited;
        facts = k.facts;
        latest = λ n is. (let l = k.latest n is in
            record {
              round = l.round;
              named = l.named;
              sent = l.sent;
              received = received l.round (poll_in frame.octets) refl l.received l.sent;
              reached = l.reached;
            });
        waits = k.waits;
        more = λ m is. (let t = k.more m is in
            record {
              earlier = t.earlier;
              block = t.block;
              next = t.next;
              at_place = blocks_stay settings (life_of machine.history) (command_in frame.octets) t.earlier t.block t.at_place;
              same = t.same;
            });
      }

-- ---- each event

-- frames of an event, if it has any, are taken: what is known above them is known below them
abbrev pub Goes : (P Q : Checker → Option ℕ → Option ℕ → Bool → Type 0) → List CpuFrame → Type 0
Goes P Q [] = (checker : Checker) (awaited polled : Option ℕ) (answered : Bool) → P checker awaited polled answered → Q checker awaited polled answered
Goes P Q (frame ∷ []) = (checker : Checker) (late : LateAnswers) → Holds P checker late
    → Takes Cpu Q checker late frame.from_cpu (observation_in frame.from_cpu frame.octets)
Goes P Q (frame ∷ more) = ⊥

same_frames_if : (first : ℕ) (machine : Machine) (place : ℕ) (block : Block) (same : Bool)
    → (if same then after_taken machine place block else record machine { last_to_cpu = place + 1 }).to_cpu ≡ machine.to_cpu
same_frames_if first machine place block true = refl
same_frames_if first machine place block false = refl

same_frames : (first : ℕ) (machine : Machine) (place : ℕ) (found : Option Block)
    → (after_delivered_block first (record machine { last_to_cpu = place + 1 }) found).to_cpu ≡ machine.to_cpu
same_frames first machine place None = refl
same_frames first machine place (Some block) = same_frames_if first machine place block (block.number == number_of first machine.round)

module _ (settings : Settings) (range : AreInRange settings) (limits : RuleLimits) (suit : SuitModule settings limits) (first : ℕ) where
  abbrev Of : Machine → Checker → Option ℕ → Option ℕ → Bool → Type 0
  Of = KnownOf settings limits first

  -- an event is taken, and what is sent to the CPU are answers still
  abbrev GoesBy : Machine → Machine → List CpuFrame → Type 0
  GoesBy machine later frames = Goes (Of machine) (Of later) frames × AreAnswers later.to_cpu

  module _ (machine : Machine) (kept : IsKept settings first machine) (all : AreAnswers machine.to_cpu) where
    hears : (place : ℕ) (frame : SentFrame) → machine.last_to_cpu ≤ place + 1 → slice_get machine.to_cpu place ≡ Some frame → IsAnswer frame.octets
        → GoesBy machine (after_delivery_to_cpu first machine (place + 1) (Some frame)) (frame_heard (Some frame))
    hears place frame le at answer =
        (λ checker late k. by checker late k answer, subst AreAnswers (sym (same_frames first machine place (block_in frame.octets))) all)
      where
        by : (checker : Checker) (late : LateAnswers) → Holds (Of machine) checker late → IsAnswer frame.octets
            → Takes Cpu (Of (after_delivery_to_cpu first machine (place + 1) (Some frame))) checker late false (observation_in false frame.octets)
        by checker late k (inl other) = heard_answer settings limits first machine checker late k place frame other.0 other.1 other.2
        by checker late k (inr block) = heard_block settings range limits suit first machine kept checker late k place frame at le block.0 block.1

    pub event_goes : (event : Event) → refusal machine event ≡ None → IsNotRestart event → IsWithinRanges event
        → GoesBy machine (after settings first machine event) (frames_at first machine event)
    event_goes (events.Scan raw) fine none within = (λ checker awaited polled answered k. k, all)
    event_goes events.LineSync fine none within = (λ checker awaited polled answered k. k, all)
    event_goes (events.Raise mask) fine none within = (λ checker awaited polled answered k. k, all)
    event_goes events.Restart fine none within = absurd none
    event_goes events.Poll fine none within = (λ checker late k. sent_poll settings limits first machine kept checker late k, all)
    event_goes (events.Send command) fine none within =
        (λ checker late k. sent_other settings limits first machine kept command fine within checker late k, all)
    event_goes (events.ToModule index) fine none within =
        after_delivery (λ n found. GoesBy machine (after_delivery_to_module settings machine n found) [])
        machine.to_module machine.last_to_module index fine
        (λ place frame le at. (
          known_received settings range first machine kept place frame le at limits,
          answers_more machine.to_cpu (reply_to settings machine.history frame.octets) frame.round all
              (λ answer is. reply_by settings range first machine kept place frame le at (command_in frame.octets) refl answer is),
        ))
    event_goes (events.ToCpu index) fine none within =
        after_delivery (λ n found. GoesBy machine (after_delivery_to_cpu first machine n found) (frame_heard found))
        machine.to_cpu machine.last_to_cpu index fine
        (λ place frame le at. hears place frame le at (all place frame at))

  -- ---- all events

  pub kept_next : (machine : Machine) (event : Event) → IsKept settings first machine → refusal machine event ≡ None → IsNotRestart event
      → IsKept settings first (after settings first machine event)
  kept_next machine event kept fine none = kept_all settings range first (event ∷ []) machine (after settings first machine event) (none, tt) (fine, refl) kept

  -- below the frames of an event the rest is judged on
  frames_judged : (P Q : Checker → Option ℕ → Option ℕ → Bool → Type 0) → IsKnownLost P → (said : Option Bool) (frames : List CpuFrame) (rest : List LogEvent) (log : LogJudging)
      → Goes P Q frames → IsJudged Cpu P log → ((next : LogJudging) → IsJudged Cpu Q next → AllByRecursion IsNoBreach (outcomes_in_log next rest))
      → AllByRecursion IsNoBreach (outcomes_in_log log (map (found_saying said) frames ++ rest))
  frames_judged P Q known said [] rest log goes j more =
      more log (record { placed = tt; late = j.late; is = j.is; holds = goes log.link.checker j.late.awaited j.late.polled j.late.answered j.holds })
  frames_judged P Q known said (frame ∷ []) rest log goes j more =
      let here = frame_judged Cpu P known Q log frame.from_cpu said frame.octets j goes in
      (here.1, more (log_with log frame.from_cpu said frame.octets) here.0)
  frames_judged P Q known said (frame ∷ other ∷ frames) rest log goes j more = absurd goes

  pub no_outcome : (log : LogJudging) (remark : Remark) → outcome_of_event log (event_of_remark remark) ≡ []
  no_outcome log MayHaveHeldFrame = refl
  no_outcome log SaysMessage = refl
  no_outcome log BeginsPart = refl
  no_outcome log SpeaksOfLoss = refl

  known_of_lost : (machine : Machine) → IsKnownLost (Of machine)
  known_of_lost machine = known_lost limits first machine.to_module machine.polls machine.round (blocks_of settings (life_of machine.history))

  all_judged : (steps : List SeenStep) (machine last : Machine) → IsKept settings first machine → AreAnswers machine.to_cpu
      → Leads settings first machine (events_seen steps) last → HaveNoRestart (events_seen steps) → AllByRecursion IsWithinRanges (events_seen steps)
      → AllByRecursion IsInLog steps → (log : LogJudging) → IsJudged Cpu (Of machine) log
      → AllByRecursion IsNoBreach (outcomes_in_log log (log_seen settings first machine steps))
  all_judged [] machine last kept all leads none within whole log j = tt
  all_judged (Seen said event ∷ steps) machine last kept all leads none within whole log j =
      let later = after settings first machine event in
      let goes = event_goes machine kept all event leads.0 none.0 within.0 in
      frames_judged (Of machine) (Of later) (known_of_lost machine) said (frames_at first machine event) (log_seen settings first later steps) log goes.0 j
      (λ next judged. all_judged steps later last (kept_next machine event kept leads.0 none.0) goes.1 leads.1 none.1 within.1 whole.1 next judged)
  all_judged (Unseen event ∷ steps) machine last kept all leads none within whole log j = absurd whole.0
  all_judged (Remarked remark ∷ steps) machine last kept all leads none within whole log j =
      let next = log_with_event log (event_of_remark remark) in
      subst (λ (outcomes : List LogOutcome). AllByRecursion IsNoBreach (outcomes ++ outcomes_in_log next (log_seen settings first machine steps))) (sym (no_outcome log remark))
      (all_judged steps machine last kept all leads none within whole.1 next (remark_judged Cpu (Of machine) (known_of_lost machine) log remark j))

  -- ---- where the log begins

  record Reached (at last : Machine) (later : List Event) : Type 0 where
    pub is_kept : IsKept settings first at
    pub all : AreAnswers at.to_cpu
    pub leads : Leads settings first at later last
    pub no_restart : HaveNoRestart later
    pub within : AllByRecursion IsWithinRanges later

  reaches : (before later : List Event) (machine at last : Machine) → IsKept settings first machine → AreAnswers machine.to_cpu
      → Leads settings first machine before at → Leads settings first machine (before ++ later) last → HaveNoRestart (before ++ later)
      → AllByRecursion IsWithinRanges (before ++ later) → Reached at last later
  reaches [] later machine at last kept all here leads none within =
      subst (λ m. Reached m last later) (sym here) (record { is_kept = kept; all = all; leads = leads; no_restart = none; within = within })
  reaches (event ∷ before) later machine at last kept all here leads none within =
      reaches before later (after settings first machine event) at last (kept_next machine event kept leads.0 none.0)
      (event_goes machine kept all event leads.0 none.0 within.0).1 here.1 leads.1 none.1 within.1

  -- the judge above the first line
  begins : (machine : Machine) (place : Option LogPlace) → IsJudged Cpu (Of machine) (log_starting limits place StartLate)
  begins machine place = record {
    placed = tt;
    late = late_above;
    is = refl;
    holds = known_above limits first machine.to_module machine.polls machine.round (blocks_of settings (life_of machine.history));
  }

-- the law on late answers
pub late_answers_break_no_rule : LateAnswersBreakNoRule
unfolding LateAnswersBreakNoRule
late_answers_break_no_rule place settings limits first before steps machine last log =
    let none : AreAnswers [] = λ place frame at. absurd (cc at) in
    let r = reaches settings log.in_range limits log.suit first before (events_seen steps) start machine last
    (kept settings log.in_range first [] start refl tt) none log.leads log.run log.no_restart log.within in
    all_judged settings log.in_range limits log.suit first steps machine last r.is_kept r.all r.leads r.no_restart r.within log.whole
    (log_starting limits place StartLate) (begins settings log.in_range limits log.suit first machine place)
