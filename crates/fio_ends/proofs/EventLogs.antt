-- The judge of a log accuses no right link: its events are lines with marks.
use Rattle.fio_ends.proofs.Names.{◌≡◌, ◌∙◌, ◌⊎◌, ◌||◌, inl, inr, ℕ, Bool, true, false, List, [], ◌∷◌, ◌++◌, map, Option, Some, None, refl, ap, sym, subst, AllByRecursion, if◌then◌else◌, AccusesNeither, AreUnderWay, AreUnderWayAt, CpuFrame, Event, FewAreUnderWay, FrameOutcome, Judging, LogLine, LogPlace, LogStep, Logged, Machine, Marked, Missing, RuleLimits, Settings, after, events_of, frames_at, is_command, log_from, logged_at, outcomes_of, as_link, Frame, judging_below, link_starting, log_starting, judges_each, outcomes_in_log, AreLinesOf, Around, around_with, mark_if, nothing_around, Link, LogStart, Bus, AccusesNeitherInLog, AreLostWhereSaid, BeginsPart, FewAreUnderWayInParts, MayHaveHeldFrame, Remarked, SaysMessage, SeenAbove, SeenStep, SpeaksOfLoss, Unseen, below_frames, events_seen, found_saying, starts_begun, log_seen, lost_if, nothing_seen, AreMarked, below_command, judging_at_start, loads_at_start}
use Rattle.fio_check.specs.LinkJudges.{Lost as Mark}
use Rattle.fio_check.specs.LogJudges as judged
use Rattle.fio_check.specs.declared.log_judge.LogStart.TheVariants as starts
use Rattle.fio_ends.specs.EventLogs.{LogJudgeAccusesNone, Seen}
use Rattle.fio_ends.specs.LinkLogs.{JudgeAccusesNone}
use Rattle.fio_ends.proofs.JudgedLogs.{judge_accuses_none}
use Rattle.fio_ends.proofs.SeenAbove.{Agrees, Stays, agrees_framed, agrees_lost, one_frame, possible_marks, possible_none, stays_framed, stays_lost, stays_warned}

-- ---- marks

-- frames may be missing where they may be missing without a mark above
marked_more : (marked : Bool) (steps : List LogStep) → AreMarked marked steps → AreMarked true steps
marked_more marked [] are = tt
marked_more marked (Logged at event ∷ steps) are = are
marked_more marked (Missing event ∷ steps) are = (refl, marked_more marked steps are.1)
marked_more marked (Marked ∷ steps) are = are

module _ (settings : Settings) (first : ℕ) where
  -- lines that are a log of these events in which frames are missing at marks
  record IsMarkedAs (machine : Machine) (marked : Bool) (begins : Option ℕ) (events : List Event) (lines : List LogLine) : Type 0 where
    pub steps : List LogStep
    pub are : lines ≡ log_from settings first machine steps
    pub events_are : events_of steps ≡ events
    pub marks : AreMarked marked steps
    pub few : FewAreUnderWay settings first machine begins steps

  abbrev FewIn : SeenAbove → Machine → List Event → Type 0
  FewIn above machine events = AreUnderWayAt above.begins settings first machine events × (above.warned ≡ true → AreUnderWay 1 settings first machine events)

  under_way : (machine : Machine) (events : List Event) (above : SeenAbove) (now : Option ℕ) → Stays above now → FewIn above machine events
      → AreUnderWayAt now settings first machine events
  under_way machine events above now stays few = elim stays [
    | inl same ↦ subst (λ n. AreUnderWayAt n settings first machine events) (sym same) few.0
    | inr one ↦ subst (λ n. AreUnderWayAt n settings first machine events) (sym one.0) (few.1 one.1)
  ]

  -- below a mark
  with_mark : (machine : Machine) (marked any : Bool) (begins : Option ℕ) (events : List Event) (lines more : List LogLine)
      → lines ≡ Mark ∷ more → IsMarkedAs machine any (Some 1) events more → IsMarkedAs machine marked begins events lines
  with_mark machine marked any begins events lines more are is = record {
    steps = Marked ∷ is.steps;
    are = are ∙ ap (λ (rest : List LogLine). Mark ∷ rest) is.are;
    events_are = is.events_are;
    marks = marked_more any is.steps is.marks;
    few = is.few;
  }

  -- below a line at which the place is lost, or not
  with_remark : (machine : Machine) (above : SeenAbove) (lost marked : Bool) (now : Option ℕ) (events : List Event) (lines more : List LogLine)
      → lines ≡ mark_if marked ++ more → (lost ≡ true → (marked ≡ true) ⊎ (above.lost ≡ true)) → (lost ≡ false → marked ≡ false)
      → (above.lost ≡ true → above.begins ≡ Some 1) → Stays above now
      → ((next : Option ℕ) → Stays (lost_if lost above) next → IsMarkedAs machine (lost_if lost above).lost next events more)
      → IsMarkedAs machine above.lost now events lines
  with_remark machine above true true now events lines more are marks none begins stays is = with_mark machine above.lost true now events lines more are (is (Some 1) (inl refl))
  with_remark machine above true false now events lines more are marks none begins stays is = elim (marks refl) [
    | inl is ↦ absurd (cc is)
    | inr was ↦ rw are (subst (λ (l : Bool). IsMarkedAs machine l now events more) (sym was) (is now (stays_lost above now (begins was) stays)))
  ]
  with_remark machine above false true now events lines more are marks none begins stays is = absurd (cc (none refl))
  with_remark machine above false false now events lines more are marks none begins stays is = rw are (is now stays)

  -- with an event that has no frame
  with_none : (machine : Machine) (event : Event) (lost : Bool) (now : Option ℕ) (events : List Event) (lines : List LogLine)
      → frames_at first machine event ≡ [] → is_command event ≡ false → IsMarkedAs (after settings first machine event) lost now events lines
      → IsMarkedAs machine lost now (event ∷ events) lines
  with_none machine event true now events lines none silent is = record {
    steps = Missing event ∷ is.steps;
    are = is.are;
    events_are = ap (λ (rest : List Event). event ∷ rest) is.events_are;
    marks = (refl, is.marks);
    few = is.few;
  }
  with_none machine event false now events lines none silent is = record {
    steps = Logged Bus event ∷ is.steps;
    are = rw none is.are;
    events_are = ap (λ (rest : List Event). event ∷ rest) is.events_are;
    marks = is.marks;
    few = (
      λ command. absurd (cc (sym silent ∙ command)),
      subst (λ (command : Bool). FewAreUnderWay settings first (after settings first machine event) (if command then None else now) is.steps) (sym silent) is.few,
    );
  }

  -- with the frames of an event
  with_event : (machine : Machine) (at : LogPlace) (event : Event) (marked : Bool) (above : SeenAbove) (now : Option ℕ) (events : List Event) (lines more : List LogLine)
      → lines ≡ map (logged_at at) (frames_at first machine event) ++ more → Stays above now → (is_command event ≡ true → FewIn above machine (event ∷ events))
      → IsMarkedAs (after settings first machine event) false (below_command event now) events more
      → IsMarkedAs machine marked now (event ∷ events) lines
  with_event machine at event marked above now events lines more are stays few is = record {
    steps = Logged at event ∷ is.steps;
    are = are ∙ ap (λ (rest : List LogLine). map (logged_at at) (frames_at first machine event) ++ rest) is.are;
    events_are = ap (λ (rest : List Event). event ∷ rest) is.events_are;
    marks = is.marks;
    few = (
      λ command. subst (λ (rest : List Event). AreUnderWayAt now settings first machine (event ∷ rest)) (sym is.events_are)
          (under_way machine (event ∷ events) above now stays (few command)),
      is.few,
    );
  }

  -- with that of an event below a mark, or none
  with_found : (machine : Machine) (at : LogPlace) (event : Event) (frame : CpuFrame) (mark marked : Bool) (above : SeenAbove) (now : Option ℕ) (events : List Event)
      (lines own more : List LogLine) → frames_at first machine event ≡ frame ∷ [] → lines ≡ own ++ more
      → own ≡ mark_if mark ++ Frame at frame.from_cpu frame.octets ∷ [] → (mark ≡ true → above.warned ≡ true) → Stays above now
      → (is_command event ≡ true → FewIn above machine (event ∷ events))
      → ((next : Option ℕ) → Stays (below_frames event above (frame ∷ [])) next → IsMarkedAs (after settings first machine event) false next events more)
      → IsMarkedAs machine marked now (event ∷ events) lines
  with_found machine at event frame true marked above now events lines own more frames are owns warned stays few is =
      let one : Stays above (Some 1) = inr (refl, warned refl) in
      with_mark machine marked false now (event ∷ events) lines (Frame at frame.from_cpu frame.octets ∷ more) (are ∙ ap (λ (o : List LogLine). o ++ more) owns)
      (with_event machine at event false above (Some 1) events (Frame at frame.from_cpu frame.octets ∷ more) more (rw frames refl) one few
      (is (below_command event (Some 1)) (stays_framed event above frame (Some 1) one)))
  with_found machine at event frame false marked above now events lines own more frames are owns warned stays few is =
      with_event machine at event marked above now events lines more (rw frames (are ∙ ap (λ (o : List LogLine). o ++ more) owns)) stays few
      (is (below_command event now) (stays_framed event above frame now stays))

  -- what events of a right link are, as lines
  lines_marked : (begun : Bool) (seen : List SeenStep) (place : Option LogPlace) (above : SeenAbove) (around : Around) (judging : Judging) (machine : Machine) (now : Option ℕ)
      (lines : List LogLine) → Agrees begun above around judging → Stays above now → AreLostWhereSaid begun settings first above machine seen
      → FewAreUnderWayInParts begun settings first above machine seen
      → AreLinesOf place around judging (log_seen settings first machine seen) lines → IsMarkedAs machine above.lost now (events_seen seen) lines
  lines_marked begun [] place above around judging machine now lines agrees stays missing few are =
      record { steps = []; are = are; events_are = refl; marks = tt; few = tt }
  lines_marked begun (Unseen event ∷ seen) place above around judging machine now lines agrees stays missing few are =
      let is = lines_marked begun seen place above around judging (after settings first machine event) now lines agrees stays missing.1 few are in record {
        steps = Missing event ∷ is.steps;
        are = is.are;
        events_are = ap (λ (rest : List Event). event ∷ rest) is.events_are;
        marks = (missing.0, is.marks);
        few = is.few;
      }
  lines_marked begun (Remarked MayHaveHeldFrame ∷ seen) place above around judging machine now lines agrees stays missing few (own, more, all, owns, rest) =
      with_remark machine above true true now (events_seen seen) lines more (all ∙ ap (λ (o : List LogLine). o ++ more) owns)
      (λ is. inl refl) (λ is. absurd (cc is)) agrees.begins stays
      (λ next stays. lines_marked begun seen place (lost_if true above) around (judging_below judging (mark_if true)) machine next more
      (agrees_lost begun true true above around judging agrees (λ is. inl refl) (λ is. absurd (cc is))) stays missing few
      (subst (λ (o : List LogLine). AreLinesOf place around (judging_below judging o) (log_seen settings first machine seen) more) owns rest))
  lines_marked begun (Remarked SaysMessage ∷ seen) place above around judging machine now lines agrees stays missing few (own, more, all, owns, rest) =
      let marks = possible_marks around.framed above.framed begun (judges_each judging.checker.skips) above.lost agrees.framed agrees.each in
      let none = possible_none around.framed above.framed begun (judges_each judging.checker.skips) above.lost agrees.framed agrees.each in
      let marked = around.framed || judges_each judging.checker.skips in
      with_remark machine above (above.framed || begun) marked now (events_seen seen) lines more (all ∙ ap (λ (o : List LogLine). o ++ more) owns)
      marks none agrees.begins stays
      (λ next stays. lines_marked begun seen place (lost_if (above.framed || begun) above) around (judging_below judging (mark_if marked)) machine next more
      (agrees_lost begun (above.framed || begun) marked above around judging agrees marks none) stays missing few
      (subst (λ (o : List LogLine). AreLinesOf place around (judging_below judging o) (log_seen settings first machine seen) more) owns rest))
  lines_marked begun (Remarked BeginsPart ∷ seen) place above around judging machine now lines agrees stays missing few (own, more, all, owns, rest) =
      let is : own ≡ mark_if above.framed = owns ∙ ap mark_if agrees.framed in
      with_remark machine above above.framed above.framed now (events_seen seen) lines more (all ∙ ap (λ (o : List LogLine). o ++ more) is)
      (λ is. inl is) (λ is. is) agrees.begins stays
      (λ next stays. lines_marked begun seen place (lost_if above.framed above) around (judging_below judging (mark_if above.framed)) machine next more
      (agrees_lost begun above.framed above.framed above around judging agrees (λ is. inl is) (λ is. is)) stays missing few
      (subst (λ (o : List LogLine). AreLinesOf place around (judging_below judging o) (log_seen settings first machine seen) more) is rest))
  lines_marked begun (Remarked SpeaksOfLoss ∷ seen) place above around judging machine now lines agrees stays missing few (own, more, all, owns, rest) =
      let same : lines ≡ more = all ∙ ap (λ (o : List LogLine). o ++ more) owns in
      rw same (lines_marked begun seen place (record above { warned = true }) (around_with around judged.Missing) judging machine now more
      (record { framed = agrees.framed; warned = λ is. refl; each = agrees.each; begins = agrees.begins }) (stays_warned above now stays) missing few
      (subst (λ (o : List LogLine). AreLinesOf place (around_with around judged.Missing) (judging_below judging o) (log_seen settings first machine seen) more) owns rest))
  lines_marked begun (Seen said event ∷ seen) place above around judging machine now lines agrees stays missing few are = elim (one_frame first machine event) [
    | inl none ↦ with_none machine event above.lost now (events_seen seen) lines none.0 none.1
        (lines_marked begun seen place above around judging (after settings first machine event) now lines agrees stays
        (subst (λ (frames : List CpuFrame). AreLostWhereSaid begun settings first (below_frames event above frames) (after settings first machine event) seen) none.0 missing)
        (subst (λ (frames : List CpuFrame). FewAreUnderWayInParts begun settings first (below_frames event above frames) (after settings first machine event) seen) none.0 few.1)
        (subst (λ (frames : List CpuFrame). AreLinesOf place around judging (map (found_saying said) frames ++ log_seen settings first (after settings first machine event) seen) lines) none.0 are))
    | inr one ↦ by_frame one.0 one.1
        (subst (λ (frames : List CpuFrame). AreLinesOf place around judging (map (found_saying said) frames ++ log_seen settings first (after settings first machine event) seen) lines) one.1 are)
        (λ judge next more stays. lines_marked begun seen place (below_frames event above (one.0 ∷ [])) (around_with around (found_saying said one.0)) judge
        (after settings first machine event) next more (agrees_framed begun above around judging judge event said one.0 agrees) stays
        (subst (λ (frames : List CpuFrame). AreLostWhereSaid begun settings first (below_frames event above frames) (after settings first machine event) seen) one.1 missing)
        (subst (λ (frames : List CpuFrame). FewAreUnderWayInParts begun settings first (below_frames event above frames) (after settings first machine event) seen) one.1 few.1))
  ]
    where
      by_frame : (frame : CpuFrame) → frames_at first machine event ≡ frame ∷ []
          → AreLinesOf place around judging (found_saying said frame ∷ log_seen settings first (after settings first machine event) seen) lines
          → ((judge : Judging) (next : Option ℕ) (more : List LogLine) → Stays (below_frames event above (frame ∷ [])) next
          → AreLinesOf place (around_with around (found_saying said frame)) judge (log_seen settings first (after settings first machine event) seen) more
          → IsMarkedAs (after settings first machine event) false next (events_seen seen) more)
          → IsMarkedAs machine above.lost now (event ∷ events_seen seen) lines
      by_frame frame frames (own, more, all, owns, rest) is =
          with_found machine owns.at event frame owns.marked above.lost above now (events_seen seen) lines own more frames all owns.are
          (λ mark. agrees.warned (owns.only mark).0) stays few.0
          (λ next stays. is (judging_below judging own) next more stays rest)

-- ---- the judge of a log

all_linked : (outcomes : List FrameOutcome) → AllByRecursion AccusesNeither outcomes → AllByRecursion AccusesNeitherInLog (map Link outcomes)
all_linked [] all = tt
all_linked (outcome ∷ outcomes) all = (all.0, all_linked outcomes all.1)

starts_as : (limits : RuleLimits) (start : LogStart) → link_starting limits start ≡ judging_at_start (starts_begun start) limits
starts_as limits starts.Begun = refl
starts_as limits starts.Anywhere = refl
starts_as limits starts.LateAnswers = refl

agrees_at_start : (limits : RuleLimits) (start : LogStart) → Agrees (starts_begun start) (nothing_seen (starts_begun start)) nothing_around (link_starting limits start)
agrees_at_start limits starts.Begun = record { framed = refl; warned = λ is. absurd (cc is); each = λ none. refl; begins = λ is. absurd (cc is) }
agrees_at_start limits starts.Anywhere = record { framed = refl; warned = λ is. absurd (cc is); each = λ none. refl; begins = λ is. absurd (cc is) }
agrees_at_start limits starts.LateAnswers = record { framed = refl; warned = λ is. absurd (cc is); each = λ none. refl; begins = λ is. absurd (cc is) }

pub log_judge_accuses_none : LogJudgeAccusesNone
unfolding LogJudgeAccusesNone JudgeAccusesNone
log_judge_accuses_none place start settings limits first before steps machine last none log =
    let events = log_seen settings first machine steps in
    let judges = as_link (log_starting limits place start) events none refl in
    let is = lines_marked settings first (starts_begun start) steps place (nothing_seen (starts_begun start)) nothing_around (link_starting limits start) machine
    (loads_at_start (starts_begun start)) judges.lines (agrees_at_start limits start) (inl refl) log.lost log.few judges.are in
    let accuses = judge_accuses_none (starts_begun start) settings limits first before is.steps machine last (record {
      in_range = log.in_range;
      suit = log.suit;
      run = rw is.events_are log.run;
      leads = log.leads;
      begins = log.begins;
      marked = is.marks;
      few = is.few;
      near = rw is.events_are log.near;
    }) in
    let same : outcomes_in_log (log_starting limits place start) events
    ≡ map Link (outcomes_of (judging_at_start (starts_begun start) limits) (log_from settings first machine is.steps)) =
    judges.outcomes ∙ ap (map Link) (ap (λ (j : Judging). outcomes_of j judges.lines) (starts_as limits start)
    ∙ ap (outcomes_of (judging_at_start (starts_begun start) limits)) is.are) in
    subst (AllByRecursion AccusesNeitherInLog) (sym same) (all_linked _ accuses)
