-- From the lines of a right link to outcomes that accuse neither end: the events of the lines are those of a log of the link.
use Rattle.std.proofs.Common.{◌≡◌, ◌∙◌, ◌⊎◌, ◌+◌, ◌||◌, ◌&&◌, not, inl, inr, ℕ, Bool, true, false, List, [], ◌∷◌, ◌++◌, map, Option, Some, None, if◌then◌else◌, refl, sym, ap, subst}
use Rattle.std.specs.List.{AllByRecursion, flat_map}
use Rattle.fio_module.specs.Settings.{Settings}
use Rattle.fio_log.specs.Blanks.{Texts}
use Rattle.fio_log.specs.LineLogs.{AreToldRight, Gone, IsToldAs, LineIs, Message, Other, Spoilt}
use Rattle.fio_log.specs.Wordings.{speaks_of_loss}
use Rattle.fio_log.specs.declared.verdict.Kind.{Kind}
use Rattle.fio_log.specs.declared.verdict.Kind.TheVariants as kinds
use Rattle.fio_log.specs.declared.verdict.Reason.{Reason}
use Rattle.fio_log.proofs.LineLogLemmas.{told_right}
use Rattle.fio_check.specs.LogJudges.{LogEvent, log_starting, outcomes_in_log}
use Rattle.fio_link.specs.declared.event.Event.{Event}
use Rattle.fio_link.specs.Link.{Machine, after, start}
use Rattle.fio_ends.specs.EventLogs.{AccusesNeitherInLog, AreLostWhereSaid, BeginsPart, FewAreUnderWayInParts, LogJudgeAccusesNone, MayHaveHeldFrame, Remark, Remarked, SaysMessage, Seen, SeenAbove, SeenStep, SpeaksOfLoss, Unseen, below_frames, below_remark, event_of_remark, events_seen, found_saying, log_seen, lost_if, nothing_seen, starts_begun}
use Rattle.fio_ends.specs.LinkLogs.{AreUnderWay, AreUnderWayAt}
use Rattle.fio_ends.specs.PromptRuns.{is_command}
use Rattle.fio_ends.specs.Transcripts.{CpuFrame, frames_at}
use Rattle.fio_ends.proofs.EventLogs.{log_judge_accuses_none}
use Rattle.fio_ends.proofs.SeenAbove.{one_frame}
use Rattle.fio_logs.specs.ReportedLines.{HasItsFrames, NamesSender, ReportedLine, HaveTrueReasons, events_of_reported, lines_told}
use Rattle.fio_logs.specs.WrittenLogs.{AreMissingBelowLost, FewAreUnderWayInLines, GoneLine, LineStep, LinesAbove, LinesAccuseNone, Logged, Missing, OtherLine, SpoiltLine, WrittenLine, below_lost, below_logged, below_other, events_of_steps, line_of_frame, lines_from, no_lines, other_of_loss, written_lines}
use Rattle.fio_logs.proofs.Reports.{Remarks, damaged_events, message_events, other_remarks}
use Rattle.fio_logs.proofs.Senders.{AreAnswers, IsOfSender, answers_after, answers_below, of_senders}

or_left : (a b : Bool) → a ≡ true → (a || b) ≡ true
or_left true b is = refl
or_left false b is = absurd (cc is)

or_right : (a b : Bool) → b ≡ true → (a || b) ≡ true
or_right true b is = refl
or_right false b is = is

head_same : {T : Type 0} {a b : T} {more others : List T} → a ∷ more ≡ b ∷ others → a ≡ b
head_same same = cc

tail_same : {T : Type 0} {a b : T} {more others : List T} → a ∷ more ≡ b ∷ others → more ≡ others
tail_same same = cc

-- ---- what the lines say above a line, and what the judge's events do

-- the place is lost where the lines lose it; and few loads may be under way
record IsAs (above : LinesAbove) (seen : SeenAbove) : Type 0 where
  pub lost : above.lost ≡ true → seen.lost ≡ true
  pub warned : seen.warned ≡ true → above.loss ≡ true
  pub begins : (seen.begins ≡ above.begins) ⊎ ((seen.begins ≡ Some 1) × (above.other ≡ true))

as_lost_line : (above : LinesAbove) (seen : SeenAbove) → IsAs above seen → IsAs (below_lost above) (lost_if true seen)
as_lost_line above seen is = record { lost = λ lost. refl; warned = is.warned; begins = inl refl }

begins_other : (above : LinesAbove) (seen : SeenAbove) → IsAs above seen → (seen.begins ≡ above.begins) ⊎ ((seen.begins ≡ Some 1) × (true ≡ true))
begins_other above seen is = elim is.begins [ inl same ↦ inl same | inr one ↦ inr (one.0, refl) ]

as_lost : (loss lost : Bool) (above : LinesAbove) (seen : SeenAbove) → IsAs above seen → IsAs (below_other loss above) (lost_if lost seen)
as_lost loss true above seen is =
    record { lost = λ lost. refl; warned = λ warned. or_right loss above.loss (is.warned warned); begins = inr (refl, refl) }
as_lost loss false above seen is =
    record { lost = is.lost; warned = λ warned. or_right loss above.loss (is.warned warned); begins = begins_other above seen is }

as_remark : (begun loss : Bool) (remark : Remark) (above : LinesAbove) (seen : SeenAbove) → (remark ≡ SpeaksOfLoss → loss ≡ true) → IsAs above seen
    → IsAs (below_other loss above) (below_remark begun seen remark)
as_remark begun loss MayHaveHeldFrame above seen says is = as_lost loss true above seen is
as_remark begun loss SaysMessage above seen says is = as_lost loss (seen.framed || begun) above seen is
as_remark begun loss BeginsPart above seen says is = as_lost loss seen.framed above seen is
as_remark begun loss SpeaksOfLoss above seen says is =
    record { lost = is.lost; warned = λ warned. or_left loss above.loss (says refl); begins = begins_other above seen is }

as_framed : (event : Event) (frame : CpuFrame) (above : LinesAbove) (seen : SeenAbove) → IsAs above seen
    → IsAs (below_logged event above (frame ∷ [])) (below_frames event seen (frame ∷ []))
as_framed event frame above seen is =
    record { lost = λ lost. absurd (cc lost); warned = is.warned; begins = by (is_command event) is.begins }
  where
    by : (command : Bool) → (seen.begins ≡ above.begins) ⊎ ((seen.begins ≡ Some 1) × (above.other ≡ true))
        → ((if command then None else seen.begins) ≡ (if command then None else above.begins))
        ⊎ (((if command then None else seen.begins) ≡ Some 1) × ((not command && above.other) ≡ true))
    by true begins = inl refl
    by false begins = begins

module _ (settings : Settings) (first : ℕ) where
  few_as : (above : LinesAbove) (seen : SeenAbove) (machine : Machine) (events : List Event) → IsAs above seen
      → AreUnderWayAt above.begins settings first machine events × ((above.other || above.loss) ≡ true → AreUnderWay 1 settings first machine events)
      → AreUnderWayAt seen.begins settings first machine events × (seen.warned ≡ true → AreUnderWay 1 settings first machine events)
  few_as above seen machine events is few = (
    elim is.begins [
      | inl same ↦ subst (λ (n : Option ℕ). AreUnderWayAt n settings first machine events) (sym same) few.0
      | inr one ↦ subst (λ (n : Option ℕ). AreUnderWayAt n settings first machine events) (sym one.0) (few.1 (or_left above.other above.loss one.1))
    ],
    λ warned. few.1 (or_right above.other above.loss (is.warned warned)),
  )

  module _ (begun : Bool) where
    -- events that are a log of these events of a link
    record IsSeenAs (above : SeenAbove) (machine : Machine) (events : List Event) (told : List LogEvent) : Type 0 where
      pub seen : List SeenStep
      pub are : told ≡ log_seen settings first machine seen
      pub same : events_seen seen ≡ events
      pub lost : AreLostWhereSaid begun settings first above machine seen
      pub few : FewAreUnderWayInParts begun settings first above machine seen

    with_remark : (above : SeenAbove) (machine : Machine) (events : List Event) (own more : List LogEvent) (remark : Remark)
        → own ≡ event_of_remark remark ∷ [] → IsSeenAs (below_remark begun above remark) machine events more → IsSeenAs above machine events (own ++ more)
    with_remark above machine events own more remark owns is = record {
      seen = Remarked remark ∷ is.seen;
      are = ap (λ (o : List LogEvent). o ++ more) owns ∙ ap (λ (rest : List LogEvent). event_of_remark remark ∷ rest) is.are;
      same = is.same;
      lost = is.lost;
      few = is.few;
    }

    with_logged : (above : SeenAbove) (machine : Machine) (event : Event) (said : Option Bool) (events : List Event) (told more : List LogEvent)
        → told ≡ map (found_saying said) (frames_at first machine event) ++ more
        → (is_command event ≡ true → AreUnderWayAt above.begins settings first machine (event ∷ events)
        × (above.warned ≡ true → AreUnderWay 1 settings first machine (event ∷ events)))
        → IsSeenAs (below_frames event above (frames_at first machine event)) (after settings first machine event) events more
        → IsSeenAs above machine (event ∷ events) told
    with_logged above machine event said events told more are few is = record {
      seen = Seen said event ∷ is.seen;
      are = are ∙ ap (λ (rest : List LogEvent). map (found_saying said) (frames_at first machine event) ++ rest) is.are;
      same = ap (λ (rest : List Event). event ∷ rest) is.same;
      lost = is.lost;
      few = (
        λ command. subst (λ (rest : List Event). AreUnderWayAt above.begins settings first machine (event ∷ rest)
            × (above.warned ≡ true → AreUnderWay 1 settings first machine (event ∷ rest))) (sym is.same) (few command),
        is.few,
      );
    }

    module _ (as_said : Bool) (texts : Texts) where
      -- lines that are reported right
      record AreRight (told : ℕ) (lines : List ReportedLine) : Type 0 where
        pub right : AreToldRight (lines_told lines)
        pub frames : AllByRecursion HasItsFrames lines
        pub words : HaveTrueReasons texts told lines
        pub senders : as_said ≡ true → AllByRecursion NamesSender lines

      below_first : (told : ℕ) (line : ReportedLine) (lines : List ReportedLine) → AreRight told (line ∷ lines) → AreRight (told + 1) lines
      below_first told line lines are =
          record { right = are.right.1; frames = are.frames.1; words = are.words.1; senders = λ is. (are.senders is).1 }

      -- what is reported of the lines of a right link is such a log
      abbrev SeesAll : List LineStep → Type 0
      SeesAll steps = (lines : List ReportedLine) (told : ℕ) (above : LinesAbove) (seen : SeenAbove) (machine : Machine) → AreAnswers machine.to_cpu
          → AreRight told lines → written_lines texts told lines ≡ lines_from settings first machine steps
          → AreMissingBelowLost settings first above machine steps → FewAreUnderWayInLines settings first above machine steps → IsAs above seen
          → IsSeenAs seen machine (events_of_steps steps) (flat_map (events_of_reported as_said) lines)

      sees_none : SeesAll []
      sees_none [] told above seen machine answers are written missing few is = record { seen = []; are = refl; same = refl; lost = tt; few = tt }
      sees_none (line ∷ lines) told above seen machine answers are written missing few is = absurd (cc written)

      sees_lost : (lost : LineIs) (steps : List LineStep) → SeesAll steps → ((kind : Kind) (reason : Reason) (frames : List (List ℕ))
          → IsToldAs lost kind reason frames → kind ≡ kinds.Damaged) → (lines : List ReportedLine) (told : ℕ) (above : LinesAbove) (seen : SeenAbove)
          (machine : Machine) → AreAnswers machine.to_cpu → AreRight told lines
          → written_lines texts told lines ≡ record { is = lost; loss = false } ∷ lines_from settings first machine steps
          → AreMissingBelowLost settings first (below_lost above) machine steps → FewAreUnderWayInLines settings first (below_lost above) machine steps
          → IsAs above seen → IsSeenAs seen machine (events_of_steps steps) (flat_map (events_of_reported as_said) lines)
      sees_lost lost steps sees damaged [] told above seen machine answers are written missing few is = absurd (cc written)
      sees_lost lost steps sees damaged (line ∷ lines) told above seen machine answers are written missing few is =
          let gone : line.told.is ≡ lost = ap (λ (w : WrittenLine). w.is) (head_same written) in
          let right : IsToldAs lost line.told.kind line.told.reason line.told.frames =
          subst (λ (is : LineIs). IsToldAs is line.told.kind line.told.reason line.told.frames) gone are.right.0 in
          with_remark seen machine (events_of_steps steps) (events_of_reported as_said line) (flat_map (events_of_reported as_said) lines) MayHaveHeldFrame
          (damaged_events as_said line (damaged line.told.kind line.told.reason line.told.frames right) are.frames.0)
          (sees lines (told + 1) (below_lost above) (lost_if true seen) machine answers (below_first told line lines are) (tail_same written) missing few
          (as_lost_line above seen is))

      sees_other : (loss : Bool) (steps : List LineStep) → SeesAll steps → SeesAll (OtherLine loss ∷ steps)
      sees_other loss steps sees [] told above seen machine answers are written missing few is = absurd (cc written)
      sees_other loss steps sees (line ∷ lines) told above seen machine answers are written missing few is =
          let other : line.told.is ≡ Other = ap (λ (w : WrittenLine). w.is) (head_same written) in
          let octets = (texts (told + 1)).octets in
          let says : speaks_of_loss octets ≡ loss =
          sym (ap (λ (is : LineIs). other_of_loss is octets) other) ∙ ap (λ (w : WrittenLine). w.loss) (head_same written) in
          let right : IsToldAs Other line.told.kind line.told.reason line.told.frames =
          subst (λ (is : LineIs). IsToldAs is line.told.kind line.told.reason line.told.frames) other are.right.0 in
          let remarks : Remarks loss (events_of_reported as_said line) =
          subst (λ (l : Bool). Remarks l (events_of_reported as_said line)) says (other_remarks as_said line octets right are.frames.0 are.words.0) in
          let more = flat_map (events_of_reported as_said) lines in
          elim remarks [
            | inl none ↦ subst (λ (own : List LogEvent). IsSeenAs seen machine (events_of_steps steps) (own ++ more)) (sym none)
                (sees lines (told + 1) (below_other loss above) seen machine answers (below_first told line lines are) (tail_same written) missing few
                (as_lost loss false above seen is))
            | inr one ↦ with_remark seen machine (events_of_steps steps) (events_of_reported as_said line) more one.0 one.1
                (sees lines (told + 1) (below_other loss above) (below_remark begun seen one.0) machine answers (below_first told line lines are)
                (tail_same written) missing few (as_remark begun loss one.0 above seen one.2 is))
          ]

      sees_missing : (event : Event) (steps : List LineStep) → SeesAll steps → SeesAll (Missing event ∷ steps)
      sees_missing event steps sees lines told above seen machine answers are written missing few is =
          let below = sees lines told above seen (after settings first machine event) (answers_after settings first machine event answers) are written
          missing.1 few is in record {
            seen = Unseen event ∷ below.seen;
            are = below.are;
            same = ap (λ (rest : List Event). event ∷ rest) below.same;
            lost = (is.lost missing.0, below.lost);
            few = below.few;
          }

      sees_frame : (event : Event) (frame : CpuFrame) (steps : List LineStep) → SeesAll steps → (lines : List ReportedLine) (told : ℕ) (above : LinesAbove)
          (seen : SeenAbove) (machine : Machine) → frames_at first machine event ≡ frame ∷ [] → AreAnswers machine.to_cpu → AreRight told lines
          → written_lines texts told lines ≡ line_of_frame frame ∷ lines_from settings first (after settings first machine event) steps
          → AreMissingBelowLost settings first above machine (Logged event ∷ steps) → FewAreUnderWayInLines settings first above machine (Logged event ∷ steps)
          → IsAs above seen → IsSeenAs seen machine (event ∷ events_of_steps steps) (flat_map (events_of_reported as_said) lines)
      sees_frame event frame steps sees [] told above seen machine has answers are written missing few is = absurd (cc written)
      sees_frame event frame steps sees (line ∷ lines) told above seen machine has answers are written missing few is =
          let message : line.told.is ≡ Message frame.octets = ap (λ (w : WrittenLine). w.is) (head_same written) in
          let right : IsToldAs (Message frame.octets) line.told.kind line.told.reason line.told.frames =
          subst (λ (is : LineIs). IsToldAs is line.told.kind line.told.reason line.told.frames) message are.right.0 in
          let sent : AllByRecursion IsOfSender (frame ∷ []) = subst (AllByRecursion IsOfSender) has (of_senders first machine event answers) in
          let next = after settings first machine event in
          let more = flat_map (events_of_reported as_said) lines in
          with_logged seen machine event line.named (events_of_steps steps) (events_of_reported as_said line ++ more) more
          (ap (λ (o : List LogEvent). o ++ more) (message_events as_said line frame right (λ is. (are.senders is).0) sent.0)
          ∙ ap (λ (frames : List CpuFrame). map (found_saying line.named) frames ++ more) (sym has))
          (λ command. few_as above seen machine (event ∷ events_of_steps steps) is (few.0 command))
          (subst (λ (frames : List CpuFrame). IsSeenAs (below_frames event seen frames) next (events_of_steps steps) more) (sym has)
          (sees lines (told + 1) (below_logged event above (frame ∷ [])) (below_frames event seen (frame ∷ [])) next
          (answers_after settings first machine event answers) (below_first told line lines are) (tail_same written)
          (subst (λ (frames : List CpuFrame). AreMissingBelowLost settings first (below_logged event above frames) next steps) has missing)
          (subst (λ (frames : List CpuFrame). FewAreUnderWayInLines settings first (below_logged event above frames) next steps) has few.1)
          (as_framed event frame above seen is)))

      sees_logged : (event : Event) (steps : List LineStep) → SeesAll steps → SeesAll (Logged event ∷ steps)
      sees_logged event steps sees lines told above seen machine answers are written missing few is =
          let next = after settings first machine event in
          let more = flat_map (events_of_reported as_said) lines in
          elim (one_frame first machine event) [
            | inl none ↦
                with_logged seen machine event None (events_of_steps steps) more more
                (ap (λ (frames : List CpuFrame). map (found_saying None) frames ++ more) (sym none.0))
                (λ command. few_as above seen machine (event ∷ events_of_steps steps) is (few.0 command))
                (subst (λ (frames : List CpuFrame). IsSeenAs (below_frames event seen frames) next (events_of_steps steps) more) (sym none.0)
                (sees lines told above seen next (answers_after settings first machine event answers) are
                (written ∙ ap (λ (frames : List CpuFrame). map line_of_frame frames ++ lines_from settings first next steps) none.0)
                (subst (λ (frames : List CpuFrame). AreMissingBelowLost settings first (below_logged event above frames) next steps) none.0 missing)
                (subst (λ (frames : List CpuFrame). FewAreUnderWayInLines settings first (below_logged event above frames) next steps) none.0 few.1)
                is))
            | inr one ↦ sees_frame event one.0 steps sees lines told above seen machine one.1 answers are
                (written ∙ ap (λ (frames : List CpuFrame). map line_of_frame frames ++ lines_from settings first next steps) one.1)
                missing few is
          ]

      sees_all : (steps : List LineStep) → SeesAll steps
      sees_all [] = sees_none
      sees_all (Logged event ∷ steps) = sees_logged event steps (sees_all steps)
      sees_all (Missing event ∷ steps) = sees_missing event steps (sees_all steps)
      sees_all (GoneLine ∷ steps) = sees_lost Gone steps (sees_all steps) (λ kind reason frames is. is)
      sees_all (SpoiltLine ∷ steps) = sees_lost Spoilt steps (sees_all steps) (λ kind reason frames is. is)
      sees_all (OtherLine loss ∷ steps) = sees_other loss steps (sees_all steps)

at_start : (begun : Bool) → IsAs (no_lines begun) (nothing_seen begun)
at_start begun = record { lost = λ lost. absurd (cc lost); warned = λ warned. absurd (cc warned); begins = inl refl }

pub lines_accuse_none : LinesAccuseNone
unfolding LinesAccuseNone LogJudgeAccusesNone
lines_accuse_none as_said texts told above lines place starts settings limits first before steps machine last none log are written =
    let begun = starts_begun starts in
    let right = told_right texts told above (lines_told lines) are.closed are.such are.in_turn in
    let answers : AreAnswers machine.to_cpu = answers_below settings first before start machine tt log.leads in
    let is = sees_all settings first begun as_said texts steps lines told (no_lines begun) (nothing_seen begun) machine answers
    (record { right = right; frames = are.frames; words = are.words; senders = are.senders }) written log.missing log.few (at_start begun) in
    subst (λ (events : List LogEvent). AllByRecursion AccusesNeitherInLog (outcomes_in_log (log_starting limits place starts) events)) (sym is.are)
    (log_judge_accuses_none place starts settings limits first before is.seen machine last none (record {
      in_range = log.in_range;
      suit = log.suit;
      run = rw is.same log.run;
      leads = log.leads;
      begins = log.begins;
      lost = is.lost;
      few = is.few;
      near = rw is.same log.near;
    }))
