-- Without late answers the judge of a log is the judge of a link.
use Rattle.std.proofs.Common.{arith}
use Rattle.fio_check.proofs.Names.{Bool, Breach, Frame, FrameOutcome, Judging, Link, List, LogJudging, LogLine, LogPlace, None, Observation, Option, Some, [], ap, append_assoc, ap₂, false, flat_map, if◌then◌else◌, inl, inr, is_some_and, judging_below, judging_with, log_reached, map, map-append, not, observation_in, outcome_in, outcome_reached, outcomes_of, place_of, refl, subst, sym, true, ℕ, ◌&&◌, ◌++◌, ◌∙◌, ◌∷◌, ◌≡◌, ◌⊎◌}
use Rattle.std.specs.Prelude.{nat_le, nat_lt, ◌+◌, ◌*◌, ◌||◌}
use Rattle.fio_check.specs.Checkers.{found_by}
use Rattle.fio_check.specs.LinkJudges.{judging_with_line, outcome_on}
use Rattle.fio_check.specs.LinkJudges.{Lost as Mark}
use Rattle.fio_check.specs.LogJudges.{Found, Heading, LogEvent, Lost, Missing, Possible, end_of, is_breach_explained, is_explained, judges_each, log_below_events, log_counting, log_lost, log_with, log_with_event, one_more, outcome_in_log, outcome_of_event, outcomes_in_log, place_by}
use Rattle.fio_check.specs.LogLaws.{AreLinesOf, AreLinesOfEvent, Around, IsJudgedAsLink, JudgesFramesAlike, around_frame, around_in, around_said, around_with, is_direct, is_remarked, is_rule_of_loss, line_at, mark_if}
use Rattle.fio_check.specs.Observations.{says_load}
use Rattle.fio_check.specs.MissingFrames.{do_explain, missing_below}
use Rattle.fio_check.specs.declared.late_answers.LateAnswers.{LateAnswers}
use Rattle.fio_check.specs.declared.log_judge.LogOutcome.{LogOutcome}
use Rattle.fio_check.specs.declared.missing_frames.MissingFrames.{MissingFrames}
use Rattle.fio_check.specs.declared.missing_frames.MissingFrames.TheVariants.{AbovePoll, Below, Nowhere}
use Rattle.fio_check.specs.declared.outcome.LogPlace.TheVariants.{Bus, Cpu}
use Rattle.fio_check.specs.declared.rules.Rule.{Rule}

-- ---- lines and others below them

-- what the frames of both are
outcomes_both : (judging : Judging) (lines more : List LogLine) → outcomes_of judging (lines ++ more) ≡ outcomes_of judging lines ++ outcomes_of (judging_below judging lines) more
outcomes_both judging [] more = refl
outcomes_both judging (line ∷ lines) more =
    ap (λ (left : List FrameOutcome). outcome_on judging line ++ left) (outcomes_both (judging_with_line judging line) lines more)
    ∙ sym (append_assoc (outcome_on judging line) (outcomes_of (judging_with_line judging line) lines) (outcomes_of (judging_below (judging_with_line judging line) lines) more))

-- the judge below both
below_both : (judging : Judging) (lines more : List LogLine) → judging_below judging (lines ++ more) ≡ judging_below (judging_below judging lines) more
below_both judging [] more = refl
below_both judging (line ∷ lines) more = below_both (judging_with_line judging line) lines more

-- ---- the lines that events are

-- a mark is above a frame if frames that are missing explain what it breaks
abbrev link_lines_of : LogJudging → LogEvent → List LogLine
link_lines_of log (Found from_cpu said octets) =
    mark_if (is_explained log from_cpu (observation_in from_cpu octets))
    ++ Frame (place_of (log_counting log from_cpu said) said) from_cpu octets ∷ []
link_lines_of log Lost = Mark ∷ []
link_lines_of log Possible = mark_if (log.has_frames || judges_each log.link.checker.skips)
link_lines_of log Heading = mark_if log.has_frames
link_lines_of log Missing = []

abbrev link_lines : LogJudging → List LogEvent → List LogLine
link_lines log [] = []
link_lines log (event ∷ events) = link_lines_of log event ++ link_lines (log_with_event log event) events

-- ---- an event

-- whether no load is among lines that are lost below an event, if none is among those above it
abbrev pub never_below : Bool → LogEvent → Bool
never_below never (Found from_cpu said octets) = never && not (says_load (observation_in from_cpu octets))
never_below never event = never

-- without late answers an event is to the judge of a log what its lines are to the judge of the link
record IsAsLines (log : LogJudging) (event : LogEvent) (lines : List LogLine) : Type 0 where
  late : (log_with_event log event).late ≡ None
  link : (log_with_event log event).link ≡ judging_below log.link lines
  outcome : outcome_of_event log event ≡ map Link (outcomes_of log.link lines)
  place : (log_with_event log event).place ≡ log.place
  around : around_in (log_with_event log event) ≡ around_with (around_in log) event
  loads : (log_with_event log event).never_loads ≡ never_below log.never_loads event

-- a judge without late answers
abbrev kept_by : Judging → Option LogPlace → ℕ → ℕ → Bool → MissingFrames → Bool → LogJudging
kept_by link place agreeing contrary has_frames missing never = record {
  link = link;
  late = None;
  place = place;
  agreeing = agreeing;
  contrary = contrary;
  has_frames = has_frames;
  missing = missing;
  never_loads = never;
}

-- what is around the line below a frame, below which frames may be missing here
abbrev around_of : MissingFrames → Bool → Around
around_of missing contrary = record { framed = true; remarked = is_remarked missing; direct = is_direct missing; contrary = contrary }

abbrev around_by : Bool → MissingFrames → ℕ → Around
around_by framed missing contrary =
    record { framed = framed; remarked = is_remarked missing; direct = is_direct missing; contrary = nat_lt 0 contrary }

around_below : (framed : Bool) (missing : MissingFrames) (contrary : ℕ) (observation : Observation)
    → around_of (missing_below missing observation) (nat_lt 0 contrary) ≡ around_frame (around_by framed missing contrary) observation
around_below framed missing contrary observation = grind arith

around_turned : (framed : Bool) (missing : MissingFrames) (contrary : ℕ) (observation : Observation)
    → around_of (missing_below missing observation) true
    ≡ (record (around_frame (around_by framed missing contrary) observation) { contrary = true })
around_turned framed missing contrary observation = grind arith

some_more : (small : Bool) (count : ℕ) → nat_lt 0 (if small then count + 1 else 4294967295) ≡ true
some_more true count = grind arith
some_more false count = refl

around_contrary : (framed : Bool) (missing : MissingFrames) (contrary : ℕ) (observation : Observation)
    → around_of (missing_below missing observation) (nat_lt 0 (one_more contrary))
    ≡ (record (around_frame (around_by framed missing contrary) observation) { contrary = true })
around_contrary framed missing contrary observation =
    ap (around_of (missing_below missing observation)) (some_more (nat_lt contrary 4294967295) contrary)
    ∙ around_turned framed missing contrary observation

-- what a frame is where a mark may be above it
record IsAsFrame (log : LogJudging) (reached : LogJudging) (marked : Bool) (missing : MissingFrames) (from_cpu : Bool) (said : Option Bool) (octets : List ℕ) : Type 0 where
  late : (log_reached reached from_cpu said octets).late ≡ None
  link : (log_reached reached from_cpu said octets).link ≡ judging_below log.link (mark_if marked ++ Frame (place_of log said) from_cpu octets ∷ [])
  outcome : outcome_reached reached from_cpu said octets ∷ [] ≡ map Link (outcomes_of log.link (mark_if marked ++ Frame (place_of log said) from_cpu octets ∷ []))
  place : (log_reached reached from_cpu said octets).place ≡ log.place
  around : around_in (log_reached reached from_cpu said octets) ≡ around_of missing (nat_lt 0 log.contrary)
  loads : (log_reached reached from_cpu said octets).never_loads ≡ reached.never_loads

-- a mark is what a loss is, if a load may be among the lines
reached_by : (link : Judging) (place : Option LogPlace) (agreeing contrary : ℕ) (has_frames : Bool) (missing after : MissingFrames) (never next marked from_cpu : Bool) (said : Option Bool) (octets : List ℕ)
    → (never ≡ false) ⊎ (marked ≡ false)
    → let log = kept_by link place agreeing contrary has_frames missing never in
    IsAsFrame log (record (if marked then log_lost log else log) { has_frames = true; missing = after; never_loads = next }) marked after from_cpu said octets
reached_by link place agreeing contrary has_frames missing after never next true from_cpu said octets (inl is) =
    subst (λ (never : Bool). let log = kept_by link place agreeing contrary has_frames missing never in
    IsAsFrame log (record (log_lost log) { has_frames = true; missing = after; never_loads = next }) true after from_cpu said octets) (sym is)
    (record { late = refl; link = refl; outcome = refl; place = refl; around = refl; loads = refl })
reached_by link place agreeing contrary has_frames missing after never next true from_cpu said octets (inr is) = absurd (cc)
reached_by link place agreeing contrary has_frames missing after never next false from_cpu said octets safe = record { late = refl; link = refl; outcome = refl; place = refl; around = refl; loads = refl }

found_as : (link : Judging) (place : Option LogPlace) (agreeing contrary : ℕ) (has_frames : Bool) (missing : MissingFrames) (never from_cpu : Bool) (said : Option Bool) (octets : List ℕ)
    → let log = kept_by link place agreeing contrary has_frames missing never in
    (never ≡ false) ⊎ (is_explained log from_cpu (observation_in from_cpu octets) ≡ false)
    → IsAsLines log (Found from_cpu said octets) (link_lines_of log (Found from_cpu said octets))
found_as link place agreeing contrary has_frames missing never from_cpu None octets safe =
    let log = kept_by link place agreeing contrary has_frames missing never in
    let observation = observation_in from_cpu octets in
    let one = reached_by link place agreeing contrary has_frames missing (missing_below missing observation) never (never && not (says_load observation)) (is_explained log from_cpu observation) from_cpu None octets safe in
    record { late = one.late; link = one.link; outcome = one.outcome; place = one.place; loads = one.loads; around = one.around ∙ around_below has_frames missing contrary observation }
found_as link place agreeing contrary has_frames missing never true (Some true) octets safe =
    let log = kept_by link place agreeing contrary has_frames missing never in
    let observation = observation_in true octets in
    let one = reached_by link place (one_more agreeing) contrary has_frames missing (missing_below missing observation) never (never && not (says_load observation)) (is_explained log true observation) true (Some true) octets safe in
    record { late = one.late; link = one.link; outcome = one.outcome; place = one.place; loads = one.loads; around = one.around ∙ around_below has_frames missing contrary observation }
found_as link place agreeing contrary has_frames missing never false (Some false) octets safe =
    let log = kept_by link place agreeing contrary has_frames missing never in
    let observation = observation_in false octets in
    let one = reached_by link place (one_more agreeing) contrary has_frames missing (missing_below missing observation) never (never && not (says_load observation)) (is_explained log false observation) false (Some false) octets safe in
    record { late = one.late; link = one.link; outcome = one.outcome; place = one.place; loads = one.loads; around = one.around ∙ around_below has_frames missing contrary observation }
found_as link place agreeing contrary has_frames missing never true (Some false) octets safe =
    let log = kept_by link place agreeing contrary has_frames missing never in
    let observation = observation_in true octets in
    let one = reached_by link place agreeing (one_more contrary) has_frames missing (missing_below missing observation) never (never && not (says_load observation)) (is_explained log true observation) true (Some false) octets safe in
    record { late = one.late; link = one.link; outcome = one.outcome; place = one.place; loads = one.loads; around = one.around ∙ around_contrary has_frames missing contrary observation }
found_as link place agreeing contrary has_frames missing never false (Some true) octets safe =
    let log = kept_by link place agreeing contrary has_frames missing never in
    let observation = observation_in false octets in
    let one = reached_by link place agreeing (one_more contrary) has_frames missing (missing_below missing observation) never (never && not (says_load observation)) (is_explained log false observation) false (Some true) octets safe in
    record { late = one.late; link = one.link; outcome = one.outcome; place = one.place; loads = one.loads; around = one.around ∙ around_contrary has_frames missing contrary observation }

-- a line at which the place is lost, or not, is a mark, or nothing
record IsAsMark (log : LogJudging) (marked : Bool) : Type 0 where
  late : (if marked then log_lost log else log).late ≡ None
  link : (if marked then log_lost log else log).link ≡ judging_below log.link (mark_if marked)
  outcome : map Link (outcomes_of log.link (mark_if marked)) ≡ []
  place : (if marked then log_lost log else log).place ≡ log.place
  around : around_in (if marked then log_lost log else log) ≡ around_in log
  loads : (if marked then log_lost log else log).never_loads ≡ false

mark_as : (link : Judging) (place : Option LogPlace) (agreeing contrary : ℕ) (has_frames : Bool) (missing : MissingFrames) (marked : Bool)
    → IsAsMark (kept_by link place agreeing contrary has_frames missing false) marked
mark_as link place agreeing contrary has_frames missing true = record { late = refl; link = refl; outcome = refl; place = refl; around = refl; loads = refl }
mark_as link place agreeing contrary has_frames missing false = record { late = refl; link = refl; outcome = refl; place = refl; around = refl; loads = refl }

possible_as : (link : Judging) (place : Option LogPlace) (agreeing contrary : ℕ) (has_frames : Bool) (missing : MissingFrames)
    → let log = kept_by link place agreeing contrary has_frames missing false in IsAsLines log Possible (link_lines_of log Possible)
possible_as link place agreeing contrary has_frames missing =
    let one = mark_as link place agreeing contrary has_frames missing (has_frames || judges_each link.checker.skips) in
    record { late = one.late; link = one.link; outcome = sym one.outcome; place = one.place; around = one.around; loads = one.loads }

heading_as : (link : Judging) (place : Option LogPlace) (agreeing contrary : ℕ) (has_frames : Bool) (missing : MissingFrames)
    → let log = kept_by link place agreeing contrary has_frames missing false in IsAsLines log Heading (link_lines_of log Heading)
heading_as link place agreeing contrary has_frames missing =
    let one = mark_as link place agreeing contrary has_frames missing has_frames in
    record { late = one.late; link = one.link; outcome = sym one.outcome; place = one.place; around = one.around; loads = one.loads }

event_as : (link : Judging) (place : Option LogPlace) (agreeing contrary : ℕ) (has_frames : Bool) (missing : MissingFrames) (event : LogEvent)
    → let log = kept_by link place agreeing contrary has_frames missing false in IsAsLines log event (link_lines_of log event)
event_as link place agreeing contrary has_frames missing (Found from_cpu said octets) = found_as link place agreeing contrary has_frames missing false from_cpu said octets (inl refl)
event_as link place agreeing contrary has_frames missing Lost = record { late = refl; link = refl; outcome = refl; place = refl; around = refl; loads = refl }
event_as link place agreeing contrary has_frames missing Possible = possible_as link place agreeing contrary has_frames missing
event_as link place agreeing contrary has_frames missing Heading = heading_as link place agreeing contrary has_frames missing
event_as link place agreeing contrary has_frames missing Missing = record { late = refl; link = refl; outcome = refl; place = refl; around = refl; loads = refl }

each_as : (log : LogJudging) (event : LogEvent) → log.late ≡ None → log.never_loads ≡ false → IsAsLines log event (link_lines_of log event)
each_as log event none loads =
    subst (λ (late : Option LateAnswers). IsAsLines (record log { late = late }) event (link_lines_of (record log { late = late }) event)) (sym none)
    (subst (λ (never : Bool). let kept : LogJudging = record log { late = None; never_loads = never } in IsAsLines kept event (link_lines_of kept event)) (sym loads)
    (event_as log.link log.place log.agreeing log.contrary log.has_frames log.missing event))

-- a frame that is not below a mark, whatever the CPU loads
found_each : (log : LogJudging) (from_cpu : Bool) (said : Option Bool) (octets : List ℕ) → log.late ≡ None
    → is_explained log from_cpu (observation_in from_cpu octets) ≡ false
    → IsAsLines log (Found from_cpu said octets) (link_lines_of log (Found from_cpu said octets))
found_each log from_cpu said octets none plain =
    let event : LogEvent = Found from_cpu said octets in
    subst (λ (late : Option LateAnswers). IsAsLines (record log { late = late }) event (link_lines_of (record log { late = late }) event)) (sym none)
    (found_as log.link log.place log.agreeing log.contrary log.has_frames log.missing log.never_loads from_cpu said octets (inr plain))

still_loads : (never : Bool) (event : LogEvent) → never ≡ false → never_below never event ≡ false
still_loads never (Found from_cpu said octets) loads = ap (λ (never : Bool). never && not (says_load (observation_in from_cpu octets))) loads
still_loads never Lost loads = loads
still_loads never Possible loads = loads
still_loads never Heading loads = loads
still_loads never Missing loads = loads

-- ---- all events

outcomes_as : (log : LogJudging) (events : List LogEvent) → log.late ≡ None → log.never_loads ≡ false → outcomes_in_log log events ≡ map Link (outcomes_of log.link (link_lines log events))
outcomes_as log [] none loads = refl
outcomes_as log (event ∷ events) none loads =
    let lines = link_lines_of log event in
    let after = log_with_event log event in
    let more = link_lines after events in
    let one = each_as log event none loads in
    let more_loads = one.loads ∙ still_loads log.never_loads event loads in
    ap₂ (λ (first last : List LogOutcome). first ++ last) one.outcome
    (outcomes_as after events one.late more_loads ∙ ap (λ (judging : Judging). map Link (outcomes_of judging more)) one.link)
    ∙ sym (map-append Link (outcomes_of log.link lines) (outcomes_of (judging_below log.link lines) more))
    ∙ ap (map Link) (sym (outcomes_both log.link lines more))

below_as : (log : LogJudging) (events : List LogEvent) → log.late ≡ None → log.never_loads ≡ false → (log_below_events log events).link ≡ judging_below log.link (link_lines log events)
below_as log [] none loads = refl
below_as log (event ∷ events) none loads =
    let lines = link_lines_of log event in
    let after = log_with_event log event in
    let more = link_lines after events in
    let one = each_as log event none loads in
    let more_loads = one.loads ∙ still_loads log.never_loads event loads in
    below_as after events one.late more_loads ∙ ap (λ (judging : Judging). judging_below judging more) one.link ∙ sym (below_both log.link lines more)

-- ---- the lines are those of the events

rule_of_loss : (missing : MissingFrames) (rule : Rule) → do_explain missing rule ≡ true → is_rule_of_loss rule ≡ true
rule_of_loss missing rule explained = grind arith

rule_below : (rule : Rule) → do_explain Below rule ≡ is_rule_of_loss rule
rule_below rule = grind arith

abbrev breaks : Option Breach → Bool
breaks found = is_some_and found (λ breach. is_rule_of_loss breach.rule)

-- what is explained is below a remark, and a breach of such a rule
explained_only : (missing : MissingFrames) (found : Option Breach) → is_breach_explained missing found ≡ true
    → (is_remarked missing ≡ true) × (breaks found ≡ true)
explained_only Nowhere found explained = absurd (cc)
explained_only Below None explained = absurd (cc)
explained_only AbovePoll None explained = absurd (cc)
explained_only Below (Some breach) explained = (refl, rule_of_loss Below breach.rule explained)
explained_only AbovePoll (Some breach) explained = (refl, rule_of_loss AbovePoll breach.rule explained)

explained_surely : (missing : MissingFrames) (found : Option Breach) → is_direct missing ≡ true → breaks found ≡ true
    → is_breach_explained missing found ≡ true
explained_surely Nowhere found direct breaks_it = absurd (cc)
explained_surely AbovePoll found direct breaks_it = absurd (cc)
explained_surely Below None direct breaks_it = absurd (cc)
explained_surely Below (Some breach) direct breaks_it = rule_below breach.rule ∙ breaks_it

counting_place : (log : LogJudging) (from_cpu : Bool) (said : Option Bool) → (log_counting log from_cpu said).place ≡ log.place
counting_place log from_cpu said = grind arith

known_place : (log : LogJudging) (from_cpu : Bool) (said : Option Bool) (given : LogPlace) → log.place ≡ Some given
    → place_of (log_counting log from_cpu said) said ≡ given
known_place log from_cpu said given known =
    ap (λ place. place_by (log_counting log from_cpu said) place said) (counting_place log from_cpu said ∙ known)

unnamed_place : (log : LogJudging) (from_cpu : Bool) (said : Option Bool) → log.place ≡ None → said ≡ None
    → place_of (log_counting log from_cpu said) said ≡ Bus
unnamed_place log from_cpu None none unnamed = ap (λ (place : Option LogPlace). place_by log place None) none
unnamed_place log from_cpu (Some by_cpu) none unnamed = absurd (cc)

zero_of : (count : ℕ) → nat_lt 0 count ≡ false → count ≡ 0
zero_of count none = grind arith

within_all : (agreeing : ℕ) → (if nat_le (4 * 0) agreeing then Cpu else Bus) ≡ Cpu
within_all agreeing = grind arith

at_cpu : (log : LogJudging) → nat_lt 0 log.contrary ≡ false → end_of log ≡ Cpu
at_cpu log none =
    ap (λ (contrary : ℕ). if nat_le (4 * contrary) log.agreeing then Cpu else Bus) (zero_of log.contrary none) ∙ within_all log.agreeing

right_place : (log : LogJudging) (from_cpu : Bool) (said : Option Bool) → log.place ≡ None → said ≡ Some from_cpu
    → nat_lt 0 log.contrary ≡ false → place_of (log_counting log from_cpu said) said ≡ Cpu
right_place log true (Some true) none named right =
    let counted : LogJudging = record log { agreeing = one_more log.agreeing } in
    ap (λ (place : Option LogPlace). place_by counted place (Some true)) none ∙ at_cpu counted right
right_place log false (Some false) none named right =
    let counted : LogJudging = record log { agreeing = one_more log.agreeing } in
    ap (λ (place : Option LogPlace). place_by counted place (Some false)) none ∙ at_cpu counted right
right_place log true (Some false) none named right = absurd (cc)
right_place log false (Some true) none named right = absurd (cc)
right_place log from_cpu None none named right = absurd (cc)

event_lines : (log : LogJudging) (event : LogEvent) → AreLinesOfEvent log.place (around_in log) log.link event (link_lines_of log event)
event_lines log (Found from_cpu said octets) = record {
  marked = is_explained log from_cpu (observation_in from_cpu octets);
  at = place_of (log_counting log from_cpu said) said;
  are = refl;
  known = known_place log from_cpu said;
  unnamed = unnamed_place log from_cpu said;
  right = right_place log from_cpu said;
  only = explained_only log.missing (found_by log.link.checker from_cpu (observation_in from_cpu octets));
  surely = explained_surely log.missing (found_by log.link.checker from_cpu (observation_in from_cpu octets));
}
event_lines log Lost = refl
event_lines log Possible = refl
event_lines log Heading = refl
event_lines log Missing = refl

lines_are : (log : LogJudging) (events : List LogEvent) → log.late ≡ None → log.never_loads ≡ false
    → AreLinesOf log.place (around_in log) log.link events (link_lines log events)
lines_are log [] none loads = refl
lines_are log (event ∷ events) none loads =
    let own = link_lines_of log event in
    let after = log_with_event log event in
    let more = link_lines after events in
    let one = each_as log event none loads in
    let more_loads = one.loads ∙ still_loads log.never_loads event loads in
    let below = lines_are after events one.late more_loads in
    let placed = subst (λ (place : Option LogPlace). AreLinesOf place (around_in after) after.link events more) one.place below in
    let around = subst (λ (around : Around). AreLinesOf log.place around after.link events more) one.around placed in
    let linked = subst (λ (link : Judging). AreLinesOf log.place (around_with (around_in log) event) link events more) one.link around in
    (own, more, refl, event_lines log event, linked)

pub as_link : (log : LogJudging) (events : List LogEvent) → log.late ≡ None → log.never_loads ≡ false → IsJudgedAsLink (around_in log) log events
as_link log events none loads =
    record { lines = link_lines log events; are = lines_are log events none loads; outcomes = outcomes_as log events none loads; below = below_as log events none loads }

-- ---- frames alone

nowhere_is : (missing : MissingFrames) → is_remarked missing ≡ false → missing ≡ Nowhere
nowhere_is missing none = grind arith

around_quiet : (around : Around) (observation : Observation) → around.remarked ≡ false → (around_frame around observation).remarked ≡ false
around_quiet around observation none = grind arith

said_quiet : (around : Around) (said : Option Bool) (from_cpu : Bool) → (around_said around said from_cpu).remarked ≡ around.remarked
said_quiet around said from_cpu = grind arith

unmarked : (log : LogJudging) (from_cpu : Bool) (observation : Observation) → log.missing ≡ Nowhere → is_explained log from_cpu observation ≡ false
unmarked log from_cpu observation nowhere =
    ap (λ missing. is_breach_explained missing (found_by log.link.checker from_cpu observation)) nowhere

-- a frame with no remark of loss above it is that frame to the judge of the link
pub record IsThatFrame (log : LogJudging) (at : LogPlace) (from_cpu : Bool) (said : Option Bool) (octets : List ℕ) : Type 0 where
  pub late : (log_with log from_cpu said octets).late ≡ None
  pub missing : (log_with log from_cpu said octets).missing ≡ Nowhere
  pub place : (log_with log from_cpu said octets).place ≡ Some at
  pub link : (log_with log from_cpu said octets).link ≡ judging_with log.link at from_cpu octets
  pub outcome : outcome_in_log log from_cpu said octets ∷ [] ≡ Link (outcome_in log.link at from_cpu octets) ∷ []
  pub loads : (log_with log from_cpu said octets).never_loads ≡ log.never_loads && not (says_load (observation_in from_cpu octets))

pub that_frame : (log : LogJudging) (at : LogPlace) (from_cpu : Bool) (said : Option Bool) (octets : List ℕ) → log.late ≡ None → log.missing ≡ Nowhere
    → log.place ≡ Some at → IsThatFrame log at from_cpu said octets
that_frame log at from_cpu said octets none nowhere given =
    let observation = observation_in from_cpu octets in
    let plain = unmarked log from_cpu observation nowhere in
    let one = found_each log from_cpu said octets none plain in
    let quiet = said_quiet (around_frame (around_in log) observation) said from_cpu ∙ around_quiet (around_in log) observation (ap is_remarked nowhere) in
    let line = ap₂ (λ (marked : Bool) (there : LogPlace). mark_if marked ++ Frame there from_cpu octets ∷ []) plain (known_place log from_cpu said at given) in
    record {
      late = one.late;
      missing = nowhere_is (log_with log from_cpu said octets).missing (ap (λ (around : Around). around.remarked) one.around ∙ quiet);
      place = one.place ∙ given;
      link = one.link ∙ ap (judging_below log.link) line;
      outcome = one.outcome ∙ ap (λ (lines : List LogLine). map Link (outcomes_of log.link lines)) line;
      loads = one.loads;
    }

pub frames_alike : (log : LogJudging) (at : LogPlace) (events : List LogEvent) → JudgesFramesAlike log at events
frames_alike log at [] none nowhere given all = refl
frames_alike log at (Found from_cpu said octets ∷ events) none nowhere given all =
    let one = that_frame log at from_cpu said octets none nowhere given in
    ap₂ (λ (first last : List LogOutcome). first ++ last) one.outcome
    (frames_alike (log_with log from_cpu said octets) at events one.late one.missing one.place all
    ∙ ap (λ (judging : Judging). map Link (outcomes_of judging (flat_map (line_at at) events))) one.link)
frames_alike log at (Lost ∷ events) none nowhere given all = absurd (cc)
frames_alike log at (Possible ∷ events) none nowhere given all = absurd (cc)
frames_alike log at (Heading ∷ events) none nowhere given all = absurd (cc)
frames_alike log at (Missing ∷ events) none nowhere given all = absurd (cc)
