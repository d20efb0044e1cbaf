-- The log of a prompt run, from its start or from any event on, breaks no rule on content.
use Rattle.std.specs.Prelude.{◌≡◌, ℕ, Bool, true, false, List, [], ◌++◌, Some, None, if◌then◌else◌}
use Rattle.fio_cpu.specs.declared.record.Item.TheVariants.{Entry}
use Rattle.fio_module.specs.Settings.{Settings, AreInRange}
use Rattle.fio_check.specs.ContentAbove.{content_at}
use Rattle.fio_check.specs.ContentKnown.{ContentFacts}
use Rattle.fio_check.specs.ContentEvents.{ContentEvent, Heard, Recorded, content_event_at, events_of_log}
use Rattle.fio_check.specs.ContentRules.{breaks_answer, breaks_entry, broken_state}
use Rattle.fio_check.specs.ContentFaults.{content_fault_in}
use Rattle.fio_check.specs.Lines.{TranscriptLine}
use Rattle.fio_check.specs.declared.content_rules.ContentRule.{ContentRule}
use Rattle.fio_check.specs.declared.content_rules.ContentRule.TheVariants.{State}
use Rattle.fio_link.specs.declared.event.Event.{Event}
use Rattle.fio_link.specs.Link.{Machine, Leads, start}
use Rattle.fio_ends.specs.PromptRuns.{IsPromptRun, events_from_command, machine_at_command}
use Rattle.fio_ends.specs.Transcripts.{HaveFrames, frames_from}

-- an event keeps a rule
abbrev pub KeepsRule : ContentRule → ContentFacts → ContentEvent → Type 0
KeepsRule State facts (Recorded (Entry input level stamp wide)) =
    (broken_state facts (Recorded (Entry input level stamp wide)) facts.seen ≡ None)
    × (breaks_entry facts input (record { level = level; wide = wide }) State ≡ false)
KeepsRule State facts event = broken_state facts event facts.seen ≡ None
KeepsRule rule facts (Heard answer) = breaks_answer facts answer rule ≡ false
KeepsRule rule facts (Recorded (Entry input level stamp wide)) =
    breaks_entry facts input (record { level = level; wide = wide }) rule ≡ false
KeepsRule rule facts event = Unit {0}

-- no event of a log breaks the rule, by whether the log begins with both ends
abbrev pub NoneBreaks : Bool → List TranscriptLine → ContentRule → Type 0
NoneBreaks begun lines rule =
    let events = events_of_log begun lines in
    (place : ℕ) (event : ContentEvent) → content_event_at events place ≡ Some event →
    KeepsRule rule (content_at events place) event

-- a log may begin after these events: with both ends, if nothing was before, or later
abbrev pub MayBegin : Bool → List Event → Type 0
MayBegin true before = before ≡ []
MayBegin false before = Unit {0}

-- what a log must fulfil: a statement on whether it begins with both ends, the machine at which it begins, its events and
-- the machine at its end
abbrev pub Premise : Type 1
Premise = Bool → Settings → ℕ → Machine → List Event → Machine → Type 0

-- the events of a log that are judged: all of them if it begins with both ends, else those from the first command on
abbrev pub judged_events : Bool → List Event → List Event
judged_events begun events = if begun then events else events_from_command events

-- the machine at which they begin
abbrev pub judged_from : Bool → Settings → ℕ → Machine → List Event → Machine
judged_from begun settings first machine events =
    if begun then machine else machine_at_command settings first machine events

-- A rule never accuses, if a log fulfils this premise: what the CPU's end logs of each prompt run keeps the rule, from the
-- start of both ends or from any event on.
unfoldable pub ContentNeverAccuses : ContentRule → Premise → Type 0
ContentNeverAccuses rule Holds =
    (begun : Bool) (settings : Settings) (first : ℕ) (before later : List Event) (machine last : Machine) →
    AreInRange settings → IsPromptRun settings first (before ++ later) last →
    Leads settings first start before machine → MayBegin begun before →
    Holds begun settings first (judged_from begun settings first machine later) (judged_events begun later) last →
    (lines : List TranscriptLine) → HaveFrames lines (frames_from settings first machine later) →
    NoneBreaks begun lines rule

-- the premise that every log fulfils
abbrev pub Always : Premise
Always begun settings first machine later last = Unit {0}

-- The checker accuses no right link, if a log fulfils this premise: what the CPU's end logs of each prompt run has no fault,
-- from the start of both ends or from any event on.
unfoldable pub AccusesNone : Premise → Type 0
AccusesNone Holds =
    (begun : Bool) (settings : Settings) (first : ℕ) (before later : List Event) (machine last : Machine) →
    AreInRange settings → IsPromptRun settings first (before ++ later) last →
    Leads settings first start before machine → MayBegin begun before →
    Holds begun settings first (judged_from begun settings first machine later) (judged_events begun later) last →
    (lines : List TranscriptLine) → HaveFrames lines (frames_from settings first machine later) →
    content_fault_in begun lines ≡ None
