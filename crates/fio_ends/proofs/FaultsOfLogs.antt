-- Where the rules are kept, a log has no fault of them.
use Rattle.fio_ends.proofs.Names.{◌≡◌, ℕ, Bool, false, List, length, Option, Some, None, refl, ap, option_map, slice_get, Answer, Entry, TranscriptLine, ContentFacts, ContentEvent, LineEvent, Heard, Recorded, content_event_at, events_of_log, ContentRule, Accepted, Alternate, Apart, Cleared, Clock, Done, Fresh, Ignored, Order, State, Watchdog, rule_broken_by, HasNearTimes, KeepsRule, breaks_answer, breaks_entry, content_at, content_fault_in, entry_rules, find, option_and_then, arith, recorded_items, answer_rules, content_fault_at, fault_by}
use Rattle.std.specs.Prelude.{take, if◌then◌else◌}
use Rattle.fio_ends.specs.ContentRuns.{AccusesNone, ContentNeverAccuses}
use Rattle.fio_ends.proofs.TimesKept.{apart_never_accuses, clock_never_accuses, fresh_never_accuses, order_never_accuses, state_never_accuses}
use Rattle.fio_ends.proofs.AlternateKept.{alternate_never_accuses}
use Rattle.fio_ends.proofs.AnswersKept.{accepted_never_accuses, cleared_never_accuses, done_never_accuses, watchdog_never_accuses}
use Rattle.fio_ends.proofs.GoodLines.{none_earliest}
use Rattle.fio_ends.proofs.IgnoredKept.{ignored_never_accuses}

-- ---- one event

-- an event keeps all rules
pub record KeepsAll (facts : ContentFacts) (event : ContentEvent) : Type 0 where
  pub order : KeepsRule Order facts event
  pub fresh : KeepsRule Fresh facts event
  pub alternate : KeepsRule Alternate facts event
  pub apart : KeepsRule Apart facts event
  pub ignored : KeepsRule Ignored facts event
  pub clock : KeepsRule Clock facts event
  pub done : KeepsRule Done facts event
  pub accepted : KeepsRule Accepted facts event
  pub cleared : KeepsRule Cleared facts event
  pub watchdog : KeepsRule Watchdog facts event
  pub state : KeepsRule State facts event

none_of_five : (a b c d e : Bool) (p q r s t : ContentRule) → a ≡ false → b ≡ false → c ≡ false → d ≡ false → e ≡ false
    → (if a then Some p else (if b then Some q else (if c then Some r else (if d then Some s else (if e then Some t else None))))) ≡ None
none_of_five a b c d e p q r s t first second third fourth fifth = rw (first, second, third, fourth, fifth) refl

none_of_six : (a b c d e f : Bool) (p q r s t u : ContentRule) → a ≡ false → b ≡ false → c ≡ false → d ≡ false → e ≡ false → f ≡ false
    → (if a then Some p else (if b then Some q else (if c then Some r else (if d then Some s else (if e then Some t else (if f then Some u else None)))))) ≡ None
none_of_six a b c d e f p q r s t u first second third fourth fifth sixth = rw (first, second, third, fourth, fifth, sixth) refl

none_of_answer : (facts : ContentFacts) (answer : Answer) → KeepsAll facts (Heard answer) → find (breaks_answer facts answer) answer_rules ≡ None
none_of_answer facts answer k = grind (arith, none_of_five)

none_of_entry : (facts : ContentFacts) (input low wide : ℕ) (level : Bool) → KeepsAll facts (Recorded (Entry input level low wide))
    → find (breaks_entry facts input (record { level = level; wide = wide })) entry_rules ≡ None
none_of_entry facts input low wide level k = grind (arith, none_of_six)

pub none_broken : (facts : ContentFacts) (event : ContentEvent) → KeepsAll facts event → rule_broken_by facts event ≡ None
none_broken facts event k = grind (arith, none_of_answer, none_of_entry)

-- ---- a log

module _ (begun : Bool) (lines : List TranscriptLine) (keeps : (place : ℕ) (event : ContentEvent) → content_event_at (events_of_log begun lines) place ≡ Some event
    → KeepsAll (content_at (events_of_log begun lines) place) event) where
  abbrev all : List LineEvent
  all = events_of_log begun lines

  none_at : (place : ℕ) (here : Option LineEvent) → slice_get all place ≡ here
      → option_and_then (λ found. option_map (fault_by found.line (recorded_items (take place all))) (rule_broken_by (content_at all place) found.event)) here ≡ None
  none_at place None at = refl
  none_at place (Some here) at =
      ap (option_map (fault_by here.line (recorded_items (take place all))))
      (none_broken (content_at all place) here.event (keeps place here.event (ap (option_map (λ (found : LineEvent). found.event)) at)))

  no_faults : content_fault_in begun lines ≡ None
  no_faults = none_earliest (content_fault_at all) (length all) (λ place within. none_at place (slice_get all place) refl)

pub accuses_none : AccusesNone HasNearTimes
unfolding AccusesNone ContentNeverAccuses
accuses_none begun settings first before later machine last range run leads begins holds lines has =
    no_faults begun lines (λ place event at. record {
      order = order_never_accuses begun settings first before later machine last range run leads begins holds lines has place event at;
      fresh = fresh_never_accuses begun settings first before later machine last range run leads begins holds lines has place event at;
      alternate = alternate_never_accuses begun settings first before later machine last range run leads begins tt lines has place event at;
      apart = apart_never_accuses begun settings first before later machine last range run leads begins holds lines has place event at;
      ignored = ignored_never_accuses begun settings first before later machine last range run leads begins tt lines has place event at;
      clock = clock_never_accuses begun settings first before later machine last range run leads begins holds lines has place event at;
      done = done_never_accuses begun settings first before later machine last range run leads begins tt lines has place event at;
      accepted = accepted_never_accuses begun settings first before later machine last range run leads begins tt lines has place event at;
      cleared = cleared_never_accuses begun settings first before later machine last range run leads begins tt lines has place event at;
      watchdog = watchdog_never_accuses begun settings first before later machine last range run leads begins tt lines has place event at;
      state = state_never_accuses begun settings first before later machine last range run leads begins holds lines has place event at;
    })
