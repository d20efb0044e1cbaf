-- A stamp that is set back where no load may take effect is a restart.
use Rattle.fio_check.proofs.Names.{◌≡◌, ◌∙◌, subst, ℕ, Bool, true, false, List, [], ◌∷◌, Option, Some, None, refl, ap, fold, is_some, not, ◌&&◌, ◌||◌, option_and_then, if◌then◌else◌, is_some_and, nat_lt, ContentChecking, ContentFacts, ContentEvent, Item, Sent, Checker, Command, Frame, FrameOutcome, Judging, LogLine, LogPlace, Nothing, Breach, ContentBreach, Skips, breach_of, checking_above, checking_with, command_from, content_events, content_here, content_with, facts_with, found_by, found_in_frame, is_loading, is_unheard, items_and_end, judging_below, judging_with, kept_with, loads_left, nat_lt, observation_in, outcome_in, outcome_found, outcomes_of, passes_over, loads_below, place_lost, sym, arith}
use Rattle.std.specs.List.{list_all}
use Rattle.fio_message.specs.declared.answers.Answer.{Answer}
use Rattle.fio_check.specs.ContentEvents.{events_of_answer}
use Rattle.fio_check.specs.ContentSaid.{is_before, stamp_of}
use Rattle.fio_check.specs.Lines.{answer_from}
use Rattle.fio_check.specs.LinkJudges.{Lost, any_stamp_in, any_stamp_of, is_answer_set_back, is_set_back, judging_at, judging_below_outcome, judging_taken, may_be_anew, outcome_anew, outcome_judged, outcome_set_back, stamp_above, stamp_in, unjudged_by}
use Rattle.fio_check.specs.LinkLaws.{FindsRestart, OnlyWatchdogRestarts, StampsRise, is_kept, is_load, is_without_stamp, stamps_with}
use Rattle.fio_check.specs.declared.outcome.FrameOutcome.TheVariants.{Kept, Excused, NotJudged, Restarted}
use Rattle.fio_check.specs.declared.outcome.Excuse.TheVariants.{Load}
use Rattle.fio_check.specs.declared.outcome.Unjudged.{Unjudged}
use Rattle.fio_check.proofs.LinkTranscripts.{at-checker, at-content, passes-open, taken-is}
use Rattle.fio_check.proofs.RestartsOnce.{Kept-by, both-true, lost-quiet, not-true, only-watchdog}
use Rattle.fio_check.proofs.Unexcused.{still_none}

-- ---- loads

-- an event is no load
abbrev calm : ContentEvent → Bool
calm event = not (is_some (is_loading event))

calm-none : (event : ContentEvent) → calm event ≡ true → is_loading event ≡ None
calm-none event is = grind arith

none-below : (facts : ContentFacts) (events : List ContentEvent) → facts.excuses ≡ 0 → list_all calm events ≡ true
    → (fold content_with facts events).excuses ≡ 0
none-below facts [] none all = none
none-below facts (event ∷ events) none all =
    let parts = both-true (calm event) (list_all calm events) all in
    none-below (content_with facts event) events (still_none facts event none (calm-none event parts.0)) parts.1

items-calm : (items : List Item) (status stamp : ℕ) → list_all calm (items_and_end items status stamp) ≡ true
items-calm [] status stamp = refl
items-calm (item ∷ items) status stamp = items-calm items status stamp

if-calm : (taken : Bool) (events : List ContentEvent) → list_all calm events ≡ true → list_all calm (if taken then events else []) ≡ true
if-calm true events all = all
if-calm false events all = refl

answer-calm : (number : Option ℕ) (answer : Answer) → list_all calm (events_of_answer number answer) ≡ true
answer-calm number answer = grind (arith, if-calm, items-calm)

events-calm : (number : Option ℕ) (command : Option Command) (answer : Option Answer)
    → is_some_and command (λ sent. is_some (is_loading (Sent sent))) ≡ false → list_all calm (content_events number command answer) ≡ true
events-calm number (Some command) answer none = ap (λ (load : Bool). not load && true) none
events-calm number None (Some answer) none = answer-calm number answer
events-calm number None None none = refl

if-none : (judges : Bool) (taken content : ContentChecking) → taken.kept.facts.excuses ≡ 0 → content.kept.facts.excuses ≡ 0
    → (if judges then taken else content).kept.facts.excuses ≡ 0
if-none true taken content one other = one
if-none false taken content one other = other

pub none-with : (content : ContentChecking) (from_cpu : Bool) (octets : List ℕ) → content.kept.facts.excuses ≡ 0 → is_load from_cpu octets ≡ false
    → (checking_with content from_cpu octets).kept.facts.excuses ≡ 0
none-with content from_cpu octets none other =
    if-none (from_cpu || content.begun) (record { begun = true; kept = kept_with content.kept from_cpu octets }) content
    (none-below content.kept.facts (content_events content.kept.number (command_from from_cpu octets) (answer_from from_cpu octets)) none
    (events-calm content.kept.number (command_from from_cpu octets) (answer_from from_cpu octets) other))
    none

pub loads-here : (judging : Judging) (skips : Skips) → (checking_above judging skips).kept.facts.excuses ≡ loads_left judging
loads-here judging skips = grind arith

-- ---- a frame that keeps all rules

kept-anew : (anew : Bool) (judged : FrameOutcome) → outcome_anew anew judged ≡ Kept → judged ≡ Kept
kept-anew anew judged is = grind arith

kept-in : (passes back anew : Bool) (reason : Unjudged) (set judged : FrameOutcome) → (set ≡ Kept → ⊥)
    → (if passes then NotJudged reason else (if back then set else outcome_anew anew judged)) ≡ Kept → (passes ≡ false) × (judged ≡ Kept)
kept-in true back anew reason set judged other is = absurd (cc)
kept-in false true anew reason set judged other is = absurd (other is)
kept-in false false anew reason set judged other is = (refl, kept-anew anew judged is)

kept-found : (unheard : Bool) (found : Option Breach) (content : Option ContentBreach) → outcome_found unheard found content ≡ Kept → found ≡ None
kept-found unheard found content is = grind arith

set-other : (left : Bool) → (if left then Excused Load else Restarted) ≡ Kept → ⊥
set-other true is = cc
set-other false is = cc

-- a judge that judges each frame, below this stamp, and no load may take effect
record Running (judging : Judging) (latest : ℕ) : Type 0 where
  all : judging.checker.skips ≡ Nothing
  latest_is : judging.latest ≡ Some latest
  none : loads_left judging ≡ 0

module _ (judging : Judging) (at : LogPlace) (from_cpu : Bool) (octets : List ℕ) (kept : outcome_in judging at from_cpu octets ≡ Kept) where
  abbrev taken : Judging
  taken = judging_taken judging judging.checker from_cpu octets

  below-is : judging_with judging at from_cpu octets ≡ judging_at taken (stamp_in from_cpu octets)
  below-is = ap (λ (outcome : FrameOutcome). judging_below_outcome outcome judging from_cpu octets) kept

  parts : (passes_over judging.checker from_cpu (observation_in from_cpu octets) ≡ false) × (outcome_judged judging at from_cpu octets ≡ Kept)
  parts = kept-in (passes_over judging.checker from_cpu (observation_in from_cpu octets)) (is_set_back judging from_cpu octets)
      (may_be_anew judging from_cpu octets) (unjudged_by judging.checker.skips) (outcome_set_back judging) (outcome_judged judging at from_cpu octets)
      (set-other (nat_lt 0 (loads_left judging))) kept

  all-below : (judging_with judging at from_cpu octets).checker.skips ≡ Nothing
  all-below =
      let observation = observation_in from_cpu octets in
      let none = kept-found (is_unheard judging at observation) (found_by judging.checker from_cpu observation)
      (found_in_frame (content_here judging) from_cpu octets) parts.1 in
      ap (λ (j : Judging). j.checker.skips) below-is
      ∙ ap (λ (checker : Checker). checker.skips) (at-checker taken (stamp_in from_cpu octets))
      ∙ ap (λ (checker : Checker). checker.skips) (taken-is judging.checker.limits judging.checker
      (record judging.checker { facts = facts_with judging.checker.facts observation; skips = Nothing })
      (passes_over judging.checker from_cpu observation) (breach_of judging.checker.limits judging.checker.facts observation) parts.0 none)

  none-left : loads_left judging ≡ 0 → is_load from_cpu octets ≡ false → loads_left (judging_with judging at from_cpu octets) ≡ 0
  none-left none other =
      ap (λ (j : Judging). loads_left j) below-is
      ∙ ap (λ (content : ContentChecking). content.kept.facts.excuses) (at-content taken (stamp_in from_cpu octets))
      ∙ none-with (content_here judging) from_cpu octets (loads-here judging judging.checker.skips ∙ none) other

  latest-below : (stamp : Option ℕ) → stamp_in from_cpu octets ≡ stamp
      → (judging_with judging at from_cpu octets).latest ≡ (judging_at taken stamp).latest
  latest-below stamp is =
      ap (λ (j : Judging). j.latest) below-is ∙ ap (λ (stamp : Option ℕ). (judging_at taken stamp).latest) is

-- ---- from the first stamp on

no-stamp : (answer : Option Answer) → is_some (option_and_then any_stamp_of answer) ≡ false → option_and_then stamp_of answer ≡ None
no-stamp answer none = grind arith

kept-is : (outcome : FrameOutcome) → is_kept outcome ≡ true → outcome ≡ Kept
kept-is outcome is = grind arith

runs-on : (judging : Judging) (latest : ℕ) (lines : List LogLine) → Running judging latest → list_all is_without_stamp lines ≡ true
    → list_all is_kept (outcomes_of judging lines) ≡ true → Running (judging_below judging lines) latest
runs-on judging latest [] running plain kept = running
runs-on judging latest (Lost ∷ lines) running plain kept = absurd (cc)
runs-on judging latest (Frame at from_cpu octets ∷ lines) running plain kept =
    let without = both-true (is_without_stamp (Frame at from_cpu octets)) (list_all is_without_stamp lines) plain in
    let frame = both-true (not (is_some (any_stamp_in from_cpu octets))) (not (is_load from_cpu octets)) without.0 in
    let next = judging_with judging at from_cpu octets in
    let outcomes = both-true (is_kept (outcome_in judging at from_cpu octets)) (list_all is_kept (outcomes_of next lines)) kept in
    let one = kept-is (outcome_in judging at from_cpu octets) outcomes.0 in
    let none = no-stamp (answer_from from_cpu octets) (not-true (is_some (any_stamp_in from_cpu octets)) frame.0) in
    runs-on next latest lines (record {
      all = all-below judging at from_cpu octets one;
      latest_is = latest-below judging at from_cpu octets one None none ∙ running.latest_is;
      none = none-left judging at from_cpu octets one running.none (not-true (is_load from_cpu octets) frame.1);
    }) without.1 outcomes.1

-- ---- at the next stamp

record IsSetBack (judging : Judging) (answer : Option Answer) (stamp : ℕ) : Type 0 where
  back : is_some_and answer (is_answer_set_back judging) ≡ true
  any : option_and_then any_stamp_of answer ≡ Some stamp

answer-stamp : (judging : Judging) (answer : Answer) (stamp : ℕ) → stamp_of answer ≡ Some stamp
    → (any_stamp_of answer ≡ Some stamp) × (stamp_above judging answer ≡ judging.latest)
answer-stamp judging answer stamp is = grind arith

before-is : (stamp_is above : Option ℕ) (stamp latest : ℕ) → stamp_is ≡ Some stamp → above ≡ Some latest → is_before stamp latest ≡ true
    → is_some_and stamp_is (λ own. is_some_and above (is_before own)) ≡ true
before-is stamp_is above stamp latest is latest_is before = grind arith

set-back : (judging : Judging) (answer : Option Answer) (stamp latest : ℕ) → option_and_then stamp_of answer ≡ Some stamp
    → judging.latest ≡ Some latest → is_before stamp latest ≡ true → IsSetBack judging answer stamp
set-back judging None stamp latest is latest_is before = absurd (cc)
set-back judging (Some answer) stamp latest is latest_is before =
    let own = answer-stamp judging answer stamp is in
    record { back = before-is (any_stamp_of answer) (stamp_above judging answer) stamp latest own.0 (own.1 ∙ latest_is) before; any = own.0 }

-- ---- there

restarted-at : (judging : Judging) (latest : ℕ) (there : LogPlace) (further : List ℕ) (stamp : ℕ) → Running judging latest
    → stamp_in false further ≡ Some stamp → is_before stamp latest ≡ true
    → (outcome_in judging there false further ≡ Restarted)
    × ((lines : List LogLine) → StampsRise (stamp ∷ []) lines → OnlyWatchdogRestarts (judging_with judging there false further) lines)
restarted-at judging latest there further stamp running is before =
    let passes = passes-open judging.checker false (observation_in false further) running.all in
    let found = set-back judging (answer_from false further) stamp latest is running.latest_is before in
    let back : is_set_back judging false further ≡ true = found.back in
    let at_back : outcome_in judging there false further ≡ outcome_set_back judging = rw (passes, back) refl in
    let outcome = at_back ∙ ap (λ (loads : ℕ). if nat_lt 0 loads then Excused Load else Restarted) running.none in
    let next : judging_with judging there false further ≡ place_lost judging (loads_below judging false further) (any_stamp_in false further) =
    ap (λ (outcome : FrameOutcome). judging_below_outcome outcome judging false further) outcome in
    let lost = lost-quiet judging (loads_below judging false further) (any_stamp_in false further) [] in
    let above = subst (λ (own : Option ℕ). Kept-by (place_lost judging (loads_below judging false further) (any_stamp_in false further)) (stamps_with own [])) found.any lost in
    let kept = subst (λ (j : Judging). Kept-by j (stamp ∷ [])) (sym next) above in
    (outcome, λ lines rise. only-watchdog (judging_with judging there false further) (stamp ∷ []) lines kept rise)

pub finds_restart : (judging : Judging) (at : LogPlace) (octets : List ℕ) (between : List LogLine) → FindsRestart judging at octets between
finds_restart judging at octets between = record {
  found = λ latest there further stamp none kept is plain keeps later before.
      restarted-at (judging_below (judging_with judging at false octets) between) latest there further stamp
      (runs-on (judging_with judging at false octets) latest between (record {
        all = all-below judging at false octets kept;
        latest_is = latest-below judging at false octets kept (Some latest) is;
        none = none-left judging at false octets kept none refl;
      }) plain keeps)
      later before;
}
