use Rattle.fio_world.proofs.Names.{◌≡◌, ℕ, ◌+◌, ◌<◌, ◌≤◌, suc, List, ◌∷◌, ◌++◌, Option, Some, None, true, false, drop, length, map, get_or, refl, sym, ◌∙◌, ap, add-one, drop-cons, append_assoc, IsSomeAnd, drop_all, Event, WorldError, Ends, Machine, Refusal, NotSent, refusal, after, outcome_line, refused_line, refusal_in, ending_text, Report, after_text, report_from, unless_refused, Settings, ShowsMachine, IsDone, IsFault, outcome_of, error_of}
use Rattle.std.proofs.Math.ListN.{get_or-map}
use Rattle.fio_world.specs.declared.outcome.Outcome.{Outcome}

-- after some of these events the world shows a machine, and what is reported from it on completes this text to the report
pub record ReportGoesOn (settings : Settings) (first : ℕ) (events : List Event) (report : Report) (text : List ℕ) (place : ℕ) (world : Ends) : Type 0 where
  pub machine : Machine
  pub shown : ShowsMachine settings first machine world
  pub reported :
      after_text text (report_from settings first (place + 1) machine (drop place events)) ≡ report

after_text-append : (front back : List ℕ) (rest : Report)
    → after_text (front ++ back) rest ≡ after_text front (after_text back rest)
after_text-append front back rest = ap (λ text. record { text = text; good = rest.good }) (append_assoc front back rest.text)

-- the event at this place, its line, and what is reported from the machine after it on
report_on-event : (settings : Settings) (first : ℕ) (events : List Event) (report : Report) (text : List ℕ) (place : ℕ) (world : Ends) (event : Event) (on : ReportGoesOn settings first events report text place world)
    → place < length events → event ≡ get_or events place event
    → after_text text (unless_refused (place + 1) (refusal on.machine event)
    (outcome_line (place + 1) (outcome_of settings first on.machine event))
    (report_from settings first (place + 1 + 1) (after settings first on.machine event) (drop (place + 1) events)))
    ≡ report
report_on-event settings first events report text place world event on within here =
    let next : drop place events ≡ event ∷ drop (place + 1) events = rw add-one (drop-cons events place event within ∙ ap (λ e. e ∷ drop (suc place) events) (sym here)) in
    rw next at on.reported

-- what is kept of an event at a place is the event at this place
pub event_at_place : {A : Type 0} (event : A → Event) (items : List A) (place : ℕ) (item : A)
    → item ≡ get_or items place item → event item ≡ get_or (map event items) place (event item)
event_at_place event items place item here = ap event here ∙ sym (get_or-map event items place item)

-- an event that is done has its line, and the rest is reported from the machine after it on
pub ReportGoesOn-done : (settings : Settings) (first : ℕ) (events : List Event) (report : Report) (text : List ℕ) (place : ℕ) (world new : Ends) (event : Event) (outcome : Outcome) (on : ReportGoesOn settings first events report text place world)
    → place < length events → event ≡ get_or events place event
    → IsDone settings first on.machine event outcome new
    → ReportGoesOn settings first events report (text ++ outcome_line (place + 1) outcome) (place + 1) new
ReportGoesOn-done settings first events report text place world new event outcome on within here done = record {
  machine = after settings first on.machine event;
  shown = done.shown;
  reported =
      rw (done.outcome, after_text-append)
      (rw done.fine at (report_on-event settings first events report text place world event on within here));
}

-- the refusal in the fault of a refusal is that refusal
refusal_in-error_of : (reason : Refusal) → refusal_in (error_of reason) ≡ Some reason
refusal_in-error_of (NotSent index) = refl
refusal_in-error_of _ = refl

-- if the machine refuses an event, the report ends with its line
ends_refused : (number : ℕ) (text whole line : List ℕ) (reason : Option Refusal) (rest report : Report) (takes : Type 0) (fault : WorldError)
    → IsFault reason takes fault → IsSomeAnd (refusal_in fault) (λ r. whole ≡ text ++ refused_line number r)
    → after_text text (unless_refused number reason line rest) ≡ report
    → report ≡ record { text = whole; good = false }
ends_refused number text whole line None rest report takes fault cause reported all = absurd (rw cause.0 at reported)
ends_refused number text whole line (Some reason) rest report takes fault cause reported all =
    let last : whole ≡ text ++ refused_line number reason = rw (cause, refusal_in-error_of reason) at reported in
    rw last (sym all)

-- a refused event ends the report with its line
pub ReportGoesOn-refused : (settings : Settings) (first : ℕ) (events : List Event) (report : Report) (text whole : List ℕ) (place : ℕ) (world : Ends) (event : Event) (fault : WorldError) (takes : Type 0) (on : ReportGoesOn settings first events report text place world)
    → place < length events → event ≡ get_or events place event
    → IsFault (refusal on.machine event) takes fault
    → IsSomeAnd (refusal_in fault) (λ reason. whole ≡ text ++ refused_line (place + 1) reason)
    → report ≡ record { text = whole; good = false }
ReportGoesOn-refused settings first events report text whole place world event fault takes on within here cause reported =
    ends_refused (place + 1) text whole _ (refusal on.machine event) _ _ takes fault cause reported
    (report_on-event settings first events report text place world event on within here)

-- below the last event the report says how the run ended
pub ReportGoesOn-end : (settings : Settings) (first : ℕ) (events : List Event) (report : Report) (text whole : List ℕ) (place : ℕ) (world : Ends) (on : ReportGoesOn settings first events report text place world)
    → length events ≤ place
    → whole ≡ text ++ ending_text settings first on.machine
    → report ≡ record { text = whole; good = true }
ReportGoesOn-end settings first events report text whole place world on past reported =
    rw reported (sym (rw (drop_all place events past) at on.reported))
