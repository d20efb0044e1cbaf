use Rattle.fio_world.proofs.Names.{◌≡◌, ℕ, ◌+◌, List, [], ◌∷◌, ◌++◌, Option, Some, None, true, refl, append_assoc, Settings, Event, Machine, Refusal, start, refusal, after, Leads, ending_text, Report, report_from, unless_refused, EndsWith, GoodReportIsOfWholeRun, Scenario}

-- what is reported of events that are all done is good
good_from : (settings : Settings) (first number : ℕ) (machine : Machine) (events : List Event) (last : Machine)
    → Leads settings first machine events last → (report_from settings first number machine events).good ≡ true
good_from settings first number machine [] last leads = refl
good_from settings first number machine (event ∷ events) last leads =
    rw leads.0 (good_from settings first (number + 1) (after settings first machine event) events last leads.1)

-- a text in front changes nothing at the end
EndsWith-after : (front text lines : List ℕ) → EndsWith text lines → EndsWith (front ++ text) lines
EndsWith-after front text lines ends = (front ++ ends.0, rw (ends.1, append_assoc) refl)

-- and ends with how the run has ended
ending_from : (settings : Settings) (first number : ℕ) (machine : Machine) (events : List Event) (last : Machine)
    → Leads settings first machine events last
    → EndsWith (report_from settings first number machine events).text (ending_text settings first last)
ending_from settings first number machine [] last leads = ([], rw leads refl)
ending_from settings first number machine (event ∷ events) last leads =
    rw leads.0 (EndsWith-after _ _ _ (ending_from settings first (number + 1) (after settings first machine event) events last leads.1))

-- what is reported is good only if no event is refused
not_refused : (number : ℕ) (reason : Option Refusal) (line : List ℕ) (rest : Report)
    → (unless_refused number reason line rest).good ≡ true → (reason ≡ None) × (rest.good ≡ true)
not_refused number None line rest good = (refl, good)
not_refused number (Some reason) line rest good = absurd (cc)

run_from : (settings : Settings) (first number : ℕ) (machine : Machine) (events : List Event)
    → (report_from settings first number machine events).good ≡ true → (last : Machine) × Leads settings first machine events last
run_from settings first number machine [] good = (machine, refl)
run_from settings first number machine (event ∷ events) good =
    let done = not_refused number (refusal machine event) _ _ good in
    let rest = run_from settings first (number + 1) (after settings first machine event) events done.1 in
    (rest.0, (done.0, rest.1))

pub good_report_is_of_whole_run : (scenario : Scenario) → GoodReportIsOfWholeRun scenario
good_report_is_of_whole_run scenario = record {
  good = good_from scenario.settings scenario.first 1 start scenario.events;
  ending = ending_from scenario.settings scenario.first 1 start scenario.events;
  run = run_from scenario.settings scenario.first 1 start scenario.events;
}
