-- What arrives since a settled point, however seldom rounds come: everything, unless the buffer was full.
use Rattle.std.specs.Prelude.{◌≡◌, ℕ, ◌≤◌, ◌++◌}
use Rattle.fio_input.specs.FiltersThatDiffer.{Plan}
use Rattle.fio_module.specs.Settings.{Settings}
use Rattle.fio_module.specs.Life.{Life, life_of}
use Rattle.fio_module.specs.Delivery.{AtEachTime, FewBeyond, IsOutage}
use Rattle.fio_module.specs.FiltersThatDiffer.{IsPolledForEach}
use Rattle.fio_link.specs.Link.{Machine}
use Rattle.fio_link.specs.Settled.{IsSettled, LeadsOn, HasGainedAll}

-- If this is so of what has happened to the module since a settled point, without a restart, the record has gained
-- everything.
abbrev pub GainsAllWhere : (Settings → Life → Life → Type 0) → Settings → ℕ → Machine → Type 0
GainsAllWhere IsSo settings first machine = 1 ≤ settings.waiting → IsSettled settings first machine →
    (now : Machine) (later : Life) → LeadsOn settings first machine now →
    life_of now.history ≡ later ++ life_of machine.history →
    IsSo settings (life_of machine.history) later → HasGainedAll settings machine now

-- at each time of what happened after a life, no more transitions lay beyond the newest block than may wait
abbrev pub StaysFew : Settings → Life → Life → Type 0
StaysFew settings life later = AtEachTime (λ l. FewBeyond settings (l ++ life)) later

-- an outage for which the buffer has room
abbrev pub IsRoomyOutage : ℕ → ℕ → Settings → Life → Life → Type 0
IsRoomyOutage opened filter settings life later = IsOutage settings opened filter life later

-- polled often by the plan
abbrev pub IsOftenForEach : Plan → ℕ → Settings → Life → Life → Type 0
IsOftenForEach plan scans settings life later = IsPolledForEach settings plan scans life later
