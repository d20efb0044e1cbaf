-- Scans that come while a poll or its answer is under way.
use Rattle.std.specs.Prelude.{ℕ, List, [], ◌∷◌, ◌++◌}
use Rattle.std.specs.List.{AllByRecursion}
use Rattle.fio_module.specs.Settings.{Settings}
use Rattle.fio_link.specs.declared.event.Event.{Event}
use Rattle.fio_link.specs.declared.event.Event.TheVariants.{Scan, LineSync, Raise, Poll, ToModule, ToCpu}
use Rattle.fio_link.specs.Link.{Machine, Leads}

-- an event that reaches the module other than by the bus: a scan, a line sync, flags that are raised
abbrev pub ReachesModule : Event → Type 0
ReachesModule (Scan raw) = Unit {0}
ReachesModule LineSync = Unit {0}
ReachesModule (Raise mask) = Unit {0}
ReachesModule other = ⊥

-- A poll and its answer take their time. Scans between the sending and the receipt of the poll lead to the same machine as
-- scans before its sending, and scans before the receipt of the answer lead to the same machine as scans after it.
abbrev pub ScansMoveOut : Settings → ℕ → Machine → Type 0
ScansMoveOut settings first machine =
    (before later : List Event) (command answer : ℕ) (last : Machine) →
    AllByRecursion ReachesModule before → AllByRecursion ReachesModule later →
    Leads settings first machine
    (Poll ∷ (before ++ ToModule command ∷ (later ++ ToCpu answer ∷ []))) last →
    Leads settings first machine
    (before ++ Poll ∷ ToModule command ∷ ToCpu answer ∷ later) last
