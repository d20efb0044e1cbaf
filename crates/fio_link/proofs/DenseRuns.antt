-- Runs of the link machine with the densest traffic: each of 64 open inputs changes with each f-th sample.
use Rattle.fio_link.proofs.Names.{ℕ, zero, suc, ◌+◌, ◌≤◌, List, [], ◌∷◌, refl, arith, Settings, Event, Machine, after, Leads, HaveNoRestart, IsWithin, LeadsInTime}
use Rattle.fio_module.proofs.Densest.{levels_at}
use Rattle.fio_link.specs.declared.event.Event.TheVariants as events
use Rattle.fio_link.proofs.Grown.{scans_among, few_in_time}

-- the machine after these events
unfoldable pub done : Settings → Machine → List Event → Machine
done settings machine [] = machine
done settings machine (event ∷ events) = done settings (after settings 0 machine event) events

-- n such scans after others
unfoldable pub dense : ℕ → ℕ → ℕ → List Event
dense filter from zero = []
dense filter from (suc n) = events.Scan (levels_at filter from) ∷ dense filter (from + 1) n

-- scans lead on
pub leads_scans : (settings : Settings) (machine : Machine) (filter from n : ℕ)
    → Leads settings 0 machine (dense filter from n) (done settings machine (dense filter from n))
unfolding done dense
leads_scans settings machine filter from zero = refl
leads_scans settings machine filter from (suc n) =
    (refl, leads_scans settings (after settings 0 machine (events.Scan (levels_at filter from))) filter (from + 1) n)

-- they restart nothing
pub no_restart : (filter from n : ℕ) → HaveNoRestart (dense filter from n)
unfolding dense
no_restart filter from zero = tt
no_restart filter from (suc n) = (tt, no_restart filter (from + 1) n)

-- and the number of scans is at most that
pub few_scans : (filter from n : ℕ) → scans_among (dense filter from n) ≤ n
unfolding dense
few_scans filter from zero = omega arith
few_scans filter from (suc n) = omega (arith, few_scans filter (from + 1) n)

-- nor do they come later than that many scans
pub dense_in_time : (settings : Settings) (earlier machine : Machine) (filter from n : ℕ) → IsWithin 0 earlier machine
    → LeadsInTime settings 0 n earlier machine (done settings machine (dense filter from n))
dense_in_time settings earlier machine filter from n within =
    few_in_time settings 0 n earlier machine (done settings machine (dense filter from n)) (dense filter from n) (no_restart filter from n)
    (leads_scans settings machine filter from n) (few_scans filter from n) within
