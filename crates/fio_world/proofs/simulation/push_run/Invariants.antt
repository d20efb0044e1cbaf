use Rattle.fio_world.proofs.Names.{ℕ, map, Settings, Machine, after_text, report_from, ShowsMachine}
use Rattle.fio_world.proofs.ReportLemmas.{ReportGoesOn}
use Rattle.fio_world.proofs.simulation.push_run.Given as goal

abbrev pub invariant-loop-place : goal.invariant-loop-place
invariant-loop-place g l =
    (settings : Settings) (first : ℕ) (machine : Machine) → ShowsMachine settings first machine l.fn.world
    → ReportGoesOn settings first (map g.T.WorldEvent.event l.happenings)
    (after_text l.fn.text.items (report_from settings first 1 machine (map g.T.WorldEvent.event l.happenings)))
    l.text.items l.place l.world
