use Rattle.fio_world.proofs.Names.{◌<◌, ◌≤◌, length, map, refl, rules, length-map}
use Rattle.fio_world.proofs.ReportLemmas.{ReportGoesOn-done, ReportGoesOn-refused, ReportGoesOn-end, event_at_place}
use Rattle.fio_world.proofs.simulation.push_run.Goals as goal

pub loop-place-init : goal.loop-place-init
loop-place-init g c settings first machine shown = record { machine = machine; shown = shown; reported = refl }

pub loop-place-preserved : goal.loop-place-preserved
loop-place-preserved g c settings first machine shown =
    let on = c.loop-place.invariant settings first machine shown in
    let event = g.T.WorldEvent.event in
    let within : c.loop-place.place < length (map event c.args.happenings.now) = rw length-map (search rules) in
    let here = event_at_place event c.args.happenings.now c.loop-place.place _ c.index-happenings-place.is in
    rw c.in_ok-push_effect-in-Ok.ensures
    (ReportGoesOn-done _ _ _ _ _ _ _ _ _ _ on within here (c.in-Ok.ensures.row _ _ _ on.shown))

pub returns-in-Err : goal.returns-in-Err
returns-in-Err g c settings first machine shown =
    let on = c.loop-place.invariant settings first machine shown in
    let event = g.T.WorldEvent.event in
    let within : c.loop-place.place < length (map event c.args.happenings.now) = rw length-map (search rules) in
    let here = event_at_place event c.args.happenings.now c.loop-place.place _ c.index-happenings-place.is in
    ReportGoesOn-refused _ _ _ _ _ _ _ _ _ _ _ on within here (c.in-Err.ensures.row _ _ _ on.shown) c.in_ok-push_refusal-in-Err.ensures

pub returns : goal.returns
returns g c settings first machine shown =
    let on = c.loop-place.invariant settings first machine shown in
    let past : length (map g.T.WorldEvent.event c.args.happenings.now) ≤ c.loop-place.place = rw length-map (search rules) in
    ReportGoesOn-end _ _ _ _ _ _ _ _ on past (c.in_ok-push_ending.ensures _ _ _ on.shown)
