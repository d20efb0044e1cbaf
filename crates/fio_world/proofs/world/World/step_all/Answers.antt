use Rattle.fio_world.proofs.Names.{◌≡◌, ◌+◌, List, ◌∷◌, ◌++◌, [], Some, slice_get, take, length, subst, sym, ap, ◌∙◌, refl, append-nil, append_assoc, take_all, Event, events_done, ShowsMachine, IsWorldAfter}
use Rattle.std.proofs.lemmas.Option.{slice_get_read}
use Rattle.fio_link.proofs.Places.{take_one_more}
use Rattle.fio_world.proofs.SoundWorlds.{sound_world, stands_for, headline_of}
use Rattle.fio_world.proofs.world.World.step_all.Goals as goal

pub loop-place-init : goal.loop-place-init
loop-place-init c settings first before s = subst (λ (es : List Event). IsWorldAfter settings first es c.args.self.now) (sym (append-nil before)) s

pub loop-place-preserved : goal.loop-place-preserved
loop-place-preserved c settings first before s =
    let all = c.args.events.now in
    let k = c.loop-place.place in
    let e = c.index-events-place.result in
    let above = before ++ take k all in
    let next = stands_for settings first (events_done above e c.step.result) c.step.new.self (c.step.ensures.stands settings first above (c.loop-place.invariant settings first before s)) in
    let here : slice_get all k ≡ Some e = slice_get_read all (length all) k e refl c.loop-place-test.true c.index-events-place.is in
    let more : events_done above e c.step.result ≡ before ++ take (k + 1) all =
    ap (events_done above e) c.in_default.is ∙ append_assoc before (take k all) (e ∷ []) ∙ ap (λ es. before ++ es) (sym (take_one_more all k e here)) in
    subst (λ (es : List Event). IsWorldAfter settings first es c.step.new.self) more next

pub returns-in-Err-clause-stands : goal.returns-in-Err-clause-stands
returns-in-Err-clause-stands c settings first before s =
    c.in-Err.ensures.stands settings first (before ++ take c.loop-place.place c.args.events.now) (c.loop-place.invariant settings first before s)

pub returns-in-Err-clause-headline : goal.returns-in-Err-clause-headline
returns-in-Err-clause-headline c settings first before s =
    c.in-Err.ensures.headline settings first (before ++ take c.loop-place.place c.args.events.now) (c.loop-place.invariant settings first before s)

pub returns-in-Err-clause-err : goal.returns-in-Err-clause-err
returns-in-Err-clause-err c settings first before s =
    let all = c.args.events.now in
    let so_far = c.loop-place.invariant settings first before s in
    let here : slice_get all c.loop-place.place ≡ Some c.index-events-place.result = slice_get_read all (length all) c.loop-place.place c.index-events-place.result refl c.loop-place-test.true c.index-events-place.is in
    record {
      machine = so_far.machine;
      done = so_far.is_run;
      shown = subst (ShowsMachine settings first so_far.machine) (sym c.in-Err.ensures.err) so_far.shown;
      event = c.index-events-place.result;
      here = here;
      cause = c.in-Err.ensures.row settings first so_far.machine so_far.shown;
    }

pub returns-clause-stands : goal.returns-clause-stands
returns-clause-stands c settings first before s =
    sound_world settings first (before ++ c.args.events.now) c.loop-place.self
    (subst (λ (es : List Event). IsWorldAfter settings first (before ++ es) c.loop-place.self) (take_all c.loop-place.place c.args.events.now c.loop-place-test.false) (c.loop-place.invariant settings first before s))

pub returns-clause-headline : goal.returns-clause-headline
returns-clause-headline c settings first before s =
    headline_of settings first (before ++ c.args.events.now) c.loop-place.self
    (subst (λ (es : List Event). IsWorldAfter settings first (before ++ es) c.loop-place.self) (take_all c.loop-place.place c.args.events.now c.loop-place-test.false) (c.loop-place.invariant settings first before s))
