use Rattle.std.proofs.Common.{◌<◌, ◌++◌, ◌∷◌, [], ◌∙◌, refl, subst, arith, length}
use Rattle.fio_log.specs.Telling.{places_of}
use Rattle.fio_c.specs.Logs.{Content, Holds}
use Rattle.fio_c.proofs.Batches.{next_place, no_place}
use Rattle.fio_c.proofs.log_verdicts.add_places.Goals as goal

pub places-init : goal.places-init
places-init c = record {
  within = omega arith;
  added = λ content holds. no_place content c.args.batch.now holds;
  count = omega arith;
  verdicts = refl;
}

pub push_place-requires : goal.push_place-requires
push_place-requires c =
    let inside : c.places.index < length (places_of c.args.reader.now) = c.in-Some.ensures.given.0 refl in
    omega (arith, inside, c.places.invariant.count, c.requires.room, c.requires.few.places)

pub places-preserved : goal.places-preserved
places-preserved c =
    let places = places_of c.args.reader.now in
    let place = c.in-Some.place in
    let index = c.places.index in
    let inside : index < length places = c.in-Some.ensures.given.0 refl in
    record {
      within = omega (arith, inside);
      added = λ content holds. next_place content places index place place c.places.batch c.push_place.new.self inside c.in-Some.ensures.same
          (subst (λ flat. (all : Content) → Holds c.places.batch all → Holds c.push_place.new.self (record all { places = all.places ++ flat ∷ [] }))
          c.flat_place.ensures c.push_place.ensures.added)
          (c.places.invariant.added content holds);
      count = omega (arith, c.push_place.ensures.count, c.places.invariant.count);
      verdicts = c.push_place.ensures.verdicts ∙ c.places.invariant.verdicts;
    }
