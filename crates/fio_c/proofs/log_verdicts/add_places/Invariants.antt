use Rattle.std.proofs.Common.{◌≡◌, ◌+◌, ◌≤◌, ◌++◌, length, map, take}
use Rattle.fio_log.specs.Telling.{places_of}
use Rattle.fio_c.specs.Logs.{Content, Holds, flat_place}
use Rattle.fio_c.proofs.log_verdicts.add_places.Given as goal

abbrev pub invariant-places : goal.invariant-places
invariant-places l = record {
  within : l.index ≤ length (places_of l.reader);
  added : (content : Content) → Holds l.initial.batch content
      → Holds l.batch (record content { places = content.places ++ map flat_place (take l.index (places_of l.reader)) });
  count : l.batch.place_count ≡ l.initial.batch.place_count + l.index;
  verdicts : l.batch.verdict_count ≡ l.initial.batch.verdict_count;
}
