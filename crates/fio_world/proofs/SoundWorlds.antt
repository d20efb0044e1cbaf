-- A world that has been through a run is sound.
use Rattle.fio_world.proofs.Names.{ℕ, List, ap, sym, Settings, Event, Ends, IsWorldAfter, IsSoundWorld}
use Rattle.fio_cpu.specs.Poller.{Polling}
use Rattle.fio_link.specs.Headline.{Headline}
use Rattle.fio_link.proofs.Promises.{runs_are_sound}

-- all that is promised of runs holds of the machine that a world shows
pub sound_world : (settings : Settings) (first : ℕ) (events : List Event) (world : Ends) → IsWorldAfter settings first events world → IsSoundWorld settings first events world
sound_world settings first events world s = record { in_range = s.in_range; machine = s.machine; sound = runs_are_sound settings first events s.machine s.in_range s.is_run; shown = s.shown }

-- a world that is sound has been through its events
pub stands_for : (settings : Settings) (first : ℕ) (events : List Event) (world : Ends) → IsSoundWorld settings first events world → IsWorldAfter settings first events world
stands_for settings first events world s = record { in_range = s.in_range; machine = s.machine; is_run = s.sound.is_run; shown = s.shown }

-- the headline, for the record that a world shows
pub sound_headline : (settings : Settings) (first : ℕ) (events : List Event) (world : Ends) → IsSoundWorld settings first events world → Headline settings first events world.poller_end.items
sound_headline settings first events world s none =
    (s.machine, s.sound.is_run, sym (ap (λ (p : Polling). p.items) s.shown.polling), (s.sound.sound none).headline)

pub headline_of : (settings : Settings) (first : ℕ) (events : List Event) (world : Ends) → IsWorldAfter settings first events world → Headline settings first events world.poller_end.items
headline_of settings first events world s = sound_headline settings first events world (sound_world settings first events world s)
