-- A CPU that begins with its first number again while frames are under way, by computation.
use Rattle.fio_link.proofs.Names.{List, [], ◌∷◌, ◌-◌, ◌^◌, false, refl, Settings, standard_settings, Event, Machine, start, after}
use Rattle.fio_message.specs.declared.commands.Command.TheVariants as commands
use Rattle.fio_message.specs.Bits.{is_set}
use Rattle.fio_message.specs.Decoding.{message_in}
use Rattle.fio_input.specs.Widening.{wide_time_of}
use Rattle.fio_module.specs.Log.{transitions_below}
use Rattle.fio_link.specs.declared.event.Event.TheVariants.{Scan, Poll, Send, ToModule, ToCpu}
use Rattle.fio_link.specs.CpuRestarts.{RecordsPlaces}

abbrev standard : Settings
standard = standard_settings 2

-- the machine after these events
unfoldable done : Machine → List Event → Machine
done machine [] = machine
done machine (event ∷ events) = done (after standard 0 machine event) events

-- scans in which input 0 is 0, and 1
abbrev low : Event
low = Scan (2 ^ 64 - 2)

abbrev high : Event
high = Scan (2 ^ 64 - 1)

-- Input 0 is opened, and changes. Two answers to the poll for block 0 are sent; the first is taken, and block 1 is polled
-- for.
abbrev earlier : List Event
earlier =
    Send (commands.ConfigureInputs (record { items = record { input = 0; ignore = false; leading = 1; trailing = 1 } ∷ [] }))
    ∷ ToModule 1 ∷ low ∷ Poll ∷ ToModule 2 ∷ Poll ∷ ToModule 3 ∷ ToCpu 2 ∷ Poll ∷ []

unfoldable machine1 : Machine
machine1 = done start earlier

-- Now the CPU begins again. It hears the second answer, so it polls for block 1 a second time. The first of these polls is
-- from before, and makes the module number two blocks past those that the CPU takes.
abbrev events : List Event
events =
    Poll ∷ ToCpu 3 ∷ Poll ∷ high ∷ ToModule 4 ∷ low ∷ ToModule 5 ∷ high ∷ ToModule 6 ∷ ToCpu 4 ∷ ToCpu 5 ∷ ToCpu 6 ∷ low
    ∷ Poll ∷ ToModule 7 ∷ ToCpu 7 ∷ []

unfoldable last1 : Machine
last1 = done (record machine1 { round = 0; items = [] }) events

pub loses_two : RecordsPlaces (standard_settings 2) 0 (0 ∷ 1 ∷ 4 ∷ [])
unfolding machine1 last1 done message_in is_set wide_time_of transitions_below
loses_two =
    record {
      earlier = earlier;
      machine = machine1;
      is_run = (refl, (refl, (refl, (refl, (refl, (refl, (refl, (refl, (refl, refl)))))))));
      events = events;
      last = last1;
      no_restart = (tt, (tt, (tt, (tt, (tt, (tt, (tt, (tt, (tt, (tt, (tt, (tt, (tt, (tt, (tt, (tt, (tt, (tt, (tt, (tt, (tt, (tt, (tt, (tt, (tt, tt)))))))))))))))))))))))));
      leads = (refl, (refl, (refl, (refl, (refl, (refl, (refl, (refl, (refl, (refl, (refl, (refl, (refl, (refl, (refl, (refl, refl))))))))))))))));
      items = refl;
    }
