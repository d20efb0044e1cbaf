-- The stretches of the log of a right module are pieces of the list of all its transitions, and rise; and where blocks go on it is one.
use Rattle.fio_module.proofs.Names.{ℕ, ◌≤◌, List, [], ◌∷◌, length, Option, Some, None, refl, arith, Received, Restart, Settings}
use Rattle.fio_message.specs.Decoding.{command_in}
use Rattle.fio_module.specs.Life.{Event, LineSync, Raise, Scan}
use Rattle.fio_ends.specs.StretchLogs.{AreNearInLog, BlocksGoOn, GoesOnIfNoted, OneStretchGoesOn, is_lost_at_round, IsNearIfNoted, IsNoPoll, IsNotBelow, ModuleStep, Note, NumbersRise, Polled, Happened, Logged, StretchesArePieces, history_in, stretches_kept_below, latest_in, latest_round, log_in, stamp_at_round, stretches_of}
use Rattle.fio_ends.proofs.StretchSteps.{Holds, stands_rises}
use Rattle.fio_ends.proofs.QuietSteps.{frame_adds, holds_frame, holds_quiet, holds_restart, quiet_raise, quiet_received, quiet_scan, quiet_sync}
use Rattle.fio_ends.proofs.PolledSteps.{holds_logged, holds_polled, stands_counts}

-- what holds below steps
abbrev HoldsBelow : Settings → List ModuleStep → Type 0
HoldsBelow settings steps = Holds settings (history_in steps) (latest_round steps) (stretches_kept_below (log_in settings steps))
    (stretches_of (log_in settings steps)) (latest_in settings steps)

module _ (settings : Settings) (few : settings.per_block ≤ 255) where
  holds_poll : (steps : List ModuleStep) (round : ℕ) (noted : Option Note) → IsNotBelow (latest_round steps) round
      → IsNearIfNoted noted (latest_in settings steps) round (stamp_at_round settings steps round)
      → HoldsBelow settings steps → HoldsBelow settings (Polled round noted ∷ steps)
  holds_poll steps round None rises near holds =
      holds_polled settings few (history_in steps) (stretches_kept_below (log_in settings steps)) (stretches_of (log_in settings steps)) round
      (latest_round steps) (latest_in settings steps) rises holds
  holds_poll steps round (Some noted) rises near holds =
      holds_logged settings few (history_in steps) (stretches_kept_below (log_in settings steps)) (stretches_of (log_in settings steps)) round
      noted.time noted.is_believed (latest_round steps) (latest_in settings steps) rises near holds

  holds_event : (steps : List ModuleStep) (event : Event) → IsNoPoll event → HoldsBelow settings steps → HoldsBelow settings (Happened event ∷ steps)
  holds_event steps Restart none holds =
      holds_restart settings (history_in steps) (stretches_kept_below (log_in settings steps)) (stretches_of (log_in settings steps))
      (latest_round steps) (latest_in settings steps) holds
  holds_event steps (Received octets) none holds = holds_quiet settings few (history_in steps) (Received octets) (stretches_kept_below (log_in settings steps)) (stretches_of (log_in settings steps)) (quiet_received settings (history_in steps) octets none)
      (latest_round steps) (latest_in settings steps) holds
  holds_event steps (Scan raw) none holds = holds_quiet settings few (history_in steps) (Scan raw) (stretches_kept_below (log_in settings steps)) (stretches_of (log_in settings steps)) (quiet_scan settings (history_in steps) raw)
      (latest_round steps) (latest_in settings steps) holds
  holds_event steps LineSync none holds = holds_quiet settings few (history_in steps) LineSync (stretches_kept_below (log_in settings steps)) (stretches_of (log_in settings steps)) (quiet_sync settings (history_in steps))
      (latest_round steps) (latest_in settings steps) holds
  holds_event steps (Raise mask) none holds = holds_quiet settings few (history_in steps) (Raise mask) (stretches_kept_below (log_in settings steps)) (stretches_of (log_in settings steps)) (quiet_raise settings (history_in steps) mask)
      (latest_round steps) (latest_in settings steps) holds

  holds : (steps : List ModuleStep) → NumbersRise steps → AreNearInLog settings steps → HoldsBelow settings steps
  holds [] rise near = record { known = record { polled = refl; sent = refl; ends = refl }; stands = (refl, refl) }
  holds (Polled round noted ∷ steps) rise near = holds_poll steps round noted rise.0 near.0 (holds steps rise.1 near.1)
  holds (Happened event ∷ steps) rise near = holds_event steps event rise.0 (holds steps rise.1 near)
  holds (Logged frame ∷ steps) rise near =
      holds_frame settings (history_in steps) (latest_round steps) (stretches_kept_below (log_in settings steps)) (stretches_of (log_in settings steps)) frame rise.0
      (latest_in settings steps) (holds steps rise.1 near)

-- the law
pub stretches_are_pieces : StretchesArePieces
unfolding StretchesArePieces
stretches_are_pieces settings steps log =
    stands_rises settings (history_in steps) (latest_round steps) (stretches_kept_below (log_in settings steps)) (stretches_of (log_in settings steps))
    (latest_in settings steps) (holds settings log.in_range.few_per_block steps log.rise log.near).stands

-- ---- the other half

module _ (settings : Settings) (few : settings.per_block ≤ 255) where
  one_polled : (steps : List ModuleStep) (round : ℕ) (noted : Option Note) → IsNotBelow (latest_round steps) round → HoldsBelow settings steps
      → GoesOnIfNoted noted (latest_in settings steps) round (stamp_at_round settings steps round) (is_lost_at_round settings steps round)
      → length (stretches_of (log_in settings steps)) ≤ 1 → length (stretches_of (log_in settings (Polled round noted ∷ steps))) ≤ 1
  one_polled steps round None rises holds goes one = one
  one_polled steps round (Some noted) rises holds goes one =
      stands_counts settings few (history_in steps) (stretches_kept_below (log_in settings steps)) (stretches_of (log_in settings steps)) round
      noted.time noted.is_believed (latest_round steps) (latest_in settings steps) rises holds goes.0 goes.1 goes.2 one

  one_stretch : (steps : List ModuleStep) → NumbersRise steps → AreNearInLog settings steps → BlocksGoOn settings steps
      → length (stretches_of (log_in settings steps)) ≤ 1
  one_stretch [] rise near goes = omega arith
  one_stretch (Polled round noted ∷ steps) rise near goes =
      one_polled steps round noted rise.0 (holds settings few steps rise.1 near.1) goes.0 (one_stretch steps rise.1 near.1 goes.1)
  one_stretch (Happened event ∷ steps) rise near goes = one_stretch steps rise.1 near goes
  one_stretch (Logged frame ∷ steps) rise near goes =
      rw (frame_adds settings (history_in steps) (latest_round steps) (stretches_kept_below (log_in settings steps)) (stretches_of (log_in settings steps)) frame rise.0
      (command_in frame.octets)) (one_stretch steps rise.1 near goes)

-- the law of it
pub one_stretch_goes_on : OneStretchGoesOn
unfolding OneStretchGoesOn
one_stretch_goes_on settings steps log goes = one_stretch settings log.in_range.few_per_block steps log.rise log.near goes
