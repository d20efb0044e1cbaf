-- What holds of a log of a module and of its stretches below whatever is no poll.
use Rattle.fio_module.proofs.Names.{◌≡◌, ℕ, ◌≤◌, Bool, true, false, List, [], ◌∷◌, ◌++◌, length, Option, Some, None, refl, sym, ◌∙◌, arith, option_map, append-nil, length-append, Life, Poll, Received, Restart, life_after_command, life_of, log_of, whole_log, Transition, transitions_below, Settings, Sending, newest_poll, newest_end, latest_sending}
use Rattle.fio_message.specs.declared.commands.Command.{Command}
use Rattle.fio_message.specs.declared.commands.Command.TheVariants as commands
use Rattle.fio_message.specs.Decoding.{command_in, polled_number, poll_in}
use Rattle.fio_module.specs.Life.{Event, History, LineSync, Raise, Scan}
use Rattle.fio_module.proofs.LifeLaws.{log_of-with_command}
use Rattle.fio_check.specs.Stretches.{stretches_with, stretches_told, told_block, seam_of}
use Rattle.fio_ends.specs.StretchLogs.{LatestBlock, LogFrame, Stretch, entries_added, stretches_with_entries}
use Rattle.fio_check.specs.declared.stretches.LogStretches.{LogStretches}
use Rattle.fio_ends.proofs.KeptBlocks.{Keeps, sent_keeps, sent_none}
use Rattle.fio_ends.proofs.NewestBlocks.{stays}
use Rattle.fio_ends.proofs.PartsOfLogs.{part_longer}
use Rattle.fio_ends.proofs.RisingPieces.{front_of, rise_longer}
use Rattle.fio_ends.proofs.SeenBlocks.{below-stays}
use Rattle.fio_ends.proofs.StretchSteps.{EndsAt, Holds, IsOld, NewestOf, Stands, StandsBelow, below_rises}

-- ---- what reaches the module

-- an event that adds to the list of transitions at most
pub record IsQuiet (settings : Settings) (history : History) (event : Event) : Type 0 where
  more : List Transition
  front : front_of (event ∷ history) ≡ front_of history
  whole : whole_log (event ∷ history) ≡ whole_log history ++ more
  logged : log_of (life_of (event ∷ history)) ≡ log_of (life_of history) ++ more
  polled : newest_poll (life_of (event ∷ history)) ≡ newest_poll (life_of history)
  sent : latest_sending settings (life_of (event ∷ history)) ≡ latest_sending settings (life_of history)
  ends : newest_end settings (life_of (event ∷ history)) ≡ newest_end settings (life_of history)

-- a command that is no poll
record IsStill (settings : Settings) (life : Life) (command : Option Command) : Type 0 where
  polled : newest_poll (life_after_command command life) ≡ newest_poll life
  sent : latest_sending settings (life_after_command command life) ≡ latest_sending settings life
  ends : newest_end settings (life_after_command command life) ≡ newest_end settings life

still : (settings : Settings) (life : Life) (command : Option Command) → polled_number command ≡ None → IsStill settings life command
still settings life None none = record { polled = refl; sent = refl; ends = refl }
still settings life (Some (commands.Poll number)) none = absurd (cc none)
still settings life (Some command) none = record { polled = refl; sent = refl; ends = refl }

pub quiet_received : (settings : Settings) (history : History) (octets : List ℕ) → poll_in octets ≡ None → IsQuiet settings history (Received octets)
quiet_received settings history octets none =
    let is = still settings (life_of history) (command_in octets) none in
    record {
      more = [];
      front = refl;
      whole = sym (append-nil (whole_log history));
      logged = log_of-with_command (command_in octets) (life_of history) ∙ sym (append-nil (log_of (life_of history)));
      polled = is.polled;
      sent = is.sent;
      ends = is.ends;
    }

pub quiet_scan : (settings : Settings) (history : History) (raw : ℕ) → IsQuiet settings history (Scan raw)
quiet_scan settings history raw = record {
  more = transitions_below 64 raw (life_of history);
  front = refl;
  whole = refl;
  logged = refl;
  polled = refl;
  sent = refl;
  ends = refl;
}

pub quiet_sync : (settings : Settings) (history : History) → IsQuiet settings history LineSync
quiet_sync settings history = record {
  more = [];
  front = refl;
  whole = sym (append-nil (whole_log history));
  logged = sym (append-nil (log_of (life_of history)));
  polled = refl;
  sent = refl;
  ends = refl;
}

pub quiet_raise : (settings : Settings) (history : History) (mask : ℕ) → IsQuiet settings history (Raise mask)
quiet_raise settings history mask = record {
  more = [];
  front = refl;
  whole = sym (append-nil (whole_log history));
  logged = sym (append-nil (log_of (life_of history)));
  polled = refl;
  sent = refl;
  ends = refl;
}

module _ (settings : Settings) (few : settings.per_block ≤ 255) (history : History) (event : Event) (kept : LogStretches) (stretches : List Stretch) where
  -- pieces of the present life stay so
  ends_longer : (more : List Transition) → front_of (event ∷ history) ≡ front_of history
      → whole_log (event ∷ history) ≡ whole_log history ++ more
      → (stretch : Stretch) (rest : List Stretch) (place : ℕ) → EndsAt history stretch rest place → EndsAt (event ∷ history) stretch rest place
  ends_longer more front whole stretch rest place ends = record {
    start = ends.start;
    begins = rw front ends.begins;
    in_order = ends.in_order;
    within = rw whole (omega (arith, ends.within, length-append (whole_log history) more));
    room = ends.room;
    entries = ends.entries ∙ sym (rw whole (part_longer (whole_log history) more ends.start place ends.in_order ends.within));
    rises = rise_longer history event _ rest ends.rises;
  }

  module _ (quiet : IsQuiet settings history event) (newest : Option ℕ) where
    known_quiet : (newest : Option ℕ) → NewestOf settings (life_of history) newest → NewestOf settings (life_of (event ∷ history)) newest
    known_quiet None none = record { polled = quiet.polled ∙ none.polled; sent = quiet.sent ∙ none.sent; ends = quiet.ends ∙ none.ends }
    known_quiet (Some round) known = (
      known.0,
      known.1,
      stays settings few (life_of history) (life_of (event ∷ history)) quiet.more round known.0 known.1 known.2 quiet.polled quiet.sent quiet.ends quiet.logged,
    )

    below_quiet : (is_restarted : Bool) (latest : LatestBlock) → StandsBelow is_restarted settings history newest kept stretches latest
        → StandsBelow is_restarted settings (event ∷ history) newest kept stretches latest
    below_quiet true latest old = record {
      above = old.above;
      keeps = old.keeps;
      stamp = old.stamp;
      rises = rw quiet.front (rise_longer history event (length (front_of history)) stretches old.rises);
    }
    below_quiet false latest current = record {
      above = current.above;
      keeps = current.keeps;
      stamp = current.stamp;
      place = current.place;
      round = current.round;
      block = current.block;
      sending = current.sending;
      is_round = current.is_round;
      below = rw quiet.front (below-stays settings few (life_of history) (length (front_of history)) current.above latest.round current.place current.round
          current.block current.sending current.below (life_of (event ∷ history)) quiet.more quiet.polled quiet.sent quiet.ends quiet.logged);
      stretch = current.stretch;
      rest = current.rest;
      are = current.are;
      ends = ends_longer quiet.more quiet.front quiet.whole current.stretch current.rest current.place current.ends;
    }

    stands_quiet : (latest : Option LatestBlock) → Stands settings history newest kept stretches latest
        → Stands settings (event ∷ history) newest kept stretches latest
    stands_quiet None stands = stands
    stands_quiet (Some latest) stands = below_quiet latest.is_restarted latest stands

    pub holds_quiet : (latest : Option LatestBlock) → Holds settings history newest kept stretches latest
        → Holds settings (event ∷ history) newest kept stretches latest
    holds_quiet latest holds = record { known = known_quiet newest holds.known; stands = stands_quiet latest holds.stands }

-- ---- a restart

module _ (settings : Settings) (history : History) (kept : LogStretches) (stretches : List Stretch) where
  below_restart : (is_restarted : Bool) (newest : Option ℕ) (latest : LatestBlock) → StandsBelow is_restarted settings history newest kept stretches latest
      → IsOld (Restart ∷ history) kept stretches latest
  below_restart true newest latest old = record {
    above = old.above;
    keeps = old.keeps;
    stamp = old.stamp;
    rises = rise_longer history Restart (length (whole_log history)) stretches (below_rises true settings history newest kept stretches latest old);
  }
  below_restart false newest latest current = record {
    above = current.above;
    keeps = current.keeps;
    stamp = current.stamp;
    rises = rise_longer history Restart (length (whole_log history)) stretches (below_rises false settings history newest kept stretches latest current);
  }

  stands_restart : (newest : Option ℕ) (latest : Option LatestBlock) → Stands settings history newest kept stretches latest
      → Stands settings (Restart ∷ history) None kept stretches (option_map (λ (l : LatestBlock). record l { is_restarted = true }) latest)
  stands_restart newest None stands = stands
  stands_restart newest (Some latest) stands =
      let old = below_restart latest.is_restarted newest latest stands in
      record { above = old.above; keeps = old.keeps; stamp = old.stamp; rises = old.rises }

  pub holds_restart : (newest : Option ℕ) (latest : Option LatestBlock) → Holds settings history newest kept stretches latest
      → Holds settings (Restart ∷ history) None kept stretches (option_map (λ (l : LatestBlock). record l { is_restarted = true }) latest)
  holds_restart newest latest holds = record {
    known = record { polled = refl; sent = refl; ends = refl };
    stands = stands_restart newest latest holds.stands;
  }

-- ---- another frame

module _ (settings : Settings) (history : History) (newest : Option ℕ) (kept : LogStretches) (stretches : List Stretch) (frame : LogFrame)
    (other : told_block frame.octets ≡ None) where
  frame_keeps : (command : Option Command) (above : Sending) → Keeps kept above
      → Keeps (stretches_told kept frame.time frame.octets frame.is_believed command) above
  frame_keeps None above keeps = rw other keeps
  frame_keeps (Some command) above keeps = sent_keeps kept above frame.time command keeps

  frame_none : (command : Option Command) → kept.has_block ≡ 0
      → (stretches_told kept frame.time frame.octets frame.is_believed command).has_block ≡ 0
  frame_none None none = rw other none
  frame_none (Some command) none = sent_none kept frame.time command none

  pub frame_adds : (command : Option Command) → entries_added kept frame.octets command ≡ None
  frame_adds None = rw other refl
  frame_adds (Some command) = refl

  abbrev kept_frame : LogStretches
  kept_frame = stretches_with kept frame.time frame.octets frame.is_believed

  below_frame : (is_restarted : Bool) (latest : LatestBlock) → StandsBelow is_restarted settings history newest kept stretches latest
      → StandsBelow is_restarted settings history newest kept_frame stretches latest
  below_frame true latest old = record {
    above = old.above;
    keeps = frame_keeps (command_in frame.octets) old.above old.keeps;
    stamp = old.stamp;
    rises = old.rises;
  }
  below_frame false latest current = record {
    above = current.above;
    keeps = frame_keeps (command_in frame.octets) current.above current.keeps;
    stamp = current.stamp;
    place = current.place;
    round = current.round;
    block = current.block;
    sending = current.sending;
    is_round = current.is_round;
    below = current.below;
    stretch = current.stretch;
    rest = current.rest;
    are = current.are;
    ends = current.ends;
  }

  stands_frame : (latest : Option LatestBlock) → Stands settings history newest kept stretches latest
      → Stands settings history newest kept_frame stretches latest
  stands_frame None stands = (frame_none (command_in frame.octets) stands.0, stands.1)
  stands_frame (Some latest) stands = below_frame latest.is_restarted latest stands

  pub holds_frame : (latest : Option LatestBlock) → Holds settings history newest kept stretches latest
      → Holds settings history newest kept_frame
      (stretches_with_entries (seam_of kept frame.octets frame.is_believed) (entries_added kept frame.octets (command_in frame.octets)) stretches) latest
  holds_frame latest holds = rw (frame_adds (command_in frame.octets)) record { known = holds.known; stands = stands_frame latest holds.stands }
