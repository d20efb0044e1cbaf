-- The states of the inputs that the module answered after a life: what is known now of the changes that are still to be recorded
-- was so then.
use Rattle.fio_ends.proofs.Names.{◌≡◌, ◌≢◌, ◌+◌, ◌<◌, ◌≤◌, ◌&&◌, inl, inr, ℕ, Bool, true, false, not, List, [], ◌∷◌, ◌++◌, length, drop, length-append, Option, Some, None, refl, ap, subst, arith, if◌then◌else◌, slice_get, AllByRecursion, same_Some, Life, Occurrence, Scanned, LineSynced, Raised, Commanded, Transition, log_of, drop-append-le, each-front, later_log, transitions_below}
use Rattle.fio_message.specs.declared.commands.Command.TheVariants as commands
use Rattle.fio_ends.proofs.Alternating.{Alternate, alternate-same, alternate-split, scan_below}
use Rattle.fio_ends.proofs.Following.{IsNoCommand}
use Rattle.fio_ends.proofs.Watching.{IsSilent, IsWatched, NoneHidden, none_hidden-further, opened-entry, state_of, watched-other}

-- ---- a scan earlier

watched-before : (life : Life) (raw upto input : ℕ) (level : Bool) → upto ≤ length (log_of life) → input < 64 → IsWatched (Scanned raw ∷ life) upto input level
    → IsWatched life upto input level
watched-before life raw upto input level within low w =
    let new = transitions_below 64 raw life in
    let state = state_of input (Scanned raw ∷ life) in
    let parts = alternate-split input level state (drop upto (log_of life)) new
    (subst (λ log. Alternate input level log state) (drop-append-le upto (log_of life) new within) w.alternate) in
    let same = alternate-same input parts.0 (state_of input life) state new parts.2 (scan_below input raw life 64 w.opened low) in
    record { opened = w.opened; alternate = subst (Alternate input level (drop upto (log_of life))) same parts.1 }

silent-before : (life : Life) (raw upto input : ℕ) → upto ≤ length (log_of life) → IsSilent (Scanned raw ∷ life) upto input → IsSilent life upto input
silent-before life raw upto input within s = grind (arith, drop-append-le, each-front)

-- what is known at a life of the changes of an input that are still to be recorded, by what is known of content
pub record WatchAt (life : Life) (upto input : ℕ) (clear hidden : Bool) (watched : Option Bool) : Type 0 where
  pub open_ones : clear ≡ true → hidden ≡ false → NoneHidden life upto input
  pub watched_ones : (level : Bool) → watched ≡ Some level → IsWatched life upto input level

module _ (upto input : ℕ) (clear hidden : Bool) (watched : Option Bool) (low : input < 64) where
  -- before something that is no command
  watch-before : (life : Life) (occurrence : Occurrence) → IsNoCommand occurrence → upto ≤ length (log_of life) → WatchAt (occurrence ∷ life) upto input clear hidden watched
      → WatchAt life upto input clear hidden watched
  watch-before life (Scanned raw) quiet within w = record {
    open_ones = λ is none. by (w.open_ones is none);
    watched_ones = λ level is. watched-before life raw upto input level within low (w.watched_ones level is);
  }
    where
      by : NoneHidden (Scanned raw ∷ life) upto input → NoneHidden life upto input
      by (inl silent) = inl (silent-before life raw upto input within silent)
      by (inr found) = inr (found.0, watched-before life raw upto input found.0 within low found.1)
  watch-before life LineSynced quiet within w = record {
    open_ones = λ is none. by (w.open_ones is none);
    watched_ones = λ level is. (let f = w.watched_ones level is in record { opened = f.opened; alternate = f.alternate });
  }
    where
      by : NoneHidden (LineSynced ∷ life) upto input → NoneHidden life upto input
      by (inl s) = inl (record { ignored = s.ignored; none = s.none })
      by (inr f) = inr (f.0, record { opened = f.1.opened; alternate = f.1.alternate })
  watch-before life (Raised mask) quiet within w = record {
    open_ones = λ is none. by (w.open_ones is none);
    watched_ones = λ level is. (let f = w.watched_ones level is in record { opened = f.opened; alternate = f.alternate });
  }
    where
      by : NoneHidden (Raised mask ∷ life) upto input → NoneHidden life upto input
      by (inl s) = inl (record { ignored = s.ignored; none = s.none })
      by (inr f) = inr (f.0, record { opened = f.1.opened; alternate = f.1.alternate })
  watch-before life (Commanded command) quiet within w = absurd quiet

  -- before the states were asked for
  pub watch_asked : (life : Life) → WatchAt (Commanded commands.FilteredInputs ∷ life) upto input clear hidden watched → WatchAt life upto input clear hidden watched
  watch_asked life w = record {
    open_ones = λ is none. by (w.open_ones is none);
    watched_ones = λ level is. (let f = w.watched_ones level is in record { opened = f.opened; alternate = f.alternate });
  }
    where
      by : NoneHidden (Commanded commands.FilteredInputs ∷ life) upto input → NoneHidden life upto input
      by (inl s) = inl (record { ignored = s.ignored; none = s.none })
      by (inr f) = inr (f.0, record { opened = f.1.opened; alternate = f.1.alternate })

  -- before all that has happened since a command
  pub watch_since : (more life : List Occurrence) → AllByRecursion IsNoCommand more → upto ≤ length (log_of life) → WatchAt (more ++ life) upto input clear hidden watched
      → WatchAt life upto input clear hidden watched
  watch_since [] life quiet within w = w
  watch_since (occurrence ∷ more) life quiet within w =
      let grown = later_log more life in
      watch_since more life quiet.1 within (watch-before (more ++ life) occurrence quiet.0 (omega (arith, within, ap length grown.1, length-append (log_of life) grown.0)) w)

-- ---- an entry is recorded

pub watch_own : (life : Life) (upto input : ℕ) (transition : Transition) (clear hidden : Bool) (watched : Option Bool) → slice_get (log_of life) upto ≡ Some transition
    → transition.input ≡ input → WatchAt life upto input clear hidden watched
    → WatchAt life (upto + 1) input clear hidden (if clear && not hidden then Some transition.level else None)
watch_own life upto input transition true true watched at same w = record { open_ones = λ is none. absurd (cc none); watched_ones = λ level is. absurd (cc is) }
watch_own life upto input transition false hidden watched at same w = record { open_ones = λ is none. absurd (cc is); watched_ones = λ level is. absurd (cc is) }
watch_own life upto input transition true false watched at same w =
    let found = opened-entry life upto input transition at same (w.open_ones refl refl) in
    record {
      open_ones = λ is none. inr (transition.level, found);
      watched_ones = λ level is. subst (IsWatched life (upto + 1) input) (same_Some _ _ is) found;
    }

pub watch_another : (life : Life) (upto input : ℕ) (transition : Transition) (clear hidden : Bool) (watched : Option Bool) → slice_get (log_of life) upto ≡ Some transition
    → transition.input ≢ input → WatchAt life upto input clear hidden watched → WatchAt life (upto + 1) input clear hidden watched
watch_another life upto input transition clear hidden watched at apart w = record {
  open_ones = λ is none. none_hidden-further life upto (upto + 1) input (omega arith) (w.open_ones is none);
  watched_ones = λ level is. watched-other life upto input level transition at apart (w.watched_ones level is);
}
