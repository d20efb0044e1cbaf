-- The least filters that can be in force for the changes of an input that are still to be recorded.
use Rattle.fio_ends.proofs.Names.{◌≡◌, ◌∙◌, ◌+◌, ◌-◌, ◌<◌, ◌≤◌, inl, inr, ℕ, Bool, List, [], ◌∷◌, ◌++◌, length, Option, Some, None, refl, ap, sym, subst, arith, append-nil, if◌then◌else◌, slice_get, slice_get_within, AllByRecursion, same_Some, Command, command_in, InputItem, ArrayVec, Life, Occurrence, Scanned, LineSynced, Raised, Commanded, life_after_command, log_of, log_of-with_command, Transition, FilterPair, SentFrame, get_after_push, get_in_front, IsOfScan, Setting, cases_lt, filter_in_force, get_in_back, item_for, items_sent, last_item_of, of_scan, setting_by, transitions_below, least_with, one_sample}
use Rattle.fio_message.specs.declared.commands.Command.TheVariants as commands
use Rattle.fio_ends.proofs.FirstPolls.{LeavesInput}
use Rattle.fio_ends.proofs.Following.{GoesOn, IsNoCommand, goes_on-more}
use Rattle.fio_ends.proofs.Lives.{logged_since}
use Rattle.fio_ends.proofs.Settled.{setting_of}
use Rattle.fio_ends.proofs.SettledAgain.{setting-unnamed}
use Rattle.fio_ends.proofs.Watching.{item_is}

-- these filters are no more than those of a setting
pub record AreNoMore (pair : FilterPair) (setting : Setting) : Type 0 where
  pub leading : pair.leading ≤ filter_in_force setting.leading
  pub trailing : pair.trailing ≤ filter_in_force setting.trailing

-- nor than those of an item, if there is one
abbrev pub AreBelowItem : FilterPair → Option InputItem → Type 0
AreBelowItem pair None = Unit {0}
AreBelowItem pair (Some item) = (pair.leading ≤ filter_in_force item.leading) × (pair.trailing ≤ filter_in_force item.trailing)

abbrev pub BelowCommand : FilterPair → ℕ → Option Command → Type 0
BelowCommand pair input command = (items : ArrayVec InputItem) → command ≡ Some (commands.ConfigureInputs items) → AreBelowItem pair (item_for input items.items)

-- a transition was logged where the filters were no less
pub record IsLoggedWith (pair : FilterPair) (now : Life) (transition : Transition) : Type 0 where
  pub raw : ℕ
  pub life : Life
  pub upto : GoesOn (Scanned raw ∷ life) now
  pub of_scan : IsOfScan 64 raw life transition
  pub filters : AreNoMore pair (setting_of transition.input life)

-- so it is with the changes of an input that are still to be recorded
pub record KeepsLeast (life : Life) (frames : List SentFrame) (last upto input : ℕ) (pair : FilterPair) : Type 0 where
  pub now : AreNoMore pair (setting_of input life)
  pub coming : (place : ℕ) (frame : SentFrame) → last ≤ place → slice_get frames place ≡ Some frame → BelowCommand pair input (command_in frame.octets)
  pub logged : (k : ℕ) (transition : Transition) → upto ≤ k → slice_get (log_of life) k ≡ Some transition → transition.input ≡ input
      → IsLoggedWith pair life transition

-- ---- lesser filters

-- one pair is no more than another
record IsLower (lower pair : FilterPair) : Type 0 where
  pub leading : lower.leading ≤ pair.leading
  pub trailing : lower.trailing ≤ pair.trailing

least-lower : (pair : FilterPair) (item : Option InputItem) → IsLower (least_with pair item) pair
least-lower pair None = record { leading = omega arith; trailing = omega arith }
least-lower pair (Some item) = record { leading = omega arith; trailing = omega arith }

below-lower : (lower pair : FilterPair) (item : Option InputItem) → IsLower lower pair → AreBelowItem pair item → AreBelowItem lower item
below-lower lower pair None l all = tt
below-lower lower pair (Some item) l all = (omega (arith, l.leading, all.0), omega (arith, l.trailing, all.1))

least-below : (pair : FilterPair) (item : Option InputItem) → AreBelowItem (least_with pair item) item
least-below pair None = tt
least-below pair (Some item) = (omega arith, omega arith)

no_more-lower : (lower pair : FilterPair) (setting : Setting) → IsLower lower pair → AreNoMore pair setting → AreNoMore lower setting
no_more-lower lower pair setting l a = record { leading = omega (arith, l.leading, a.leading); trailing = omega (arith, l.trailing, a.trailing) }

with-lower : (lower pair : FilterPair) (now : Life) (transition : Transition) → IsLower lower pair → IsLoggedWith pair now transition → IsLoggedWith lower now transition
with-lower lower pair now transition l w = grind (arith, no_more-lower, of_scan, setting_of)

with-more : (pair : FilterPair) (now : Life) (occurrence : Occurrence) (transition : Transition) → IsLoggedWith pair now transition → IsLoggedWith pair (occurrence ∷ now) transition
with-more pair now occurrence transition w = grind (arith, goes_on-more, of_scan)

-- ---- at first

pub least-begins : (life : Life) (frames : List SentFrame) (last upto input : ℕ) → KeepsLeast life frames last upto input one_sample
least-begins life frames last upto input = record {
  now = record { leading = omega arith; trailing = omega arith };
  coming = λ place frame low at items is. one_below (item_for input items.items);
  logged = λ k transition low at of_input.
      (let l = logged_since [] life k transition (record { more = life; is = sym (append-nil life) }) (omega arith) at in
      record {
        raw = l.raw;
        life = l.life;
        upto = l.upto;
        of_scan = l.of_scan;
        filters = record { leading = omega arith; trailing = omega arith };
      });
}
  where
    one_below : (item : Option InputItem) → AreBelowItem one_sample item
    one_below None = tt
    one_below (Some item) = (omega arith, omega arith)

-- ---- event by event

module _ (frames : List SentFrame) (last upto input : ℕ) (pair : FilterPair) (low : input < 64) where
  pub least-quiet : (life : Life) (occurrence : Occurrence) → IsNoCommand occurrence → KeepsLeast life frames last upto input pair
      → KeepsLeast (occurrence ∷ life) frames last upto input pair
  least-quiet life (Scanned raw) quiet p = record {
    now = record { leading = p.now.leading; trailing = p.now.trailing };
    coming = p.coming;
    logged = λ k transition high at of_input.
        (let log = log_of life in
        elim (cases_lt k (length log)) as (λ _. IsLoggedWith pair (Scanned raw ∷ life) transition) [
          | inl old ↦ with-more pair life (Scanned raw) transition (p.logged k transition high (get_in_front log (transitions_below 64 raw life) k transition old at) of_input)
          | inr new ↦
              record {
                raw = raw;
                life = life;
                upto = record { more = []; is = refl };
                of_scan = of_scan 64 raw life (k - length log) transition (get_in_back log (transitions_below 64 raw life) k transition new at);
                filters = subst (λ i. AreNoMore pair (setting_of i life)) (sym of_input) p.now;
              }
        ]);
  }
  least-quiet life LineSynced quiet p = record {
    now = record { leading = p.now.leading; trailing = p.now.trailing };
    coming = p.coming;
    logged = λ k transition high at of_input. with-more pair life LineSynced transition (p.logged k transition high at of_input);
  }
  least-quiet life (Raised mask) quiet p = record {
    now = record { leading = p.now.leading; trailing = p.now.trailing };
    coming = p.coming;
    logged = λ k transition high at of_input. with-more pair life (Raised mask) transition (p.logged k transition high at of_input);
  }
  least-quiet life (Commanded command) quiet p = absurd quiet

  -- a command is sent
  pub least-sent : (life : Life) (f : SentFrame) (command : Command) → command_in f.octets ≡ Some command → KeepsLeast life frames last upto input pair
      → KeepsLeast life (frames ++ f ∷ []) last upto input (least_with pair (item_for input (items_sent command)))
  least-sent life f command reads p =
      let item = item_for input (items_sent command) in
      let l = least-lower pair item in
      record {
        now = no_more-lower (least_with pair item) pair (setting_of input life) l p.now;
        coming = λ place frame high at.
            elim (get_after_push frames f place frame at) as (λ _. BelowCommand (least_with pair item) input (command_in frame.octets)) [
              | inl old ↦ (λ sent is. below-lower (least_with pair item) pair (item_for input sent.items) l (p.coming place frame high old sent is))
              | inr new ↦ subst (λ (f : SentFrame). BelowCommand (least_with pair item) input (command_in f.octets)) (sym new.1) this
            ];
        logged = λ k transition high at of_input. with-lower (least_with pair item) pair life transition l (p.logged k transition high at of_input);
      }
    where
      this : BelowCommand (least_with pair (item_for input (items_sent command))) input (command_in f.octets)
      this sent spells =
          let same : command ≡ commands.ConfigureInputs sent = same_Some _ _ (sym reads ∙ spells) in
          subst (λ c. AreBelowItem (least_with pair (item_for input (items_sent command))) (item_for input (items_sent c))) same (least-below pair (item_for input (items_sent command)))

  -- the module receives a command
  set_below : (applied : Bool) (items : List InputItem) (found : Option InputItem) (setting : Setting) → AreBelowItem pair (item_for input items)
      → AreNoMore pair setting → last_item_of input (if applied then items else []) ≡ found → AreNoMore pair (setting_by found setting)
  set_below applied items found setting all a is = grind (arith, item_is)

  now-command : (life : Life) (command : Option Command) → BelowCommand pair input command → AreNoMore pair (setting_of input life)
      → AreNoMore pair (setting_of input (life_after_command command life))
  now-command life command below a = grind (arith, set_below, setting_of)

  with-command : (life : Life) (command : Option Command) (transition : Transition) → IsLoggedWith pair life transition → IsLoggedWith pair (life_after_command command life) transition
  with-command life None transition w = w
  with-command life (Some command) transition w = with-more pair life (Commanded command) transition w

  pub least-received : (life : Life) (place : ℕ) (frame : SentFrame) → last ≤ place → slice_get frames place ≡ Some frame → KeepsLeast life frames last upto input pair
      → KeepsLeast (life_after_command (command_in frame.octets) life) frames (place + 1) upto input pair
  least-received life place frame new at p = record {
    now = now-command life (command_in frame.octets) (p.coming place frame new at) p.now;
    coming = λ later f high there. p.coming later f (omega arith) there;
    logged = λ k transition high there of_input.
        with-command life (command_in frame.octets) transition
        (p.logged k transition high (ap (λ log. slice_get log k) (sym (log_of-with_command (command_in frame.octets) life)) ∙ there) of_input);
  }

  -- more is recorded
  pub least-further : (life : Life) (further : ℕ) → upto ≤ further → KeepsLeast life frames last upto input pair → KeepsLeast life frames last further input pair
  least-further life further le p = grind arith

-- ---- where an item was settled, and all of the log at a life is recorded

module _ (input : ℕ) (low : input < 64) (pair : FilterPair) (life : Life) (filters : AreNoMore pair (setting_of input life)) where
  pub logged_left : (more : List Occurrence) → AllByRecursion (LeavesInput input) more → (k : ℕ) (transition : Transition) → length (log_of life) ≤ k
      → slice_get (log_of (more ++ life)) k ≡ Some transition → transition.input ≡ input → IsLoggedWith pair (more ++ life) transition
  logged_left [] leaves k transition since at of_input = absurd (omega (arith, since, slice_get_within (log_of life) k transition at))
  logged_left (Scanned raw ∷ more) leaves k transition since at of_input =
      let before = more ++ life in
      let log = log_of before in
      elim (cases_lt k (length log)) as (λ _. IsLoggedWith pair (Scanned raw ∷ before) transition) [
        | inl old ↦ with-more pair before (Scanned raw) transition (logged_left more leaves.1 k transition since (get_in_front log (transitions_below 64 raw before) k transition old at) of_input)
        | inr new ↦
            record {
              raw = raw;
              life = before;
              upto = record { more = []; is = refl };
              of_scan = of_scan 64 raw before (k - length log) transition (get_in_back log (transitions_below 64 raw before) k transition new at);
              filters = subst (λ i. AreNoMore pair (setting_of i before)) (sym of_input)
                  (subst (AreNoMore pair) (sym (setting-unnamed input low more life leaves.1)) filters);
            }
      ]
  logged_left (other ∷ more) leaves k transition since at of_input = with-more pair (more ++ life) other transition (logged_left more leaves.1 k transition since at of_input)
