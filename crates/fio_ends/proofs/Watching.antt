-- What is known of the changes of an input that are still to be recorded, as a module's life goes on.
use Rattle.fio_ends.proofs.Names.{◌≡◌, ◌≢◌, ◌∙◌, ◌+◌, ◌-◌, ◌<◌, ◌≤◌, ◌||◌, ◌⊎◌, inl, inr, ℕ, zero, suc, Bool, true, false, not, List, [], ◌∷◌, ◌++◌, length, take, drop, Option, Some, None, refl, ap, sym, subst, arith, if◌then◌else◌, slice_get, AllByRecursion, take-append-drop, nat_lt, nat_tests, Life, Occurrence, Scanned, Commanded, Command, filter_events, life_after_command, Transition, log_of, InputItem, ArrayVec, all_present, input_setting, length-append, same_Some, Setting, applied_items, drop-append-le, drop_of_length-le, each-drop, ignores, input_state, item_for, last_item_of, later_log, setting_by, state-configure, drop-drop, each-append, logged}
use Rattle.fio_message.specs.declared.commands.Command.TheVariants as commands
use Rattle.fio_ends.proofs.Following.{IsNoCommand}
use Rattle.fio_ends.proofs.Alternating.{Alternate, NoneOf, alternate-append, alternate-split, none-alternate, none_ignored, scan_below}

-- the state of an input after a life
abbrev pub state_of : ℕ → Life → Bool
state_of input life = input_state input (filter_events life)

-- it is ignored
abbrev pub is_ignored : ℕ → Life → Bool
is_ignored input life = (input_setting input (filter_events life)).ignore

-- the input is not ignored, and its changes from a place of the log on alternate, from this state to the present one
pub record IsWatched (life : Life) (upto input : ℕ) (level : Bool) : Type 0 where
  pub opened : is_ignored input life ≡ false
  pub alternate : Alternate input level (drop upto (log_of life)) (state_of input life)

-- it is ignored, and has no changes from there on
pub record IsSilent (life : Life) (upto input : ℕ) : Type 0 where
  pub ignored : is_ignored input life ≡ true
  pub none : NoneOf input (drop upto (log_of life))

-- no change from there on was hidden
abbrev pub NoneHidden : Life → ℕ → ℕ → Type 0
NoneHidden life upto input = IsSilent life upto input ⊎ ((level : Bool) × IsWatched life upto input level)

-- ---- the life goes on

pub watched-scan : (life : Life) (raw upto input : ℕ) (level : Bool) → upto ≤ length (log_of life) → input < 64 → IsWatched life upto input level
    → IsWatched (Scanned raw ∷ life) upto input level
watched-scan life raw upto input level within low w = grind (arith, alternate-append, drop-append-le, scan_below)

pub silent-scan : (life : Life) (raw upto input : ℕ) → upto ≤ length (log_of life) → IsSilent life upto input → IsSilent (Scanned raw ∷ life) upto input
silent-scan life raw upto input within s = grind (arith, drop-append-le, each-append, none_ignored)

pub none_hidden-scan : (life : Life) (raw upto input : ℕ) → upto ≤ length (log_of life) → input < 64 → NoneHidden life upto input → NoneHidden (Scanned raw ∷ life) upto input
none_hidden-scan life raw upto input within low (inl silent) = inl (silent-scan life raw upto input within silent)
none_hidden-scan life raw upto input within low (inr watched) = inr (watched.0, watched-scan life raw upto input watched.0 within low watched.1)

-- ---- a command is received

-- this command does not ignore an input
abbrev pub KeepsOpen : ℕ → Option Command → Type 0
KeepsOpen input command = (items : ArrayVec InputItem) → command ≡ Some (commands.ConfigureInputs items) → ignores (item_for input items.items) ≡ false

pub or_right : (a b : Bool) → (a || b) ≡ false → b ≡ false
or_right true b is = absurd (cc is)
or_right false b is = is

-- the last item of an input is the one that the module applies
pub item_is : (input : ℕ) → input < 64 → (items : List InputItem) → item_for input items ≡ last_item_of input items
item_is input low items = let there : nat_lt input 64 ≡ true = grind (arith, nat_tests) in ap (λ b. if b then last_item_of input items else None) there

-- an item that is applied, or none, and the setting that it leaves
module _ (input : ℕ) (low : input < 64) where
  -- so an item that is applied does not ignore it, or its setting stays
  setting_kept : (applied : Bool) (items : List InputItem) (found : Option InputItem) (setting : Setting) → ignores (item_for input items) ≡ false
      → last_item_of input (if applied then items else []) ≡ found
      → ((setting_by found setting).ignore ≡ false) ⊎ (setting_by found setting ≡ setting)
  setting_kept applied items found setting none is = grind (arith, item_is)

  none_hidden-opened : (life : Life) (upto : ℕ) (items : ArrayVec InputItem) → ignores (item_for input items.items) ≡ false
      → NoneHidden life upto input → NoneHidden (Commanded (commands.ConfigureInputs items) ∷ life) upto input
  none_hidden-opened life upto items none hidden =
      let state = state-configure input items.items (filter_events life) in
      let setting = setting_kept (all_present items.items) items.items (last_item_of input (applied_items items.items)) (input_setting input (filter_events life)) none refl in
      by setting hidden
    where
      by : ((input_setting input (filter_events (Commanded (commands.ConfigureInputs items) ∷ life))).ignore ≡ false)
          ⊎ (input_setting input (filter_events (Commanded (commands.ConfigureInputs items) ∷ life)) ≡ input_setting input (filter_events life))
          → NoneHidden life upto input → NoneHidden (Commanded (commands.ConfigureInputs items) ∷ life) upto input
      by (inl opened) (inl silent) =
          inr (
            state_of input (Commanded (commands.ConfigureInputs items) ∷ life),
            record { opened = opened; alternate = none-alternate input _ (drop upto (log_of life)) silent.none },
          )
      by (inl opened) (inr watched) =
          inr (
            watched.0,
            record {
              opened = opened;
              alternate = subst (Alternate input watched.0 (drop upto (log_of life))) (sym (state-configure input items.items (filter_events life))) watched.1.alternate;
            },
          )
      by (inr same) (inl silent) = inl (record { ignored = ap (λ (s : Setting). s.ignore) same ∙ silent.ignored; none = silent.none })
      by (inr same) (inr watched) =
          inr (
            watched.0,
            record {
              opened = ap (λ (s : Setting). s.ignore) same ∙ watched.1.opened;
              alternate = subst (Alternate input watched.0 (drop upto (log_of life))) (sym (state-configure input items.items (filter_events life))) watched.1.alternate;
            },
          )

  watched-opened : (life : Life) (upto : ℕ) (level : Bool) (items : ArrayVec InputItem) → ignores (item_for input items.items) ≡ false
      → IsWatched life upto input level → IsWatched (Commanded (commands.ConfigureInputs items) ∷ life) upto input level
  watched-opened life upto level items none w = grind (arith, setting_kept, state-configure)

  pub none_hidden-command : (life : Life) (upto : ℕ) (command : Option Command) → KeepsOpen input command → NoneHidden life upto input
      → NoneHidden (life_after_command command life) upto input
  none_hidden-command life upto command keeps hidden = grind (arith, none_hidden-opened)

  pub watched-command : (life : Life) (upto : ℕ) (level : Bool) (command : Option Command) → KeepsOpen input command → IsWatched life upto input level
      → IsWatched (life_after_command command life) upto input level
  watched-command life upto level command keeps w = grind (arith, watched-opened)

-- ---- something happens that is no command

pub none_hidden-quiet : (life : Life) (occurrence : Occurrence) (upto input : ℕ) → IsNoCommand occurrence → upto ≤ length (log_of life) → input < 64
    → NoneHidden life upto input → NoneHidden (occurrence ∷ life) upto input
none_hidden-quiet life occurrence upto input quiet within low hidden = grind (arith, none_hidden-scan)

pub watched-quiet : (life : Life) (occurrence : Occurrence) (upto input : ℕ) (level : Bool) → IsNoCommand occurrence → upto ≤ length (log_of life) → input < 64
    → IsWatched life upto input level → IsWatched (occurrence ∷ life) upto input level
watched-quiet life occurrence upto input level quiet within low w = grind (arith, watched-scan)

-- so after all that has happened since a command
pub none_hidden-since : (more life : List Occurrence) (upto input : ℕ) → AllByRecursion IsNoCommand more → upto ≤ length (log_of life) → input < 64
    → NoneHidden life upto input → NoneHidden (more ++ life) upto input
none_hidden-since [] life upto input quiet within low hidden = hidden
none_hidden-since (occurrence ∷ more) life upto input quiet within low hidden =
    let grown = later_log more life in
    none_hidden-quiet (more ++ life) occurrence upto input quiet.0
    (omega (arith, within, ap length grown.1, length-append (log_of life) grown.0)) low
    (none_hidden-since more life upto input quiet.1 within low hidden)

-- where all of a log is recorded, no change is hidden from there on
pub none_hidden-now : (life : Life) (upto input : ℕ) → upto ≡ length (log_of life) → NoneHidden life upto input
none_hidden-now life upto input all = by (is_ignored input life) refl
  where
    rest : drop upto (log_of life) ≡ []
    rest = drop_of_length-le (log_of life) (omega (arith, all))

    by : (ignored : Bool) → is_ignored input life ≡ ignored → NoneHidden life upto input
    by true is = inl (record { ignored = is; none = subst (NoneOf input) (sym rest) tt })
    by false is = inr (state_of input life, record { opened = is; alternate = subst (λ log. Alternate input (state_of input life) log (state_of input life)) (sym rest) refl })

-- ---- what is recorded grows

pub drop_on : (upto further : ℕ) (log : List Transition) → upto ≤ further → drop further log ≡ drop (further - upto) (drop upto log)
drop_on upto further log le = let same : upto + (further - upto) ≡ further = omega arith in ap (λ n. drop n log) (sym same) ∙ sym (drop-drop (further - upto) upto log)

pub none_hidden-further : (life : Life) (upto further input : ℕ) → upto ≤ further → NoneHidden life upto input → NoneHidden life further input
none_hidden-further life upto further input le (inl s) =
    inl (record {
      ignored = s.ignored;
      none = subst (NoneOf input) (sym (drop_on upto further (log_of life) le))
          (each-drop (λ transition. transition.input ≢ input) (further - upto) (drop upto (log_of life)) s.none);
    })
none_hidden-further life upto further input le (inr w) =
    let left = drop upto (log_of life) in
    let n = further - upto in
    let parts = alternate-split input w.0 (state_of input life) (take n left) (drop n left)
    (subst (λ log. Alternate input w.0 log (state_of input life)) (sym (take-append-drop n left)) w.1.alternate) in
    inr (
      parts.0,
      record {
        opened = w.1.opened;
        alternate = subst (λ log. Alternate input parts.0 log (state_of input life)) (sym (drop_on upto further (log_of life) le)) parts.2;
      },
    )

-- the input of a transition is one of the module's
pub input_at : (life : Life) (place : ℕ) (transition : Transition) → slice_get (log_of life) place ≡ Some transition → transition.input < 64
input_at = logged (λ life transition. transition.input < 64) (λ raw life transition of. of.low) (λ occurrence life transition low. low)

-- the rest of a log begins with what is at its place
pub rest_at : (log : List Transition) (upto : ℕ) (transition : Transition) → slice_get log upto ≡ Some transition → drop upto log ≡ transition ∷ drop (upto + 1) log
rest_at [] upto transition at = absurd (cc at)
rest_at (first ∷ log) zero transition at = ap (λ t. t ∷ log) (same_Some _ _ at)
rest_at (first ∷ log) (suc upto) transition at =
    let next : suc upto + 1 ≡ suc (upto + 1) = omega arith in
    rest_at log upto transition at ∙ ap (λ n. transition ∷ drop n (first ∷ log)) (sym next)

-- an entry of an input that is watched
pub watched-entry : (life : Life) (upto input : ℕ) (level : Bool) (transition : Transition) → slice_get (log_of life) upto ≡ Some transition → transition.input ≡ input
    → IsWatched life upto input level → (transition.level ≡ not level) × IsWatched life (upto + 1) input transition.level
watched-entry life upto input level transition at same w = grind (arith, rest_at)

-- and of another
pub watched-other : (life : Life) (upto input : ℕ) (level : Bool) (transition : Transition) → slice_get (log_of life) upto ≡ Some transition → transition.input ≢ input
    → IsWatched life upto input level → IsWatched life (upto + 1) input level
watched-other life upto input level transition at apart w = grind (arith, rest_at)

-- an entry of an input of which no change is hidden
pub opened-entry : (life : Life) (upto input : ℕ) (transition : Transition) → slice_get (log_of life) upto ≡ Some transition → transition.input ≡ input
    → NoneHidden life upto input → IsWatched life (upto + 1) input transition.level
opened-entry life upto input transition at same is = grind (arith, rest_at, watched-entry)
