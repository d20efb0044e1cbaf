-- An input whose changes that are still to be recorded alternate as long as it is not ignored and then opened again.
use Rattle.fio_ends.proofs.Names.{◌≡◌, ◌≢◌, ◌∙◌, ◌+◌, ◌-◌, ◌<◌, ◌≤◌, ◌⊎◌, inl, inr, ℕ, Bool, true, false, not, List, [], ◌∷◌, ◌++◌, length, take, drop, Option, Some, refl, sym, subst, arith, slice_get, slice_get_within, take-append-drop, Command, command_in, Life, Occurrence, life_after_command, log_of, log_of-with_command, Transition, SentFrame, get_after_push, drop-append-le}
use Rattle.fio_ends.proofs.Alternating.{Alternate, NoneOf, alternate-append, alternate-split, none-alternate, none_ignored}
use Rattle.fio_ends.proofs.Following.{IsNoCommand}
use Rattle.fio_ends.proofs.Shut.{KeepsShutBy, NoneOpens, ignored-command, silent-further, silent-quiet}
use Rattle.fio_ends.proofs.SteadyKept.{NoneIgnores}
use Rattle.fio_ends.proofs.Watching.{IsSilent, IsWatched, KeepsOpen, NoneHidden, drop_on, is_ignored, rest_at, state_of, watched-command, watched-entry, watched-other, watched-quiet}

-- of the frames that are still to be received none opens an input below one that ignores it
abbrev pub NoneReopens : List SentFrame → ℕ → ℕ → Type 0
NoneReopens frames last input =
    (place later : ℕ) (frame other : SentFrame) → last ≤ place → place < later → slice_get frames place ≡ Some frame → slice_get frames later ≡ Some other
    → KeepsOpen input (command_in frame.octets) ⊎ KeepsShutBy input (command_in other.octets)

-- the input is ignored, and its changes from a place of the log on alternate, from this state
pub record WasWatched (life : Life) (upto input : ℕ) (level : Bool) : Type 0 where
  pub ignored : is_ignored input life ≡ true
  pub state : Bool
  pub alternate : Alternate input level (drop upto (log_of life)) state

-- it is still open, and not ignored and opened again; and not ignored, if no item that does so was sent
pub record StaysWatched (life : Life) (frames : List SentFrame) (last upto input : ℕ) (shaded level : Bool) : Type 0 where
  pub watched : IsWatched life upto input level
  pub reopens : NoneReopens frames last input
  pub ignores : shaded ≡ false → NoneIgnores frames last input

-- it is ignored since, and not opened
pub record EndsWatched (life : Life) (frames : List SentFrame) (last upto input : ℕ) (shaded level : Bool) : Type 0 where
  pub shaded_is : shaded ≡ true
  pub was : WasWatched life upto input level
  pub opens : NoneOpens frames last input

-- its changes alternate, from this state
abbrev pub IsFollowed : Life → List SentFrame → ℕ → ℕ → ℕ → Bool → Bool → Type 0
IsFollowed life frames last upto input shaded level =
    StaysWatched life frames last upto input shaded level ⊎ EndsWatched life frames last upto input shaded level

-- it is ignored, and has no changes until it is opened
pub record StaysSilent (life : Life) (frames : List SentFrame) (last upto input : ℕ) (shaded : Bool) : Type 0 where
  pub silent : IsSilent life upto input
  pub reopens : NoneReopens frames last input
  pub ignores : shaded ≡ false → NoneIgnores frames last input

-- its changes alternate, from some state
abbrev pub MayBeFollowed : Life → List SentFrame → ℕ → ℕ → ℕ → Bool → Type 0
MayBeFollowed life frames last upto input shaded =
    ((level : Bool) × IsFollowed life frames last upto input shaded level) ⊎ StaysSilent life frames last upto input shaded

-- ---- frames

none-after : (frames : List SentFrame) (last place input : ℕ) → last ≤ place → NoneReopens frames last input → NoneReopens frames (place + 1) input
none-after frames last place input new none at later frame other low less here there = none at later frame other (omega (arith, new, low)) less here there

none_ignores-after : (frames : List SentFrame) (last place input : ℕ) (shaded : Bool) → last ≤ place → (shaded ≡ false → NoneIgnores frames last input)
    → shaded ≡ false → NoneIgnores frames (place + 1) input
none_ignores-after frames last place input shaded new none is later frame low there = none is later frame (omega (arith, new, low)) there

-- below frames of which none ignores the input none opens it again
pub reopens_none : (frames : List SentFrame) (last input : ℕ) → NoneIgnores frames last input → NoneReopens frames last input
reopens_none frames last input none place later frame other low less here there = inl (none place frame low here)

-- with a frame more
module _ (frames : List SentFrame) (last input : ℕ) (f : SentFrame) where
  more_ignores : KeepsOpen input (command_in f.octets) → NoneIgnores frames last input → NoneIgnores (frames ++ f ∷ []) last input
  more_ignores this none place frame low at =
      elim (get_after_push frames f place frame at) as (λ _. KeepsOpen input (command_in frame.octets)) [
        | inl old ↦ none place frame low old
        | inr new ↦ subst (λ (f : SentFrame). KeepsOpen input (command_in f.octets)) (sym new.1) this
      ]

  more_opens : KeepsShutBy input (command_in f.octets) → NoneOpens frames last input → NoneOpens (frames ++ f ∷ []) last input
  more_opens this none place frame low at =
      elim (get_after_push frames f place frame at) as (λ _. KeepsShutBy input (command_in frame.octets)) [
        | inl old ↦ none place frame low old
        | inr new ↦ subst (λ (f : SentFrame). KeepsShutBy input (command_in f.octets)) (sym new.1) this
      ]

  -- a frame that does not open the input
  more_reopens : KeepsShutBy input (command_in f.octets) → NoneReopens frames last input → NoneReopens (frames ++ f ∷ []) last input
  more_reopens this none place later frame other low less here there =
      elim (get_after_push frames f later other there) as (λ _. KeepsOpen input (command_in frame.octets) ⊎ KeepsShutBy input (command_in other.octets)) [
        | inl old ↦
            elim (get_after_push frames f place frame here) as (λ _. KeepsOpen input (command_in frame.octets) ⊎ KeepsShutBy input (command_in other.octets)) [
              | inl earlier ↦ none place later frame other low less earlier old
              | inr new ↦ absurd (omega (arith, less, new.0, slice_get_within frames later other old))
            ]
        | inr new ↦ inr (subst (λ (f : SentFrame). KeepsShutBy input (command_in f.octets)) (sym new.1) this)
      ]

-- ---- a command is received

state-command : (input : ℕ) (life : Life) (command : Option Command) → state_of input (life_after_command command life) ≡ state_of input life
state-command input life command = grind arith

module _ (frames : List SentFrame) (last upto input : ℕ) (shaded : Bool) (low : input < 64) (life : Life) (place : ℕ) (frame : SentFrame)
    (new : last ≤ place) (at : slice_get frames place ≡ Some frame) where
  abbrev command : Option Command
  command = command_in frame.octets

  abbrev later : Life
  later = life_after_command command life

  alternate-later : (level state : Bool) → Alternate input level (drop upto (log_of life)) state → Alternate input level (drop upto (log_of later)) state
  alternate-later level state a = subst (λ log. Alternate input level (drop upto log) state) (sym (log_of-with_command command life)) a

  -- it is open below, or ignored by this frame
  stays-received : (level ignored : Bool) → is_ignored input later ≡ ignored → StaysWatched life frames last upto input shaded level
      → IsFollowed later frames (place + 1) upto input shaded level
  stays-received level false is s = inl (record {
    watched = record {
      opened = is;
      alternate = alternate-later level (state_of input later) (subst (Alternate input level (drop upto (log_of life))) (sym (state-command input life command)) s.watched.alternate);
    };
    reopens = none-after frames last place input new s.reopens;
    ignores = none_ignores-after frames last place input shaded new s.ignores;
  })
  stays-received level true is s = inr (record {
    shaded_is = by_shade shaded refl;
    was = record { ignored = is; state = state_of input life; alternate = alternate-later level (state_of input life) s.watched.alternate };
    opens = λ later_place other high there. by_frame other (s.reopens place later_place frame other new (omega (arith, high)) at there);
  })
    where
      never : KeepsOpen input command → ⊥
      never keeps = absurd (cc (sym is ∙ (watched-command input low life upto level command keeps s.watched).opened))

      by_shade : (shade : Bool) → shaded ≡ shade → shaded ≡ true
      by_shade true shade = shade
      by_shade false shade = absurd (never (s.ignores shade place frame new at))

      by_frame : (other : SentFrame) → KeepsOpen input command ⊎ KeepsShutBy input (command_in other.octets) → KeepsShutBy input (command_in other.octets)
      by_frame other (inl keeps) = absurd (never keeps)
      by_frame other (inr keeps) = keeps

  pub followed-received : (level : Bool) → IsFollowed life frames last upto input shaded level → IsFollowed later frames (place + 1) upto input shaded level
  followed-received level (inl s) = stays-received level (is_ignored input later) refl s
  followed-received level (inr e) = inr (record {
    shaded_is = e.shaded_is;
    was = record {
      ignored = ignored-command input low life command (e.opens place frame new at) e.was.ignored;
      state = e.was.state;
      alternate = alternate-later level e.was.state e.was.alternate;
    };
    opens = λ later_place other high there. e.opens later_place other (omega (arith, new, high)) there;
  })

  silent-received : (ignored : Bool) → is_ignored input later ≡ ignored → StaysSilent life frames last upto input shaded
      → MayBeFollowed later frames (place + 1) upto input shaded
  silent-received true is s = inr (record {
    silent = record { ignored = is; none = subst (λ log. NoneOf input (drop upto log)) (sym (log_of-with_command command life)) s.silent.none };
    reopens = none-after frames last place input new s.reopens;
    ignores = none_ignores-after frames last place input shaded new s.ignores;
  })
  silent-received false is s = inl (
    state_of input later,
    inl (record {
      watched = record { opened = is; alternate = alternate-later (state_of input later) (state_of input later) (none-alternate input _ (drop upto (log_of life)) s.silent.none) };
      reopens = none-after frames last place input new s.reopens;
      ignores = none_ignores-after frames last place input shaded new s.ignores;
    }),
  )

  pub may_be-received : MayBeFollowed life frames last upto input shaded → MayBeFollowed later frames (place + 1) upto input shaded
  may_be-received (inl followed) = inl (followed.0, followed-received followed.0 followed.1)
  may_be-received (inr silent) = silent-received (is_ignored input later) refl silent

-- ---- something happens that is no command

module _ (frames : List SentFrame) (last upto input : ℕ) (shaded : Bool) (low : input < 64) (life : Life) (occurrence : Occurrence) (quiet : IsNoCommand occurrence)
    (within : upto ≤ length (log_of life)) where
  was-quiet : (occurrence : Occurrence) → IsNoCommand occurrence → (level : Bool) → WasWatched life upto input level → WasWatched (occurrence ∷ life) upto input level
  was-quiet occurrence quiet level w = grind (arith, alternate-append, drop-append-le, none-alternate, none_ignored)

  pub followed-quiet : (level : Bool) → IsFollowed life frames last upto input shaded level → IsFollowed (occurrence ∷ life) frames last upto input shaded level
  followed-quiet level (inl s) = inl (record { watched = watched-quiet life occurrence upto input level quiet within low s.watched; reopens = s.reopens; ignores = s.ignores })
  followed-quiet level (inr e) = inr (record { shaded_is = e.shaded_is; was = was-quiet occurrence quiet level e.was; opens = e.opens })

  pub may_be-quiet : MayBeFollowed life frames last upto input shaded → MayBeFollowed (occurrence ∷ life) frames last upto input shaded
  may_be-quiet (inl followed) = inl (followed.0, followed-quiet followed.0 followed.1)
  may_be-quiet (inr s) = inr (record { silent = silent-quiet life occurrence upto input quiet within s.silent; reopens = s.reopens; ignores = s.ignores })

-- ---- a command is sent

module _ (life : Life) (frames : List SentFrame) (last upto input : ℕ) (f : SentFrame) where
  -- one that does not open the input
  module _ (this : KeepsShutBy input (command_in f.octets)) (shaded below : Bool) (darker : below ≡ false → shaded ≡ false × KeepsOpen input (command_in f.octets)) (brighter : shaded ≡ true → below ≡ true) where
    ignores-sent : (shaded ≡ false → NoneIgnores frames last input) → below ≡ false → NoneIgnores (frames ++ f ∷ []) last input
    ignores-sent none is = (let d = darker is in more_ignores frames last input f d.1 (none d.0))

    pub followed-shut : (level : Bool) → IsFollowed life frames last upto input shaded level → IsFollowed life (frames ++ f ∷ []) last upto input below level
    followed-shut level (inl s) = inl (record { watched = s.watched; reopens = more_reopens frames last input f this s.reopens; ignores = ignores-sent s.ignores })
    followed-shut level (inr e) = inr (record { shaded_is = brighter e.shaded_is; was = e.was; opens = more_opens frames last input f this e.opens })

    pub may_be-shut : MayBeFollowed life frames last upto input shaded → MayBeFollowed life (frames ++ f ∷ []) last upto input below
    may_be-shut (inl followed) = inl (followed.0, followed-shut followed.0 followed.1)
    may_be-shut (inr s) = inr (record { silent = s.silent; reopens = more_reopens frames last input f this s.reopens; ignores = ignores-sent s.ignores })

  -- one that does not ignore it, where none does
  module _ (this : KeepsOpen input (command_in f.octets)) where
    reopens-sent : NoneIgnores frames last input → NoneReopens (frames ++ f ∷ []) last input
    reopens-sent none = reopens_none (frames ++ f ∷ []) last input (more_ignores frames last input f this none)

    pub followed-open : (level : Bool) → IsFollowed life frames last upto input false level → IsFollowed life (frames ++ f ∷ []) last upto input false level
    followed-open level (inl s) = inl (record { watched = s.watched; reopens = reopens-sent (s.ignores refl); ignores = λ is. more_ignores frames last input f this (s.ignores refl) })
    followed-open level (inr e) = absurd (cc e.shaded_is)

    pub may_be-open : MayBeFollowed life frames last upto input false → MayBeFollowed life (frames ++ f ∷ []) last upto input false
    may_be-open (inl followed) = inl (followed.0, followed-open followed.0 followed.1)
    may_be-open (inr s) = inr (record { silent = s.silent; reopens = reopens-sent (s.ignores refl); ignores = λ is. more_ignores frames last input f this (s.ignores refl) })

-- ---- entries and gap marks

-- all alternate from a further place on
alternate-further : (life : Life) (upto further input : ℕ) (level state : Bool) → upto ≤ further → Alternate input level (drop upto (log_of life)) state
    → (from : Bool) × Alternate input from (drop further (log_of life)) state
alternate-further life upto further input level state le a =
    let left = drop upto (log_of life) in
    let n = further - upto in
    let parts = alternate-split input level state (take n left) (drop n left) (subst (λ log. Alternate input level log state) (sym (take-append-drop n left)) a) in
    (parts.0, subst (λ log. Alternate input parts.0 log state) (sym (drop_on upto further (log_of life) le)) parts.2)

pub may_be-further : (life : Life) (frames : List SentFrame) (last upto further input : ℕ) (shaded : Bool) → upto ≤ further
    → MayBeFollowed life frames last upto input shaded → MayBeFollowed life frames last further input shaded
may_be-further life frames last upto further input shaded le (inl (level, inl s)) =
    let a = alternate-further life upto further input level (state_of input life) le s.watched.alternate in
    inl (a.0, inl (record { watched = record { opened = s.watched.opened; alternate = a.1 }; reopens = s.reopens; ignores = s.ignores }))
may_be-further life frames last upto further input shaded le (inl (level, inr e)) =
    let a = alternate-further life upto further input level e.was.state le e.was.alternate in
    inl (a.0, inr (record { shaded_is = e.shaded_is; was = record { ignored = e.was.ignored; state = e.was.state; alternate = a.1 }; opens = e.opens }))
may_be-further life frames last upto further input shaded le (inr s) =
    inr (record { silent = silent-further life upto further input le s.silent; reopens = s.reopens; ignores = s.ignores })

module _ (life : Life) (frames : List SentFrame) (last upto input : ℕ) (transition : Transition) (at : slice_get (log_of life) upto ≡ Some transition) where
  -- an entry of an input that is followed
  was-entry : (level : Bool) → transition.input ≡ input → WasWatched life upto input level
      → (transition.level ≡ not level) × WasWatched life (upto + 1) input transition.level
  was-entry level same w = grind (arith, rest_at)

  pub followed-entry : (shaded level : Bool) → transition.input ≡ input → IsFollowed life frames last upto input shaded level
      → (transition.level ≡ not level) × IsFollowed life frames last (upto + 1) input shaded transition.level
  followed-entry shaded level same (inl s) =
      let w = watched-entry life upto input level transition at same s.watched in
      (w.0, inl (record { watched = w.1; reopens = s.reopens; ignores = s.ignores }))
  followed-entry shaded level same (inr e) =
      let w = was-entry level same e.was in
      (w.0, inr (record { shaded_is = e.shaded_is; was = w.1; opens = e.opens }))

  -- and of another
  was-other : (level : Bool) → transition.input ≢ input → WasWatched life upto input level → WasWatched life (upto + 1) input level
  was-other level apart w = grind (arith, rest_at)

  pub followed-other : (shaded level : Bool) → transition.input ≢ input → IsFollowed life frames last upto input shaded level
      → IsFollowed life frames last (upto + 1) input shaded level
  followed-other shaded level apart (inl s) = inl (record { watched = watched-other life upto input level transition at apart s.watched; reopens = s.reopens; ignores = s.ignores })
  followed-other shaded level apart (inr e) = inr (record { shaded_is = e.shaded_is; was = was-other level apart e.was; opens = e.opens })

  -- an entry of an input that may be followed
  pub may_be-entry : (shaded : Bool) → transition.input ≡ input → MayBeFollowed life frames last upto input shaded
      → IsFollowed life frames last (upto + 1) input shaded transition.level
  may_be-entry shaded same (inl followed) = (followed-entry shaded followed.0 same followed.1).1
  may_be-entry shaded same (inr s) = absurd ((subst (NoneOf input) (rest_at (log_of life) upto transition at) s.silent.none).0 same)

-- where no change is hidden, and no frame that is still to be received ignores the input
pub may_be-now : (life : Life) (frames : List SentFrame) (last upto input : ℕ) (shaded : Bool) → NoneIgnores frames last input → NoneHidden life upto input
    → MayBeFollowed life frames last upto input shaded
may_be-now life frames last upto input shaded none (inl silent) = inr (record { silent = silent; reopens = reopens_none frames last input none; ignores = λ is. none })
may_be-now life frames last upto input shaded none (inr watched) =
    inl (watched.0, inl (record { watched = watched.1; reopens = reopens_none frames last input none; ignores = λ is. none }))
