-- What the states of a 181 tell of an input, if no item of it is sent since: its changes alternate from there on, or it has none.
use Rattle.fio_ends.proofs.Names.{◌≡◌, ◌≢◌, ◌∙◌, ◌+◌, ◌<◌, ◌≤◌, ◌&&◌, ◌||◌, ◌⊎◌, inl, inr, ℕ, Bool, true, false, not, List, [], ◌∷◌, ◌++◌, length, drop, Option, Some, None, is_some_and, refl, ap, sym, subst, arith, if◌then◌else◌, beq, slice_get, AllByRecursion, same_Some, Command, command_in, InputItem, Life, Occurrence, Commanded, life_after_command, log_of, length-append, Transition, SentFrame, InputAbove, get_after_push, nat_lt, Seen, drop_of_length-le, ignores, input_coming, input_with_item, is_shown_otherwise, item_for, items_sent, later_log, opens, unnamed, is_set}
use Rattle.fio_message.specs.declared.commands.Command.TheVariants as commands
use Rattle.fio_ends.proofs.Alternating.{NoneOf, alternate-same}
use Rattle.fio_ends.proofs.Following.{IsNoCommand}
use Rattle.fio_ends.proofs.FirstPolls.{LeavesInput, NamesNot, NoneNames}
use Rattle.fio_ends.proofs.Shut.{KeepsShutBy, silent-command, silent-further, silent-quiet}
use Rattle.fio_ends.proofs.Watching.{IsSilent, IsWatched, KeepsOpen, is_ignored, rest_at, state_of, watched-command, watched-entry, watched-other, watched-quiet}

-- from a place of the log on the changes of an input alternate from this state, or there are none
abbrev pub GoesFrom : Life → ℕ → ℕ → Bool → Type 0
GoesFrom life upto input level = IsSilent life upto input ⊎ IsWatched life upto input level

-- and no frame that is still to be received has an item of it
pub record TellsFrom (life : Life) (frames : List SentFrame) (last upto input : ℕ) (level : Bool) : Type 0 where
  pub names : NoneNames frames last input
  pub goes : GoesFrom life upto input level

-- what is known of what the states tell of an input
pub record KeepsShown (life : Life) (frames : List SentFrame) (last upto input : ℕ) (above : InputAbove) : Type 0 where
  pub shown : (level : Bool) → above.shown ≡ Some level → TellsFrom life frames last upto input level
  pub unlogged : above.unlogged ≡ true → NoneNames frames last input × IsSilent life upto input

-- ---- one event

keeps_open : (input : ℕ) (command : Option Command) → NamesNot input command → KeepsOpen input command
keeps_open input command none items is = ap ignores (none items is)

keeps_shut : (input : ℕ) (command : Option Command) → NamesNot input command → KeepsShutBy input command
keeps_shut input command none items is = ap opens (none items is)

module _ (input : ℕ) (low : input < 64) where
  pub goes-quiet : (life : Life) (upto : ℕ) (level : Bool) (occurrence : Occurrence) → IsNoCommand occurrence → upto ≤ length (log_of life)
      → GoesFrom life upto input level → GoesFrom (occurrence ∷ life) upto input level
  goes-quiet life upto level occurrence quiet within (inl s) = inl (silent-quiet life occurrence upto input quiet within s)
  goes-quiet life upto level occurrence quiet within (inr w) = inr (watched-quiet life occurrence upto input level quiet within low w)

  goes-since : (more life : List Occurrence) (upto : ℕ) (level : Bool) → AllByRecursion IsNoCommand more → upto ≤ length (log_of life)
      → GoesFrom life upto input level → GoesFrom (more ++ life) upto input level
  goes-since [] life upto level quiet within goes = goes
  goes-since (occurrence ∷ more) life upto level quiet within goes =
      let grown = later_log more life in
      goes-quiet (more ++ life) upto level occurrence quiet.0 (omega (arith, within, ap length grown.1, length-append (log_of life) grown.0))
      (goes-since more life upto level quiet.1 within goes)

  goes-command : (life : Life) (upto : ℕ) (level : Bool) (command : Option Command) → NamesNot input command → GoesFrom life upto input level
      → GoesFrom (life_after_command command life) upto input level
  goes-command life upto level command none (inl s) = inl (silent-command input low life upto command (keeps_shut input command none) s)
  goes-command life upto level command none (inr w) = inr (watched-command input low life upto level command (keeps_open input command none) w)

  -- from the states that were asked for on, after a life
  pub goes-now : (life : Life) (more : List Occurrence) → AllByRecursion IsNoCommand more
      → GoesFrom (more ++ Commanded commands.FilteredInputs ∷ life) (length (log_of life)) input (state_of input life)
  goes-now life more quiet = grind (arith, drop_of_length-le, goes-since, is_ignored, state_of)

  -- and so it goes on while none of its items is received
  goes-left : (occurrence : Occurrence) (life : Life) (upto : ℕ) (level : Bool) → LeavesInput input occurrence → upto ≤ length (log_of life) → GoesFrom life upto input level
      → GoesFrom (occurrence ∷ life) upto input level
  goes-left occurrence life upto level leaves within goes = grind (arith, goes-command, goes-quiet)

  goes-left_since : (more life : List Occurrence) (upto : ℕ) (level : Bool) → AllByRecursion (LeavesInput input) more → upto ≤ length (log_of life) → GoesFrom life upto input level
      → GoesFrom (more ++ life) upto input level
  goes-left_since [] life upto level leaves within goes = goes
  goes-left_since (occurrence ∷ more) life upto level leaves within goes =
      let grown = later_log more life in
      goes-left occurrence (more ++ life) upto level leaves.0 (omega (arith, within, ap length grown.1, length-append (log_of life) grown.0))
      (goes-left_since more life upto level leaves.1 within goes)

  pub goes-then : (more life : List Occurrence) → AllByRecursion (LeavesInput input) more → GoesFrom (more ++ life) (length (log_of life)) input (state_of input life)
  goes-then more life leaves = grind (arith, drop_of_length-le, goes-left_since, is_ignored, state_of)

  module _ (life : Life) (frames : List SentFrame) (last upto : ℕ) where
    pub tells-quiet : (level : Bool) (occurrence : Occurrence) → IsNoCommand occurrence → upto ≤ length (log_of life) → TellsFrom life frames last upto input level
        → TellsFrom (occurrence ∷ life) frames last upto input level
    tells-quiet level occurrence quiet within t = record { names = t.names; goes = goes-quiet life upto level occurrence quiet within t.goes }

    pub tells-received : (level : Bool) (place : ℕ) (frame : SentFrame) → last ≤ place → slice_get frames place ≡ Some frame → TellsFrom life frames last upto input level
        → TellsFrom (life_after_command (command_in frame.octets) life) frames (place + 1) upto input level
    tells-received level place frame new at t = record {
      names = λ later f high there. t.names later f (omega (arith, new, high)) there;
      goes = goes-command life upto level (command_in frame.octets) (t.names place frame new at) t.goes;
    }

    names-sent : (f : SentFrame) (command : Command) → command_in f.octets ≡ Some command → item_for input (items_sent command) ≡ None → NoneNames frames last input
        → NoneNames (frames ++ f ∷ []) last input
    names-sent f command reads none names place frame low there =
        elim (get_after_push frames f place frame there) as (λ _. NamesNot input (command_in frame.octets)) [
          | inl old ↦ names place frame low old
          | inr new ↦
              subst (λ (f : SentFrame). NamesNot input (command_in f.octets)) (sym new.1)
              (λ items spells. (let same : command ≡ commands.ConfigureInputs items = same_Some _ _ (sym reads ∙ spells) in
              ap (λ c. item_for input (items_sent c)) (sym same) ∙ none))
        ]

    pub tells-sent : (level : Bool) (f : SentFrame) (command : Command) → command_in f.octets ≡ Some command → item_for input (items_sent command) ≡ None
        → TellsFrom life frames last upto input level → TellsFrom life (frames ++ f ∷ []) last upto input level
    tells-sent level f command reads none t = record { names = names-sent f command reads none t.names; goes = t.goes }

    -- ---- what is kept of an input

    pub shown-quiet : (above : InputAbove) (occurrence : Occurrence) → IsNoCommand occurrence → upto ≤ length (log_of life) → KeepsShown life frames last upto input above
        → KeepsShown (occurrence ∷ life) frames last upto input above
    shown-quiet above occurrence quiet within k = record {
      shown = λ level is. tells-quiet level occurrence quiet within (k.shown level is);
      unlogged = λ is. (let u = k.unlogged is in (u.0, silent-quiet life occurrence upto input quiet within u.1));
    }

    pub shown-received : (above : InputAbove) (place : ℕ) (frame : SentFrame) → last ≤ place → slice_get frames place ≡ Some frame → KeepsShown life frames last upto input above
        → KeepsShown (life_after_command (command_in frame.octets) life) frames (place + 1) upto input above
    shown-received above place frame new at k = record {
      shown = λ level is. tells-received level place frame new at (k.shown level is);
      unlogged = λ is.
          (let u = k.unlogged is in (
            λ later f high there. u.0 later f (omega (arith, new, high)) there,
            silent-command input low life upto (command_in frame.octets) (keeps_shut input (command_in frame.octets) (u.0 place frame new at)) u.1,
          ));
    }

    pub shown-sent : (above : InputAbove) (f : SentFrame) (command : Command) (item : Option InputItem) → command_in f.octets ≡ Some command → item_for input (items_sent command) ≡ item
        → KeepsShown life frames last upto input above → KeepsShown life (frames ++ f ∷ []) last upto input (input_with_item (unnamed above) item)
    shown-sent above f command (Some item) reads is k = record { shown = λ level now. absurd (cc now); unlogged = λ now. absurd (cc now) }
    shown-sent above f command None reads is k = record {
      shown = λ level now. tells-sent level f command reads is (k.shown level now);
      unlogged = λ now. (let u = k.unlogged now in (names-sent f command reads is u.0, u.1));
    }

    -- the record comes to states of this input, and goes on from this place
    pub shown-comes : (above : InputAbove) (seen : Seen) → (above.touched ≡ false → TellsFrom life frames last upto input (is_set seen.levels input))
        → KeepsShown life frames last upto input above → KeepsShown life frames last upto input (input_coming input (Some seen) above)
    shown-comes above seen pending k = record {
      shown = λ level now. by-shown (nat_lt input 64) above.touched refl level now;
      unlogged = λ now. by-unlogged (nat_lt input 64) above.touched refl above.shown refl above.unlogged refl now;
    }
      where
        bit : Bool
        bit = is_set seen.levels input

        by-shown : (within touched : Bool) → above.touched ≡ touched → (level : Bool) → (if within then (if touched then None else Some bit) else above.shown) ≡ Some level
            → TellsFrom life frames last upto input level
        by-shown false touched is level now = k.shown level now
        by-shown true true is level now = absurd (cc now)
        by-shown true false is level now = subst (TellsFrom life frames last upto input) (same_Some _ _ now) (pending is)

        differ : (a b : Bool) → not (beq a b) ≡ true → a ≡ b → ⊥
        differ a b is same = grind arith

        silent : (level other : Bool) → (level ≡ other → ⊥) → GoesFrom life upto input level → GoesFrom life upto input other → IsSilent life upto input
        silent level other apart (inl s) goes = s
        silent level other apart (inr w) (inl s) = s
        silent level other apart (inr w) (inr v) = absurd (apart (alternate-same input level other (state_of input life) (drop upto (log_of life)) w.alternate v.alternate))

        by-unlogged : (within touched : Bool) → above.touched ≡ touched → (shown : Option Bool) → above.shown ≡ shown → (unlogged : Bool) → above.unlogged ≡ unlogged
            → ((within && (not touched && is_some_and shown (λ level. not (beq level bit)))) || unlogged) ≡ true → NoneNames frames last input × IsSilent life upto input
        by-unlogged within touched is shown at true un now = k.unlogged un
        by-unlogged false touched is shown at false un now = absurd (cc now)
        by-unlogged true true is shown at false un now = absurd (cc now)
        by-unlogged true false is None at false un now = absurd (cc now)
        by-unlogged true false is (Some level) at false un now =
            let t = k.shown level at in
            let p = pending is in
            (t.names, silent level bit (differ level bit (or_none (not (beq level bit)) now)) t.goes p.goes)
          where
            or_none : (b : Bool) → (b || false) ≡ true → b ≡ true
            or_none true is = refl
            or_none false is = absurd (cc is)

    -- an entry of the input
    pub shown-entry : (above : InputAbove) (transition : Transition) → slice_get (log_of life) upto ≡ Some transition → transition.input ≡ input
        → KeepsShown life frames last upto input above → is_shown_otherwise transition.level above ≡ false
    shown-entry above transition at same k = by above.shown refl above.unlogged refl
      where
        never : IsSilent life upto input → ⊥
        never s = (subst (NoneOf input) (rest_at (log_of life) upto transition at) s.none).0 same

        other : (now before : Bool) → now ≡ not before → beq now before ≡ false
        other now before is = grind arith

        changed : (level : Bool) → GoesFrom life upto input level → beq transition.level level ≡ false
        changed level (inl s) = absurd (never s)
        changed level (inr w) = other transition.level level (watched-entry life upto input level transition at same w).0

        by : (shown : Option Bool) → above.shown ≡ shown → (unlogged : Bool) → above.unlogged ≡ unlogged → (is_some_and shown (beq transition.level) || unlogged) ≡ false
        by shown at true un = absurd (never (k.unlogged un).1)
        by None at false un = refl
        by (Some level) at false un = ap (λ b. b || false) (changed level (k.shown level at).goes)

    -- and of another
    pub shown-other : (above : InputAbove) (transition : Transition) → slice_get (log_of life) upto ≡ Some transition → transition.input ≢ input
        → KeepsShown life frames last upto input above → KeepsShown life frames last (upto + 1) input above
    shown-other above transition at apart k = record {
      shown = λ level is. (let t = k.shown level is in record { names = t.names; goes = by level t.goes });
      unlogged = λ is. (let u = k.unlogged is in (u.0, silent-further life upto (upto + 1) input (omega arith) u.1));
    }
      where
        by : (level : Bool) → GoesFrom life upto input level → GoesFrom life (upto + 1) input level
        by level (inl s) = inl (silent-further life upto (upto + 1) input (omega arith) s)
        by level (inr w) = inr (watched-other life upto input level transition at apart w)
