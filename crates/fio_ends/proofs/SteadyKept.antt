-- Inputs whose latest entry is watched, and that no item ignores which was sent since the clear block above it: their changes
-- that are still to be recorded alternate.
use Rattle.fio_ends.proofs.Names.{◌≡◌, ◌≢◌, ◌∙◌, ◌+◌, ◌<◌, ◌≤◌, ◌&&◌, ◌||◌, inl, inr, ℕ, Bool, true, false, not, List, [], ◌∷◌, ◌++◌, length, Option, Some, None, refl, ap, sym, subst, arith, if◌then◌else◌, ◌==◌, InputItem, slice_get, slice_get_within, eqb_tells, nat_lt, nat_tests, same_Some, Command, Block, command_in, command_octets, IsCommand, says_again, says_more, Settings, AreInRange, Life, Occurrence, Commanded, life_of, life_after_command, log_of, Transition, entry_of, MadeBlock, blocks_in, ContentFacts, InputAbove, content_with, Ended, Recorded, Sent, Gap, Event, SentFrame, Machine, start, after, after_sending, after_delivery_to_module, IsKept, get_after_push, SentItem, coming, content_begun, end_of_blocks, ignores, input_below_clear, input_coming, input_ended, input_with_entry, input_with_item, item_for, item_parts, items_sent, settled_now, steady_state, unnamed, watched_now, wide_time_of}
use Rattle.fio_message.specs.declared.commands.Command.TheVariants as commands
use Rattle.fio_ends.proofs.BlockPlaces.{end_at, ends_within}
use Rattle.fio_ends.proofs.BlockWalk.{entry_event}
use Rattle.fio_ends.proofs.ContentBegun.{begun_input}
use Rattle.fio_ends.proofs.ContentSteps.{IsKnown, IsPastBus, Takes, past_cases}
use Rattle.fio_ends.proofs.MadeNow.{made_now}
use Rattle.fio_ends.proofs.Following.{IsNoCommand}
use Rattle.fio_ends.proofs.Sends.{read_back}
use Rattle.fio_ends.proofs.SettledAgain.{IsMadeThen, MadeThen, hidden_then, settles_open}
use Rattle.fio_ends.proofs.Taken.{blocks_stay}
use Rattle.fio_ends.proofs.Watching.{IsWatched, KeepsOpen, NoneHidden, none_hidden-command, none_hidden-further, none_hidden-now, none_hidden-quiet, none_hidden-since, opened-entry, watched-command, watched-other, watched-quiet}

-- no frame that is still to be received ignores an input
abbrev pub NoneIgnores : List SentFrame → ℕ → ℕ → Type 0
NoneIgnores frames last input =
    (place : ℕ) (frame : SentFrame) → last ≤ place → slice_get frames place ≡ Some frame → KeepsOpen input (command_in frame.octets)

-- what is known of the changes of an input that are still to be recorded, by what is known of content
pub record KeepsWatch (life : Life) (frames : List SentFrame) (last upto input : ℕ) (clear hidden : Bool) (watched : Option Bool) : Type 0 where
  pub open_ones : clear ≡ true → hidden ≡ false → NoneIgnores frames last input × NoneHidden life upto input
  pub watched_ones : (level : Bool) → watched ≡ Some level → NoneIgnores frames last input × IsWatched life upto input level

-- the same of each input of a machine
abbrev pub WatchHolds : Settings → Machine → ContentFacts → Type 0
WatchHolds settings machine facts =
    (input : ℕ) → input < 64
    → KeepsWatch (life_of machine.history) machine.to_module machine.last_to_module (end_at settings (life_of machine.history) machine.round) input facts.clear (facts.inputs input).hidden (steady_state (facts.inputs input).watched)

-- ---- the life goes on

module _ (frames : List SentFrame) (last upto input : ℕ) (clear hidden : Bool) (watched : Option Bool) (low : input < 64) where
  -- something happens that is no command
  watch-quiet : (life : Life) (occurrence : Occurrence) → IsNoCommand occurrence → upto ≤ length (log_of life)
      → KeepsWatch life frames last upto input clear hidden watched → KeepsWatch (occurrence ∷ life) frames last upto input clear hidden watched
  watch-quiet life occurrence quiet within k = record {
    open_ones = λ is none. (let o = k.open_ones is none in (o.0, none_hidden-quiet life occurrence upto input quiet within low o.1));
    watched_ones = λ level is. (let w = k.watched_ones level is in (w.0, watched-quiet life occurrence upto input level quiet within low w.1));
  }

  -- the module receives a frame
  watch-received : (life : Life) (place : ℕ) (frame : SentFrame) → last ≤ place → slice_get frames place ≡ Some frame
      → KeepsWatch life frames last upto input clear hidden watched
      → KeepsWatch (life_after_command (command_in frame.octets) life) frames (place + 1) upto input clear hidden watched
  watch-received life place frame new at k = record {
    open_ones = λ is none.
        (let o = k.open_ones is none in (
          λ later f high there. o.0 later f (omega arith) there,
          none_hidden-command input low life upto (command_in frame.octets) (o.0 place frame new at) o.1,
        ));
    watched_ones = λ level is.
        (let w = k.watched_ones level is in (
          λ later f high there. w.0 later f (omega arith) there,
          watched-command input low life upto level (command_in frame.octets) (w.0 place frame new at) w.1,
        ));
  }

  -- a command is sent that does not ignore the input, or does
  watch-sent : (life : Life) (f : SentFrame) (command : Command) → command_in f.octets ≡ Some command → (ignoring : Bool)
      → ignores (item_for input (items_sent command)) ≡ ignoring
      → KeepsWatch life frames last upto input clear hidden watched
      → KeepsWatch life (frames ++ f ∷ []) last upto input clear (ignoring || hidden) (if ignoring then None else watched)
  watch-sent life f command reads true said k = record {
    open_ones = λ is none. absurd (cc none);
    watched_ones = λ level is. absurd (cc is);
  }
  watch-sent life f command reads false said k = record {
    open_ones = λ is none. (let o = k.open_ones is none in (sent o.0, o.1));
    watched_ones = λ level is. (let w = k.watched_ones level is in (sent w.0, w.1));
  }
    where
      this : KeepsOpen input (command_in f.octets)
      this items spells =
          let same : command ≡ commands.ConfigureInputs items = same_Some _ _ (sym reads ∙ spells) in
          ap (λ c. ignores (item_for input (items_sent c))) (sym same) ∙ said

      sent : NoneIgnores frames last input → NoneIgnores (frames ++ f ∷ []) last input
      sent none place frame low at =
          elim (get_after_push frames f place frame at) as (λ _. KeepsOpen input (command_in frame.octets)) [
            | inl old ↦ none place frame low old
            | inr new ↦ subst (λ (f : SentFrame). KeepsOpen input (command_in f.octets)) (sym new.1) this
          ]

-- what is known of watched ones is known of those of them that are steady
pub fewer : (life : Life) (frames : List SentFrame) (last upto input : ℕ) (clear hidden : Bool) (watched steady : Option Bool)
    → ((level : Bool) → steady ≡ Some level → watched ≡ Some level) → KeepsWatch life frames last upto input clear hidden watched
    → KeepsWatch life frames last upto input clear hidden steady
fewer life frames last upto input clear hidden watched steady still k = record { open_ones = k.open_ones; watched_ones = λ level is. k.watched_ones level (still level is) }

-- ---- what is steady below an item, and below an entry

-- an input that is steady below an item was so above it, and the item does not ignore it
pub still_steady : (above : InputAbove) (item : Option InputItem) (level : Bool) → steady_state (input_with_item (unnamed above) item).watched ≡ Some level
    → (if ignores item then None else steady_state above.watched) ≡ Some level
still_steady above item level is = grind arith

-- an entry that is steady is open
pub steady_now : (clear level now : Bool) (above : InputAbove) → steady_state (watched_now clear level above) ≡ Some now
    → (if clear && not above.hidden then Some level else None) ≡ Some now
steady_now clear level now above is = grind arith

-- ---- the CPU takes a block

-- an entry of an input, or of another
module _ (life : Life) (frames : List SentFrame) (last upto : ℕ) (transition : Transition) (at : slice_get (log_of life) upto ≡ Some transition) where
  watch-entry : (input : ℕ) (clear hidden : Bool) (watched : Option Bool) → transition.input ≡ input → KeepsWatch life frames last upto input clear hidden watched
      → KeepsWatch life frames last (upto + 1) input clear hidden (if clear && not hidden then Some transition.level else None)
  watch-entry input true true watched same k = record { open_ones = λ is none. absurd (cc none); watched_ones = λ level is. absurd (cc is) }
  watch-entry input false hidden watched same k = record { open_ones = λ is none. absurd (cc is); watched_ones = λ level is. absurd (cc is) }
  watch-entry input true false watched same k =
      let o = k.open_ones refl refl in
      let w = opened-entry life upto input transition at same o.1 in
      record {
        open_ones = λ is none. (o.0, inr (transition.level, w));
        watched_ones = λ level is. (o.0, subst (IsWatched life (upto + 1) input) (same_Some _ _ is) w);
      }

  watch-other : (input : ℕ) (clear hidden : Bool) (watched : Option Bool) → transition.input ≢ input → KeepsWatch life frames last upto input clear hidden watched
      → KeepsWatch life frames last (upto + 1) input clear hidden watched
  watch-other input clear hidden watched apart k = record {
    open_ones = λ is none. (let o = k.open_ones is none in (o.0, none_hidden-further life upto (upto + 1) input (omega arith) o.1));
    watched_ones = λ level is. (let w = k.watched_ones level is in (w.0, watched-other life upto input level transition at apart w.1));
  }

pub watched_below : (above : InputAbove) (item : Option SentItem) → (input_below_clear above item).watched ≡ above.watched
watched_below above None = refl
watched_below above (Some item) = refl

module _ (settings : Settings) (range : AreInRange settings) (first : ℕ) (begin : Machine) where
  module _ (from : Life) (machine : Machine) (place number : ℕ) (answer : Block) (block : MadeBlock)
      (known : IsKnown settings first begin from machine) (t : Takes settings first from machine place number answer block) where
    abbrev now : Life
    now = life_of machine.history

    -- what is kept between the entries
    abbrev pub Watch : ℕ → List Transition → ContentFacts → Type 0
    Watch upto rest facts =
        (input : ℕ) → input < 64
        → KeepsWatch now machine.to_module machine.last_to_module upto input facts.clear (facts.inputs input).hidden (steady_state (facts.inputs input).watched)

    pub watch_gap : (facts : ContentFacts) → end_at settings now machine.round ≤ block.start → Watch (end_at settings now machine.round) block.transitions facts
        → Watch block.start block.transitions (content_with facts (Recorded Gap))
    watch_gap facts forward q = λ input low.
        (let k = q input low in
        record {
          open_ones = λ is none. (let o = k.open_ones is none in (o.0, none_hidden-further now (end_at settings now machine.round) block.start input forward o.1));
          watched_ones = λ level is. absurd (cc is);
        })

    pub watch_entry : (k : ℕ) (transition : Transition) (rest : List Transition) (facts : ContentFacts) → slice_get block.transitions k ≡ Some transition
        → slice_get (log_of now) (block.start + k) ≡ Some transition → Watch (block.start + k) (transition ∷ rest) facts
        → Watch (block.start + (k + 1)) rest (content_with facts (entry_event answer.stamp transition))
    watch_entry k transition rest facts at logged q =
        let wide = wide_time_of answer.stamp (entry_of transition).stamp in
        λ input low.
        (let next_place : (block.start + k) + 1 ≡ block.start + (k + 1) = omega arith in
        let above = input_coming input (coming facts (entry_event answer.stamp transition)) (facts.inputs input) in
        let new = input_with_entry facts transition.level wide above in
        let own = (input == transition.input) && nat_lt input 64 in
        subst (λ upto. KeepsWatch now machine.to_module machine.last_to_module upto input facts.clear
        (if own then new else above).hidden (steady_state (if own then new else above).watched)) next_place
        (elim (eqb_tells input transition.input) as (λ _. KeepsWatch now machine.to_module machine.last_to_module ((block.start + k) + 1) input facts.clear
        (if own then new else above).hidden (steady_state (if own then new else above).watched)) [
          | inl same ↦
              let met : own ≡ true = (let s : input ≡ transition.input = same.1 in grind (arith, nat_tests)) in
              subst (λ b. KeepsWatch now machine.to_module machine.last_to_module ((block.start + k) + 1) input facts.clear (if b then new else above).hidden (steady_state (if b then new else above).watched)) (sym met)
              (fewer now machine.to_module machine.last_to_module ((block.start + k) + 1) input facts.clear above.hidden _ _
              (λ level is. steady_now facts.clear transition.level level above is)
              (watch-entry now machine.to_module machine.last_to_module (block.start + k) transition logged input facts.clear above.hidden (steady_state above.watched) (sym same.1) (q input low)))
          | inr apart ↦
              let met : own ≡ false = ap (λ b. b && nat_lt input 64) apart.0 in
              subst (λ b. KeepsWatch now machine.to_module machine.last_to_module ((block.start + k) + 1) input facts.clear (if b then new else above).hidden (steady_state (if b then new else above).watched)) (sym met)
              (watch-other now machine.to_module machine.last_to_module (block.start + k) transition logged input facts.clear above.hidden (steady_state above.watched) (λ is. apart.1 (sym is)) (q input low))
        ]))

    -- at a clear block all frames are received, and no change is hidden since it was made
    pub clear_open : (input : ℕ) → input < 64 → block.more ≡ false → says_again answer.status ≡ false
        → NoneIgnores machine.to_module machine.last_to_module input × NoneHidden now block.end input
    clear_open input low all anew =
        let m = made_now settings first begin from machine place number answer block known t anew in
        let ends : block.end ≡ length (log_of (Commanded (commands.Poll number) ∷ t.life)) = m.took all in (
          λ place frame high there. absurd (omega (arith, t.received, slice_get_within machine.to_module place frame there)),
          subst (λ life. NoneHidden life block.end input) (sym t.since.is)
              (none_hidden-since t.since.more (Commanded (commands.Poll number) ∷ t.life) block.end input t.since.none (omega (arith, ends)) low
              (none_hidden-now (Commanded (commands.Poll number) ∷ t.life) block.end input ends)),
        )

    -- so it is where one that is sent again settles the input
    pub again_open : (input : ℕ) → input < 64 → (since : ℕ → Bool) → IsMadeThen settings now since block → since input ≡ false → block.more ≡ false
        → NoneIgnores machine.to_module machine.last_to_module input × NoneHidden now block.end input
    again_open input low since made free all = (
      λ place frame high there. absurd (omega (arith, t.received, slice_get_within machine.to_module place frame there)),
      hidden_then input low settings now since block made free all,
    )

    watch_settled : (input : ℕ) (clear settling : Bool) (above : InputAbove)
        → (settling ≡ true → NoneIgnores machine.to_module machine.last_to_module input × NoneHidden now block.end input)
        → KeepsWatch now machine.to_module machine.last_to_module block.end input clear above.hidden (steady_state above.watched)
        → KeepsWatch now machine.to_module machine.last_to_module block.end input clear (input_ended settling above).hidden (steady_state (input_ended settling above).watched)
    watch_settled input clear true above opens k = record {
      open_ones = λ is none. opens refl;
      watched_ones = λ level is. k.watched_ones level (ap steady_state (sym (watched_below above (settled_now above))) ∙ is);
    }
    watch_settled input clear false above opens k = k

    pub watch_ended : (facts : ContentFacts) → MadeThen settings now block facts → (more again : Bool) → says_more answer.status ≡ more → says_again answer.status ≡ again
        → Watch block.end [] facts → Watch block.end [] (content_with facts (Ended answer.status answer.stamp))
    watch_ended facts made true again more_is again_is q = rw more_is q
    watch_ended facts made false true more_is again_is q = rw (more_is, again_is) (λ input low.
        watch_settled input facts.clear (facts.clear && not (facts.since_poll input)) (input_coming input (coming facts (Ended answer.status answer.stamp)) (facts.inputs input))
        (λ is. (let s = settles_open facts.clear (facts.since_poll input) is in again_open input low facts.since_poll (made s.0) s.1 (sym t.carried.more ∙ more_is))) (q input low))
    watch_ended facts made false false more_is again_is q = rw (more_is, again_is) (λ input low.
        (let above = input_coming input (coming facts (Ended answer.status answer.stamp)) (facts.inputs input) in
        let k = q input low in
        record {
          open_ones = λ is none. clear_open input low (sym t.carried.more ∙ more_is) again_is;
          watched_ones = λ level is. k.watched_ones level (ap steady_state (sym (watched_below above (settled_now above))) ∙ is);
        }))

  -- ---- the invariant

  pub watch-happens : (machine : Machine) (facts : ContentFacts) (event : Event) → IsPastBus event → WatchHolds settings machine facts
      → WatchHolds settings (after settings first machine event) facts
  watch-happens machine facts event past p = grind (arith, end_at, ends_within, past_cases, watch-quiet)

  pub watch-sends : (machine : Machine) (facts : ContentFacts) (command : Command) → IsCommand command → WatchHolds settings machine facts
      → WatchHolds settings (after_sending machine command) (content_with facts (Sent command))
  watch-sends machine facts command within p = λ input low.
      (let above = facts.inputs input in
      let item = item_for input (items_sent command) in
      let f : SentFrame = record { octets = command_octets command; round = machine.round } in
      let now = life_of machine.history in
      let upto = end_at settings now machine.round in
      subst (λ h. KeepsWatch now (machine.to_module ++ f ∷ []) machine.last_to_module upto input facts.clear h (steady_state (input_with_item (unnamed above) item).watched)) (sym (item_parts above item).hidden)
      (fewer now (machine.to_module ++ f ∷ []) machine.last_to_module upto input facts.clear (ignores item || above.hidden) _ _ (still_steady above item)
      (watch-sent machine.to_module machine.last_to_module upto input facts.clear above.hidden (steady_state above.watched)
      low now f command (read_back command within) (ignores item) refl (p input low))))

  pub watch-receives : (machine : Machine) (facts : ContentFacts) (place : ℕ) (frame : SentFrame) → IsKept settings first machine → machine.last_to_module < place + 1
      → slice_get machine.to_module place ≡ Some frame → WatchHolds settings machine facts
      → WatchHolds settings (after_delivery_to_module settings machine (place + 1) (Some frame)) facts
  watch-receives machine facts place frame k new at p = λ input low.
      (let now = life_of machine.history in
      let command = command_in frame.octets in
      let few : machine.round ≤ length (blocks_in settings machine) = omega (arith, k.always.answers.behind, k.one_life.made) in
      let upto : end_at settings (life_after_command command now) machine.round ≡ end_at settings now machine.round =
      ap end_of_blocks (blocks_stay settings now command machine.round few) in
      subst (λ n. KeepsWatch (life_after_command command now) machine.to_module (place + 1) n input facts.clear (facts.inputs input).hidden (steady_state (facts.inputs input).watched)) (sym upto)
      (watch-received machine.to_module machine.last_to_module (end_at settings now machine.round) input facts.clear (facts.inputs input).hidden (steady_state (facts.inputs input).watched)
      low now place frame (omega arith) at (p input low)))

-- at the start of both ends no change is hidden
pub watch_begun : (settings : Settings) → WatchHolds settings start content_begun
watch_begun settings input low = grind (arith, nat_tests, steady_state, begun_input, none_hidden-now)
