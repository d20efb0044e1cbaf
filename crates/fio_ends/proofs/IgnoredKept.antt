-- The rule `ignored` never accuses: an input that was settled as ignored has no entries until an item opens it.
use Rattle.fio_ends.proofs.Names.{◌≡◌, ◌∙◌, ◌+◌, ◌<◌, ◌≤◌, ◌&&◌, ◌||◌, inl, inr, ℕ, Bool, true, false, not, List, [], ◌∷◌, ◌++◌, length, Option, Some, None, is_some, same_Some, refl, ap, sym, subst, arith, if◌then◌else◌, ◌==◌, slice_get, slice_get_within, nat_lt, Answer, Command, Block, command_in, command_octets, IsCommand, says_again, says_more, says_error, all_present, InputItem, ArrayVec, Settings, AreInRange, Life, Scanned, LineSynced, Raised, life_of, life_after_command, log_of, Transition, entry_of, MadeBlock, blocks_in, ContentFacts, InputAbove, content_with, Ended, Recorded, Sent, Gap, Event, SentFrame, Machine, start, after, after_sending, after_delivery_to_module, after_taken, Ignored, IsKept, Always, KeepsRule, SentItem, block_answer, coming, content_begun, end_of_blocks, error_back, error_status, input_below_clear, input_coming, input_ended, input_with_entry, item_for, item_parts, items_sent, opens, Occurrence, wide_time_of, accepts_items, ContentNeverAccuses, nat_tests}
use Rattle.fio_message.specs.declared.commands.Command.TheVariants as commands
use Rattle.fio_ends.proofs.Alternating.{NoneOf}
use Rattle.fio_ends.proofs.SettledAgain.{MadeThen, hidden_then, made_then, settles_open}
use Rattle.fio_ends.proofs.SteadyKept.{clear_open}
use Rattle.fio_ends.proofs.Answered.{Says, says_of}
use Rattle.fio_ends.proofs.BlockPlaces.{end_at, ends_within, is_next}
use Rattle.fio_ends.proofs.BlockWalk.{IsWalk, entry_event, gap_keeps, walk}
use Rattle.fio_ends.proofs.ContentBegun.{begun_input}
use Rattle.fio_ends.proofs.ContentFrame.{heard_keeps}
use Rattle.fio_ends.proofs.ContentHeld.{content_never_accuses}
use Rattle.fio_ends.proofs.ContentSteps.{HearsAnswer, IsInvariant, IsKnown, IsPastBus, Takes, past_cases}
use Rattle.fio_ends.proofs.Following.{IsSentLast, IsSince, IsNoCommand}
use Rattle.fio_ends.proofs.Sends.{read_back}
use Rattle.fio_ends.proofs.Settled.{KeepsItem, item-quiet, item-received, item-sent, item-taken, setting_of}
use Rattle.fio_ends.proofs.Taken.{blocks_stay}
use Rattle.fio_ends.proofs.Watching.{IsSilent, NoneHidden, input_at, rest_at}
use Rattle.fio_ends.proofs.Shut.{KeepsBoth, KeepsShut, ShutHolds, none_shut, shut-sent, silent-command, silent-further, silent-quiet}

module _ (settings : Settings) (range : AreInRange settings) (first : ℕ) (begin : Machine) where
  -- ---- the CPU takes a block

  module _ (from : Life) (machine : Machine) (place number : ℕ) (answer : Block) (block : MadeBlock)
      (known : IsKnown settings first begin from machine) (t : Takes settings first from machine place number answer block) where
    abbrev now : Life
    now = life_of machine.history

    abbrev pub Both : ℕ → List Transition → ContentFacts → Type 0
    Both upto rest facts =
        (input : ℕ) → input < 64 → KeepsBoth now machine.to_module machine.last_to_module upto input (facts.inputs input)

    both_further : (facts : ContentFacts) (upto further : ℕ) → upto ≤ further → (rest other : List Transition) → Both upto rest facts → Both further other facts
    both_further facts upto further le rest other q = λ input low.
        (let k = q input low in
        record {
          item = k.item;
          shut = λ is. (let s = k.shut is in (s.0, silent-further now upto further input le s.1));
        })

    pub both_gap : (facts : ContentFacts) → end_at settings now machine.round ≤ block.start → Both (end_at settings now machine.round) block.transitions facts
        → Both block.start block.transitions (content_with facts (Recorded Gap))
    both_gap facts forward q = λ input low.
        (let k = both_further facts (end_at settings now machine.round) block.start forward block.transitions block.transitions q input low in
        record { item = k.item; shut = k.shut })

    by_if : (upto input : ℕ) (above : InputAbove) (wide : ℕ) (level : Bool) (facts : ContentFacts) (here : Bool)
        → KeepsBoth now machine.to_module machine.last_to_module upto input above
        → KeepsBoth now machine.to_module machine.last_to_module upto input (if here then input_with_entry facts level wide above else above)
    by_if upto input above wide level facts true k = record { item = k.item; shut = k.shut }
    by_if upto input above wide level facts false k = k

    pub both_entry : (k : ℕ) (transition : Transition) (rest : List Transition) (facts : ContentFacts) → slice_get block.transitions k ≡ Some transition
        → slice_get (log_of now) (block.start + k) ≡ Some transition → Both (block.start + k) (transition ∷ rest) facts
        → KeepsRule Ignored facts (entry_event answer.stamp transition)
        × Both (block.start + (k + 1)) rest (content_with facts (entry_event answer.stamp transition))
    both_entry k transition rest facts at logged q =
        let input_low = input_at now (block.start + k) transition logged in (
          none_shut (facts.inputs transition.input).shut
              (λ is. (subst (NoneOf transition.input) (rest_at (log_of now) (block.start + k) transition logged) ((q transition.input input_low).shut is).1.none).0 refl),
          λ input low. (let k = by_if (block.start + (k + 1)) input (input_coming input (coming facts (entry_event answer.stamp transition)) (facts.inputs input)) (wide_time_of answer.stamp (entry_of transition).stamp) transition.level facts
              ((input == transition.input) && nat_lt input 64)
              (let b = both_further facts (block.start + k) (block.start + (k + 1)) (omega arith) (transition ∷ rest) rest q input low in record { item = b.item; shut = b.shut }) in
              record { item = k.item; shut = k.shut }),
        )

    -- at a block that settles the input an item that was taken is in force
    settle : (input : ℕ) → input < 64 → NoneHidden now block.end input → (above : InputAbove) (taken : Bool) → above.taken ≡ taken
        → (item : Option SentItem) → above.item ≡ item
        → KeepsBoth now machine.to_module machine.last_to_module block.end input above
        → KeepsBoth now machine.to_module machine.last_to_module block.end input (input_below_clear above (if taken then item else None))
    settle input low opens above false is item item_is k = record { item = k.item; shut = k.shut }
    settle input low opens above true is None item_is k = record { item = k.item; shut = k.shut }
    settle input low opens above true is (Some item) item_is k = record {
      item = k.item;
      shut = λ ignored.
          (let has = (k.item.taken_one is item item_is).1 in (
            λ place frame high there. absurd (omega (arith, t.received, slice_get_within machine.to_module place frame there)),
            silent (has.ignore ∙ ignored) opens,
          ));
    }
      where
        silent : (setting_of input now).ignore ≡ true → NoneHidden now block.end input → IsSilent now block.end input
        silent is (inl s) = s
        silent is (inr w) = absurd (cc (sym is ∙ w.1.opened))

    both_settled : (input : ℕ) → input < 64 → (settling : Bool) (above : InputAbove) → (settling ≡ true → NoneHidden now block.end input)
        → KeepsBoth now machine.to_module machine.last_to_module block.end input above
        → KeepsBoth now machine.to_module machine.last_to_module block.end input (input_ended settling above)
    both_settled input low true above opens k = settle input low (opens refl) above above.taken refl above.item refl k
    both_settled input low false above opens k = k

    pub both_ended : (facts : ContentFacts) → MadeThen settings now block facts → (more again : Bool) → says_more answer.status ≡ more → says_again answer.status ≡ again
        → Both block.end [] facts → Both block.end [] (content_with facts (Ended answer.status answer.stamp))
    both_ended facts made true again more_is again_is q = rw more_is (λ input low. (let k = q input low in record { item = k.item; shut = k.shut }))
    both_ended facts made false true more_is again_is q = rw (more_is, again_is) (λ input low.
        (let k = q input low in
        let settled = both_settled input low (facts.clear && not (facts.since_poll input)) (input_coming input (coming facts (Ended answer.status answer.stamp)) (facts.inputs input))
        (λ is. (let s = settles_open facts.clear (facts.since_poll input) is in hidden_then input low settings now facts.since_poll block (made s.0) s.1 (sym t.carried.more ∙ more_is)))
        (record { item = k.item; shut = k.shut }) in
        record { item = settled.item; shut = settled.shut }))
    both_ended facts made false false more_is again_is q = rw (more_is, again_is) (λ input low.
        (let k = q input low in
        let settled = both_settled input low true (input_coming input (coming facts (Ended answer.status answer.stamp)) (facts.inputs input))
        (λ is. (clear_open settings range first begin from machine place number answer block known t input low (sym t.carried.more ∙ more_is) again_is).1)
        (record { item = k.item; shut = k.shut }) in
        record { item = settled.item; shut = settled.shut }))

    -- and what is known of when the block was made
    abbrev pub BothMade : ℕ → List Transition → ContentFacts → Type 0
    BothMade upto rest facts = Both upto rest facts × MadeThen settings now block facts

    both_walk : IsWalk (KeepsRule Ignored) content_with settings now machine.round answer block BothMade (ShutHolds settings (after_taken machine place answer))
    both_walk = record {
      gap = λ facts forward q. (both_gap facts forward q.0, q.1);
      entry = λ k transition rest facts at logged q. (let e = both_entry k transition rest facts at logged q.0 in (e.0, (e.1, q.1)));
      ended = λ facts q. (
        tt,
        (let upto = (is_next settings now machine.round block t.made).ends in
            subst (λ n. (input : ℕ) → input < 64 → KeepsBoth now machine.to_module machine.last_to_module n input ((content_with facts (Ended answer.status answer.stamp)).inputs input)) upto
            (both_ended facts q.1 (says_more answer.status) (says_again answer.status) refl refl q.0)),
      );
    }

  -- ---- other events

  quiet : (machine : Machine) (facts : ContentFacts) (occurrence : Occurrence) → IsNoCommand occurrence → ShutHolds settings machine facts → (input : ℕ) → input < 64
      → KeepsBoth (occurrence ∷ life_of machine.history) machine.to_module machine.last_to_module (end_at settings (life_of machine.history) machine.round) input (facts.inputs input)
  quiet machine facts occurrence none p input low =
      let now = life_of machine.history in
      let above = facts.inputs input in
      record {
        item = item-quiet machine.to_module machine.last_to_module input above.named above.item above.taken low now occurrence none (p input low).item;
        shut = λ is. (let s = (p input low).shut is in (s.0, silent-quiet now occurrence (end_at settings now machine.round) input none (ends_within settings now machine.round) s.1));
      }

  pub both-happens : (machine : Machine) (facts : ContentFacts) (event : Event) → IsPastBus event → ShutHolds settings machine facts
      → ShutHolds settings (after settings first machine event) facts
  both-happens machine facts event past p = past_cases (λ event. ShutHolds settings (after settings first machine event) facts)
      (λ raw. quiet machine facts (Scanned raw) tt p) (quiet machine facts LineSynced tt p) (λ mask. quiet machine facts (Raised mask) tt p) event past

  pub both-sends : (machine : Machine) (facts : ContentFacts) (command : Command) → IsCommand command → ShutHolds settings machine facts
      → ShutHolds settings (after_sending machine command) (content_with facts (Sent command))
  both-sends machine facts command within p = λ input low. (let k = p input low in
      let f : SentFrame = record { octets = command_octets command; round = machine.round } in
      record {
        item = item-sent machine.to_module machine.last_to_module input (facts.inputs input).named (facts.inputs input).item (facts.inputs input).taken low (life_of machine.history) f command (read_back command within)
            (facts.inputs input) (item_for input (items_sent command)) refl refl refl k.item;
        shut = subst (KeepsShut (life_of machine.history) (machine.to_module ++ f ∷ []) machine.last_to_module (end_at settings (life_of machine.history) machine.round) input) (sym (item_parts (facts.inputs input) (item_for input (items_sent command))).shut)
            (shut-sent machine.to_module machine.last_to_module (end_at settings (life_of machine.history) machine.round) input (facts.inputs input).shut low (life_of machine.history) f command (read_back command within)
            (opens (item_for input (items_sent command))) refl k.shut);
      })

  pub both-receives : (machine : Machine) (facts : ContentFacts) (place : ℕ) (frame : SentFrame) → IsKept settings first machine → machine.last_to_module < place + 1
      → slice_get machine.to_module place ≡ Some frame → ShutHolds settings machine facts
      → ShutHolds settings (after_delivery_to_module settings machine (place + 1) (Some frame)) facts
  both-receives machine facts place frame k new at p = λ input low.
      (let now = life_of machine.history in
      let command = command_in frame.octets in
      let few : machine.round ≤ length (blocks_in settings machine) = omega (arith, k.always.answers.behind, k.one_life.made) in
      let upto : end_at settings (life_after_command command now) machine.round ≡ end_at settings now machine.round =
      ap end_of_blocks (blocks_stay settings now command machine.round few) in
      let both = p input low in
      record {
        item = item-received machine.to_module machine.last_to_module input (facts.inputs input).named (facts.inputs input).item (facts.inputs input).taken low now place frame (omega arith) at both.item;
        shut = λ is.
            (let s = both.shut is in (
              λ later f high there. s.0 later f (omega arith) there,
              subst (λ n. IsSilent (life_after_command command now) n input) (sym upto)
                  (silent-command input low now (end_at settings now machine.round) command (s.0 place frame (omega arith) at) s.1),
            ));
      })

  -- an answer that a configuration was taken
  taken_or : (life : Life) (frames : List SentFrame) (last input : ℕ) (named : Bool) (item : Option SentItem) (taken here : Bool)
      → (here ≡ true → KeepsItem life frames last input false item true) → KeepsItem life frames last input named item taken → KeepsItem life frames last input false item (here || taken)
  taken_or life frames last input named item taken true new old = new refl
  taken_or life frames last input named item taken false new old = record { taken_one = old.taken_one; sent_last = λ is. absurd (cc is) }

  both_true : (a b : Bool) → (a && b) ≡ true → (a ≡ true) × (b ≡ true)
  both_true true b is = (refl, is)
  both_true false b is = absurd (cc is)

  not_true : (b : Bool) → not (not b) ≡ true → b ≡ true
  not_true true is = refl
  not_true false is = absurd (cc is)

  accepting : (life : Life) (command : Command) (answer : Answer) → Says life command answer → accepts_items answer ≡ true
      → (items : ArrayVec InputItem) × (command ≡ commands.ConfigureInputs items) × (all_present items.items ≡ true)
  accepting life (commands.ConfigureInputs items) answer says is =
      let accepted : not (says_error (error_status (not (all_present items.items)))) ≡ true = sym (ap accepts_items says.is) ∙ is in
      (items, refl, not_true (all_present items.items) (sym (ap not (error_back (not (all_present items.items)))) ∙ accepted))
  accepting life (commands.Poll number) answer says is = absurd says
  accepting life other answer says is = absurd (cc (sym (ap accepts_items says.is) ∙ is))

  pub item-heard : (from : Life) (machine : Machine) (facts : ContentFacts) (place : ℕ) (command : Command) (answer : Answer) (h : HearsAnswer settings from machine facts place command answer)
      → (input : ℕ) → input < 64 → KeepsItem (life_of machine.history) machine.to_module machine.last_to_module input (facts.inputs input).named (facts.inputs input).item (facts.inputs input).taken
      → KeepsItem (life_of machine.history) machine.to_module machine.last_to_module input false (facts.inputs input).item
      ((accepts_items answer && (facts.inputs input).named) || (facts.inputs input).taken)
  item-heard from machine facts place command answer h input low k =
      taken_or (life_of machine.history) machine.to_module machine.last_to_module input (facts.inputs input).named (facts.inputs input).item (facts.inputs input).taken (accepts_items answer && (facts.inputs input).named)
      (λ is.
      (let parts = both_true (accepts_items answer) (facts.inputs input).named is in
      let a = accepting h.life command answer (says_of settings from machine facts place command answer h) parts.0 in
      let some : is_some (item_for input a.0.items) ≡ true =
      ap (λ c. is_some (item_for input (items_sent c))) (sym a.1) ∙ sym (h.awaits.named input) ∙ parts.1 in
      item-taken machine.to_module machine.last_to_module input (facts.inputs input).named (facts.inputs input).item (facts.inputs input).taken low h.life (life_of machine.history) a.0
      (subst (IsSentLast machine.to_module) a.1 h.sent_last) h.received (subst (λ c. IsSince c h.life (life_of machine.history)) a.1 h.since) a.2 some parts.1 k)) k

  pub ignored_is_invariant : IsInvariant settings first begin Ignored (Unit {0}) tt (λ state machine event. tt) (λ state machine later. Unit {0})
      (λ state from machine facts. ShutHolds settings machine facts)
  ignored_is_invariant = record {
    goes_on = λ state machine event rest holds. tt;
    begins = λ known input low. record {
      item = record { taken_one = λ is. absurd (cc is); sent_last = λ is. absurd (cc is) };
      shut = λ is. absurd (cc is);
    };
    happens = λ state from machine facts event rest known past holds p. both-happens machine facts event past p;
    sends = λ state from machine facts event command known may within p. both-sends machine facts command within p;
    receives = λ state from machine facts place frame known new at reads p. both-receives machine facts place frame known.is_kept new at p;
    hears = λ state from machine facts place rest command answer known h holds p. (
      (heard_keeps facts answer).ignored,
      λ input low. (let k = p input low in record { item = item-heard from machine facts place command answer h input low k.item; shut = k.shut }),
    );
    takes = λ state from machine facts place rest number answer block known t polls holds p.
        walk (KeepsRule Ignored) content_with (gap_keeps Ignored) settings (life_of machine.history) machine.round answer block (BothMade from machine place number answer block known t)
        (ShutHolds settings (after_taken machine place answer)) (both_walk from machine place number answer block known t)
        t.made t.carried facts ((heard_keeps facts (block_answer answer)).ignored) (
          λ input low. (let k = p input low in record { item = record { taken_one = k.item.taken_one; sent_last = λ is. absurd (cc is) }; shut = k.shut }),
          made_then settings range first begin from machine place number answer block known t facts polls,
        );
  }

-- at the start of both ends each input is ignored, as the item above says
pub both_begun : (settings : Settings) → ShutHolds settings start content_begun
both_begun settings input low = grind (arith, nat_tests, begun_input, same_Some)

pub ignored_never_accuses : ContentNeverAccuses Ignored Always
ignored_never_accuses = content_never_accuses Ignored (Unit {0}) tt (λ state machine event. tt)
    (λ settings first begin state from machine facts. ShutHolds settings machine facts)
    (λ settings first begin range. ignored_is_invariant settings range first begin)
    (λ settings first. both_begun settings)
