-- The rule `apart` never accuses: an entry is as far from the latest one of its input as the least filter that can be in force.
use Rattle.fio_ends.proofs.Names.{after_sending, fold, Answer, Command, IsCommand, Sent, MadeBlock, Block, events_of_block, ◌≡◌, ◌∙◌, ◌+◌, ◌<◌, ◌≤◌, ℕ, true, false, [], ◌∷◌, ◌++◌, length, Some, refl, ap, sym, subst, arith, Option, append-nil, slice_get, command_in, command_octets, Settings, AreInRange, Life, Scanned, LineSynced, Raised, life_of, life_after_command, log_of, log_of-with_command, blocks_of, blocks_in, ContentFacts, Heard, Event, SentFrame, Machine, start, after, after_delivery_to_module, after_taken, Apart, IsKept, take, drop, KeepsRule, block_answer, blocks_taken, content_begun, content_step, end_of_blocks, item_for, item_parts, items_sent, scans_above, without_excuse, Occurrence, transitions_below, nat_tests}
use Rattle.fio_ends.proofs.BlockPlaces.{end_at}
use Rattle.fio_ends.proofs.BlockWalk.{walk}
use Rattle.fio_ends.proofs.ContentBegun.{begun_input}
use Rattle.fio_ends.proofs.ContentSteps.{HearsAnswer, IsKnown, IsPastBus, Takes, past_cases}
use Rattle.fio_ends.proofs.Following.{IsNoCommand}
use Rattle.fio_ends.proofs.ContentLines.{EachKeeps}
use Rattle.fio_ends.proofs.IgnoredKept.{both_begun, both-happens, both-receives, both-sends, item-heard}
use Rattle.fio_ends.proofs.LeastFilters.{KeepsLeast, least-quiet, least-received, least-sent}
use Rattle.fio_ends.proofs.Sends.{read_back}
use Rattle.fio_ends.proofs.SettledAgain.{MadeThen}
use Rattle.fio_ends.proofs.Steady.{IsSteady}
use Rattle.fio_ends.proofs.Taken.{blocks_stay, taken_stay}
use Rattle.fio_ends.proofs.ApartTimes.{AreNearByInput, KeepsApart, KeepsTimes, entries_in, latest_after, near_last, none_yet, times-later}
use Rattle.fio_ends.proofs.Fulls.{full_begun, full-happens, full-receives, waits_briefly}
use Rattle.fio_ends.proofs.ApartBlocks.{KeepsRest, apart_walk}

module _ (settings : Settings) (range : AreInRange settings) (first : ℕ) (begin : Machine) (above : Option ℕ) where
  abbrev begin_life : Life
  begin_life = life_of begin.history

  -- ---- other events

  pub least-happens : (machine : Machine) (facts : ContentFacts) (event : Event) → IsPastBus event
      → ((input : ℕ) → input < 64
      → KeepsLeast (life_of machine.history) machine.to_module machine.last_to_module (end_at settings (life_of machine.history) machine.round) input (facts.inputs input).least)
      → (input : ℕ) → input < 64
      → KeepsLeast (life_of (after settings first machine event).history) (after settings first machine event).to_module (after settings first machine event).last_to_module
      (end_at settings (life_of (after settings first machine event).history) (after settings first machine event).round) input (facts.inputs input).least
  least-happens machine facts event past p input low =
      let now = life_of machine.history in
      let each = λ (occurrence : Occurrence) (none : IsNoCommand occurrence).
      least-quiet machine.to_module machine.last_to_module (end_at settings now machine.round) input (facts.inputs input).least low now occurrence none (p input low) in
      past_cases (λ event. KeepsLeast (life_of (after settings first machine event).history) (after settings first machine event).to_module (after settings first machine event).last_to_module (end_at settings (life_of (after settings first machine event).history) (after settings first machine event).round) input (facts.inputs input).least)
      (λ raw. each (Scanned raw) tt) (each LineSynced tt) (λ mask. each (Raised mask) tt) event past

  times-happens : (machine : Machine) (facts : ContentFacts) (event : Event) → IsPastBus event
      → KeepsTimes settings begin_life (life_of machine.history) (end_at settings (life_of machine.history) machine.round) machine.round
      (latest_after none_yet (entries_in (blocks_taken settings begin machine))) facts
      → KeepsTimes settings begin_life (life_of (after settings first machine event).history)
      (end_at settings (life_of (after settings first machine event).history) (after settings first machine event).round) (after settings first machine event).round
      (latest_after none_yet (entries_in (blocks_taken settings begin (after settings first machine event)))) facts
  times-happens machine facts event past k =
      let now = life_of machine.history in
      let upto = end_at settings now machine.round in
      let latest = latest_after none_yet (entries_in (blocks_taken settings begin machine)) in
      let none = sym (append-nil (log_of now)) in
      past_cases (λ event. KeepsTimes settings begin_life (life_of (after settings first machine event).history) (end_at settings (life_of (after settings first machine event).history) (after settings first machine event).round) (after settings first machine event).round (latest_after none_yet (entries_in (blocks_taken settings begin (after settings first machine event)))) facts)
      (λ raw. times-later settings begin_life now (Scanned raw ∷ now) (transitions_below 64 raw now) upto upto machine.round latest latest facts refl (omega arith) refl k)
      (times-later settings begin_life now (LineSynced ∷ now) [] upto upto machine.round latest latest facts none (omega arith) refl k)
      (λ mask. times-later settings begin_life now (Raised mask ∷ now) [] upto upto machine.round latest latest facts none (omega arith) refl k) event past

  pub apart-receives : (machine : Machine) (facts : ContentFacts) (place : ℕ) (frame : SentFrame) → IsKept settings first machine → machine.last_to_module < place + 1
      → slice_get machine.to_module place ≡ Some frame → KeepsApart settings begin above machine facts
      → KeepsApart settings begin above (after_delivery_to_module settings machine (place + 1) (Some frame)) facts
  apart-receives machine facts place frame k new at p =
      let now = life_of machine.history in
      let command = command_in frame.octets in
      let later = life_after_command command now in
      let few : machine.round ≤ length (blocks_in settings machine) = omega (arith, k.always.answers.behind, k.one_life.made) in
      let upto : end_at settings later machine.round ≡ end_at settings now machine.round = ap end_of_blocks (blocks_stay settings now command machine.round few) in
      record {
        full = full-receives settings range first begin above machine facts place frame k p.full;
        both = both-receives settings range first begin machine facts place frame k new at p.both;
        least = λ input low.
            subst (λ n. KeepsLeast later machine.to_module (place + 1) n input (facts.inputs input).least) (sym upto)
            (least-received machine.to_module machine.last_to_module (end_at settings now machine.round) input (facts.inputs input).least low now place frame (omega arith) at (p.least input low));
        times =
            times-later settings begin_life now later [] (end_at settings now machine.round) (end_at settings later machine.round) machine.round
            (latest_after none_yet (entries_in (blocks_taken settings begin machine)))
            (latest_after none_yet (entries_in (drop begin.round (take machine.round (blocks_of settings later))))) facts
            (log_of-with_command command now ∙ sym (append-nil (log_of now))) (omega (arith, upto))
            (ap (λ blocks. latest_after none_yet (entries_in blocks)) (taken_stay settings range first begin (AreNearByInput above) machine command k)) p.times;
      }

  pub least-sends : (machine : Machine) (facts : ContentFacts) (command : Command) → IsCommand command
      → ((input : ℕ) → input < 64
      → KeepsLeast (life_of machine.history) machine.to_module machine.last_to_module (end_at settings (life_of machine.history) machine.round) input (facts.inputs input).least)
      → (input : ℕ) → input < 64
      → KeepsLeast (life_of machine.history) (after_sending machine command).to_module machine.last_to_module (end_at settings (life_of machine.history) machine.round) input
      ((content_step facts (Sent command)).inputs input).least
  least-sends machine facts command within p input low =
      let f : SentFrame = record { octets = command_octets command; round = machine.round } in
      subst (KeepsLeast (life_of machine.history) (machine.to_module ++ f ∷ []) machine.last_to_module (end_at settings (life_of machine.history) machine.round) input)
      (sym (item_parts (facts.inputs input) (item_for input (items_sent command))).least)
      (least-sent machine.to_module machine.last_to_module (end_at settings (life_of machine.history) machine.round) input (facts.inputs input).least low (life_of machine.history)
      f command (read_back command within) (p input low))

  pub apart-happens : (machine : Machine) (facts : ContentFacts) (event : Event) → IsPastBus event → KeepsApart settings begin above machine facts
      → KeepsApart settings begin above (after settings first machine event) facts
  apart-happens machine facts event past p = record {
    full = full-happens settings range first begin above machine facts event past p.full;
    both = both-happens settings range first begin machine facts event past p.both;
    least = least-happens machine facts event past p.least;
    times = times-happens machine facts event past p.times;
  }

  pub apart-sends : (machine : Machine) (facts : ContentFacts) (command : Command) → IsCommand command → KeepsApart settings begin above machine facts
      → KeepsApart settings begin above (after_sending machine command) (content_step facts (Sent command))
  apart-sends machine facts command within p = record {
    full = p.full;
    both = λ input low. (let k = (both-sends settings range first begin machine facts command within p.both) input low in record { item = k.item; shut = k.shut });
    least = least-sends machine facts command within p.least;
    times = record {
      clear = p.times.clear;
      timed = λ input low time is. p.times.timed input low time (sym (item_parts (facts.inputs input) (item_for input (items_sent command))).timed ∙ is);
    };
  }

  pub apart-hears : (from : Life) (machine : Machine) (facts : ContentFacts) (place : ℕ) (command : Command) (answer : Answer)
      → HearsAnswer settings from machine facts place command answer → KeepsApart settings begin above machine facts
      → KeepsApart settings begin above (record machine { last_to_cpu = place + 1 }) (content_step facts (Heard answer))
  apart-hears from machine facts place command answer h p = record {
    full = p.full;
    both = λ input low. (let k = p.both input low in
        record { item = item-heard settings range first begin from machine facts place command answer h input low k.item; shut = k.shut });
    least = p.least;
    times = record { clear = p.times.clear; timed = p.times.timed };
  }

  pub apart-takes : (from : Life) (machine : Machine) (facts : ContentFacts) (place number : ℕ) (answer : Block) (block : MadeBlock) (known : IsKnown settings first begin from machine)
      (t : Takes settings first from machine place number answer block)
      (asked : AreNearByInput above (blocks_taken settings begin machine ++ block ∷ [])) → IsSteady begin_life (life_of machine.history) → MadeThen settings (life_of machine.history) block facts
      → KeepsApart settings begin above machine facts
      → EachKeeps (λ facts. KeepsRule Apart (without_excuse facts)) content_step facts (events_of_block answer)
      × KeepsApart settings begin above (after_taken machine place answer) (fold content_step facts (events_of_block answer))
  apart-takes from machine facts place number answer block known t asked steady made p =
      let heard = content_step facts (Heard (block_answer answer)) in
      let brief = λ (timely : facts.timely ≡ true) (young : heard.aged ≡ false).
      waits_briefly settings range first begin above from machine place number answer block known t asked.blocks_near steady facts (p.full timely) young in
      walk (λ facts. KeepsRule Apart (without_excuse facts)) content_step (λ facts. tt) settings (life_of machine.history) machine.round answer block
      (KeepsRest settings range first begin above from machine place number answer block known t asked steady heard brief)
      (KeepsApart settings begin above (after_taken machine place answer)) (apart_walk settings range first begin above from machine place number answer block known t asked steady heard brief)
      t.made t.carried facts refl
      (record {
        timely_is = refl;
        aged_is = refl;
        full = p.full;
        made = made;
        both = λ input low. (let k = p.both input low in record { item = record { taken_one = k.item.taken_one; sent_last = λ is. absurd (cc is) }; shut = k.shut });
        least = p.least;
        latest = latest_after none_yet (entries_in (blocks_taken settings begin machine));
        near = near_last (blocks_taken settings begin machine) block asked.near;
        latest_is = refl;
        times = record { clear = p.times.clear; timed = p.times.timed };
      })

pub least_begun : (input : ℕ) → input < 64 → KeepsLeast [] [] 0 0 input (content_begun.inputs input).least
least_begun input low = grind (arith, nat_tests, begun_input)

-- at the start of both ends the filters are those of the item above, and no entry is recorded
pub apart_begun : (settings : Settings) → KeepsApart settings start (scans_above true) start content_begun
apart_begun settings = grind (arith, nat_tests, full_begun, both_begun, least_begun, begun_input)
