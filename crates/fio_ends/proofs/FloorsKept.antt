-- The rules `order` and `fresh` where no load of the counter takes effect: below a clear block each entry comes after the latest entry or block without C.
use Rattle.fio_ends.proofs.Names.{fold, ◌++◌, MadeBlock, Block, events_of_block, ◌≡◌, ◌+◌, ◌≤◌, ℕ, true, [], ◌∷◌, length, Option, Some, refl, ap, arith, Settings, AreInRange, Life, life_of, life_after_command, command_in, blocks_of, ContentFacts, Heard, Event, SentFrame, Machine, after, after_delivery_to_module, after_taken, blocks_in, IsKept, start, same_Some, take, drop, BlocksAreNear, block_answer, blocks_taken, content_begun, content_step, end_of_blocks, log_of-with_command, scans_above, nat_tests}
use Rattle.fio_link.specs.declared.event.Event.TheVariants as events
use Rattle.fio_ends.proofs.BlockPlaces.{end_at}
use Rattle.fio_ends.proofs.BlockWalk.{walk}
use Rattle.fio_ends.proofs.ContentSteps.{IsKnown, IsPastBus, Takes, past_cases}
use Rattle.fio_ends.proofs.Clocks.{offset_of}
use Rattle.fio_ends.proofs.Steady.{IsSteady}
use Rattle.fio_ends.proofs.Taken.{blocks_stay, taken_stay}
use Rattle.fio_ends.proofs.Floors.{KeepsFloor, floor-same, floor-scan}
use Rattle.fio_ends.proofs.Fulls.{full_begun, full-happens, full-receives, scans_after, scans-command, waits_briefly}
use Rattle.fio_ends.proofs.FloorBlocks.{KeepsFloorRules, KeepsRest, floor_walk}
use Rattle.fio_ends.proofs.ContentLines.{EachKeeps}

module _ (settings : Settings) (range : AreInRange settings) (first : ℕ) (begin : Machine) (above : Option ℕ) where
  abbrev begin_life : Life
  begin_life = life_of begin.history

  -- ---- the invariant

  pub floor-happens : (machine : Machine) (facts : ContentFacts) (event : Event)
      → IsPastBus event
      → KeepsFloor settings begin above machine facts
      → KeepsFloor settings begin above (after settings first machine event) facts
  floor-happens machine facts event past p = past_cases (λ event. KeepsFloor settings begin above (after settings first machine event) facts)
      (λ raw. record {
        full = full-happens settings range first begin above machine facts (events.Scan raw) tt p.full;
        floor = λ clear f at. floor-scan (offset_of begin_life) (life_of machine.history) raw
            (end_at settings (life_of machine.history) machine.round) (scans_after above (blocks_taken settings begin machine)) f (p.floor clear f at);
      })
      (record {
        full = full-happens settings range first begin above machine facts events.LineSync tt p.full;
        floor = λ clear f at. floor-same (offset_of begin_life) (life_of machine.history) (life_of (after settings first machine events.LineSync).history)
            (end_at settings (life_of machine.history) machine.round) (end_at settings (life_of machine.history) machine.round)
            (scans_after above (blocks_taken settings begin machine)) (scans_after above (blocks_taken settings begin machine)) f refl refl (omega arith) refl (p.floor clear f at);
      })
      (λ mask. record {
        full = full-happens settings range first begin above machine facts (events.Raise mask) tt p.full;
        floor = λ clear f at. floor-same (offset_of begin_life) (life_of machine.history) (life_of (after settings first machine (events.Raise mask)).history)
            (end_at settings (life_of machine.history) machine.round) (end_at settings (life_of machine.history) machine.round)
            (scans_after above (blocks_taken settings begin machine)) (scans_after above (blocks_taken settings begin machine)) f refl refl (omega arith) refl (p.floor clear f at);
      })
      event past

  pub floor-receives : (machine : Machine) (facts : ContentFacts) (place : ℕ) (frame : SentFrame) → IsKept settings first machine
      → KeepsFloor settings begin above machine facts
      → KeepsFloor settings begin above (after_delivery_to_module settings machine (place + 1) (Some frame)) facts
  floor-receives machine facts place frame k p =
      let now = life_of machine.history in
      let command = command_in frame.octets in
      let few : machine.round ≤ length (blocks_in settings machine) = omega (arith, k.always.answers.behind, k.one_life.made) in
      let later = life_after_command command now in
      let upto : end_at settings later machine.round ≡ end_at settings now machine.round = ap end_of_blocks (blocks_stay settings now command machine.round few) in
      let taken = ap (scans_after above) (taken_stay settings range first begin (BlocksAreNear above) machine command k) in
      record {
        full = full-receives settings range first begin above machine facts place frame k p.full;
        floor = λ clear f at.
            floor-same (offset_of begin_life) now later (end_at settings now machine.round) (end_at settings later machine.round)
            (scans_after above (blocks_taken settings begin machine)) (scans_after above (drop begin.round (take machine.round (blocks_of settings later)))) f
            (log_of-with_command command now) (scans-command command now) (omega (arith, upto)) taken (p.floor clear f at);
      }

  -- the CPU takes a block
  pub floor-takes : (from : Life) (machine : Machine) (facts : ContentFacts) (place number : ℕ) (answer : Block) (block : MadeBlock) (known : IsKnown settings first begin from machine)
      (t : Takes settings first from machine place number answer block)
      (asked : BlocksAreNear above (blocks_taken settings begin machine ++ block ∷ [])) → IsSteady begin_life (life_of machine.history) → KeepsFloor settings begin above machine facts
      → EachKeeps KeepsFloorRules content_step facts (events_of_block answer)
      × KeepsFloor settings begin above (after_taken machine place answer) (fold content_step facts (events_of_block answer))
  floor-takes from machine facts place number answer block known t asked steady p =
      let heard = content_step facts (Heard (block_answer answer)) in
      walk KeepsFloorRules content_step (λ facts. (tt, tt)) settings (life_of machine.history) machine.round answer block
      (KeepsRest settings range first begin above from machine place number answer block known t asked heard)
      (λ facts. KeepsFloor settings begin above (after_taken machine place answer) facts)
      (floor_walk settings range first begin above from machine place number answer block known t asked steady
      heard p.full (λ timely young. waits_briefly settings range first begin above from machine place number answer block known t asked steady facts (p.full timely) young))
      t.made t.carried facts (refl, refl)
      (record { timely_is = refl; full_is = refl; aged_is = refl; floor = p.floor; forward = omega arith })

-- at the start of both ends no entry is below that time
pub floor_begun : (settings : Settings) → KeepsFloor settings start (scans_above true) start content_begun
floor_begun settings = grind (arith, nat_tests, full_begun, offset_of, same_Some)
