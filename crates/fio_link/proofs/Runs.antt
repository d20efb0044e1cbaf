-- Every run keeps what each event keeps, and what follows whatever restarts.
use Rattle.fio_link.proofs.Names.{◌≡◌, ℕ, ◌+◌, ◌==◌, Bool, true, false, List, [], ◌∷◌, refl, ap, sym, ◌∙◌, arith, if◌then◌else◌, nat_tests, Block, Settings, AreInRange, Event, ToCpu, Machine, start, number_of, after, Leads, HasBlock, IsRising}
use Rattle.std.proofs.Common.{◌↔◌}
use Rattle.fio_link.specs.Claims.{TakesPresentRound, IsInSequence}
use Rattle.fio_link.specs.Sound.{LeadToOneMachine}
use Rattle.fio_link.proofs.RisingPieces.{rises_as_promised}
use Rattle.fio_link.proofs.Kept.{HasInvariant}
use Rattle.fio_link.proofs.HeardRows.{after_taken, same_round, in_order}
use Rattle.fio_link.proofs.Events.{deliverable, frame_at_place}

-- events lead to one machine at most
pub lead_to_one : (settings : Settings) (first : ℕ) (events : List Event) (from machine other : Machine)
    → Leads settings first from events machine → Leads settings first from events other → machine ≡ other
lead_to_one settings first [] from machine other p q = p ∙ sym q
lead_to_one settings first (event ∷ events) from machine other p q =
    lead_to_one settings first events (after settings first from event) machine other p.1 q.1

pub runs_lead_to_one_machine : LeadToOneMachine
runs_lead_to_one_machine settings first events machine other p q = lead_to_one settings first events start machine other p q

-- the record rises through the logs of all lives
pub rising : (settings : Settings) (first : ℕ) (machine : Machine) → HasInvariant settings first machine
    → IsRising machine
rising settings first machine i = rises_as_promised _ _ i.rising.to i.rising.rises

-- no block answer is out of sequence
pub in_sequence : (settings : Settings) (first : ℕ) (machine : Machine)
    → HasInvariant settings first machine → IsInSequence machine
in_sequence settings first machine i place block round has = (i.carry place block round has).in_sequence

-- the round after a block answer that is taken, or not
round_taken : (machine : Machine) (place : ℕ) (block : Block) (same : Bool)
    → (if same then after_taken machine place block else record machine { last_to_cpu = place + 1 }).round
    ≡ (if same then machine.round + 1 else machine.round)
round_taken machine place block true = refl
round_taken machine place block false = refl

-- the CPU's round after it hears a block answer
round_heard : (settings : Settings) (first : ℕ) (machine : Machine) (place : ℕ) (block : Block) (round : ℕ)
    → HasBlock machine.to_cpu place block round
    → (after settings first machine (ToCpu (place + 1))).round
    ≡ (if block.number == number_of first machine.round then machine.round + 1 else machine.round)
round_heard settings first machine place block round has = grind (arith, nat_tests, frame_at_place, round_taken)

-- a round is over exactly if the numbers are equal
over_if_same : (number present round : ℕ)
    → ((if number == present then round + 1 else round) ≡ round + 1) ↔ (number ≡ present)
over_if_same number present round = (λ over. grind (arith, nat_tests), λ same. grind (arith, nat_tests))

-- a block answer that is delivered is taken exactly if its round is the CPU's
pub takes : (settings : Settings) → AreInRange settings → (first : ℕ) (machine : Machine)
    → HasInvariant settings first machine
    → TakesPresentRound settings first machine
takes settings range first machine i place block round has fine =
    let le = (deliverable machine.to_cpu machine.last_to_cpu (place + 1) fine).in_order in
    let named : block.number ≡ number_of first round = (i.carry place block round has).number in
    let heard = round_heard settings first machine place block round has in
    let over = over_if_same block.number (number_of first machine.round) machine.round in (
      λ taken. same_round first machine (in_order settings first machine i) place block round le has (over.0 (sym heard ∙ taken)),
      λ same. heard ∙ over.1 (named ∙ ap (number_of first) same),
    )
