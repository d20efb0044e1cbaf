-- What the rule `state` asks for, by the inputs that are watched and by times.
use Rattle.fio_ends.proofs.Names.{◌≡◌, ◌+◌, ◌^◌, ◌<◌, ◌≤◌, ℕ, zero, suc, Bool, true, false, not, Option, Some, None, refl, arith, beq, is_some_and, Life, filter_events, ContentFacts, ContentEvent, Seen, bit_at-word_of, bit_of, comes_to, differing, earliest_above, input_state, is_before, is_later, state_breach, steady_state, nat_tests}
use Rattle.fio_message.specs.Bits.{is_set}
use Rattle.fio_check.specs.ContentRules.{first_differing}
use Rattle.fio_ends.proofs.Answered.{states_of}
use Rattle.fio_ends.proofs.Clocks.{clock}
use Rattle.fio_ends.proofs.Watching.{state_of}

-- ---- times

-- a time that is not later
pub not_later : (offset earlier later : ℕ) → earlier ≤ later → later < earlier + 2 ^ 31 → is_later (clock offset earlier) (clock offset later) ≡ false
not_later offset earlier later low near = grind (arith, clock)

-- a time that is before
pub before_clock : (offset earlier later : ℕ) → earlier < later → later < earlier + 2 ^ 31 → is_before (clock offset earlier) (clock offset later) ≡ true
before_clock offset earlier later less near = grind arith

-- ---- the rule

-- a bit of the states is the state of its input
pub states_bit : (life : Life) (input : ℕ) → input < 64 → is_set (states_of life) input ≡ state_of input life
unfolding is_set
states_bit life input low = grind (arith, nat_tests, bit_at-word_of, input_state, filter_events, state_of, bit_of)

-- states that no watched input differs from
pub none_differs : (facts : ContentFacts) (seen : Seen) → ((input : ℕ) (level : Bool) → input < 64 → steady_state (facts.inputs input).watched ≡ Some level → level ≡ is_set seen.levels input)
    → first_differing facts seen ≡ None
unfolding first_differing
none_differs facts seen same = none-found 64 (omega arith)
  where
    alike : (level bit : Bool) → level ≡ bit → not (beq level bit) ≡ false
    alike level bit is = grind arith

    by : (input : ℕ) → input < 64 → (watched : Option Bool) → steady_state (facts.inputs input).watched ≡ watched → is_some_and watched (λ level. not (beq level (is_set seen.levels input))) ≡ false
    by input low None is = refl
    by input low (Some level) is = alike level (is_set seen.levels input) (same input level low is)

    none-found : (count : ℕ) → count ≤ 64 → earliest_above (differing facts seen) count ≡ None
    none-found zero few = refl
    none-found (suc count) few =
        let none = by count (omega (arith, few)) (steady_state (facts.inputs count).watched) refl in
        rw (none-found count (omega (arith, few)), none) refl

-- so the rule is kept, if this is so where the record comes to them
pub keeps_state : (facts : ContentFacts) (event : ContentEvent) (seen : Seen)
    → (comes_to seen event ≡ true → (input : ℕ) (level : Bool) → input < 64 → steady_state (facts.inputs input).watched ≡ Some level → level ≡ is_set seen.levels input)
    → state_breach (comes_to seen event) (first_differing facts seen) ≡ None
keeps_state facts event seen same = grind (arith, nat_tests, comes_to, state_breach, none_differs)
