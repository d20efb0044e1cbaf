-- Which rule an event breaks: an entry that does not come after the one above it, an entry with the state that its input
-- had, and states that differ from the record.
use Rattle.fio_check.proofs.Names.{ap₂, ◌≡◌, ◌<◌, ◌∙◌, ℕ, Bool, true, false, Option, Some, None, refl, ap, arith, if◌then◌else◌, is_some, nat_lt, not, eqb_tells, option_map, option_or, ◌==◌, nat_tests, Entry, ContentFacts, Seen, is_set, ContentEvent, Recorded, is_some_and, ContentRule, INPUTS, Order, TimedState, beq, breaks_entry, comes_after, comes_to, differing, differs, rule_broken_by, tells_of, ◌&&◌, ◌^◌, ◌||◌}
use Rattle.fio_check.specs.ContentRules.{broken_state, first_differing, state_breach}
use Rattle.fio_check.specs.declared.content_rules.ContentRule.TheVariants.{Fresh, Alternate}
use Rattle.fio_check.proofs.Verdicts.{none_said, some_said}

-- ---- the first of the rules of entries

order-first : (order fresh alternate : Bool) (rest : Option ContentRule) → order ≡ true → is_some (if order then Some Order else (if fresh then Some Fresh else (if alternate then Some Alternate else rest))) ≡ true
order-first true fresh alternate rest broken = refl
order-first false fresh alternate rest broken = absurd (cc)

alternate-first : (order fresh alternate : Bool) (rest : Option ContentRule) → alternate ≡ true → is_some (if order then Some Order else (if fresh then Some Fresh else (if alternate then Some Alternate else rest))) ≡ true
alternate-first order fresh alternate rest broken = grind arith

none-first : (order fresh alternate : Bool) (rest : Option ContentRule) → (if order then Some Order else (if fresh then Some Fresh else (if alternate then Some Alternate else rest))) ≡ None
    → (order ≡ false) × (alternate ≡ false)
none-first order fresh alternate rest none = grind arith

or-some : {A : Type 0} (one other : Option A) → is_some other ≡ true → is_some (option_or one other) ≡ true
or-some (Some x) other is = refl
or-some None other is = is

or-first : {A : Type 0} (one other : Option A) → is_some one ≡ true → is_some (option_or one other) ≡ true
or-first (Some x) other is = refl
or-first None other is = absurd (cc)

neither : {A : Type 0} (one other : Option A) → option_or one other ≡ None → (one ≡ None) × (other ≡ None)
neither None other is = (refl, is)
neither (Some x) other is = absurd (cc)

mapped-some : {A B : Type 0} (f : A → B) (option : Option A) → is_some option ≡ true → is_some (option_map f option) ≡ true
mapped-some f None is = is
mapped-some f (Some x) is = refl

mapped-none : {A B : Type 0} (f : A → B) (option : Option A) → option_map f option ≡ None → option ≡ None
mapped-none f None is = refl
mapped-none f (Some x) is = absurd (cc)

-- ---- an entry that breaks order or alternate

-- an entry as its rules read it
abbrev pub timed : Bool → ℕ → TimedState
timed level wide = record { level = level; wide = wide }

pub breaks_order : (facts : ContentFacts) (input stamp wide : ℕ) (level : Bool) → breaks_entry facts input (timed level wide) Order ≡ true
    → is_some (rule_broken_by facts (Recorded (Entry input level stamp wide))) ≡ true
breaks_order facts input stamp wide level broken = grind (arith, mapped-some, or-some, order-first)

pub breaks_alternate : (facts : ContentFacts) (input stamp wide : ℕ) (level : Bool) → breaks_entry facts input (timed level wide) Alternate ≡ true
    → is_some (rule_broken_by facts (Recorded (Entry input level stamp wide))) ≡ true
breaks_alternate facts input stamp wide level broken = grind (arith, alternate-first, mapped-some, or-some)

pub keeps_both : (facts : ContentFacts) (input stamp wide : ℕ) (level : Bool) → rule_broken_by facts (Recorded (Entry input level stamp wide)) ≡ None
    → (breaks_entry facts input (timed level wide) Order ≡ false) × (breaks_entry facts input (timed level wide) Alternate ≡ false)
keeps_both facts input stamp wide level none = grind (arith, mapped-none, neither, none-first)

-- ---- order

-- an entry does not come after itself
pub not_behind_itself : (input wide : ℕ) → comes_after input wide input wide ≡ false
not_behind_itself input wide = grind (arith, nat_tests)

-- of two entries one alone comes after the other
pub behind_one_way : (input wide other above : ℕ) → wide < 2 ^ 32 → above < 2 ^ 32 → comes_after other above input wide ≡ true → comes_after input wide other above ≡ false
behind_one_way input wide other above one two behind = grind (arith, eqb_tells, nat_tests)

-- ---- the states that were asked for

module _ (facts : ContentFacts) (seen : Seen) (is : facts.seen ≡ Some seen) (judged : facts.excuses ≡ 0) where
  states-are : (event : ContentEvent) → comes_to seen event ≡ true → broken_state facts event facts.seen ≡ state_breach true (first_differing facts seen)
  states-are event comes = ap (broken_state facts event) is ∙ ap₂ (λ n b. state_breach ((n == 0) && b) (first_differing facts seen)) judged comes

  none-differs : (found : Option ℕ) → state_breach true found ≡ None → found ≡ None
  none-differs None none = refl
  none-differs (Some input) none = absurd (cc)

  some-differs : (found : Option ℕ) → is_some found ≡ true → is_some (state_breach true found) ≡ true
  some-differs None some = some
  some-differs (Some input) some = refl

  -- an event at which the record comes to them breaks no rule
  agree : (event : ContentEvent) → comes_to seen event ≡ true → rule_broken_by facts event ≡ None → first_differing facts seen ≡ None
  agree other comes none = grind (arith, neither, none-differs, states-are)

  -- an input differs from them
  differ : (event : ContentEvent) → comes_to seen event ≡ true → is_some (first_differing facts seen) ≡ true → is_some (rule_broken_by facts event) ≡ true
  differ other comes some = grind (arith, or-first, some-differs, states-are)

input-agrees : (facts : ContentFacts) (seen : Seen) (input : ℕ) → input < INPUTS → first_differing facts seen ≡ None → differs seen input (facts.inputs input) ≡ false
unfolding first_differing
input-agrees facts seen input within none = unnamed (differs seen input (facts.inputs input)) (none_said (differing facts seen) INPUTS input none within)
  where
    unnamed : (named : Bool) → (if named then Some input else None) ≡ None → named ≡ false
    unnamed false none = refl
    unnamed true none = absurd (cc)

input-differs : (facts : ContentFacts) (seen : Seen) (input : ℕ) → input < INPUTS → differs seen input (facts.inputs input) ≡ true → is_some (first_differing facts seen) ≡ true
unfolding first_differing
input-differs facts seen input within other = some_said (differing facts seen) INPUTS input within (rw other refl)

-- ---- a state that is shown

opposite : (one other : Bool) → beq one other ≡ false → one ≡ not other
opposite one other is = grind arith

alike : (one : Bool) → beq one one ≡ true
alike true = refl
alike false = refl

-- states are above two events that were asked for, and a breach of them is not excused
pub record AreJudged (facts spoiled : ContentFacts) (seen : Seen) : Type 0 where
  pub judged : facts.excuses ≡ 0
  pub seen_is : facts.seen ≡ Some seen
  pub spoiled_judged : spoiled.excuses ≡ 0
  pub spoiled_seen : spoiled.seen ≡ Some seen

-- above an event that breaks no rule the latest entry of an input has this state: if it had the other one, the event
-- would break a rule
module _ (facts spoiled : ContentFacts) (input : ℕ) (within : input < INPUTS) (level shaded : Bool)
    (watched : (facts.inputs input).watched ≡ Some (record { level = level; shaded = shaded }))
    (other : (spoiled.inputs input).watched ≡ Some (record { level = not level; shaded = shaded }))
    (known : Option Seen) (same : (seen : Seen) → known ≡ Some seen → AreJudged facts spoiled seen) where
  by-states : (event : ContentEvent) (seen : Option Seen) → known ≡ seen → (shade : Bool) → shaded ≡ shade
      → (not shade && is_some_and seen (λ states. comes_to states event)) ≡ true
      → rule_broken_by facts event ≡ None → is_some (rule_broken_by spoiled event) ≡ true
  by-states event seen is true shade comes none = absurd (cc)
  by-states event None is false shade comes none = absurd (cc)
  by-states event (Some seen) is false shade comes none =
      let states = is_set seen.levels input in
      let agrees : not (beq level states) ≡ false = rw (watched, shade) at (input-agrees facts seen input within (agree facts seen (same seen is).seen_is (same seen is).judged event comes none)) in
      differ spoiled seen (same seen is).spoiled_seen (same seen is).spoiled_judged event comes (input-differs spoiled seen input within (rw (other, shade) (turned-differs level states agrees)))
    where
      turned-differs : (level states : Bool) → not (beq level states) ≡ false → not (beq (not level) states) ≡ true
      turned-differs level states agrees = grind arith

  by-entry : (recorded stamp wide : ℕ) (now own : Bool) → (input == recorded && nat_lt input INPUTS) ≡ own
      → (is_some (if own then Some (timed now wide) else None) || (not shaded && is_some_and known (λ states. comes_to states (Recorded (Entry recorded now stamp wide))))) ≡ true
      → rule_broken_by facts (Recorded (Entry recorded now stamp wide)) ≡ None → is_some (rule_broken_by spoiled (Recorded (Entry recorded now stamp wide))) ≡ true
  by-entry recorded stamp wide now false is tells none = by-states (Recorded (Entry recorded now stamp wide)) known refl shaded refl tells none
  by-entry recorded stamp wide now true is tells none =
      let own : input ≡ recorded = named input recorded (nat_lt input INPUTS) is in
      let kept = (keeps_both facts recorded stamp wide now none).1 in
      let turned : now ≡ not level = opposite now level (rw (← own, watched) at kept) in
      breaks_alternate spoiled recorded stamp wide now (rw (← own, other, turned) (alike (not level)))
    where
      named : (a b : ℕ) (within : Bool) → (a == b && within) ≡ true → a ≡ b
      named a b within is = grind (arith, nat_tests)

  pub has_content : (event : ContentEvent) → tells_of known input event (record { level = level; shaded = shaded }) ≡ true
      → rule_broken_by facts event ≡ None → is_some (rule_broken_by spoiled event) ≡ true
  has_content (Recorded (Entry recorded now stamp wide)) tells none = by-entry recorded stamp wide now (input == recorded && nat_lt input INPUTS) refl tells none
  has_content event tells none = by-states event known refl shaded refl tells none
