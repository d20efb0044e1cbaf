-- The verdict on a transcript as a function, and as the relation that says what it means.
use Rattle.fio_check.proofs.Names.{◌≡◌, ◌<◌, ◌≤◌, ◌⊎◌, inl, inr, ℕ, zero, suc, true, Option, Some, None, List, refl, ap, ◌∙◌, arith, length, is_some, option_map, option_and_then, slice_get, unwrap_or, option_or, eqb_tells, same_Some, slice_get_cases, slice_get_within, TranscriptLine, earliest_above, HasOneVerdict, rule_broken, IsFirstBreach, IsVerdict, KeepsRulesAbove, breach_at, verdict_on, Rule, Verdict, Good, Broken}
use Rattle.std.proofs.lemmas.Bool.{cases_order}

-- ---- the earliest above a place

pub below-or-at : (n bound : ℕ) → n < suc bound → (n ≡ bound) ⊎ (n < bound)
below-or-at n bound below = elim (eqb_tells n bound) as (λ _. (n ≡ bound) ⊎ (n < bound)) [ inl same ↦ inl same.1 | inr other ↦ inr (omega (arith, other.1)) ]

-- what is found above a place is found above each further place
pub earliest_stays : {A : Type 0} (said : ℕ → Option A) (place n : ℕ) (value : A) → place < suc n → earliest_above said place ≡ Some value
    → earliest_above said n ≡ Some value
earliest_stays said place zero value within found = let same : place ≡ 0 = omega (arith, within) in rw same at found
earliest_stays said place (suc n) value within found =
    elim (below-or-at place (suc n) within) as (λ _. earliest_above said (suc n) ≡ Some value) [
      | inl same ↦ rw same at found
      | inr below ↦ rw (earliest_stays said place n value below found) refl
    ]

neither : {A : Type 0} (earlier here : Option A) → option_or earlier here ≡ None → (earlier ≡ None) × (here ≡ None)
neither earlier here is = grind arith

-- where nothing is found, nothing is said above
pub none_said : {A : Type 0} (said : ℕ → Option A) (n place : ℕ) → earliest_above said n ≡ None → place < n → said place ≡ None
none_said said zero place none below = absurd (omega (arith, below))
none_said said (suc n) place none below =
    let both = neither (earliest_above said n) (said n) none in
    elim (below-or-at place n below) as (λ _. said place ≡ None) [
      | inl same ↦ rw same both.1
      | inr above ↦ none_said said n place both.0 above
    ]

-- what is said above a place is found, or something above it
pub some_said : {A : Type 0} (said : ℕ → Option A) (n place : ℕ) → place < n → is_some (said place) ≡ true → is_some (earliest_above said n) ≡ true
some_said {A} said n place below here = found (earliest_above said n) refl
  where
    found : (earliest : Option A) → earliest_above said n ≡ earliest → is_some earliest ≡ true
    found (Some value) is = refl
    found None is = let none = none_said said n place is below in rw none at here

-- what is found is said at a place, and nothing is said above that place
pub record IsSaidFirst {A : Type 0} (said : ℕ → Option A) (n : ℕ) (value : A) : Type 0 where
  pub place : ℕ
  pub within : place < n
  pub here : said place ≡ Some value
  pub above : earliest_above said place ≡ None

said_first-more : {A : Type 0} (said : ℕ → Option A) (n : ℕ) (value : A) (earlier : Option A) → earliest_above said n ≡ earlier
    → ((found : A) → earlier ≡ Some found → IsSaidFirst said n found)
    → option_or earlier (said n) ≡ Some value → IsSaidFirst said (suc n) value
said_first-more said n value None none further found = record { place = n; within = omega arith; here = found; above = none }
said_first-more said n value (Some first) is further found =
    let before = further value found in
    let less : before.place < n = before.within in
    record { place = before.place; within = omega (arith, less); here = before.here; above = before.above }

said_first : {A : Type 0} (said : ℕ → Option A) (n : ℕ) (value : A) → earliest_above said n ≡ Some value → IsSaidFirst said n value
said_first said zero value found = absurd (cc)
said_first said (suc n) value found =
    said_first-more said n value (earliest_above said n) refl (λ first is. said_first said n first is) found

-- ---- the verdict as a function

-- the breach of a line, by the first rule that it breaks
pub breach-is : (lines : List TranscriptLine) (place : ℕ) (line : TranscriptLine) (broken : Option Rule) → slice_get lines place ≡ Some line
    → rule_broken lines place ≡ broken → breach_at lines place ≡ option_map (Broken line.number) broken
breach-is lines place line broken here is =
    ap (option_and_then (λ l. option_map (Broken l.number) (rule_broken lines place))) here ∙ ap (option_map (Broken line.number)) is

-- ---- it is a verdict

no_breach : (line : Option TranscriptLine) (broken : Option Rule) → is_some line ≡ true
    → option_and_then (λ l. option_map (Broken l.number) broken) line ≡ None → broken ≡ None
no_breach line broken is none = grind arith

some_line : (lines : List TranscriptLine) (place : ℕ) → place < length lines → is_some (slice_get lines place) ≡ true
some_line lines place within = grind (arith, slice_get_cases)

keeps_rules : (lines : List TranscriptLine) (n : ℕ) → n ≤ length lines → earliest_above (breach_at lines) n ≡ None → KeepsRulesAbove lines n
keeps_rules lines n within none = λ above below.
    no_breach (slice_get lines above) (rule_broken lines above) (some_line lines above (omega (arith, within, below))) (none_said (breach_at lines) n above none below)

-- the line and the rule of a breach
pub record IsBreach (lines : List TranscriptLine) (place : ℕ) (verdict : Verdict) : Type 0 where
  pub line : TranscriptLine
  pub rule : Rule
  pub here : slice_get lines place ≡ Some line
  pub broken : rule_broken lines place ≡ Some rule
  pub is : verdict ≡ Broken line.number rule

breach-parts : (lines : List TranscriptLine) (place : ℕ) (verdict : Verdict) (line : Option TranscriptLine) (broken : Option Rule)
    → slice_get lines place ≡ line → rule_broken lines place ≡ broken
    → option_and_then (λ l. option_map (Broken l.number) broken) line ≡ Some verdict → IsBreach lines place verdict
breach-parts lines place verdict (Some line) (Some rule) here broken is = record { line = line; rule = rule; here = here; broken = broken; is = cc }
breach-parts lines place verdict (Some line) None here broken is = absurd (cc)
breach-parts lines place verdict None broken here is_broken is = absurd (cc)

verdict-is : (lines : List TranscriptLine) (found : Option Verdict) → earliest_above (breach_at lines) (length lines) ≡ found
    → IsVerdict lines (unwrap_or found (Good (length lines)))
verdict-is lines None none = (refl, keeps_rules lines (length lines) (omega arith) none)
verdict-is lines (Some verdict) found =
    let first = said_first (breach_at lines) (length lines) verdict found in
    let within : first.place < length lines = first.within in
    let breach = breach-parts lines first.place verdict (slice_get lines first.place) (rule_broken lines first.place) refl refl first.here in
    let is : IsVerdict lines (Broken breach.line.number breach.rule) = record {
      place = first.place;
      line = breach.line;
      here = breach.here;
      numbered = refl;
      broken = breach.broken;
      above = keeps_rules lines first.place (omega (arith, within)) first.above;
    } in
    rw breach.is is

-- ---- and no other is one

-- a line that breaks a rule is not above one below which all lines keep the rules
kept-broken : (lines : List TranscriptLine) (place n : ℕ) (rule : Rule) → KeepsRulesAbove lines n → rule_broken lines place ≡ Some rule → place < n → ⊥
kept-broken lines place n rule kept broken above = let none = kept place above in cc

one-breach : (lines : List TranscriptLine) (number other_number : ℕ) (rule other_rule : Rule)
    → (one : IsFirstBreach lines number rule) (other : IsFirstBreach lines other_number other_rule)
    → one.place ≡ other.place → Broken number rule ≡ Broken other_number other_rule
one-breach lines number other_number rule other_rule one other same = grind (arith, same_Some)

same-verdict : (lines : List TranscriptLine) (one other : Verdict) → IsVerdict lines one → IsVerdict lines other → one ≡ other
same-verdict lines one other given3 given4 = grind (arith, cases_order, kept-broken, one-breach, slice_get_within)

pub verdict_is : (lines : List TranscriptLine) → IsVerdict lines (verdict_on lines)
verdict_is lines = verdict-is lines (earliest_above (breach_at lines) (length lines)) refl

pub one_verdict : (lines : List TranscriptLine) → HasOneVerdict lines
one_verdict lines verdict =
    (λ is. same-verdict lines verdict (verdict_on lines) is (verdict_is lines), λ same. rw same (verdict_is lines))
