-- What the judge of a link keeps of stamps where no load takes effect.
use Rattle.fio_ends.proofs.Names.{◌≡◌, ◌∙◌, ℕ, Bool, true, false, List, Option, Some, None, refl, ap, arith, option_and_then, Answer, answer_in, facts_with, is_some_and, Facts, observation_in, observation_of, Judging, is_answer_set_back, judging_at, judging_kept, option_or, stamp_of, asked_below}
use Rattle.std.specs.Prelude.{◌||◌}
use Rattle.fio_check.specs.declared.observation.Observation.TheVariants as seen
use Rattle.fio_ends.proofs.JudgeStamps.{StampState, comes_back, stamps_heard, stamps_polled}

-- ---- what the judge keeps of stamps

-- it is the same
pub record HasStamps (judging : Judging) (number : Option ℕ) (s : StampState) : Type 0 where
  pub latest : judging.latest ≡ s.latest
  pub asked : judging.asked ≡ s.asked
  pub polled : number ≡ s.polled

latest_at : (judging : Judging) (stamp : Option ℕ) → (judging_at judging stamp).latest ≡ option_or stamp judging.latest
latest_at judging None = refl
latest_at judging (Some stamp) = refl

asked_at : (judging : Judging) (stamp : Option ℕ) → (judging_at judging stamp).asked ≡ judging.asked
asked_at judging None = refl
asked_at judging (Some stamp) = refl

module _ (judging : Judging) (s : StampState) (polled : Option ℕ) (h : HasStamps judging polled s) where
  back_same : (answer : Answer) → is_answer_set_back judging answer ≡ comes_back s answer
  back_same other = grind arith

  second : (a b : Bool) → (a || b) ≡ false → b ≡ false
  second true b is = absurd (cc is)
  second false b is = is

  -- a frame that is heard is not set back
  pub heard_on : (answer : Option Answer) → (stamps_heard s answer).back ≡ false → is_some_and answer (is_answer_set_back judging) ≡ false
  heard_on None none = refl
  heard_on (Some answer) none = back_same answer ∙ second s.back (comes_back s answer) none

  heard_asked : (answer : Option Answer) → asked_below judging (observation_of None answer) ≡ judging.asked
  heard_asked answer = grind arith

  heard_polled : (facts : Facts) (answer : Option Answer) → (facts_with facts (observation_of None answer)).polled ≡ facts.polled
  heard_polled facts answer = grind arith

  heard_latest : (answer : Option Answer) → option_or (option_and_then stamp_of answer) judging.latest ≡ (stamps_heard s answer).latest
  heard_latest None = h.latest
  heard_latest (Some answer) = ap (option_or (stamp_of answer)) h.latest

  heard_rest : (answer : Option Answer) → ((stamps_heard s answer).asked ≡ s.asked) × ((stamps_heard s answer).polled ≡ s.polled)
  heard_rest None = (refl, refl)
  heard_rest (Some answer) = (refl, refl)

-- below a frame that is kept it is the same
pub heard_stamps : (judging : Judging) (s : StampState) (facts : Facts) (octets : List ℕ) → HasStamps judging facts.polled s
    → HasStamps (judging_kept judging false octets) (facts_with facts (observation_in false octets)).polled (stamps_heard s (answer_in octets))
heard_stamps judging s facts octets h = grind (arith, asked_at, heard_asked, heard_latest, heard_polled, heard_rest, latest_at)

pub polled_stamps : (judging : Judging) (s : StampState) (facts : Facts) (octets : List ℕ) (number : ℕ) → judging.checker.facts ≡ facts → observation_in true octets ≡ seen.Poll number
    → HasStamps judging facts.polled s → HasStamps (judging_kept judging true octets) (facts_with facts (observation_in true octets)).polled (stamps_polled s number)
polled_stamps judging s facts octets number known says h = grind arith

pub sent_stamps : (judging : Judging) (s : StampState) (facts : Facts) (octets : List ℕ) (answer : ℕ) (absent : Bool) → observation_in true octets ≡ seen.Command answer absent
    → HasStamps judging facts.polled s → HasStamps (judging_kept judging true octets) (facts_with facts (observation_in true octets)).polled s
sent_stamps judging s facts octets answer absent says h = grind arith
