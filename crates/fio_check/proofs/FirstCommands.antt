-- Lines from the first command on: what is above it is heard.
use Rattle.fio_check.proofs.Names.{◌≡◌, ◌<◌, ◌∙◌, ◌+◌, ◌++◌, ◌⊎◌, inr, ℕ, zero, suc, Bool, true, false, List, [], ◌∷◌, Option, None, refl, sym, ap, arith, length, fold, slice_get, if◌then◌else◌, TranscriptLine, from_first_command, is_sent_at, number_polled, observation_at, observation_on, Answer, answer_in, number_below}
use Rattle.fio_check.specs.ContentEvents.{number_after}
use Rattle.fio_check.specs.Observations.{observation_of}

-- what an answer above the first poll says, and leaves
record IsUnpolled (answer : Option Answer) : Type 0 where
  pub polled : number_polled (observation_of None answer) ≡ None
  pub number : number_after None None answer ≡ None

unpolled : (answer : Option Answer) → IsUnpolled answer
unpolled answer = grind arith

-- a line that is heard is no poll, and leaves the CPU without a number
pub heard_unpolled : (line : TranscriptLine) → line.from_cpu ≡ false → number_polled (observation_on line) ≡ None
heard_unpolled line heard = rw heard (unpolled (answer_in line.octets)).polled

pub heard_number : (line : TranscriptLine) → line.from_cpu ≡ false → number_below None line.from_cpu line.octets ≡ None
heard_number line heard = rw heard (unpolled (answer_in line.octets)).number

-- ---- what is above the first command

-- these lines are the rest of those, below lines that are heard, and begin with one that is sent
pub record IsBelowHeard (lines rest : List TranscriptLine) : Type 0 where
  pub above : ℕ
  pub count : above + length rest ≡ length lines
  pub heard : (place : ℕ) → place < above → (is_sent_at lines place ≡ false) × (number_polled (observation_at lines place) ≡ None)
  pub same : (further : ℕ) → slice_get lines (above + further) ≡ slice_get rest further
  pub sent : 0 < length rest → is_sent_at rest 0 ≡ true

pub below_heard : (lines : List TranscriptLine) → IsBelowHeard lines (from_first_command lines)
below_heard [] = record {
  above = 0;
  count = omega arith;
  heard = λ place below. absurd (omega (arith, below));
  same = λ further. (let is : 0 + further ≡ further = omega arith in ap (slice_get []) is);
  sent = λ some. absurd (omega (arith, some));
}
below_heard (line ∷ lines) = by (below_heard lines) line.from_cpu refl
  where
    by : IsBelowHeard lines (from_first_command lines) → (sent : Bool) → line.from_cpu ≡ sent → IsBelowHeard (line ∷ lines) (if sent then line ∷ lines else from_first_command lines)
    by further true is = record {
      above = 0;
      count = omega arith;
      heard = λ place below. absurd (omega (arith, below));
      same = λ further. (let is : 0 + further ≡ further = omega arith in ap (slice_get (line ∷ lines)) is);
      sent = λ some. is;
    }
    by further false is =
        let more = further.count in
        record {
          above = suc further.above;
          count = omega (arith, more);
          heard = heard-above further is;
          same = λ place. (let next : suc further.above + place ≡ suc (further.above + place) = omega arith in ap (slice_get (line ∷ lines)) next ∙ further.same place);
          sent = further.sent;
        }
      where
        heard-above : (further : IsBelowHeard lines (from_first_command lines)) → line.from_cpu ≡ false → (place : ℕ) → place < suc further.above
            → (is_sent_at (line ∷ lines) place ≡ false) × (number_polled (observation_at (line ∷ lines) place) ≡ None)
        heard-above further is zero below = (is, heard_unpolled line is)
        heard-above further is (suc place) below = further.heard place (omega (arith, below))

-- ---- lines and those that follow

-- the CPU's number below lines, by its number above them
abbrev number_through : Option ℕ → List TranscriptLine → Option ℕ
number_through number lines = fold (λ n line. number_below n line.from_cpu line.octets) number lines

-- lines without a command, or with one
pub record HasCommand (lines below : List TranscriptLine) (rest : List TranscriptLine) : Type 0 where
  pub rest_is : rest ≡ from_first_command lines ++ below
  pub number : number_through None lines ≡ number_through None (from_first_command lines)

pub record HasNoCommand (lines below : List TranscriptLine) (rest : List TranscriptLine) : Type 0 where
  pub none : from_first_command lines ≡ []
  pub rest_is : rest ≡ from_first_command below
  pub number : number_through None lines ≡ None

pub with_or_without : (lines below : List TranscriptLine)
    → HasCommand lines below (from_first_command (lines ++ below)) ⊎ HasNoCommand lines below (from_first_command (lines ++ below))
with_or_without [] below = inr (record { none = refl; rest_is = refl; number = refl })
with_or_without (line ∷ lines) below = by (with_or_without lines below) line.from_cpu refl
  where
    by : HasCommand lines below (from_first_command (lines ++ below)) ⊎ HasNoCommand lines below (from_first_command (lines ++ below))
        → (sent : Bool) → line.from_cpu ≡ sent
        → HasCommand (line ∷ lines) below (if sent then line ∷ (lines ++ below) else from_first_command (lines ++ below))
        ⊎ HasNoCommand (line ∷ lines) below (if sent then line ∷ (lines ++ below) else from_first_command (lines ++ below))
    by further sent is = grind (arith, heard_number)

-- ---- lines that are the ones from the first command on

-- from their first command on they are the same
pub first_again : (lines : List TranscriptLine) → from_first_command (from_first_command lines) ≡ from_first_command lines
first_again [] = refl
first_again (line ∷ lines) = by (first_again lines) line.from_cpu refl
  where
    by : from_first_command (from_first_command lines) ≡ from_first_command lines → (sent : Bool) → line.from_cpu ≡ sent
        → from_first_command (if sent then line ∷ lines else from_first_command lines) ≡ (if sent then line ∷ lines else from_first_command lines)
    by rest true is = ap (λ sent. if sent then line ∷ lines else from_first_command lines) is
    by rest false is = rest

-- the first of them is sent
pub first_is_sent : (lines : List TranscriptLine) (line : TranscriptLine) (below : List TranscriptLine) → from_first_command lines ≡ line ∷ below → line.from_cpu ≡ true
first_is_sent lines line below is =
    let rest = below_heard lines in
    let some : 0 < length (from_first_command lines) = (let count = ap length is in omega (arith, count)) in
    sym (ap (λ all. is_sent_at all 0) is) ∙ rest.sent some
