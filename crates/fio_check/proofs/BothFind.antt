-- Two checkers, side by side.
use Rattle.std.proofs.Common.{arith}
use Rattle.fio_check.proofs.Names.{◌≡◌, ◌∙◌, ℕ, zero, suc, List, [], ◌∷◌, Option, Some, None, refl, sym, ap, ap₂, length, option_or, option_map, option_and_then, slice_get, TranscriptLine, ContentChecking, checking_with, found_in_frame, found_first, found_on, is_sent_at, observation_at, observation_on, earliest_above, Accused, Checker, ContentBreach, FoundFault, both_find_first, broken_on, checker_from, checker_with, content_on, found_by}
use Rattle.fio_check.specs.LinkLaws.{FindFirst, broken_at, broken_first, fault_accused}
use Rattle.fio_check.proofs.KeptContent.{option_or-none, option_or_assoc}

-- ---- the earliest above a place, by the first place and those below it

earliest-same : {A : Type 0} (one other : ℕ → Option A) → ((place : ℕ) → one place ≡ other place) → (place : ℕ)
    → earliest_above one place ≡ earliest_above other place
earliest-same one other same zero = refl
earliest-same one other same (suc place) = ap₂ option_or (earliest-same one other same place) (same place)

earliest-first : {A : Type 0} (at : ℕ → Option A) (place : ℕ)
    → earliest_above at (suc place) ≡ option_or (at 0) (earliest_above (λ below. at (suc below)) place)
earliest-first at zero = sym (option_or-none (at 0))
earliest-first at (suc place) =
    ap (λ above. option_or above (at (suc place))) (earliest-first at place)
    ∙ option_or_assoc (at 0) (earliest_above (λ below. at (suc below)) place) (at (suc place))

-- ---- a line more above the others

-- the checker of transcripts with a line
abbrev next : Checker → TranscriptLine → Checker
next checker line = checker_with checker line.from_cpu (observation_on line)

later : (checker : Checker) (line : TranscriptLine) (lines : List TranscriptLine) (place : ℕ)
    → checker_from checker (line ∷ lines) (suc place) ≡ checker_from (next checker line) lines place
later checker line lines zero = refl
later checker line lines (suc place) =
    ap (λ c. checker_with c (is_sent_at lines place) (observation_at lines place)) (later checker line lines place)

broken-later : (checker : Checker) (line : TranscriptLine) (lines : List TranscriptLine) (place : ℕ)
    → broken_at checker (line ∷ lines) (suc place) ≡ broken_at (next checker line) lines place
broken-later checker line lines place =
    ap (λ c. option_and_then (λ l. option_map (broken_on l.number) (found_by c (is_sent_at lines place) (observation_at lines place))) (slice_get lines place))
    (later checker line lines place)

broken-more : (checker : Checker) (line : TranscriptLine) (lines : List TranscriptLine)
    → broken_first checker (line ∷ lines)
    ≡ option_or (option_map (broken_on line.number) (found_by checker line.from_cpu (observation_on line))) (broken_first (next checker line) lines)
broken-more checker line lines =
    earliest-first (broken_at checker (line ∷ lines)) (length lines)
    ∙ ap (option_or (broken_at checker (line ∷ lines) 0))
    (earliest-same (λ below. broken_at checker (line ∷ lines) (suc below)) (broken_at (next checker line) lines) (broken-later checker line lines) (length lines))

-- ---- what one finds, if the other one finds nothing

neither : {A B : Type 0} (word : A → B) (found : Option A) (rest : Option B) → option_or (option_map word found) rest ≡ None
    → (found ≡ None) × (rest ≡ None)
neither word None rest none = (refl, none)
neither word (Some found) rest none = absurd (cc)

content-more : (number : ℕ) (found : Option ContentBreach) (rest : Option Accused) (other : Option FoundFault)
    → option_and_then fault_accused rest ≡ other
    → option_and_then fault_accused (option_or (option_map (content_on number) found) rest)
    ≡ option_or (option_map (found_on number) found) other
content-more number None rest other same = same
content-more number (Some found) rest other same = refl

by-content : (checker : Checker) (content : ContentChecking) (lines : List TranscriptLine) → broken_first checker lines ≡ None
    → option_and_then fault_accused (both_find_first checker content lines) ≡ found_first content lines
by-content checker content [] none = refl
by-content checker content (line ∷ lines) none =
    let broken = found_by checker line.from_cpu (observation_on line) in
    let below = checking_with content line.from_cpu line.octets in
    let rest = both_find_first (next checker line) below lines in
    let nothing = neither (broken_on line.number) broken (broken_first (next checker line) lines) (sym (broken-more checker line lines) ∙ none) in
    ap (λ b. option_and_then fault_accused (option_or (option_map (broken_on line.number) b)
    (option_or (option_map (content_on line.number) (found_in_frame content line.from_cpu line.octets)) rest))) nothing.0
    ∙ content-more line.number (found_in_frame content line.from_cpu line.octets) rest (found_first below lines)
    (by-content (next checker line) below lines nothing.1)

by-transcript : (checker : Checker) (content : ContentChecking) (lines : List TranscriptLine) → found_first content lines ≡ None
    → both_find_first checker content lines ≡ broken_first checker lines
by-transcript checker content [] none = refl
by-transcript checker content (line ∷ lines) none =
    let broken = option_map (broken_on line.number) (found_by checker line.from_cpu (observation_on line)) in
    let below = checking_with content line.from_cpu line.octets in
    let rest = both_find_first (next checker line) below lines in
    let nothing = neither (found_on line.number) (found_in_frame content line.from_cpu line.octets) (found_first below lines) none in
    ap (λ c. option_or broken (option_or (option_map (content_on line.number) c) rest)) nothing.0
    ∙ ap (option_or broken) (by-transcript (next checker line) below lines nothing.1)
    ∙ sym (broken-more checker line lines)

pub find_first : (checker : Checker) (content : ContentChecking) (lines : List TranscriptLine) → FindFirst checker content lines
find_first checker content lines = grind (arith, by-content, by-transcript)
