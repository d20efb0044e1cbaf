-- One pass over a text, frame by frame, does the same as one over the lines that are read from it.
use Rattle.fio_tool.proofs.Names.{◌≡◌, ◌≢◌, ◌<◌, ◌≤◌, ◌∙◌, ℕ, zero, suc, ◌+◌, ◌==◌, Bool, true, false, List, [], ◌∷◌, map, length, drop, Option, Some, None, Result, Ok, Err, refl, sym, ap, arith, add-one, length-drop, option_map, option_and_then, slice_get, unwrap_or, if◌then◌else◌, result_err, values_or_fault, with_first, lines_of, numbered, with_front, is_skipped, TranscriptLine, observation_on, frame_in, line_in, transcript_in, verdict_in, verdict_of}
use Rattle.std.specs.Option.{option_or}
use Rattle.fio_check.specs.Facts.{facts_at, facts_with}
use Rattle.fio_check.specs.Places.{earliest_above}
use Rattle.fio_check.specs.Rules.{first_broken, rule_broken}
use Rattle.fio_check.specs.Verdicts.{breach_at, verdict_on}
use Rattle.fio_check.specs.declared.facts.Facts.{Facts}
use Rattle.fio_check.specs.declared.observation.Observation.{Observation}
use Rattle.fio_check.specs.declared.rules.Rule.{Rule}
use Rattle.fio_check.specs.declared.verdict.Verdict.{Verdict}
use Rattle.fio_check.specs.declared.verdict.Verdict.TheVariants.{Good, Broken}
use Rattle.fio_check.proofs.BreachesSoFar.{StandsSoFar, stands_after_breach, stands_with_line, verdict_so_far}
use Rattle.fio_tool.specs.Check.{is_good}
use Rattle.fio_tool.specs.Judging.{IsJudged}
use Rattle.fio_tool.specs.declared.transcript.judging.Judging.{Judging}
use Rattle.fio_tool.specs.declared.transcript.lines.TraceError.{TraceError}

-- ---- a text has no more lines than octets

length-with_front : (octet : ℕ) (lines : List (List ℕ)) → length (with_front octet lines) ≤ suc (length lines)
length-with_front octet [] = omega arith
length-with_front octet (line ∷ lines) = omega arith

length-line : (ends : Bool) (octet : ℕ) (lines : List (List ℕ)) (bound : ℕ) → length lines ≤ bound
    → length (if ends then [] ∷ lines else with_front octet lines) ≤ suc bound
length-line true octet lines bound h = omega (arith, h)
length-line false octet lines bound h = omega (arith, h, length-with_front octet lines)

length-lines_of : (text : List ℕ) → length (lines_of text) ≤ length text
length-lines_of [] = omega arith
length-lines_of (octet ∷ rest) = length-line (octet == 10) octet (lines_of rest) (length rest) (length-lines_of rest)

length-one : (skipped : Bool) (number : ℕ) (line : List ℕ) (rest : List (ℕ × List ℕ)) (bound : ℕ) → length rest ≤ bound
    → length (if skipped then rest else (number, line) ∷ rest) ≤ suc bound
length-one true number line rest bound h = omega (arith, h)
length-one false number line rest bound h = omega (arith, h)

length-numbered : (number : ℕ) (lines : List (List ℕ)) → length (numbered number lines) ≤ length lines
length-numbered number [] = omega arith
length-numbered number (line ∷ lines) = length-one (is_skipped line) number line (numbered (suc number) lines) (length lines) (length-numbered (suc number) lines)

pub lines_within : (text : List ℕ) → length (numbered 1 (lines_of text)) ≤ length text
lines_within text = let a = length-lines_of text in let b = length-numbered 1 (lines_of text) in omega (arith, a, b)

-- ---- the lines that are left

-- the first of the lines that remain, and the lines after it
pub first-left : (line : TranscriptLine) (left : Result (List TranscriptLine) TraceError) (below : List TranscriptLine) → with_first (line ∷ []) left ≡ Ok below
    → (rest : List TranscriptLine) × (left ≡ Ok rest) × (below ≡ line ∷ rest)
first-left line (Ok rest) below is = (rest, refl, cc)
first-left line (Err e) below is = absurd (cc)

pub with_first-err : (line : TranscriptLine) (left : Result (List TranscriptLine) TraceError) → result_err (with_first (line ∷ []) left) ≡ result_err left
with_first-err line (Ok rest) = refl
with_first-err line (Err e) = refl

dropped-first : (lines : List TranscriptLine) (place : ℕ) (line : TranscriptLine) (rest : List TranscriptLine) → drop place lines ≡ line ∷ rest
    → (slice_get lines place ≡ Some line) × (drop (suc place) lines ≡ rest) × (place < length lines)
dropped-first [] zero line rest is = absurd (cc)
dropped-first [] (suc place) line rest is = absurd (cc)
dropped-first (first ∷ lines) zero line rest is = (cc, cc, omega arith)
dropped-first (first ∷ lines) (suc place) line rest is =
    let further = dropped-first lines place line rest is in (further.0, further.1, omega (arith, further.2))

-- ---- the course of the pass

pub record IsCourse (lines : List TranscriptLine) (frames : ℕ) (left : List (ℕ × List ℕ)) (judging : Judging) : Type 0 where
  pub left_is : values_or_fault (map line_in left) ≡ Ok (drop frames lines)
  pub within : frames ≤ length lines
  pub stands : StandsSoFar lines frames judging.facts judging.breach

-- one line more, by what the check keeps of it
next-stands : (lines : List TranscriptLine) (place : ℕ) (line : TranscriptLine) → slice_get lines place ≡ Some line
    → (facts facts' : Facts) (breach breach' : Option Verdict)
    → (breach ≢ None → breach' ≡ breach)
    → (breach ≡ None → breach' ≡ option_map (Broken line.number) (first_broken facts (observation_on line)))
    → (breach ≡ None → breach' ≡ None → facts' ≡ facts_with facts (observation_on line))
    → StandsSoFar lines place facts breach → StandsSoFar lines (suc place) facts' breach'
next-stands lines place line here facts facts' (Some verdict) breach' same broken added so_far =
    let is : breach' ≡ Some verdict = same (λ e. absurd (cc)) in
    rw is (stands_after_breach lines place facts facts' verdict so_far)
next-stands lines place line here facts facts' None breach' same broken added so_far =
    let is = broken refl in
    rw is (stands_with_line lines place facts line facts' (first_broken facts (observation_on line)) here refl
    (λ holds. added refl (is ∙ ap (option_map (Broken line.number)) holds)) so_far)

-- the line of a frame
pub line_read : (number : ℕ) (line : List ℕ) (from_cpu : Bool) (octets : List ℕ) → frame_in line ≡ Some (from_cpu, octets)
    → line_in (number, line) ≡ Ok (record { number = number; from_cpu = from_cpu; octets = octets })
line_read number line from_cpu octets is = rw is refl

-- before the first frame
pub first_course : (text : List ℕ) (lines : List TranscriptLine) (judging : Judging) → transcript_in text ≡ Ok lines
    → judging.facts ≡ facts_at lines 0 → judging.breach ≡ None → IsCourse lines 0 (numbered 1 (lines_of text)) judging
first_course text lines judging reads kept none =
    record { left_is = reads; within = omega arith; stands = record { found = none; kept = λ _. kept } }

-- one frame more
pub next_course : (lines : List TranscriptLine) (frames number : ℕ) (text : List ℕ) (left : List (ℕ × List ℕ)) (line : TranscriptLine) (said : Observation) (before after : Judging)
    → line_in (number, text) ≡ Ok line → line.number ≡ number → said ≡ observation_on line → IsJudged before number said after
    → IsCourse lines frames ((number, text) ∷ left) before → IsCourse lines (frames + 1) left after
next_course lines frames number text left line said before after reads numbered says judged course =
    let first = first-left line (values_or_fault (map line_in left)) (drop frames lines) (rw reads at course.left_is) in
    let cut = dropped-first lines frames line first.0 first.2 in
    let broken_by = λ (none : before.breach ≡ None). judged.broken none ∙ ap (λ s. option_map (Broken number) (first_broken before.facts s)) says in
    let added_by = λ (none : before.breach ≡ None) (holds : after.breach ≡ None). judged.kept none holds ∙ ap (facts_with before.facts) says in
    record {
      left_is = first.1 ∙ ap Ok (sym cut.1) ∙ ap (λ n. Ok (drop n lines)) (sym (add-one frames));
      within = omega (arith, cut.2);
      stands = rw add-one (next-stands lines frames line cut.0 before.facts after.facts before.breach after.breach judged.first (rw numbered broken_by) added_by course.stands);
    }

none-left : (lines : List TranscriptLine) (frames : ℕ) → values_or_fault (map line_in []) ≡ Ok (drop frames lines) → frames ≤ length lines → frames ≡ length lines
none-left lines frames left within =
    let none : drop frames lines ≡ [] = cc in
    let count = sym (length-drop frames lines) ∙ ap length none in
    omega (arith, count)

-- no line remains
pub course_end : (lines : List TranscriptLine) (frames : ℕ) (judging : Judging) → IsCourse lines frames [] judging
    → verdict_on lines ≡ unwrap_or judging.breach (Good frames)
course_end lines frames judging course =
    verdict_so_far lines frames judging.facts judging.breach (none-left lines frames course.left_is course.within) course.stands

-- the verdict on what is read
pub verdict_read : (text : List ℕ) (lines : List TranscriptLine) (found verdict : Verdict) → transcript_in text ≡ Ok lines → verdict_on lines ≡ found
    → verdict ≡ found → verdict_in text ≡ Ok verdict
verdict_read text lines found verdict reads is same = ap verdict_of reads ∙ ap Ok (is ∙ sym same)

-- what is read has no fault
pub read_whole : (read : Result (List TranscriptLine) TraceError) → None ≡ result_err read → (lines : List TranscriptLine) × (read ≡ Ok lines)
read_whole (Ok lines) is = (lines, refl)
read_whole (Err e) is = absurd (cc)

-- ---- a good verdict is one without a breach

broken-good : (number : ℕ) (rule : Option Rule) (verdict : Verdict) → option_map (Broken number) rule ≡ Some verdict → is_good verdict ≡ false
broken-good number None verdict is = absurd (cc)
broken-good number (Some rule) verdict is = let same : Broken number rule ≡ verdict = cc in rw (← same) refl

line-good : (line : Option TranscriptLine) (rule : Option Rule) (verdict : Verdict) → option_and_then (λ l. option_map (Broken l.number) rule) line ≡ Some verdict
    → is_good verdict ≡ false
line-good None rule verdict is = absurd (cc)
line-good (Some line) rule verdict is = broken-good line.number rule verdict is

either-good : (earlier here : Option Verdict) (verdict : Verdict) → ((found : Verdict) → earlier ≡ Some found → is_good found ≡ false)
    → ((found : Verdict) → here ≡ Some found → is_good found ≡ false) → option_or earlier here ≡ Some verdict → is_good verdict ≡ false
either-good None here verdict above now is = now verdict is
either-good (Some found) here verdict above now is = above verdict is

earliest-good : (lines : List TranscriptLine) (place : ℕ) (verdict : Verdict) → earliest_above (breach_at lines) place ≡ Some verdict → is_good verdict ≡ false
earliest-good lines zero verdict is = absurd (cc)
earliest-good lines (suc place) verdict is =
    either-good (earliest_above (breach_at lines) place) (breach_at lines place) verdict (earliest-good lines place)
    (line-good (slice_get lines place) (rule_broken lines place)) is

unbroken-by : (breach : Option Verdict) (frames : ℕ) → ((found : Verdict) → breach ≡ Some found → is_good found ≡ false)
    → is_good (unwrap_or breach (Good frames)) ≡ true → breach ≡ None
unbroken-by None frames bad is = refl
unbroken-by (Some verdict) frames bad is = let broken = bad verdict refl in absurd (cc)

pub unbroken_end : (lines : List TranscriptLine) (frames : ℕ) (left : List (ℕ × List ℕ)) (judging : Judging) (verdict : Verdict) → IsCourse lines frames left judging
    → verdict ≡ unwrap_or judging.breach (Good frames) → is_good verdict ≡ true → judging.breach ≡ None
unbroken_end lines frames left judging verdict course same is =
    unbroken-by judging.breach frames (λ found here. earliest-good lines frames found (sym course.stands.found ∙ here)) (rw same at is)

-- a line that breaks nothing is below lines that break nothing
pub still_none : (breach breach' : Option Verdict) → (breach ≢ None → breach' ≡ breach) → breach' ≡ None → breach ≡ None
still_none None breach' same none = refl
still_none (Some verdict) breach' same none = let kept = same (λ e. absurd (cc)) in absurd (cc)
