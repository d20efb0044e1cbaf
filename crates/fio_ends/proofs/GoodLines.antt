-- In frames that break no rule, one after the other, a checker finds nothing.
use Rattle.fio_ends.proofs.Names.{◌≡◌, ◌∙◌, ◌+◌, ◌<◌, ◌≤◌, inl, inr, ℕ, zero, suc, List, [], ◌∷◌, ◌++◌, length, map, Option, Some, None, refl, ap, ap₂, sym, arith, length-append, append_assoc, slice_get, eqb_tells, facts_with, no_facts, TranscriptLine, observation_in, observation_on, first_broken_within, standard_rule_limits, verdict_on, Facts, RuleLimits, Observation, Good, seen_at, CpuFrame, cpu_frame_on, Breach, Broken, checker_with, earliest_above, found-taking, found_by, option_and_then, option_map, option_or, taking, unwrap_or, with-taking, checker_at, found_at, verdict_found_at, is_sent_at, observation_at, finds_the_first_breach}

-- what a frame says to the rules
abbrev pub said_by : CpuFrame → Observation
said_by frame = observation_in frame.from_cpu frame.octets

-- each of these frames breaks no rule with these limits, below lines of which these facts hold
abbrev pub KeepRules : RuleLimits → Facts → List CpuFrame → Type 0
KeepRules limits facts [] = Unit {0}
KeepRules limits facts (frame ∷ frames) =
    (first_broken_within limits facts (said_by frame) ≡ None) × KeepRules limits (facts_with facts (said_by frame)) frames

line_here : (before rest : List TranscriptLine) (line : TranscriptLine)
    → slice_get (before ++ line ∷ rest) (length before) ≡ Some line
line_here [] rest line = refl
line_here (first ∷ before) rest line = line_here before rest line

-- a checker of the lines above a place finds nothing from there on, if the lines left keep the rules
none_from : (limits : RuleLimits) (lines before rest : List TranscriptLine) (place : ℕ) (facts : Facts) → lines ≡ before ++ rest
    → place ≡ length before → checker_at limits lines place ≡ taking limits facts → KeepRules limits facts (map cpu_frame_on rest)
    → (above : ℕ) → place ≤ above → above < length lines → found_at limits lines above ≡ None
none_from limits lines before [] place facts is at checker kept above low high =
    let all : length lines ≡ length before + 0 = ap length is ∙ length-append before [] in
    absurd (omega arith)
none_from limits lines before (line ∷ rest) place facts is at checker kept above low high =
    let observation = observation_on line in
    let sent = is_sent_at lines place in
    let here : slice_get lines place ≡ Some line =
    ap (slice_get lines) at ∙ ap (λ all. slice_get all (length before)) is ∙ line_here before rest line in
    let seen : observation_at lines place ≡ observation = seen_at lines place line here in
    elim (eqb_tells above place) as (λ _. found_at limits lines above ≡ None) [
      | inl same ↦ rw same.1 (ap₂ (λ known said. found_by known sent said) checker seen ∙ found-taking limits facts sent observation ∙ rw kept.0 refl)
      | inr other ↦
          none_from limits lines (before ++ line ∷ []) rest (suc place) (facts_with facts observation)
          (is ∙ sym (append_assoc before (line ∷ []) rest))
          (let more : length (before ++ line ∷ []) ≡ length before + 1 = length-append before (line ∷ []) in omega arith)
          (ap₂ (λ known said. checker_with known sent said) checker seen ∙ with-taking limits facts sent observation kept.0)
          kept.1 above (omega (arith, other.1)) high
    ]

-- in lines whose frames break no rule a checker finds nothing
pub nothing_found : (limits : RuleLimits) (lines : List TranscriptLine) → KeepRules limits no_facts (map cpu_frame_on lines)
    → (place : ℕ) → place < length lines → found_at limits lines place ≡ None
nothing_found limits lines kept place within = none_from limits lines [] lines 0 no_facts refl refl refl kept place (omega arith) within

-- if nothing is said at any place, nothing is said first
pub none_earliest : {A : Type 0} (says : ℕ → Option A) (below : ℕ) → ((place : ℕ) → place < below → says place ≡ None)
    → earliest_above says below ≡ None
none_earliest says zero none = refl
none_earliest says (suc below) none =
    ap₂ option_or (none_earliest says below (λ place within. none place (omega arith))) (none below (omega arith))

no_verdict : (found : Option Breach) (line : Option TranscriptLine) → found ≡ None
    → option_and_then (λ l. option_map (λ (breach : Breach). Broken l.number breach.rule) found) line ≡ None
no_verdict found None none = refl
no_verdict found (Some line) none = rw none refl

-- if a checker with the limits of TEES 2009 finds nothing, the transcript is good
pub good_if_none : (lines : List TranscriptLine)
    → ((place : ℕ) → place < length lines → found_at standard_rule_limits lines place ≡ None) → verdict_on lines ≡ Good (length lines)
good_if_none lines none =
    sym (finds_the_first_breach lines)
    ∙ ap (λ found. unwrap_or found (Good (length lines)))
    (none_earliest (verdict_found_at lines) (length lines)
    (λ place within. no_verdict (found_at standard_rule_limits lines place) (slice_get lines place) (none place within)))
