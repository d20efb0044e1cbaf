-- The frames of a module that was started anew, as a judge of a link sees them that does not know it.
use Rattle.fio_ends.proofs.Names.{◌≡◌, ◌∙◌, ◌==◌, ◌⊎◌, inl, inr, ◌&&◌, not, ℕ, Bool, true, false, List, length, Option, Some, None, refl, ap, sym, arith, if◌then◌else◌, is_some, option_and_then, nat_tests, number_due, facts_with, ◌+◌, ◌≤◌, Answer, says_again, Facts, RuleLimits, first_broken_within, is_some_and, observation_in, observation_of, Watchdog, BLOCK_ANSWER, Breach, ContentRule, Excused, FrameOutcome, Judging, Load, LogPlace, Observation, Restarted, any_stamp_in, any_stamp_of, breach_of, breaks_within, content_here, found_by, found_in_frame, is_absent, is_before, is_set_back, judging_below_outcome, list_any, loads_below, may_be_anew, nat_le, nat_lt, outcome_anew, outcome_in, outcome_set_back, passes_over, place_lost, polls_below, stamp_of, may_answer_anew, outcome_of_content, ContentBreach, says_out_of_sequence}
use Rattle.std.specs.Prelude.{◌||◌}
use Rattle.fio_message.specs.declared.answers.Answer.TheVariants as answers
use Rattle.fio_check.specs.declared.observation.Observation.TheVariants as seen
use Rattle.fio_check.specs.declared.rules.Rule.TheVariants as tried
use Rattle.fio_ends.proofs.Rules.{KeepsRules}
use Rattle.fio_ends.proofs.AnewFrames.{never}

-- ---- a block that is sent again

-- what the facts of a judge that took lines above the life have of its polls: none was sent yet; or they have the same ones
pub record IsUnpolled (facts : Facts) : Type 0 where
  pub polled : is_some facts.polled ≡ true
  pub answered : facts.answered ≡ true
  pub advanced : facts.advanced ≡ true

pub record IsPolled (above facts : Facts) (polls : ℕ) : Type 0 where
  pub polled : above.polled ≡ facts.polled
  pub once : 1 ≤ polls
  pub twice : facts.advanced ≡ false → (above.advanced ≡ false) × (2 ≤ polls)

abbrev pub KnowsPolls : Facts → Facts → ℕ → Type 0
KnowsPolls above facts polls = IsUnpolled facts ⊎ IsPolled above facts polls

-- below a line that is neither a poll nor a block
pub polls_kept : (above facts : Facts) (polls : ℕ) (above_awaited facts_awaited : Option ℕ) (above_named facts_named : Bool) → KnowsPolls above facts polls
    → KnowsPolls (record above { awaited = above_awaited; absent_named = above_named }) (record facts { awaited = facts_awaited; absent_named = facts_named }) polls
polls_kept above facts polls above_awaited facts_awaited above_named facts_named (inl u) = inl (record { polled = u.polled; answered = u.answered; advanced = u.advanced })
polls_kept above facts polls above_awaited facts_awaited above_named facts_named (inr k) = inr (record { polled = k.polled; once = k.once; twice = k.twice })

one_more : (polls least : ℕ) → least ≤ polls + 1 → least ≤ 2 → least ≤ (if nat_lt polls 2 then polls + 1 else 2)
one_more polls least one two = grind arith

-- below a poll
pub polls_polled : (above facts : Facts) (polls number : ℕ) → ((due : ℕ) → number_due facts ≡ Some due → due ≡ number) → KnowsPolls above facts polls
    → KnowsPolls (facts_with above (seen.Poll number)) (facts_with facts (seen.Poll number)) (polls_below polls (seen.Poll number))
polls_polled above facts polls number due is = grind (arith, nat_tests, one_more)

-- such a block breaks no rule but that on the rest, below facts of a judge that took lines above the life
pub record IsAgain (limits : RuleLimits) (above facts : Facts) (polls : ℕ) (said : Observation) : Type 0 where
  pub polled : IsPolled above facts polls
  pub twice : 2 ≤ polls
  pub found : (first_broken_within limits above said ≡ None) ⊎ (first_broken_within limits above said ≡ Some tried.Rest)

pub again_found : (limits : RuleLimits) (above facts : Facts) (polls number status entries : ℕ) (absent : Bool) → says_again status ≡ true → above.awaited ≡ facts.awaited
    → KnowsPolls above facts polls → KeepsRules limits facts (seen.Block number status entries absent) → IsAgain limits above facts polls (seen.Block number status entries absent)
again_found limits above facts polls number status entries absent again awaited (inl u) keeps =
    absurd (let both : true ≡ false = sym (rw (again, u.advanced) refl) ∙ keeps tried.Same in cc both)
again_found limits above facts polls number status entries absent again awaited (inr k) keeps = record {
  polled = k;
  twice = twice.1;
  found = by (breaks_within limits above said tried.Rest) refl;
}
  where
    said : Observation
    said = seen.Block number status entries absent

    advanced : facts.advanced ≡ false
    advanced = sym (ap (λ a. a && facts.advanced) again) ∙ keeps tried.Same

    twice : (above.advanced ≡ false) × (2 ≤ polls)
    twice = k.twice advanced

    pair : breaks_within limits above said tried.Pair ≡ false
    pair = ap (λ a. not (is_some_and a (λ awaited. awaited == BLOCK_ANSWER))) awaited ∙ keeps tried.Pair

    numbered : breaks_within limits above said tried.Number ≡ false
    numbered = ap (λ p. is_some_and p (λ polled. not (number == polled))) k.polled ∙ keeps tried.Number

    same : breaks_within limits above said tried.Same ≡ false
    same = ap (λ a. says_again status && a) twice.0 ∙ never (says_again status)

    sequence : breaks_within limits above said tried.Sequence ≡ false
    sequence = ap (λ a. says_out_of_sequence status && (a || is_some above.more)) again ∙ sym (ap (λ a. says_out_of_sequence status && (a || is_some facts.more)) again)
        ∙ keeps tried.Sequence

    by : (rest : Bool) → breaks_within limits above said tried.Rest ≡ rest → (first_broken_within limits above said ≡ None) ⊎ (first_broken_within limits above said ≡ Some tried.Rest)
    by true rest = inr (rw (pair, numbered, same, sequence, keeps tried.RuleLimits, rest) refl)
    by false rest = inl (rw (pair, numbered, same, sequence, keeps tried.RuleLimits, rest) refl)

-- an answer with a stamp that is none for those that follow is such a block
pub record IsBlockAgain (answer : Option Answer) : Type 0 where
  pub number : ℕ
  pub status : ℕ
  pub count : ℕ
  pub absent : Bool
  pub stamp : ℕ
  pub again : says_again status ≡ true
  pub said : observation_of None answer ≡ seen.Block number status count absent
  pub any : option_and_then any_stamp_of answer ≡ Some stamp
  pub may : (judging : Judging) → is_some_and answer (may_answer_anew judging)
      ≡ (says_again status && nat_le 2 judging.polls && is_some_and judging.latest (is_before stamp))

says_again_by : (again : Bool) (stamp : ℕ) → is_some (if again then None else Some stamp) ≡ false → again ≡ true
says_again_by true stamp is = refl
says_again_by false stamp is = absurd (cc is)

pub block_again : (answer : Option Answer) → is_some (option_and_then any_stamp_of answer) ≡ true → is_some (option_and_then stamp_of answer) ≡ false → IsBlockAgain answer
block_again None any is = absurd (cc any)
block_again (Some (answers.Block number entries status stamp)) any is =
    record {
      number = number;
      status = status;
      count = length entries.items;
      absent = list_any (λ entry. is_absent entry.input) entries.items;
      stamp = stamp;
      again = says_again_by (says_again status) stamp is;
      said = refl;
      any = refl;
      may = λ judging. refl;
    }
block_again (Some (answers.Status flags receive transmit stamp)) any is = absurd (cc is)
block_again (Some (answers.RawInputs inputs stamp)) any is = absurd (cc is)
block_again (Some (answers.FilteredInputs inputs stamp)) any is = absurd (cc is)
block_again (Some other) any is = absurd (cc any)

-- ---- the judge

-- below a frame whose stamp is set back
pub set_back_is : (judging : Judging) (at : LogPlace) (from_cpu : Bool) (octets : List ℕ) → passes_over judging.checker from_cpu (observation_in from_cpu octets) ≡ false → is_set_back judging from_cpu octets ≡ true
    → outcome_in judging at from_cpu octets ≡ outcome_set_back judging
set_back_is judging at from_cpu octets over back = rw (over, back) refl

pub either : (may : Bool) → ((if may then Excused Load else Restarted) ≡ Restarted) ⊎ ((if may then Excused Load else Restarted) ≡ Excused Load)
either true = inr refl
either false = inl refl

-- the place is lost below either
pub lost_by : (judging : Judging) (from_cpu : Bool) (octets : List ℕ) (outcome : FrameOutcome) → (outcome ≡ Restarted) ⊎ (outcome ≡ Excused Load)
    → judging_below_outcome outcome judging from_cpu octets ≡ place_lost judging (loads_below judging from_cpu octets) (any_stamp_in from_cpu octets)
lost_by judging from_cpu octets outcome (inl is) = ap (λ o. judging_below_outcome o judging from_cpu octets) is
lost_by judging from_cpu octets outcome (inr is) = ap (λ o. judging_below_outcome o judging from_cpu octets) is

-- a breach of the rule on the watchdog
pub watchdog_is : (judging : Judging) (at : LogPlace) (octets : List ℕ) (breach : ContentBreach) → passes_over judging.checker false (observation_in false octets) ≡ false
    → is_set_back judging false octets ≡ false → found_by judging.checker false (observation_in false octets) ≡ None → found_in_frame (content_here judging) false octets ≡ Some breach → breach.rule ≡ Watchdog
    → outcome_in judging at false octets ≡ Restarted
watchdog_is judging at octets breach over back rules content is = grind arith

-- a block that a module that was restarted may have sent: that shows the restart, or it keeps all rules
content_anew : (breach : ContentBreach) (rule : ContentRule) → outcome_anew true (outcome_of_content breach rule) ≡ Restarted
content_anew breach Watchdog = refl
content_anew breach other = refl

pub anew_is : (judging : Judging) (at : LogPlace) (octets : List ℕ) (number status entries : ℕ) (absent : Bool) → observation_in false octets ≡ seen.Block number status entries absent
    → passes_over judging.checker false (observation_in false octets) ≡ false → is_set_back judging false octets ≡ false → may_be_anew judging false octets ≡ true
    → ((breach : Breach) → found_by judging.checker false (observation_in false octets) ≡ Some breach → breach.rule ≡ tried.Rest)
    → (outcome_in judging at false octets ≡ Restarted)
    ⊎ ((found_by judging.checker false (observation_in false octets) ≡ None) × (found_in_frame (content_here judging) false octets ≡ None))
anew_is judging at octets number status entries absent said over back may rest = grind (arith, content_anew, never)

-- by the first rule that is broken
pub none_of_breach : (limits : RuleLimits) (facts : Facts) (said : Observation) → breach_of limits facts said ≡ None → first_broken_within limits facts said ≡ None
none_of_breach limits facts said is = grind arith

pub breach_is_rest : (limits : RuleLimits) (facts : Facts) (said other : Observation) (breach : Breach) → first_broken_within limits facts said ≡ first_broken_within limits facts other
    → (first_broken_within limits facts other ≡ None) ⊎ (first_broken_within limits facts other ≡ Some tried.Rest) → breach_of limits facts said ≡ Some breach → breach.rule ≡ tried.Rest
breach_is_rest limits facts said other breach same is given7 = grind (arith, never)
