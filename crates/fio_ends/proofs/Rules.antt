-- No first rule is broken exactly if none is.
use Rattle.fio_ends.proofs.Names.{◌≡◌, ◌∙◌, ◌-◌, slice_get, Bool, true, false, List, [], ◌∷◌, Some, None, refl, ap, if◌then◌else◌, AllByRecursion, first_broken, first_broken_within, standard_rule_limits, Facts, RuleLimits, Observation, each-at, Rule, breaks_within, find, rule_number, rules, Readable}

-- none of these rules is broken
abbrev KeepsEachOf : (Rule → Bool) → List Rule → Type 0
KeepsEachOf broken tried = AllByRecursion (λ rule. broken rule ≡ false) tried

first_kept : (broken : Rule → Bool) (rule : Rule) (tried : List Rule) (here : Bool) → broken rule ≡ here
    → (find broken tried ≡ None → KeepsEachOf broken tried)
    → (if here then Some rule else find broken tried) ≡ None → KeepsEachOf broken (rule ∷ tried)
first_kept broken rule tried true here further none = absurd (cc none)
first_kept broken rule tried false here further none = (here, further none)

each_kept : (broken : Rule → Bool) (tried : List Rule) → find broken tried ≡ None → KeepsEachOf broken tried
each_kept broken [] none = tt
each_kept broken (rule ∷ tried) none =
    first_kept broken rule tried (broken rule) refl (each_kept broken tried) none

none_broken : (broken : Rule → Bool) (tried : List Rule) → KeepsEachOf broken tried → find broken tried ≡ None
none_broken broken [] kept = refl
none_broken broken (rule ∷ tried) kept =
    ap (λ here. if here then Some rule else find broken tried) kept.0 ∙ none_broken broken tried kept.1

kept_each : (broken : Rule → Bool) (tried : List Rule) → ((rule : Rule) → broken rule ≡ false)
    → KeepsEachOf broken tried
kept_each broken [] kept = tt
kept_each broken (rule ∷ tried) kept = (kept rule, kept_each broken tried kept)

-- each rule is tried, at its number
at_number : (rule : Rule) → slice_get rules (rule_number rule - 1) ≡ Some rule
at_number Readable = refl
at_number rule = refl

kept_of : (broken : Rule → Bool) → KeepsEachOf broken rules → (rule : Rule) → broken rule ≡ false
kept_of broken kept rule = each-at (λ one. broken one ≡ false) rules (rule_number rule - 1) rule kept (at_number rule)

-- a line that says this breaks none of the rules of transcripts with these limits, below lines of which these facts hold
abbrev pub KeepsRules : RuleLimits → Facts → Observation → Type 0
KeepsRules limits facts observation = (rule : Rule) → breaks_within limits facts observation rule ≡ false

-- if no first rule is broken, none is
pub rules_kept_within : (limits : RuleLimits) (facts : Facts) (observation : Observation) → first_broken_within limits facts observation ≡ None
    → KeepsRules limits facts observation
rules_kept_within limits facts observation none =
    kept_of (breaks_within limits facts observation) (each_kept (breaks_within limits facts observation) rules none)

-- with the limits of TEES 2009
pub rules_kept : (facts : Facts) (observation : Observation) → first_broken facts observation ≡ None
    → KeepsRules standard_rule_limits facts observation
rules_kept facts observation none = rules_kept_within standard_rule_limits facts observation none

-- and conversely, with any limits
pub no_rule_broken : (limits : RuleLimits) (facts : Facts) (observation : Observation) → KeepsRules limits facts observation
    → first_broken_within limits facts observation ≡ None
no_rule_broken limits facts observation kept =
    none_broken (breaks_within limits facts observation) rules (kept_each (breaks_within limits facts observation) rules kept)
