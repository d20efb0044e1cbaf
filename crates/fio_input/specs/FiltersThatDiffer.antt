-- How many changes scans can report if the filters of the open inputs differ, by a plan of which inputs may be open.
use Rattle.std.specs.Prelude.{◌≡◌, ℕ, ◌+◌, ◌-◌, ◌*◌, ◌/◌, ◌==◌, ◌<◌, ◌≤◌, ◌&&◌, Bool, false, not, min, List}
use Rattle.fio_message.specs.Bits.{bit_of}
use Rattle.fio_message.specs.declared.limits.TheConstants.{INPUTS}
use Rattle.fio_input.specs.FilterRule.{Setting, filter_in_force}
use Rattle.fio_input.specs.FilterHistory.{FilterEvent, input_setting}
use Rattle.fio_input.specs.Delivery.{scans_in, sum_below, all_reports_in, HasFiltersOf, AtEachScan, NoneIsApplied}

-- A plan of which inputs may be open, in groups: the group of an input, given its setting; how many groups there are; and
-- for each group, how many of its inputs may be open at once, and how many samples their filters have at least.
pub record Plan : Type 0 where
  pub group_of : ℕ → Setting → ℕ
  pub groups : ℕ
  pub most_open : ℕ → ℕ
  pub filter_of : ℕ → ℕ

-- whether an input with this setting is open, and in this group
abbrev pub is_open_in : Plan → ℕ → ℕ → Setting → Bool
is_open_in plan group input setting = not setting.ignore && (plan.group_of input setting == group)

-- The open inputs are as planned: each is in one of the groups, no more of a group are open than may be, and their filters
-- in force are at least that of their group.
pub record IsAsPlanned (plan : Plan) (history : List FilterEvent) : Type 0 where
  pub few :
      (group : ℕ)
      → sum_below INPUTS (λ input. bit_of (is_open_in plan group input (input_setting input history))) ≤ plan.most_open group
  pub in_group :
      (input : ℕ) → input < INPUTS → (input_setting input history).ignore ≡ false
      → plan.group_of input (input_setting input history) < plan.groups
  pub filters :
      (input : ℕ) → input < INPUTS → (input_setting input history).ignore ≡ false
      → HasFiltersOf (input_setting input history)
      (filter_in_force (plan.filter_of (plan.group_of input (input_setting input history))))

-- the open inputs are as planned at each scan of these events, which come after a history, whatever configurations come
-- between
abbrev pub StaysAsPlanned : Plan → List FilterEvent → List FilterEvent → Type 0
StaysAsPlanned plan events history = AtEachScan (IsAsPlanned plan) events history

-- the most changes that n scans can report then: 1 + (n - 1) / f for each input that may be open, with the f of its group
abbrev pub most_reports : Plan → ℕ → ℕ
most_reports plan scans =
    sum_below plan.groups (λ group. plan.most_open group * (1 + (scans - 1) / filter_in_force (plan.filter_of group)))

-- Reports are few if the open inputs stay as planned.
abbrev pub ReportsAreFewOfEach : Type 0
ReportsAreFewOfEach =
    (plan : Plan) (events history : List FilterEvent) → StaysAsPlanned plan events history → 1 ≤ scans_in events →
    all_reports_in events history ≤ most_reports plan (scans_in events)

-- the plan of the inputs that are open after a history: each input is a group of its own, with the smaller of its two
-- filters
abbrev pub present_plan : List FilterEvent → Plan
present_plan history =
    record {
      group_of = λ input setting. input;
      groups = INPUTS;
      most_open = λ input. bit_of (not (input_setting input history).ignore);
      filter_of = λ input. min (input_setting input history).leading (input_setting input history).trailing;
    }

-- The open inputs stay as in this plan while no configuration is applied.
abbrev pub NoneAppliedStaysAsPlanned : Type 0
NoneAppliedStaysAsPlanned = (events history : List FilterEvent) → NoneIsApplied events →
    StaysAsPlanned (present_plan history) events history
