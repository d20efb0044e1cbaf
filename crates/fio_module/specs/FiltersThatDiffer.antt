-- How often to poll if the filters of the open inputs differ, by a plan of which inputs may be open.
use Rattle.std.specs.Prelude.{◌≡◌, ℕ, ◌≤◌, [], ◌++◌, length}
use Rattle.fio_input.specs.FiltersThatDiffer.{Plan, StaysAsPlanned, most_reports}
use Rattle.fio_module.specs.Settings.{Settings}
use Rattle.fio_module.specs.Life.{Life, filter_events}
use Rattle.fio_module.specs.Blocks.{waiting_of}
use Rattle.fio_module.specs.Delivery.{AtEachTime, FewBeyond, NeverTooMany, scans_since_block}

-- Few change, by the plan: nothing waits at the end of `life`; since then the open inputs stay as planned, whatever
-- configurations come; and a block takes all that they can report in n scans, 1 + (n - 1) / f for each input that may be
-- open, with the f of its group.
pub record FewChangeEach (settings : Settings) (plan : Plan) (scans : ℕ) (life later : Life) : Type 0 where
  pub nothing_waits : waiting_of settings life ≡ []
  pub as_planned : StaysAsPlanned plan (filter_events later) (filter_events life)
  pub enough : most_reports plan scans ≤ settings.per_block

-- Polled often, by the plan: few change, and at most `scans` scans lie from one new block to the next.
pub record IsPolledForEach (settings : Settings) (plan : Plan) (scans : ℕ) (life later : Life) : Type 0 where
  pub some_wait : 1 ≤ settings.waiting
  -- the buffer has room for what the open inputs can report in that many scans
  pub room : most_reports plan scans ≤ settings.waiting
  pub few_change : FewChangeEach settings plan scans life later
  pub often : AtEachTime (λ l. scans_since_block l life ≤ scans) later

-- then no more entries wait than they can report in that many scans, and none is pushed out
pub record WaitsForOneBlock (settings : Settings) (plan : Plan) (scans : ℕ) (life : Life) : Type 0 where
  pub few_wait : length (waiting_of settings life) ≤ most_reports plan scans
  pub few_beyond : FewBeyond settings life

-- This holds at each time; and if never more lay beyond the newest block than may wait, that stays so.
pub record LosesNoneOfEach (settings : Settings) (plan : Plan) (scans : ℕ) (life later : Life) : Type 0 where
  pub each : AtEachTime (λ l. WaitsForOneBlock settings plan scans (l ++ life)) later
  pub stays : NeverTooMany settings life → NeverTooMany settings (later ++ life)

-- polled often, by the plan, the module loses nothing
abbrev pub PolledForEachLosesNone : Type 0
PolledForEachLosesNone =
    (settings : Settings) (plan : Plan) (scans : ℕ) (life later : Life) →
    IsPolledForEach settings plan scans life later → LosesNoneOfEach settings plan scans life later
