-- Each new block takes everything that waits, if the filters of the open inputs let no more come than it takes.
use Rattle.fio_module.proofs.Names.{ℕ, ◌≤◌, [], ◌∷◌, ◌++◌, length, arith, Settings, Life, waiting_of, AtEachTime, FewBeyond, scans_behind}
use Rattle.fio_input.specs.FiltersThatDiffer.{Plan, most_reports}
use Rattle.fio_input.proofs.FiltersThatDiffer.{most_reports-more}
use Rattle.fio_module.specs.FiltersThatDiffer.{WaitsForOneBlock, PolledForEachLosesNone}
use Rattle.fio_module.proofs.Polling.{each_time-append, behind_each}
use Rattle.fio_module.proofs.KeptUpForEach.{KeepsUpForEach, kept_up_for_each}

module _ (settings : Settings) (plan : Plan) (scans : ℕ) (life : Life) where
  abbrev WaitsForOne : Life → Type 0
  WaitsForOne later = WaitsForOneBlock settings plan scans (later ++ life)

  abbrev IsNear : Life → Type 0
  IsNear later = scans_behind scans later life ≤ scans

  pub each_few : (later : Life) → AtEachTime WaitsForOne later → AtEachTime (λ l. FewBeyond settings (l ++ life)) later
  each_few [] each = each.few_beyond
  each_few (occurrence ∷ later) each = (each.0.few_beyond, each_few later each.1)

  -- blocks that are made often are at most that many scans behind
  waits_for_one : (later : Life) → IsNear later → KeepsUpForEach settings plan scans life later → WaitsForOne later
  waits_for_one later near k =
      let few : most_reports plan (scans_behind scans later life) ≤ most_reports plan scans = most_reports-more plan (scans_behind scans later life) scans near in
      let reported : length (waiting_of settings (later ++ life)) ≤ most_reports plan (scans_behind scans later life) = k.few_reported in
      record { few_wait = omega arith; few_beyond = k.few_beyond }

  waits_each : (later : Life) → AtEachTime IsNear later → AtEachTime (KeepsUpForEach settings plan scans life) later → AtEachTime WaitsForOne later
  waits_each [] near each = waits_for_one [] near each
  waits_each (occurrence ∷ later) near each = (waits_for_one (occurrence ∷ later) near.0 each.0, waits_each later near.1 each.1)

-- polled often for each, the module loses none
pub polled_for_each_loses_none : PolledForEachLosesNone
polled_for_each_loses_none settings plan scans life later p =
    let near = behind_each scans life later p.often in
    let each = waits_each settings plan scans life later near
    (kept_up_for_each settings plan scans scans life later p.some_wait (record { few_change = p.few_change; behind = near; room = p.room })) in
    record {
      each = each;
      stays = λ few. each_time-append (FewBeyond settings) later life (each_few settings plan scans life later each) few;
    }
