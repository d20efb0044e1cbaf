-- How many entries wait at most, and how late they are, with blocks and filters counted whole.
use Rattle.std.proofs.lemmas.Bool.Decides.{nat_tests}
use Rattle.fio_module.proofs.Names.{◌≡◌, ℕ, ◌+◌, ◌-◌, ◌*◌, ◌/◌, ◌<◌, ◌≤◌, [], ◌∷◌, ◌++◌, length, Some, slice_get, refl, ap, subst, ◌∙◌, arith, inl, inr, append_assoc, length-drop, mul-le-mul_left, div-mul-le_self, le-div_iff_mul-le, div-lt_iff_lt-mul, cases_lt, ConfigureInputs, scans_in, HasFewOpen, FewStayOpen, reports_are_few, Settings, AreInRange, Life, Occurrence, Scanned, Commanded, scans_of, filter_events, Transition, log_of, newest_end, waiting_from, waiting_of, AtEachTime, scans_behind, IsKeptUp, KeepsUp}
use Rattle.fio_module.specs.ExactBounds.{KeepsUpExactly, KeptUpKeepsUpExactly}
use Rattle.fio_module.proofs.BlockLaws.{blocks_end_within}
use Rattle.fio_module.proofs.Losses.{holds_now}
use Rattle.fio_module.proofs.Growth.{log-grows}
use Rattle.fio_module.proofs.ListParts.{each-from_get, get_in_drop}
use Rattle.fio_module.proofs.Ages.{was_logged, scans_in-append}
use Rattle.fio_module.proofs.Pace.{IsPaced, each_before, each_since, nothing_left, paced}
use Rattle.fio_module.proofs.Polling.{kept_up_keeps_up}

-- more scans have no fewer filters
more_filters : (a b filter : ℕ) → 1 ≤ filter → a ≤ b → a / filter ≤ b / filter
more_filters a b filter some more = grind (arith, nat_tests, div-mul-le_self, le-div_iff_mul-le)

-- if there are fewer blocks than open inputs times a number, there are at most that many for each input
fewer_filters : (blocks opened count : ℕ) → blocks < opened * (1 + count) → blocks / opened ≤ count
fewer_filters blocks opened count less = grind (arith, nat_tests, cases_lt, div-lt_iff_lt-mul)

-- without a scan nothing is logged
pub no_scan : (later life : Life) → scans_in (filter_events later) ≡ 0 → length (log_of (later ++ life)) ≡ length (log_of life)
no_scan [] life none = refl
no_scan (Scanned raw ∷ later) life none = absurd (omega arith)
no_scan (Commanded (ConfigureInputs items) ∷ later) life none = no_scan later life none
no_scan (other ∷ later) life none = no_scan later life none

module _ (settings : Settings) (range : AreInRange settings) (roomy : 1 ≤ settings.waiting) (opened filter scans most : ℕ) (life : Life) where
  abbrev IsFew : Life → Type 0
  IsFew later = FewStayOpen opened filter (filter_events later) (filter_events life)

  -- what the log gained, from one time to another
  gained : (upto before : Life) → 1 ≤ filter → IsFew (upto ++ before)
      → length (log_of (upto ++ (before ++ life)))
      ≤ length (log_of (before ++ life)) + opened * (1 + (scans_in (filter_events upto) - 1) / filter)
  gained upto before some few =
      let rest = before ++ life in
      let reports = reports_are_few opened filter (filter_events upto) (filter_events rest) some (each_since (HasFewOpen opened filter) upto before life few) in
      omega (arith, log-grows upto rest)

  exactly : (later : Life) → IsKeptUp settings opened filter scans most life later → KeepsUpExactly settings opened filter scans life later
  exactly later k =
      let here = later ++ life in
      let p = paced settings opened filter scans most life k.few_change.some k.few_change.enough k.room later
      (nothing_left settings roomy life (ap length k.few_change.nothing_waits)) k.few_change.few_open k.behind in
      let keeps = holds_now (KeepsUp settings opened filter scans life) later (kept_up_keeps_up settings opened filter scans most life later range roomy k) in
      let rest = p.before ++ life in
      let whole : here ≡ p.since ++ rest = ap (λ l. l ++ life) p.split ∙ append_assoc p.since p.before life in
      let stay = subst IsFew p.split k.few_change.few_open in
      let few_beyond = keeps.few_beyond in
      let within : newest_end settings here ≤ length (log_of here) = blocks_end_within settings here in
      let from : waiting_from settings here ≡ newest_end settings here = omega arith in
      let count = length-drop (waiting_from settings here) (log_of here) in
      let grown = ap (λ l. length (log_of l)) whole in
      let g = gained p.since p.before k.few_change.some stay in
      let bound = scans * p.full + scans_behind scans later life in
      let filters_more = more_filters (scans_in (filter_events p.since) - 1) (bound - 1) filter k.few_change.some (omega (arith, p.scanned)) in
      let most_reports = mul-le-mul_left opened (add_one ((scans_in (filter_events p.since) - 1) / filter) ((bound - 1) / filter) filters_more) in
      record {
        blocks = p.full;
        few_wait = omega (arith, p.ended);
        young = each-from_get _ (waiting_of settings here)
            (λ n transition is. young later k p whole stay (waiting_from settings here + n) transition (omega arith)
            (get_in_drop (waiting_from settings here) (log_of here) n transition is));
      }
    where
      add_one : (a b : ℕ) → a ≤ b → 1 + a ≤ 1 + b
      add_one a b le = omega arith

      young : (later : Life) → IsKeptUp settings opened filter scans most life later → (p : IsPaced settings scans life later)
          → later ++ life ≡ p.since ++ (p.before ++ life) → IsFew (p.since ++ p.before)
          → (place : ℕ) (transition : Transition) → newest_end settings (later ++ life) ≤ place
          → slice_get (log_of (later ++ life)) place ≡ Some transition
          → scans_of (later ++ life) + 1 + filter * (settings.per_block * p.full / opened)
          ≤ transition.scans + (scans * p.full + scans_behind scans later life)
      young later k p whole stay place transition high is =
          let rest = p.before ++ life in
          let is' = subst (λ l. slice_get (log_of l) place ≡ Some transition) whole is in
          let w = was_logged p.since rest place transition (omega (arith, p.ended)) is' in
          let stay' = subst IsFew (ap (λ l. l ++ p.before) w.split ∙ append_assoc w.after w.upto p.before) stay in
          let g = gained w.upto p.before k.few_change.some (each_before (HasFewOpen opened filter) w.after (w.upto ++ p.before) life stay') in
          let counts = ap (λ l. scans_in (filter_events l)) w.split ∙ scans_in-append w.after w.upto in
          let now = ap scans_of whole in
          let upto = scans_in (filter_events w.upto) in
          elim (cases_lt 0 upto) as (λ _. scans_of (later ++ life) + 1 + filter * (settings.per_block * p.full / opened)
          ≤ transition.scans + (scans * p.full + scans_behind scans later life)) [
            | inl once ↦
                let few = fewer_filters (settings.per_block * p.full) opened ((upto - 1) / filter) (omega (arith, p.ended, w.logged)) in
                let times : filter * (settings.per_block * p.full / opened) ≤ filter * ((upto - 1) / filter) = mul-le-mul_left filter few in
                let turned : filter * ((upto - 1) / filter) ≡ (upto - 1) / filter * filter = grind arith in
                let low = div-mul-le_self (upto - 1) filter in
                omega (arith, w.age, p.scanned)
            | inr never ↦ absurd (omega (arith, w.logged, p.ended, no_scan w.upto rest (omega arith)))
          ]

  at_each : (later : Life) → IsKeptUp settings opened filter scans most life later → AtEachTime (KeepsUpExactly settings opened filter scans life) later
  at_each [] k = exactly [] k
  at_each (occurrence ∷ later) k = (exactly (occurrence ∷ later) k, at_each later (earlier occurrence later k))
    where
      earlier : (occurrence : Occurrence) (later : Life) → IsKeptUp settings opened filter scans most life (occurrence ∷ later) → IsKeptUp settings opened filter scans most life later
      earlier occurrence later k =
          record {
            few_change =
                record {
                  nothing_waits = k.few_change.nothing_waits;
                  some = k.few_change.some;
                  few_open = each_before (HasFewOpen opened filter) (occurrence ∷ []) later life k.few_change.few_open;
                  enough = k.few_change.enough;
                };
            behind = k.behind.1;
            room = k.room;
          }

-- a module that is kept up with
pub kept_up_keeps_up_exactly : KeptUpKeepsUpExactly
kept_up_keeps_up_exactly settings opened filter scans most life later range roomy k = at_each settings range roomy opened filter scans most life later k
