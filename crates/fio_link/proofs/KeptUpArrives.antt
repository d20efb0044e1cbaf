-- Links that are kept up with deliver all.
use Rattle.fio_link.proofs.Names.{◌≡◌, ℕ, ◌+◌, ◌-◌, ◌*◌, ◌≤◌, List, ◌++◌, length, take, drop, map, Some, slice_get, ap, sym, subst, ◌∙◌, arith, inl, inr, map-append, AllByRecursion, flat_map, cases_lt, take_all, scans_in, Settings, AreInRange, Life, life_of, scans_of, loads_of, filter_events, Transition, entry_of, log_of, newest_end, blocks_of, waiting_of, AtEachTime, scans_behind, IsKeptUp, IsYoung, holds_now, behind_each, scans_of-append, Machine, blocks_in, EntryPiece, piece_of, end_recorded, LeadsInTime, timed_item, transitions_arrived, HasGainedAll, LacksOnlyYoung}
use Rattle.std.proofs.Common.{◌/◌}
use Rattle.std.proofs.Math.Nat.{zero-div, mul-zero}
use Rattle.std.proofs.lemmas.List.{append_cancel_left}
use Rattle.fio_module.specs.ExactBounds.{KeepsUpExactly}
use Rattle.fio_module.proofs.ExactBounds.{kept_up_keeps_up_exactly}
use Rattle.fio_module.specs.KeepingUp.{KeepsUp}
use Rattle.fio_module.proofs.Stretches.{HasMade}
use Rattle.fio_link.specs.NewLevels.{RecordsNewLevels}
use Rattle.fio_link.specs.KeptUp.{LacksOnlyYoungExactly}
use Rattle.fio_link.proofs.MadeBlocks.{each-map}
use Rattle.fio_link.proofs.OneLife.{recorded_of, record_of}
use Rattle.fio_link.proofs.Grown.{grows, scans_grown}
use Rattle.fio_link.proofs.Settled.{recorded_end}
use Rattle.fio_link.proofs.Arrivals.{made_since, whole_since, times_since, young_now, waits_from_end}
use Rattle.fio_link.proofs.AnyTime.{lacks_only_young_since}
use Rattle.fio_link.proofs.NewLevels.{records_new_levels, records-later}
use Rattle.fio_link.proofs.LeftOver.{none_left}
use Rattle.fio_link.proofs.KeptUp.{Reached}

module _ (settings : Settings) (range : AreInRange settings) (first : ℕ) (base : Machine) where
  -- since few change, in whatever way, the module keeps up while the blocks are not far behind
  module _ (opened filter scans most : ℕ) (some : 1 ≤ filter) (IsFew : Life → Type 0)
      (older : (later before : Life) → IsFew (later ++ before) → IsFew before)
      (ends : newest_end settings (life_of base.history) ≡ length (log_of (life_of base.history)))
      (keeps : (later : Life) → IsFew later → AtEachTime (λ l. scans_behind scans l (life_of base.history) ≤ most) later
      → AtEachTime (KeepsUp settings opened filter scans (life_of base.history)) later) where
    abbrev life : Life
    life = life_of base.history

    abbrev IsNear : Life → Type 0
    IsNear later = AtEachTime (λ l. scans_behind scans l life ≤ most) later

    -- all arrives
    module _ (behind : ℕ → ℕ) (receipts : List Machine) (receipt last : Machine) (later : Life)
        (r : Reached settings range first base opened filter scans most some IsFew older ends keeps behind receipts receipt last later) (near : behind 0 + r.so_far ≤ most) (stay : IsFew later) where
      abbrev kept : AtEachTime (KeepsUp settings opened filter scans life) later
      kept = keeps later stay (r.near near)

      abbrev made : HasMade settings filter most life later
      made = made_since settings opened filter scans most life later ends kept (r.near near)

      -- how far the record goes
      stands : end_recorded settings last ≡ newest_end settings (later ++ life)
      stands = recorded_end settings last r.all_taken.answered ∙ ap (newest_end settings) r.since

      -- what those blocks hold is what arrived
      are_arrived : drop (length (log_of life)) (take (newest_end settings (later ++ life)) (log_of (later ++ life))) ≡ transitions_arrived settings base last
      are_arrived =
          ap (λ n. drop (length (log_of life)) (take n (log_of (later ++ life)))) (sym stands)
          ∙ ap (λ l. drop (length (log_of life)) (take (end_recorded settings last) (log_of l))) (sym r.since)

      -- the record has gained what those blocks are
      gained : last.items ≡ base.items ++ flat_map recorded_of made.made
      gained =
          let o = r.at_end.since in
          let new : o.rest ≡ made.made =
          append_cancel_left (blocks_in settings base) o.rest made.made (sym o.split ∙ ap (blocks_of settings) r.since ∙ made.blocks) in
          let all : last.round - base.round ≡ length o.rest = omega (arith, r.all_taken.answered, o.made) in
          o.kept
          ∙ ap (λ n. base.items ++ record_of n o.rest) all
          ∙ ap (λ bs. base.items ++ flat_map recorded_of bs) (take_all (length o.rest) o.rest (omega arith) ∙ new)

      pub whole : HasGainedAll settings base last
      whole =
          ap (map piece_of) gained
          ∙ map-append piece_of base.items (flat_map recorded_of made.made)
          ∙ ap (λ ps. map piece_of base.items ++ ps) (whole_since settings opened filter scans most life later ends kept (r.near near)
          ∙ ap (map (λ transition. EntryPiece (entry_of transition))) are_arrived)

      pub times : loads_of (life_of last.history) ≡ loads_of life → most + filter ≤ 65537
          → last.items ≡ base.items ++ map timed_item (transitions_arrived settings base last)
      times none few =
          gained
          ∙ ap (λ its. base.items ++ its) (times_since settings opened filter scans most life later ends kept (r.near near) (ap loads_of (sym r.since) ∙ none) few
          ∙ ap (map timed_item) are_arrived)

      young : AllByRecursion (IsYoung (behind 0 + r.so_far) filter (life_of last.history)) (drop (end_recorded settings last) (log_of (life_of last.history)))
      young =
          let low = r.now in
          subst (λ l. AllByRecursion (IsYoung (behind 0 + r.so_far) filter l) (drop (end_recorded settings last) (log_of l))) (sym r.since)
          (subst (λ n. AllByRecursion (IsYoung (behind 0 + r.so_far) filter (later ++ life)) (drop n (log_of (later ++ life)))) (sym stands)
          (each-map _ _ (λ transition is. omega arith) _ (young_now settings opened filter scans most life later ends kept (r.near near))))

      module _ (between : ℕ) (now : Machine) (t : LeadsInTime settings first between receipt last now) where
        no_fewer : scans_of (life_of last.history) ≤ scans_of (life_of now.history)
        no_fewer =
            let g = grows settings first last now t.leads_on.events t.leads_on.no_restart t.leads_on.leads in
            omega (arith, scans_grown last now g.stretch g.life)

        -- the scans from the end of that round on
        abbrev left : ℕ
        left = between - r.so_far

        since_last : LeadsInTime settings first left last last now
        since_last = record { leads_on = t.leads_on; in_time = omega (arith, t.in_time, no_fewer, r.since_receipt) }

        all : left + (behind 0 + r.so_far) ≡ between + behind 0
        all = omega (arith, t.in_time, no_fewer, r.since_receipt)

        abbrev IsLacking : ℕ → ℕ → Type 0
        IsLacking n f = LacksOnlyYoung n f settings now

        pub late : IsLacking (between + behind 0) filter
        late =
            subst (λ n. IsLacking n filter) all
            (lacks_only_young_since settings range first filter (behind 0 + r.so_far) left base last now some r.all_taken.answered r.at_end young since_last)

        abbrev HasTime : Type 0
        HasTime = (loads_of (life_of last.history) ≡ loads_of life) × (most + filter ≤ 65537)

        -- new levels are recorded, if what the record lacked is no older than so many scans
        levels_by : (rest : ℕ) → AllByRecursion (IsYoung rest 1 (life_of last.history)) (drop (end_recorded settings last) (log_of (life_of last.history)))
            → RecordsNewLevels (left + rest + 1) base now HasTime
        levels_by rest recent =
            records-later base now (left + rest + 1) (left + rest + 1) ((loads_of (life_of last.history) ≡ loads_of life) × (most + (filter - 1) + 1 ≤ 65537)) HasTime (omega arith)
            (λ in_time. (in_time.0, let few = in_time.1 in omega arith))
            (records_new_levels settings range first 1 (most + (filter - 1)) rest left base last now (omega arith) r.at_end.is_open r.all_taken.answered whole
            (λ none few. times none (omega arith)) recent since_last)

        -- and exactly so late, and new levels are recorded so early
        pub exactly : IsKeptUp settings opened filter scans most life later → 1 ≤ settings.waiting
            → (x : LacksOnlyYoungExactly settings opened filter scans (between + behind 0) now)
            × RecordsNewLevels (scans * x.blocks + (between + behind 0) + 1 - filter * (settings.per_block * x.blocks / opened)) base now HasTime
        exactly k some_wait =
            let before = life_of last.history in
            let x = holds_now (KeepsUpExactly settings opened filter scans life) later (kept_up_keeps_up_exactly settings opened filter scans most life later range some_wait k) in
            let gone = filter * (settings.per_block * x.blocks / opened) in
            let made_up = scans * x.blocks in
            let ends : waiting_of settings (later ++ life) ≡ drop (end_recorded settings last) (log_of (later ++ life)) =
            ap (λ n. drop n (log_of (later ++ life))) (waits_from_end settings opened filter scans most life later ends kept (r.near near) ∙ sym stands) in
            let there = subst (λ l. AllByRecursion (λ (transition : Transition). scans_of l + 1 + gone ≤ transition.scans + (made_up + scans_behind scans later life)) (drop (end_recorded settings last) (log_of l))) (sym r.since)
            (subst (AllByRecursion (λ (transition : Transition). scans_of (later ++ life) + 1 + gone ≤ transition.scans + (made_up + scans_behind scans later life))) ends x.young) in
            let low = r.now in
            let whole_time = all in
            let log = drop (end_recorded settings now) (log_of (life_of now.history)) in
            elim (cases_lt (made_up + (behind 0 + r.so_far)) gone) as (λ _.
            (x : LacksOnlyYoungExactly settings opened filter scans (between + behind 0) now)
            × RecordsNewLevels (scans * x.blocks + (between + behind 0) + 1 - filter * (settings.per_block * x.blocks / opened)) base now HasTime) [
              | inl more ↦
                  let recent = each-map _ (IsYoung (behind 0 + r.so_far) 1 before) (λ transition is. omega arith) (drop (end_recorded settings last) (log_of before)) there in
                  let old = lacks_only_young_since settings range first 1 (behind 0 + r.so_far) left base last now (omega arith) r.all_taken.answered r.at_end recent since_last in
                  let none_gone : filter * (settings.per_block * 0 / opened) ≡ 0 =
                  ap (λ n. filter * (n / opened)) (mul-zero settings.per_block) ∙ ap (λ n. filter * n) (zero-div opened) ∙ mul-zero filter in
                  let none_made : scans * 0 ≡ 0 = mul-zero scans in (
                    record { blocks = 0; young = each-map (IsYoung (left + (behind 0 + r.so_far)) 1 (life_of now.history)) _ (λ transition is. omega arith) log old },
                    records-later base now (left + (behind 0 + r.so_far) + 1) _ HasTime HasTime (omega arith) (λ in_time. in_time) (levels_by (behind 0 + r.so_far) recent),
                  )
              | inr less ↦
                  let rest = made_up + (behind 0 + r.so_far) - gone in
                  let recent = each-map _ (IsYoung rest 1 before) (λ transition is. omega arith) (drop (end_recorded settings last) (log_of before)) there in
                  let old = lacks_only_young_since settings range first 1 rest left base last now (omega arith) r.all_taken.answered r.at_end recent since_last in (
                    record { blocks = x.blocks; young = each-map (IsYoung (left + rest) 1 (life_of now.history)) _ (λ transition is. omega arith) log old },
                    records-later base now (left + rest + 1) _ HasTime HasTime (omega arith) (λ in_time. in_time) (levels_by rest recent),
                  )
            ]

        -- and new levels are recorded
        pub levels : RecordsNewLevels (between + behind 0 + filter) base now ((loads_of (life_of last.history) ≡ loads_of life) × (most + filter ≤ 65537))
        levels =
            subst (λ n. RecordsNewLevels (n + filter) base now ((loads_of (life_of last.history) ≡ loads_of life) × (most + filter ≤ 65537))) all
            (records_new_levels settings range first filter most (behind 0 + r.so_far) left base last now some r.at_end.is_open r.all_taken.answered whole times young since_last)

        -- the blocks are near then
        pub near_now : (stretch : Life) → between + behind 0 ≤ most → life_of now.history ≡ stretch ++ (later ++ life) → IsNear (stretch ++ later)
        near_now stretch few is =
            let low = r.now in
            let count : scans_of (life_of now.history) ≡ scans_in (filter_events stretch) + scans_of (later ++ life) =
            ap scans_of is ∙ scans_of-append stretch (later ++ life) in
            let before = ap scans_of r.since in
            behind_each scans life later most stretch (omega (arith, t.in_time, r.since_receipt)) (r.near near)

      pub through : (rounds : ℕ) (earlier : Machine) → opened * (behind rounds + (filter - 1)) ≤ rounds * (settings.per_block * filter)
          → slice_get receipts rounds ≡ Some earlier → length (log_of (life_of earlier.history)) ≤ end_recorded settings last
      through rounds earlier few is =
          let taken = none_left settings filter some (opened * (behind rounds + (filter - 1))) rounds (life_of earlier.history) (life_of last.history) (r.through stay rounds earlier is) few in
          omega (arith, recorded_end settings last r.all_taken.answered)
