-- What waits if a module is kept up with, each input with its own filters: what the latest scans reported.
use Rattle.fio_module.proofs.Names.{◌≡◌, ℕ, zero, suc, ◌+◌, ◌-◌, ◌*◌, ◌≤◌, Bool, true, false, [], ◌∷◌, ◌++◌, length, drop, AllByRecursion, Some, slice_get, refl, ap, sym, ◌∙◌, subst, arith, inl, inr, append_assoc, length-append, length-drop, cases_lt, Poll, ConfigureInputs, scans_in, Settings, Life, Occurrence, Scanned, Commanded, scans_of, filter_events, Transition, log_of, newest_poll, is_new, blocks_of, next_block, newest_end, waiting_from, waiting_of, AtEachTime, FewBeyond, scans_behind, IsYoung}
use Rattle.fio_input.specs.FiltersThatDiffer.{Plan, IsAsPlanned, StaysAsPlanned, most_reports}
use Rattle.fio_input.proofs.FiltersThatDiffer.{reports_are_few_of_each, most_reports-more}
use Rattle.fio_module.specs.FiltersThatDiffer.{FewChangeEach}
use Rattle.fio_module.proofs.Ages.{scans_in-append, was_logged}
use Rattle.fio_module.proofs.ExactBounds.{no_scan}
use Rattle.fio_module.proofs.Growth.{log-grows}
use Rattle.fio_module.proofs.ListParts.{each-from_get, get_in_drop}
use Rattle.fio_module.proofs.Pace.{each_before, each_since, nothing_left}
use Rattle.fio_module.proofs.Stretches.{blocks_new, behind_new, end_after_block, log-grown}

-- Kept up with, by the plan: few change, the blocks are never more than `most` scans behind, and the buffer has room for what
-- the open inputs can report in these scans.
pub record IsKeptUpForEach (settings : Settings) (plan : Plan) (scans most : ℕ) (life later : Life) : Type 0 where
  pub few_change : FewChangeEach settings plan scans life later
  pub behind : AtEachTime (λ l. scans_behind scans l life ≤ most) later
  pub room : most_reports plan most ≤ settings.waiting

-- What holds then, if the blocks are b scans behind: no more entries wait than are taken by the blocks that make up for b
-- scans, nor than the open inputs can report in b scans; none is pushed out, and none that waits is older than b - 1 scans.
pub record KeepsUpForEach (settings : Settings) (plan : Plan) (scans : ℕ) (life later : Life) : Type 0 where
  pub few_wait :
      (blocks : ℕ) → scans_behind scans later life ≤ blocks * scans
      → length (waiting_of settings (later ++ life)) ≤ blocks * settings.per_block
  pub few_reported : length (waiting_of settings (later ++ life)) ≤ most_reports plan (scans_behind scans later life)
  pub few_beyond : FewBeyond settings (later ++ life)
  pub young : AllByRecursion (IsYoung (scans_behind scans later life) 1 (later ++ life)) (waiting_of settings (later ++ life))

-- a stretch in two parts, of which the first has at most n scans
record Parts (n : ℕ) (since : Life) : Type 0 where
  new : Life
  old : Life
  both : since ≡ new ++ old
  few : scans_in (filter_events old) ≤ n
  rest : scans_in (filter_events new) ≤ scans_in (filter_events since) - n

parts : (n : ℕ) (since : Life) → Parts n since
parts n [] = record { new = []; old = []; both = refl; few = omega arith; rest = omega arith }
parts n (Scanned raw ∷ since) =
    let p = parts n since in
    let few = p.few in
    let rest = p.rest in
    elim (cases_lt (scans_in (filter_events since)) n) as (λ _. Parts n (Scanned raw ∷ since)) [
      | inl short ↦ record { new = []; old = Scanned raw ∷ since; both = refl; few = omega arith; rest = omega arith }
      | inr long ↦ record { new = Scanned raw ∷ p.new; old = p.old; both = ap (λ l. Scanned raw ∷ l) p.both; few = few; rest = omega arith }
    ]
parts n (Commanded (ConfigureInputs items) ∷ since) =
    let p = parts n since in
    record { new = Commanded (ConfigureInputs items) ∷ p.new; old = p.old; both = ap (λ l. Commanded (ConfigureInputs items) ∷ l) p.both; few = p.few; rest = p.rest }
parts n (other ∷ since) =
    let p = parts n since in
    record { new = other ∷ p.new; old = p.old; both = ap (λ l. other ∷ l) p.both; few = p.few; rest = p.rest }

module _ (settings : Settings) (plan : Plan) (scans : ℕ) (life : Life) (enough : most_reports plan scans ≤ settings.per_block) where
  -- the open inputs stay as planned
  abbrev IsPlanned : Life → Type 0
  IsPlanned later = StaysAsPlanned plan (filter_events later) (filter_events life)

  -- scans report no more than they can
  reported : (most : ℕ) (since before : Life) → IsPlanned (since ++ before) → scans_in (filter_events since) ≤ most
      → length (log_of (since ++ (before ++ life))) ≤ length (log_of (before ++ life)) + most_reports plan most
  reported most since before stay few =
      let rest = before ++ life in
      let more = most_reports-more plan (scans_in (filter_events since)) most few in
      elim (cases_lt 0 (scans_in (filter_events since))) as (λ _. length (log_of (since ++ rest)) ≤ length (log_of rest) + most_reports plan most) [
        | inl once ↦
            let reports = reports_are_few_of_each plan (filter_events since) (filter_events rest) (each_since (IsAsPlanned plan) since before life stay) once in
            omega (arith, log-grows since rest)
        | inr never ↦ omega (arith, no_scan since rest (omega arith))
      ]

  -- `scans` scans report no more than a block takes
  gained : (since before : Life) → IsPlanned (since ++ before) → scans_in (filter_events since) ≤ scans
      → length (log_of (since ++ (before ++ life))) ≤ length (log_of (before ++ life)) + settings.per_block
  gained since before stay few = let once = reported scans since before stay few in omega arith

  -- and a multiple of these scans no more than that many blocks take
  gained_in : (blocks : ℕ) (since before : Life) → IsPlanned (since ++ before) → scans_in (filter_events since) ≤ blocks * scans
      → length (log_of (since ++ (before ++ life))) ≤ length (log_of (before ++ life)) + blocks * settings.per_block
  gained_in zero since before stay few = omega (arith, no_scan since (before ++ life) (omega arith))
  gained_in (suc blocks) since before stay few =
      let p = parts scans since in
      let more : suc blocks * scans ≡ blocks * scans + scans = grind arith in
      let many : suc blocks * settings.per_block ≡ blocks * settings.per_block + settings.per_block = grind arith in
      let fewer = p.rest in
      let split : since ++ before ≡ p.new ++ (p.old ++ before) = ap (λ l. l ++ before) p.both ∙ append_assoc p.new p.old before in
      let stay_split = subst IsPlanned split stay in
      let first = gained p.old before (each_before (IsAsPlanned plan) p.new (p.old ++ before) life stay_split) p.few in
      let rest = gained_in blocks p.new (p.old ++ before) stay_split (omega arith) in
      let whole : length (log_of (since ++ (before ++ life))) ≡ length (log_of (p.new ++ ((p.old ++ before) ++ life))) =
      ap (λ l. length (log_of l)) (sym (append_assoc since before life) ∙ ap (λ l. l ++ life) split ∙ append_assoc p.new (p.old ++ before) life) in
      let same : length (log_of ((p.old ++ before) ++ life)) ≡ length (log_of (p.old ++ (before ++ life))) = ap (λ l. length (log_of l)) (append_assoc p.old before life) in
      omega arith

  -- everything that was logged before the latest scans, by which the blocks are behind, is in blocks
  record IsTaken (later : Life) : Type 0 where
    since : Life
    before : Life
    split : later ≡ since ++ before
    ended : length (log_of (before ++ life)) ≤ newest_end settings (later ++ life)
    scanned : scans_in (filter_events since) ≤ scans_behind scans later life

  taken-other : (later : Life) (occurrence : Occurrence) (t : IsTaken later)
      → newest_end settings (occurrence ∷ (later ++ life)) ≡ newest_end settings (later ++ life)
      → scans_in (filter_events (occurrence ∷ t.since)) ≤ scans_behind scans (occurrence ∷ later) life
      → IsTaken (occurrence ∷ later)
  taken-other later occurrence t ends few =
      let old = t.ended in
      record {
        since = occurrence ∷ t.since;
        before = t.before;
        split = ap (λ l. occurrence ∷ l) t.split;
        ended = omega arith;
        scanned = few;
      }

  taken-poll : (later : Life) (number : ℕ) (new : Bool) → is_new (newest_poll (later ++ life)) number ≡ new
      → IsPlanned later → IsTaken later → IsTaken (Commanded (Poll number) ∷ later)
  taken-poll later number false is stay t =
      let ends : newest_end settings (Commanded (Poll number) ∷ (later ++ life)) ≡ newest_end settings (later ++ life) = rw is refl in
      let behind : scans_behind scans (Commanded (Poll number) ∷ later) life ≡ scans_behind scans later life = rw is refl in
      taken-other later (Commanded (Poll number)) t ends (let few = t.scanned in omega arith)
  taken-poll later number true is stay t =
      let here = later ++ life in
      let p = parts scans t.since in
      let behind = behind_new scans later life number is in
      let more : length (blocks_of settings (Commanded (Poll number) ∷ here)) ≡ length (blocks_of settings here) + 1 =
      ap length (blocks_new settings here number is) ∙ length-append (blocks_of settings here) (next_block settings here ∷ []) in
      let split : later ≡ p.new ++ (p.old ++ t.before) = t.split ∙ ap (λ l. l ++ t.before) p.both ∙ append_assoc p.new p.old t.before in
      let stay_split = subst IsPlanned split stay in
      let first = gained p.old t.before (each_before (IsAsPlanned plan) p.new (p.old ++ t.before) life stay_split) p.few in
      let before = p.old ++ t.before in
      let same : length (log_of (before ++ life)) ≡ length (log_of (p.old ++ (t.before ++ life))) = ap (λ l. length (log_of l)) (append_assoc p.old t.before life) in
      let whole : here ≡ p.new ++ (before ++ life) = ap (λ l. l ++ life) split ∙ append_assoc p.new before life in
      let grown = log-grown p.new (before ++ life) in
      let log_here = ap (λ l. length (log_of l)) whole in
      let old = t.ended in
      let few = t.scanned in
      let rest = p.rest in
      record {
        since = Commanded (Poll number) ∷ p.new;
        before = before;
        split = ap (λ l. Commanded (Poll number) ∷ l) split;
        ended = end_after_block settings here (length (log_of (before ++ life))) (omega arith) (omega arith) (Commanded (Poll number) ∷ []) (omega arith);
        scanned = omega arith;
      }

  taken : (later : Life) → length (log_of life) ≤ newest_end settings life → IsPlanned later → IsTaken later
  taken [] ends stay = record { since = []; before = []; split = refl; ended = ends; scanned = omega arith }
  taken (Scanned raw ∷ later) ends stay =
      let t = taken later ends stay.1 in
      taken-other later (Scanned raw) t refl (let few = t.scanned in omega arith)
  taken (Commanded (Poll number) ∷ later) ends stay =
      taken-poll later number (is_new (newest_poll (later ++ life)) number) refl stay (taken later ends stay)
  taken (Commanded (ConfigureInputs items) ∷ later) ends stay =
      let t = taken later ends stay in
      taken-other later (Commanded (ConfigureInputs items)) t refl t.scanned
  taken (other ∷ later) ends stay =
      let t = taken later ends stay in
      taken-other later other t refl t.scanned

  keeps_up : (most : ℕ) (later : Life) → most_reports plan most ≤ settings.waiting → length (log_of life) ≤ newest_end settings life
      → IsPlanned later → scans_behind scans later life ≤ most → KeepsUpForEach settings plan scans life later
  keeps_up most later room ends stay near =
      let here = later ++ life in
      let t = taken later ends stay in
      let stay_split = subst IsPlanned t.split stay in
      let whole : here ≡ t.since ++ (t.before ++ life) = ap (λ l. l ++ life) t.split ∙ append_assoc t.since t.before life in
      let log_here = ap (λ l. length (log_of l)) whole in
      let few = t.scanned in
      let old = t.ended in
      let count = length-drop (waiting_from settings here) (log_of here) in
      let now = reported (scans_behind scans later life) t.since t.before stay_split few in
      let more = most_reports-more plan (scans_behind scans later life) most near in
      record {
        few_wait = λ blocks low. let taken = gained_in blocks t.since t.before stay_split (omega arith) in omega arith;
        few_reported = omega arith;
        few_beyond = omega arith;
        young = each-from_get (IsYoung (scans_behind scans later life) 1 here) (drop (waiting_from settings here) (log_of here))
            (λ k transition is. of_since t whole (waiting_from settings here + k) transition (omega arith) (get_in_drop (waiting_from settings here) (log_of here) k transition is));
      }
    where
      of_since : (t : IsTaken later) → later ++ life ≡ t.since ++ (t.before ++ life) → (place : ℕ) (transition : Transition)
          → newest_end settings (later ++ life) ≤ place → slice_get (log_of (later ++ life)) place ≡ Some transition
          → IsYoung (scans_behind scans later life) 1 (later ++ life) transition
      of_since t whole place transition high is =
          let rest = t.before ++ life in
          let old = t.ended in
          let w = was_logged t.since rest place transition (omega arith) (subst (λ l. slice_get (log_of l) place ≡ Some transition) whole is) in
          let parted : scans_in (filter_events t.since) ≡ scans_in (filter_events w.after) + scans_in (filter_events w.upto) =
          ap (λ l. scans_in (filter_events l)) w.split ∙ scans_in-append w.after w.upto in
          let counts = ap scans_of whole in
          let few = t.scanned in
          elim (cases_lt 0 (scans_in (filter_events w.upto))) as (λ _. IsYoung (scans_behind scans later life) 1 (later ++ life) transition) [
            | inl once ↦ omega (arith, w.age)
            | inr never ↦ absurd (omega (arith, w.logged, no_scan w.upto rest (omega arith)))
          ]

  keeps_each : (most : ℕ) (later : Life) → most_reports plan most ≤ settings.waiting → length (log_of life) ≤ newest_end settings life
      → IsPlanned later → AtEachTime (λ l. scans_behind scans l life ≤ most) later
      → AtEachTime (KeepsUpForEach settings plan scans life) later
  keeps_each most [] room ends stay near = keeps_up most [] room ends stay near
  keeps_each most (occurrence ∷ later) room ends stay near =
      (keeps_up most (occurrence ∷ later) room ends stay near.0, keeps_each most later room ends (each_before (IsAsPlanned plan) (occurrence ∷ []) later life stay) near.1)

-- this holds at each time
pub kept_up_for_each : (settings : Settings) (plan : Plan) (scans most : ℕ) (life later : Life) → 1 ≤ settings.waiting
    → IsKeptUpForEach settings plan scans most life later → AtEachTime (KeepsUpForEach settings plan scans life) later
kept_up_for_each settings plan scans most life later some k =
    let f = k.few_change in
    let ends = nothing_left settings some life (ap length f.nothing_waits) in
    keeps_each settings plan scans life f.enough most later k.room (omega arith) f.as_planned k.behind
