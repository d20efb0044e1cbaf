-- If blocks keep up with the scans, few entries wait, and they are young.
use Rattle.std.proofs.lemmas.Bool.Decides.{nat_tests}
use Rattle.fio_module.proofs.Names.{◌≡◌, ℕ, zero, suc, ◌+◌, ◌-◌, ◌*◌, ◌≤◌, Bool, true, false, List, [], ◌∷◌, ◌++◌, length, Some, slice_get, refl, ap, subst, ◌∙◌, arith, inl, inr, append_assoc, length-drop, mul-le-mul_left, mul-le-mul_right, le_of_mul-le-mul_right, cases_lt, Poll, ConfigureInputs, scans_in, all_reports_in, AtEachScan, HasFewOpen, FewStayOpen, FilterEvent, at_each_scan-back, at_each_scan-front, reports_times_filter, Settings, Life, Occurrence, Scanned, Commanded, scans_of, filter_events, Transition, log_of, newest_poll, is_new, blocks_of, next_block, newest_end, start_after, count_from, waiting_from, waiting_of, AtEachTime, FewBeyond, scans_behind, IsYoung, KeepsUp}
use Rattle.fio_module.proofs.Ends.{last_end-append}
use Rattle.fio_module.proofs.BlockLaws.{blocks_end_within}
use Rattle.fio_module.proofs.Losses.{holds_now}
use Rattle.fio_module.proofs.Growth.{filter_events-append, log-grows}
use Rattle.fio_module.proofs.ListParts.{each-from_get, get_in_drop}
use Rattle.fio_module.proofs.Ages.{was_logged, scans_in-append}

-- what holds at each scan held at each before and holds at each since
pub each_before : (P : List FilterEvent → Type 0) (later before life : Life) → AtEachScan P (filter_events (later ++ before)) (filter_events life)
    → AtEachScan P (filter_events before) (filter_events life)
each_before P later before life each = grind (arith, nat_tests, at_each_scan-back, filter_events-append)

pub each_since : (P : List FilterEvent → Type 0) (later before life : Life) → AtEachScan P (filter_events (later ++ before)) (filter_events life)
    → AtEachScan P (filter_events later) (filter_events (before ++ life))
each_since P later before life each = grind (arith, nat_tests, filter_events-append, at_each_scan-front)

-- if nothing waits, the newest block ends where the log ends
pub nothing_left : (settings : Settings) → 1 ≤ settings.waiting → (life : Life) → length (waiting_of settings life) ≡ 0
    → newest_end settings life ≡ length (log_of life)
nothing_left settings some life none = grind (arith, nat_tests, length-drop, blocks_end_within)

-- Since a time at which everything was taken, `full` whole blocks were taken, each of which made up for `scans` scans.
pub record IsPaced (settings : Settings) (scans : ℕ) (life later : Life) : Type 0 where
  pub since : Life
  pub before : Life
  pub split : later ≡ since ++ before
  pub full : ℕ
  pub ended : newest_end settings (later ++ life) ≡ length (log_of (before ++ life)) + settings.per_block * full
  pub scanned : scans_in (filter_events since) ≤ scans * full + scans_behind scans later life

-- Reports that are few for their scans are few for the blocks: a bound on those that the blocks leave, `age` scans later.
few_at_pace : (reports left filter opened scans count age full behind per_block : ℕ)
    → reports * filter + opened * 1 ≤ opened * (count + filter)
    → count + age ≤ scans * full + behind → opened * scans ≤ per_block * filter
    → left + per_block * full ≤ reports
    → left * filter + opened * (age + 1) ≤ opened * (behind + filter)
few_at_pace reports left filter opened scans count age full behind per_block few counted enough more =
    let in_all : opened * (count + age) ≤ opened * (scans * full + behind) = mul-le-mul_left opened counted in
    let by_blocks : opened * (scans * full + behind) ≡ (opened * scans) * full + opened * behind = grind arith in
    let whole : (opened * scans) * full ≤ (per_block * filter) * full = mul-le-mul_right full enough in
    let turned : (per_block * filter) * full ≡ (per_block * full) * filter = grind arith in
    let times : (left + per_block * full) * filter ≤ reports * filter = mul-le-mul_right filter more in
    omega arith

-- so none is left `age` scans later, if that is at least the scans behind and the filter together
young_at_pace : (left filter opened age behind : ℕ) → 1 ≤ left → 1 ≤ filter
    → left * filter + opened * (age + 1) ≤ opened * (behind + filter) → age + 2 ≤ behind + filter
young_at_pace left filter opened age behind one some few = grind (arith, nat_tests, cases_lt, mul-le-mul_left, mul-le-mul_right)

module _ (settings : Settings) (opened filter scans most : ℕ) (life : Life) (some : 1 ≤ filter)
    (enough : opened * scans ≤ settings.per_block * filter)
    (room : opened * (most + (filter - 1)) ≤ settings.waiting * filter) where
  -- few inputs stay open
  abbrev IsFew : Life → Type 0
  IsFew later = FewStayOpen opened filter (filter_events later) (filter_events life)

  -- how many are beyond the newest block
  abbrev beyond : Life → ℕ
  beyond later = length (log_of (later ++ life)) - newest_end settings (later ++ life)

  -- what the log gained, from one time to another
  record HasGained (upto before : Life) : Type 0 where
    pub reports : ℕ
    pub gained : length (log_of (upto ++ (before ++ life))) ≡ length (log_of (before ++ life)) + reports
    pub few : reports * filter + opened * 1 ≤ opened * (scans_in (filter_events upto) + filter)

  has_gained : (upto before : Life) → IsFew (upto ++ before) → HasGained upto before
  has_gained upto before few =
      let rest = before ++ life in
      record {
        reports = all_reports_in (filter_events upto) (filter_events rest);
        gained = log-grows upto rest;
        few = reports_times_filter opened filter (filter_events upto) (filter_events rest) some (each_since (HasFewOpen opened filter) upto before life few);
      }

  -- few are beyond the newest block
  bound : (later : Life) → IsFew later → IsPaced settings scans life later
      → beyond later * filter + opened * 1 ≤ opened * (scans_behind scans later life + filter)
  bound later stay p =
      let g = has_gained p.since p.before (subst IsFew p.split stay) in
      let whole : later ++ life ≡ p.since ++ (p.before ++ life) = ap (λ l. l ++ life) p.split ∙ append_assoc p.since p.before life in
      let grown = ap (λ l. length (log_of l)) whole in
      let within : newest_end settings (later ++ life) ≤ length (log_of (later ++ life)) = blocks_end_within settings (later ++ life) in
      few_at_pace g.reports (beyond later) filter opened scans (scans_in (filter_events p.since)) 0 p.full
      (scans_behind scans later life) settings.per_block g.few (omega (arith, p.scanned)) enough
      (omega (arith, g.gained, p.ended))

  -- so no more wait than may
  few_beyond : (later : Life) → scans_behind scans later life ≤ most
      → beyond later * filter + opened * 1 ≤ opened * (scans_behind scans later life + filter)
      → FewBeyond settings (later ++ life)
  few_beyond later near few =
      let most_behind : opened * (scans_behind scans later life + filter) ≤ opened * (most + filter) = mul-le-mul_left opened (omega arith) in
      let one_less : opened * (most + filter) ≡ opened * (most + (filter - 1)) + opened = one_more most filter some in
      let product : beyond later * filter ≤ settings.waiting * filter = omega arith in
      let most_beyond : beyond later ≤ settings.waiting = le_of_mul-le-mul_right product (omega arith) in
      omega arith
    where
      one_more : (a b : ℕ) → 1 ≤ b → opened * (a + b) ≡ opened * (a + (b - 1)) + opened
      one_more a zero le = absurd (omega arith)
      one_more a (suc b) le = let same : suc b - 1 ≡ b = omega arith in rw same (grind arith)

  -- none of them is old
  young : (later : Life) → IsFew later → IsPaced settings scans life later
      → (place : ℕ) (transition : Transition) → newest_end settings (later ++ life) ≤ place
      → slice_get (log_of (later ++ life)) place ≡ Some transition
      → IsYoung (scans_behind scans later life) filter (later ++ life) transition
  young later stay p place transition high is =
      let rest = p.before ++ life in
      let whole : later ++ life ≡ p.since ++ rest = ap (λ l. l ++ life) p.split ∙ append_assoc p.since p.before life in
      let is' = subst (λ l. slice_get (log_of l) place ≡ Some transition) whole is in
      let w = was_logged p.since rest place transition (omega (arith, p.ended)) is' in
      let stay' = subst IsFew (p.split ∙ ap (λ l. l ++ p.before) w.split ∙ append_assoc w.after w.upto p.before) stay in
      let g = has_gained w.upto p.before (each_before (HasFewOpen opened filter) w.after (w.upto ++ p.before) life stay') in
      let counts = ap (λ l. scans_in (filter_events l)) w.split ∙ scans_in-append w.after w.upto in
      let left = place + 1 - newest_end settings (later ++ life) in
      let age = scans_in (filter_events w.after) in
      let few = few_at_pace g.reports left filter opened scans (scans_in (filter_events w.upto)) age p.full
      (scans_behind scans later life) settings.per_block g.few (omega (arith, p.scanned)) enough
      (omega (arith, g.gained, p.ended, w.logged)) in
      let recent = young_at_pace left filter opened age (scans_behind scans later life) (omega arith) some few in
      let now = ap scans_of whole in
      omega (arith, w.age)

  -- something happens that makes no block, adds nothing to the log, and is no scan
  paced-other : (later : Life) (occurrence : Occurrence)
      → newest_end settings (occurrence ∷ (later ++ life)) ≡ newest_end settings (later ++ life)
      → scans_behind scans (occurrence ∷ later) life ≡ scans_behind scans later life
      → ((since : Life) → scans_in (filter_events (occurrence ∷ since)) ≡ scans_in (filter_events since))
      → IsPaced settings scans life later → IsPaced settings scans life (occurrence ∷ later)
  paced-other later occurrence ends recent counts p =
      record {
        since = occurrence ∷ p.since;
        before = p.before;
        split = ap (λ l. occurrence ∷ l) p.split;
        full = p.full;
        ended = ends ∙ p.ended;
        scanned = omega (arith, counts p.since, p.scanned);
      }

  -- a scan
  paced-scan : (later : Life) (raw : ℕ) → IsPaced settings scans life later
      → IsPaced settings scans life (Scanned raw ∷ later)
  paced-scan later raw p =
      record {
        since = Scanned raw ∷ p.since;
        before = p.before;
        split = ap (λ l. Scanned raw ∷ l) p.split;
        full = p.full;
        ended = p.ended;
        scanned = omega (arith, p.scanned);
      }

  -- a new poll, after which nothing waits or a whole block was taken
  paced-new : (later : Life) (number : ℕ) → is_new (newest_poll (later ++ life)) number ≡ true
      → FewBeyond settings (later ++ life)
      → IsPaced settings scans life later → IsPaced settings scans life (Commanded (Poll number) ∷ later)
  paced-new later number new few p =
      let here = later ++ life in
      let polled = Commanded (Poll number) ∷ here in
      let log = log_of here in
      let end = newest_end settings here in
      let start = start_after settings log end in
      let ends : newest_end settings polled ≡ start + count_from settings log start =
      rw new (last_end-append 0 (blocks_of settings here) (next_block settings here)) in
      let behind : scans_behind scans (Commanded (Poll number) ∷ later) life ≡ scans_behind scans later life - scans = rw new refl in
      let within : end ≤ length log = blocks_end_within settings here in
      let begins : start ≡ end = omega arith in
      elim (cases_lt settings.per_block (length log - end)) as (λ _. IsPaced settings scans life (Commanded (Poll number) ∷ later)) [
        | inl more ↦
            let taken : newest_end settings polled ≡ end + settings.per_block = omega arith in
            let one_more : settings.per_block * (p.full + 1) ≡ settings.per_block * p.full + settings.per_block = grind arith in
            let scans_more : scans * (p.full + 1) ≡ scans * p.full + scans = grind arith in
            record {
              since = Commanded (Poll number) ∷ p.since;
              before = p.before;
              split = ap (λ l. Commanded (Poll number) ∷ l) p.split;
              full = p.full + 1;
              ended = omega (arith, p.ended);
              scanned = omega (arith, p.scanned);
            }
        | inr few_left ↦
            let taken : newest_end settings polled ≡ length log = omega arith in
            let nothing : settings.per_block * 0 ≡ 0 = grind arith in
            record {
              since = [];
              before = Commanded (Poll number) ∷ later;
              split = refl;
              full = 0;
              ended = omega arith;
              scanned = omega arith;
            }
      ]

  -- a poll, new or not
  paced-poll : (later : Life) (number : ℕ) (new : Bool) → is_new (newest_poll (later ++ life)) number ≡ new
      → FewBeyond settings (later ++ life)
      → IsPaced settings scans life later → IsPaced settings scans life (Commanded (Poll number) ∷ later)
  paced-poll later number true is few p = paced-new later number is few p
  paced-poll later number false is few p =
      let ends : newest_end settings (Commanded (Poll number) ∷ (later ++ life)) ≡ newest_end settings (later ++ life) = rw is refl in
      let behind : scans_behind scans (Commanded (Poll number) ∷ later) life ≡ scans_behind scans later life = rw is refl in
      paced-other later (Commanded (Poll number)) ends behind (λ since. refl) p

  abbrev IsNear : Life → Type 0
  IsNear later = scans_behind scans later life ≤ most

  -- so from a time at which nothing waits
  pub paced : (later : Life) → newest_end settings life ≡ length (log_of life) → IsFew later
      → AtEachTime IsNear later → IsPaced settings scans life later
  paced [] ends stay near =
      let none_full : settings.per_block * 0 ≡ 0 = grind arith in
      record { since = []; before = []; split = refl; full = 0; ended = omega arith; scanned = omega arith }
  paced (Scanned raw ∷ later) ends stay near = paced-scan later raw (paced later ends stay.1 near.1)
  paced (Commanded (Poll number) ∷ later) ends stay near =
      let p = paced later ends stay near.1 in
      paced-poll later number (is_new (newest_poll (later ++ life)) number) refl
      (few_beyond later (holds_now IsNear later near.1) (bound later stay p)) p
  paced (Commanded (ConfigureInputs items) ∷ later) ends stay near =
      paced-other later (Commanded (ConfigureInputs items)) refl refl (λ since. refl) (paced later ends stay near.1)
  paced (other ∷ later) ends stay near =
      paced-other later other refl refl (λ since. refl) (paced later ends stay near.1)

  -- what holds at such a time
  keeps_up : (later : Life) → newest_end settings life ≡ length (log_of life) → IsFew later
      → AtEachTime IsNear later → KeepsUp settings opened filter scans life later
  keeps_up later ends stay near =
      let p = paced later ends stay near in
      let fewer = bound later stay p in
      let few = few_beyond later (holds_now IsNear later near) fewer in
      let here = later ++ life in
      let waiting = length-drop (waiting_from settings here) (log_of here) in
      let from : waiting_from settings here ≡ newest_end settings here =
      let within : newest_end settings here ≤ length (log_of here) = blocks_end_within settings here in omega arith in
      let count : length (waiting_of settings here) ≡ beyond later = omega arith in
      let one_less : opened * (scans_behind scans later life + filter) ≡ opened * (scans_behind scans later life + (filter - 1)) + opened = one_more (scans_behind scans later life) filter some in
      let products : length (waiting_of settings here) * filter ≡ beyond later * filter = ap (λ n. n * filter) count in
      record {
        few_wait = omega arith;
        few_beyond = few;
        young = each-from_get (IsYoung (scans_behind scans later life) filter here) (waiting_of settings here)
            (λ k transition is. young later stay p (waiting_from settings here + k) transition (omega arith)
            (get_in_drop (waiting_from settings here) (log_of here) k transition is));
      }
    where
      one_more : (a b : ℕ) → 1 ≤ b → opened * (a + b) ≡ opened * (a + (b - 1)) + opened
      one_more a zero le = absurd (omega arith)
      one_more a (suc b) le = let same : suc b - 1 ≡ b = omega arith in rw same (grind arith)

  -- this holds at each time
  pub keeps_up_each : (later : Life) → newest_end settings life ≡ length (log_of life) → IsFew later
      → AtEachTime IsNear later → AtEachTime (KeepsUp settings opened filter scans life) later
  keeps_up_each [] ends stay near = keeps_up [] ends stay near
  keeps_up_each (occurrence ∷ later) ends stay near = (
    keeps_up (occurrence ∷ later) ends stay near,
    keeps_up_each later ends (each_before (HasFewOpen opened filter) (occurrence ∷ []) later life stay) near.1,
  )
