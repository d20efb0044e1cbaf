-- What the record lacks at any time.
use Rattle.fio_link.proofs.Names.{◌≡◌, ℕ, zero, suc, ◌+◌, ◌-◌, ◌≤◌, Bool, true, false, List, [], ◌∷◌, ◌++◌, length, take, drop, Some, slice_get, refl, ap, sym, subst, ◌∙◌, arith, inl, inr, append_assoc, append-nil, AllByRecursion, cases_lt, take-append-le, take_all, Poll, scans_in, Settings, AreInRange, Life, Commanded, life_of, scans_of, filter_events, Transition, log_of, MadeBlock, newest_poll, is_new, blocks_of, newest_end, next_block, last_end, end_of_blocks, FollowOneAnother, IsYoung, scans_in-append, later_log, scans_of-append, blocks_follow, get_in_front, blocks_new, blocks_old, Event, Machine, Leads, HaveNoRestart, blocks_in, next_round, end_recorded, LeadsInTime, LacksOnlyYoung}
use Rattle.fio_module.proofs.ExactBounds.{no_scan}
use Rattle.fio_module.proofs.Ages.{was_logged}
use Rattle.fio_module.proofs.ListParts.{each-from_get, get_in_drop}
use Rattle.fio_link.proofs.MadeBlocks.{each-at}
use Rattle.fio_link.proofs.Grown.{grows, scans_grown}
use Rattle.fio_link.proofs.Settled.{IsAlong, along, count_blocks, recorded_end}

-- what is in a list from a place on
pub get_from_drop : {A : Type 0} (n : ℕ) (xs : List A) (k : ℕ) (x : A) → n ≤ k → slice_get xs k ≡ Some x
    → slice_get (drop n xs) (k - n) ≡ Some x
get_from_drop zero xs k x low is = let same : k - 0 ≡ k = omega arith in ap (slice_get xs) same ∙ is
get_from_drop (suc n) [] k x low is = absurd (cc is)
get_from_drop (suc n) (y ∷ xs) zero x low is = absurd (omega arith)
get_from_drop (suc n) (y ∷ xs) (suc k) x low is =
    let same : suc k - suc n ≡ k - n = omega arith in
    ap (slice_get (drop n xs)) same ∙ get_from_drop n xs k x (omega arith) is

-- the blocks begin with what they were
later_poll : (settings : Settings) (later life : Life) (number : ℕ) (new : Bool) → is_new (newest_poll (later ++ life)) number ≡ new
    → (more : List MadeBlock) × (blocks_of settings (later ++ life) ≡ blocks_of settings life ++ more)
    → (more : List MadeBlock) × (blocks_of settings (Commanded (Poll number) ∷ (later ++ life)) ≡ blocks_of settings life ++ more)
later_poll settings later life number true is rest =
    let next = next_block settings (later ++ life) in (
      rest.0 ++ next ∷ [],
      blocks_new settings (later ++ life) number is ∙ ap (λ bs. bs ++ next ∷ []) rest.1
          ∙ append_assoc (blocks_of settings life) rest.0 (next ∷ []),
    )
later_poll settings later life number false is rest = (rest.0, blocks_old settings (later ++ life) number is ∙ rest.1)

later_blocks : (settings : Settings) (later life : Life)
    → (more : List MadeBlock) × (blocks_of settings (later ++ life) ≡ blocks_of settings life ++ more)
later_blocks settings [] life = ([], sym (append-nil (blocks_of settings life)))
later_blocks settings (Commanded (Poll number) ∷ later) life =
    later_poll settings later life number (is_new (newest_poll (later ++ life)) number) refl (later_blocks settings later life)
later_blocks settings (other ∷ later) life = later_blocks settings later life

-- more blocks end no earlier
ends_rise : (log : List Transition) (per_block before n m : ℕ) (blocks : List MadeBlock)
    → FollowOneAnother log per_block before blocks → n ≤ m → last_end before (take n blocks) ≤ last_end before (take m blocks)
ends_rise log per_block before zero zero blocks follow le = omega arith
ends_rise log per_block before zero (suc m) [] follow le = omega arith
ends_rise log per_block before zero (suc m) (block ∷ blocks) follow le =
    let rest = ends_rise log per_block block.end zero m blocks follow.2 (omega arith) in
    omega (arith, follow.0, follow.1.forward, follow.1.ends)
ends_rise log per_block before (suc n) zero blocks follow le = absurd (omega arith)
ends_rise log per_block before (suc n) (suc m) [] follow le = omega arith
ends_rise log per_block before (suc n) (suc m) (block ∷ blocks) follow le =
    ends_rise log per_block block.end n m blocks follow.2 (omega arith)

-- nor does the record
pub end_recorded-later : (settings : Settings) (range : AreInRange settings) (first : ℕ) (base last now : Machine) (events : List Event)
    → HaveNoRestart events → Leads settings first last events now → next_round last.polls ≡ last.round
    → IsAlong settings range first base last → end_recorded settings last ≤ end_recorded settings now
end_recorded-later settings range first base last now events none leads all a =
    let b = along settings range first base last now events none leads a in
    let g = grows settings first last now events none leads in
    let blocks = blocks_in settings last in
    let here = count_blocks settings range first base last a in
    let there = count_blocks settings range first base now b in
    let rest = later_blocks settings g.stretch (life_of last.history) in
    let longer : blocks_in settings now ≡ blocks ++ rest.0 = ap (blocks_of settings) g.life ∙ rest.1 in
    let same : end_of_blocks (take (length blocks) (blocks_in settings now)) ≡ newest_end settings (life_of last.history) =
    ap (λ bs. end_of_blocks (take (length blocks) bs)) longer
    ∙ ap end_of_blocks (take-append-le (length blocks) blocks rest.0 (omega arith) ∙ take_all (length blocks) blocks (omega arith)) in
    let rise = ends_rise (log_of (life_of now.history)) settings.per_block 0 (length blocks) (length (blocks_in settings now) - (next_round now.polls - now.round)) (blocks_in settings now)
    (blocks_follow settings (life_of now.history)) (omega (arith, g.round, b.is_open.always.answers.behind)) in
    omega (arith, recorded_end settings last all)

-- what had not been taken at the end of a clean round, and was young then, and what was logged since then, is young
module _ (settings : Settings) (first filter behind between : ℕ) (last now : Machine) (some : 1 ≤ filter)
    (end : ℕ) (young : AllByRecursion (IsYoung behind filter (life_of last.history)) (drop end (log_of (life_of last.history))))
    (t : LeadsInTime settings first between last last now) where
  pub young_since : (place : ℕ) (transition : Transition) → end ≤ place
      → slice_get (log_of (life_of now.history)) place ≡ Some transition
      → IsYoung (between + behind) filter (life_of now.history) transition
  young_since place transition high is =
      let g = grows settings first last now t.leads_on.events t.leads_on.no_restart t.leads_on.leads in
      let before = life_of last.history in
      let here : slice_get (log_of (g.stretch ++ before)) place ≡ Some transition =
      subst (λ l. slice_get (log_of l) place ≡ Some transition) g.life is in
      let counts : scans_of (life_of now.history) ≡ scans_of (g.stretch ++ before) = ap scans_of g.life in
      let few : scans_in (filter_events g.stretch) ≤ between = omega (arith, scans_grown last now g.stretch g.life, t.in_time) in
      elim (cases_lt place (length (log_of before))) as (λ _. IsYoung (between + behind) filter (life_of now.history) transition) [
        | inl old ↦
            let more = later_log g.stretch before in
            let was = get_in_front (log_of before) more.0 place transition old
            (subst (λ ts. slice_get ts place ≡ Some transition) more.1 here) in
            let recent = each-at (IsYoung behind filter before) (drop end (log_of before)) (place - end)
            transition young (get_from_drop end (log_of before) place transition high was) in
            omega (arith, scans_of-append g.stretch before)
        | inr new ↦
            let w = was_logged g.stretch before place transition new here in
            let parts : scans_in (filter_events g.stretch) ≡ scans_in (filter_events w.after) + scans_in (filter_events w.upto) =
            ap (λ l. scans_in (filter_events l)) w.split ∙ scans_in-append w.after w.upto in
            elim (cases_lt 0 (scans_in (filter_events w.upto))) as (λ _. IsYoung (between + behind) filter (life_of now.history) transition) [
              | inl once ↦ omega (arith, w.age)
              | inr never ↦ absurd (omega (arith, w.logged, no_scan w.upto before (omega arith)))
            ]
      ]

  -- so is everything from that end on
  pub all_young_since : AllByRecursion (IsYoung (between + behind) filter (life_of now.history)) (drop end (log_of (life_of now.history)))
  all_young_since =
      let log = log_of (life_of now.history) in
      each-from_get (IsYoung (between + behind) filter (life_of now.history)) (drop end log)
      (λ k transition is. young_since (end + k) transition (omega arith) (get_in_drop end log k transition is))

module _ (settings : Settings) (range : AreInRange settings) (first filter behind between : ℕ) (base last now : Machine) (some : 1 ≤ filter)
    (all_taken : next_round last.polls ≡ last.round) (a : IsAlong settings range first base last)
    (young : AllByRecursion (IsYoung behind filter (life_of last.history)) (drop (end_recorded settings last) (log_of (life_of last.history))))
    (t : LeadsInTime settings first between last last now) where
  -- so is everything that the record lacks
  pub lacks_only_young_since : LacksOnlyYoung (between + behind) filter settings now
  lacks_only_young_since =
      let rises = end_recorded-later settings range first base last now t.leads_on.events t.leads_on.no_restart t.leads_on.leads all_taken a in
      let log = log_of (life_of now.history) in
      each-from_get (IsYoung (between + behind) filter (life_of now.history)) (drop (end_recorded settings now) log)
      (λ k transition is. young_since settings first filter behind between last now some (end_recorded settings last) young t (end_recorded settings now + k) transition (omega arith) (get_in_drop (end_recorded settings now) log k transition is))
