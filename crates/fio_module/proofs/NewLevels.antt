-- New levels are logged.
use Rattle.fio_module.proofs.Names.{◌≡◌, ℕ, zero, suc, ◌+◌, ◌<◌, Bool, true, List, [], ◌∷◌, ◌++◌, length, Some, slice_get, refl, ap, sym, subst, ◌∙◌, arith, inl, inr, append_assoc, append-nil, if◌then◌else◌, cases_lt, ConfigureInputs, LoadCounter, FilterEvent, Scan, is_reported, input_state, scans_in, Life, Scanned, Commanded, scans_of, filter_events, Transition, transition_at, transitions_below, log_of}
use Rattle.fio_input.proofs.NewLevels.{new_levels_are_reported}
use Rattle.fio_module.specs.NewLevels.{NewLevelsAreLogged}
use Rattle.fio_module.proofs.Growth.{filter_events-append}
use Rattle.fio_module.proofs.Stretches.{log-grown}
use Rattle.fio_module.proofs.ListParts.{get_from_front, get_from_back, get_last}

-- the log begins with what it was
pub later_log : (later life : Life) → (more : List Transition) × (log_of (later ++ life) ≡ log_of life ++ more)
later_log [] life = ([], sym (append-nil (log_of life)))
later_log (Scanned raw ∷ later) life =
    let rest = later_log later life in
    let here = transitions_below 64 raw (later ++ life) in
    (rest.0 ++ here, ap (λ ts. ts ++ here) rest.1 ∙ append_assoc (log_of life) rest.0 here)
later_log (other ∷ later) life = later_log later life

-- how many scans there are after a life
pub scans_of-append : (later life : Life) → scans_of (later ++ life) ≡ scans_in (filter_events later) + scans_of life
scans_of-append [] life = omega arith
scans_of-append (Scanned raw ∷ later) life = let rest = scans_of-append later life in omega arith
scans_of-append (Commanded (ConfigureInputs items) ∷ later) life = scans_of-append later life
scans_of-append (Commanded (LoadCounter load) ∷ later) life = scans_of-append later life
scans_of-append (other ∷ later) life = scans_of-append later life

-- a scan among the events of a life is a scan of the life
pub record HasScan (raw : ℕ) (before : List FilterEvent) (life : Life) : Type 0 where
  pub later : Life
  pub earlier : Life
  pub at : life ≡ later ++ Scanned raw ∷ earlier
  pub same : filter_events earlier ≡ before

above : (raw : ℕ) (before : List FilterEvent) (life : Life) (more : Life) → HasScan raw before life → HasScan raw before (more ++ life)
above raw before life more h =
    record {
      later = more ++ h.later;
      earlier = h.earlier;
      at = ap (λ l. more ++ l) h.at ∙ sym (append_assoc more h.later (Scanned raw ∷ h.earlier));
      same = h.same;
    }

scan_in : (raw : ℕ) (later before : List FilterEvent) (life : Life) → filter_events life ≡ later ++ Scan raw ∷ before
    → HasScan raw before life
scan_in raw [] before [] is = absurd (cc is)
scan_in raw (event ∷ later) before [] is = absurd (cc is)
scan_in raw [] before (Scanned now ∷ life) is =
    let same : now ≡ raw = cc in
    let rest : filter_events life ≡ before = cc in
    record { later = []; earlier = life; at = ap (λ r. Scanned r ∷ life) same; same = rest }
scan_in raw (event ∷ later) before (Scanned now ∷ life) is =
    let rest : filter_events life ≡ later ++ Scan raw ∷ before = cc in
    above raw before life (Scanned now ∷ []) (scan_in raw later before life rest)
scan_in raw [] before (Commanded (ConfigureInputs items) ∷ life) is = absurd (cc is)
scan_in raw (event ∷ later) before (Commanded (ConfigureInputs items) ∷ life) is =
    let rest : filter_events life ≡ later ++ Scan raw ∷ before = cc in
    above raw before life (Commanded (ConfigureInputs items) ∷ []) (scan_in raw later before life rest)
scan_in raw later before (other ∷ life) is = above raw before life (other ∷ []) (scan_in raw later before life is)

-- what a scan reports is among its transitions
pub reported_there : (count raw : ℕ) (life : Life) (input : ℕ) → input < count → is_reported input raw (filter_events life) ≡ true
    → (place : ℕ) × (slice_get (transitions_below count raw life) place ≡ Some (transition_at (Scanned raw ∷ life) input))
unfolding transitions_below
reported_there zero raw life input low is = absurd (omega arith)
reported_there (suc count) raw life input low is =
    elim (cases_lt input count) as
    (λ _. (place : ℕ) × (slice_get (transitions_below (suc count) raw life) place ≡ Some (transition_at (Scanned raw ∷ life) input))) [
      | inl below ↦
          let rest = reported_there count raw life input below is in (
            rest.0,
            get_from_front (transitions_below count raw life)
                (if is_reported count raw (filter_events life) then transition_at (Scanned raw ∷ life) count ∷ [] else []) rest.0
                (transition_at (Scanned raw ∷ life) input) rest.1,
          )
      | inr not_below ↦
          let same : count ≡ input = omega arith in
          let earlier = transitions_below count raw life in
          let here : is_reported count raw (filter_events life) ≡ true = subst (λ i. is_reported i raw (filter_events life) ≡ true) (sym same) is in (
            length earlier,
            ap (λ (now : Bool). slice_get (earlier ++ (if now then transition_at (Scanned raw ∷ life) count ∷ [] else [])) (length earlier)) here
                ∙ get_last earlier (transition_at (Scanned raw ∷ life) count)
                ∙ ap (λ i. Some (transition_at (Scanned raw ∷ life) i)) same,
          )
    ]

-- new levels are logged
pub new_levels_are_logged : NewLevelsAreLogged
new_levels_are_logged input level life later h =
    let r = new_levels_are_reported input level (filter_events later) (filter_events life) h in
    let s = scan_in r.raw r.later r.before later r.at in
    let here = s.earlier ++ life in
    let scanned = Scanned r.raw ∷ here in
    let joined : r.before ++ filter_events life ≡ filter_events here =
    ap (λ es. es ++ filter_events life) (sym s.same) ∙ sym (filter_events-append s.earlier life) in
    let found = reported_there 64 r.raw here input h.present (subst (λ es. is_reported input r.raw es ≡ true) joined r.reported) in
    let transition = transition_at scanned input in
    let place = length (log_of here) + found.0 in
    let there = get_from_back (log_of here) (transitions_below 64 r.raw here) found.0 transition found.1 in
    let whole : later ++ life ≡ s.later ++ scanned =
    ap (λ l. l ++ life) s.at ∙ append_assoc s.later (Scanned r.raw ∷ s.earlier) life in
    let more = later_log s.later scanned in
    let logged = log-grown s.earlier life in
    let scans_whole : scans_of (later ++ life) ≡ scans_of (s.later ++ scanned) = ap scans_of whole in (
      place,
      transition,
      record {
        at = ap (λ l. slice_get (log_of l) place) whole
            ∙ ap (λ ts. slice_get ts place) more.1
            ∙ get_from_front (log_of scanned) more.0 place transition there;
        of_input = refl;
        to_level = subst (λ es. input_state input (Scan r.raw ∷ es) ≡ level) joined r.state;
        since = omega arith;
        after = omega (arith, scans_of-append s.earlier life);
        upto = omega (arith, scans_of-append s.later scanned);
      },
    )
