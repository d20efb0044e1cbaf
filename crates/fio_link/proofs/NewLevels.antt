-- New levels are recorded.
use Rattle.fio_link.proofs.Names.{◌≡◌, ℕ, zero, suc, ◌+◌, ◌-◌, ◌<◌, ◌≤◌, List, [], ◌∷◌, ◌++◌, length, take, drop, map, Some, slice_get, option_map, ap, sym, subst, ◌∙◌, arith, inl, inr, AllByRecursion, cases_lt, map-append, length-map, slice_get-map, Settings, AreInRange, life_of, loads_of, scans_of, Transition, entry_of, log_of, blocks_end_within, log-grown, get_in_front, later_log, scans_of-append, Machine, next_round, Piece, EntryPiece, piece_of, end_recorded, IsYoung, LeadsInTime, timed_item, transitions_arrived, HasGainedAll}
use Rattle.fio_module.proofs.ListParts.{get_from_front, get_from_back}
use Rattle.fio_module.proofs.NewLevels.{new_levels_are_logged}
use Rattle.fio_link.specs.Settled.{HaveTheirTimes}
use Rattle.fio_link.specs.NewLevels.{HasGained, RecordsNewLevels}
use Rattle.fio_link.proofs.Grown.{grows}
use Rattle.fio_link.proofs.Settled.{IsOpen, recorded_end}
use Rattle.fio_link.proofs.AnyTime.{get_from_drop, young_since}
use Rattle.fio_link.proofs.Gained.{gains}

get_from_take : {A : Type 0} (n : ℕ) (xs : List A) (k : ℕ) (x : A) → k < n → slice_get xs k ≡ Some x → slice_get (take n xs) k ≡ Some x
get_from_take zero xs k x low is = absurd (omega arith)
get_from_take (suc n) [] k x low is = absurd (cc is)
get_from_take (suc n) (y ∷ xs) zero x low is = is
get_from_take (suc n) (y ∷ xs) (suc k) x low is = get_from_take n xs k x (omega arith) is

get_from_map : {A B : Type 0} (f : A → B) (xs : List A) (k : ℕ) (x : A) → slice_get xs k ≡ Some x → slice_get (map f xs) k ≡ Some (f x)
get_from_map f xs k x is = slice_get-map f xs k ∙ ap (option_map f) is

-- what is recorded so early is recorded no later, and with its time under more premises
pub records-later : (machine now : Machine) (early late : ℕ) (in_time premises : Type 0) → early ≤ late → (premises → in_time)
    → RecordsNewLevels early machine now in_time → RecordsNewLevels late machine now premises
records-later machine now early late in_time premises less enough levels input level before samples after is new long =
    let r = levels input level before samples after is new (omega arith) in
    let g = r.gained in
    record {
      place = r.place;
      transition = r.transition;
      logged = r.logged;
      gained = record { place = g.place; since = g.since; there = g.there; timed = λ same. g.timed (enough same) };
    }

-- if the record has gained everything at the end of a clean round, and what it lacked then, some scans before now, was young
module _ (settings : Settings) (range : AreInRange settings) (first filter most behind between : ℕ) (machine last now : Machine) (some : 1 ≤ filter)
    (o : IsOpen settings range first last) (all_taken : next_round last.polls ≡ last.round)
    (whole : HasGainedAll settings machine last) (times : HaveTheirTimes settings filter most machine last)
    (young : AllByRecursion (IsYoung behind filter (life_of last.history)) (drop (end_recorded settings last) (log_of (life_of last.history))))
    (t : LeadsInTime settings first between last last now) where
  module _ (place : ℕ) (transition : Transition)
      (since : length (log_of (life_of machine.history)) ≤ place)
      (at : slice_get (log_of (life_of now.history)) place ≡ Some transition)
      (old : between + behind + filter + transition.scans < scans_of (life_of now.history) + 2) where
    -- a transition that is not young had arrived when the latest clean round ended
    taken : place < end_recorded settings last
    taken =
        elim (cases_lt place (end_recorded settings last)) as (λ _. place < end_recorded settings last) [
          | inl low ↦ low
          | inr high ↦
              let here = young_since settings first filter behind between last now some (end_recorded settings last) young t place transition high at in
              absurd (omega arith)
        ]

    was_there : slice_get (log_of (life_of last.history)) place ≡ Some transition
    was_there =
        let g = grows settings first last now t.leads_on.events t.leads_on.no_restart t.leads_on.leads in
        let more = later_log g.stretch (life_of last.history) in
        let within = blocks_end_within settings (life_of last.history) in
        get_in_front (log_of (life_of last.history)) more.0 place transition (omega (arith, taken, recorded_end settings last all_taken))
        (subst (λ ts. slice_get ts place ≡ Some transition) (ap log_of g.life ∙ more.1) at)

    there : slice_get (transitions_arrived settings machine last) (place - length (log_of (life_of machine.history))) ≡ Some transition
    there =
        get_from_drop (length (log_of (life_of machine.history))) (take (end_recorded settings last) (log_of (life_of last.history))) place transition since
        (get_from_take (end_recorded settings last) (log_of (life_of last.history)) place transition taken was_there)

    -- so the record has gained it
    has_gained : HasGained machine now transition
        ((loads_of (life_of last.history) ≡ loads_of (life_of machine.history)) × (most + filter ≤ 65537))
    has_gained =
        let g = gains settings range first last now t.leads_on.events o.always t.leads_on.no_restart t.leads_on.leads in
        let from = place - length (log_of (life_of machine.history)) in
        let got : Transition → Piece = λ transition. EntryPiece (entry_of transition) in
        let items : slice_get (map piece_of now.items) (length machine.items + from) ≡ Some (got transition) =
        ap (λ its. slice_get (map piece_of its) (length machine.items + from)) g.items
        ∙ ap (λ ps. slice_get ps (length machine.items + from)) (map-append piece_of last.items g.gained ∙ ap (λ ps. ps ++ map piece_of g.gained) whole)
        ∙ get_from_front (map piece_of machine.items ++ map got (transitions_arrived settings machine last)) (map piece_of g.gained) (length machine.items + from) (got transition)
        (ap (λ n. slice_get (map piece_of machine.items ++ map got (transitions_arrived settings machine last)) (n + from)) (sym (length-map machine.items piece_of))
        ∙ get_from_back (map piece_of machine.items) (map got (transitions_arrived settings machine last)) from (got transition)
        (get_from_map got (transitions_arrived settings machine last) from transition there)) in
        record {
          place = length machine.items + from;
          since = omega arith;
          there = items;
          timed = λ in_time.
              ap (λ its. slice_get its (length machine.items + from)) (g.items ∙ ap (λ its. its ++ g.gained) (times in_time.0 in_time.1))
              ∙ get_from_front (machine.items ++ map timed_item (transitions_arrived settings machine last)) g.gained (length machine.items + from) (timed_item transition)
              (get_from_back machine.items (map timed_item (transitions_arrived settings machine last)) from (timed_item transition)
              (get_from_map timed_item (transitions_arrived settings machine last) from transition there));
        }

  -- new levels are recorded
  pub records_new_levels : RecordsNewLevels (between + behind + filter) machine now
      ((loads_of (life_of last.history) ≡ loads_of (life_of machine.history)) × (most + filter ≤ 65537))
  records_new_levels input level before samples after is new long =
      let life = before ++ life_of machine.history in
      let found = new_levels_are_logged input level life samples new in
      let place = found.0 in
      let transition = found.1 in
      let l = found.2 in
      let more = later_log after (samples ++ life) in
      let at : slice_get (log_of (life_of now.history)) place ≡ Some transition =
      ap (λ l. slice_get (log_of l) place) is ∙ ap (λ ts. slice_get ts place) more.1
      ∙ get_from_front (log_of (samples ++ life)) more.0 place transition l.at in
      let counts : scans_of (life_of now.history) ≡ scans_of (after ++ (samples ++ life)) = ap scans_of is in
      record {
        place = place;
        transition = transition;
        logged = l;
        gained = has_gained place transition (omega (arith, log-grown before (life_of machine.history), l.since)) at
            (omega (arith, l.upto, scans_of-append after (samples ++ life)));
      }
