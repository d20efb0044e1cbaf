-- The standard link is never late.
use Rattle.fio_link.proofs.Names.{ℕ, ◌+◌, ◌*◌, ◌≤◌, List, ◌∷◌, drop, arith, mul-le-mul_right, AreInRange, standard_settings, Life, life_of, filter_events, Event, Machine, LeadsInTime, Pause, left_behind, BeginNear}
use Rattle.std.proofs.Common.{◌/◌}
use Rattle.std.proofs.Math.Nat.{le-div_iff_mul-le}
use Rattle.fio_input.proofs.FewStayOpen.{all_may_open}
use Rattle.fio_link.specs.KeptUp.{scans_of_pause, AreInTime, Arrives, receipts_of}
use Rattle.fio_link.specs.StandardLinks.{IsStandardLink, StandardLinkIsNeverLater, StandardLinkRecordsNewLevels}
use Rattle.fio_link.proofs.Grown.{grows, scans_grown}
use Rattle.fio_link.specs.LostRounds.{LoseFewRounds}
use Rattle.fio_link.proofs.LostRounds.{lost_rounds_are_possible}
use Rattle.fio_link.proofs.Pauses.{begin_in_time}
use Rattle.fio_link.proofs.MadeBlocks.{each-map}
use Rattle.fio_link.proofs.NewLevels.{records-later}
use Rattle.fio_link.proofs.Promises.{runs_are_sound}

-- the standard settings are in their ranges
pub standard_in_range : (id : ℕ) → id ≤ 255 → AreInRange (standard_settings id)
standard_in_range id fits = record { id_fits = fits; some_per_block = omega arith; few_per_block = omega arith }

-- if the rounds leave the blocks no further behind than there is room for
module _ (AreSuch : List Pause → Type 0) (scans most : ℕ) (fast : scans ≤ 19) (few : most ≤ 76)
    (near : (pauses : List Pause) → AreSuch pauses → BeginNear scans most pauses) where
  -- all arrives
  arrives : (id first : ℕ) (events : List Event) (pauses : List Pause) (machine receipt last now : Machine)
      (later : Life) (next : Pause) (l : IsStandardLink id first events machine pauses receipt last later) → AreSuch (next ∷ pauses)
      → LeadsInTime (standard_settings id) first (scans_of_pause next) receipt last now
      → Arrives (standard_settings id) first 64 5 scans most (λ rounds. left_behind scans (drop rounds pauses)) machine
      (receipts_of (standard_settings id) first machine pauses receipt last l.rounds) receipt last later
  arrives id first events pauses machine receipt last now later next l such t =
      let settings = standard_settings id in
      let begin = near (next ∷ pauses) such in
      let g = grows settings first last now t.leads_on.events t.leads_on.no_restart t.leads_on.leads in
      let count = scans_grown last now g.stretch g.life in
      (runs_are_sound settings first events machine (standard_in_range id l.id_fits) l.is_run).delivers.kept_up_with 64 5 scans most pauses receipt last later (record {
        some_wait = omega arith;
        room = omega arith;
        near = begin.1;
        from = record {
          all_taken = l.settled.all_taken;
          rounds = l.rounds;
          since = l.since;
          few_change = record {
            nothing_waits = l.settled.nothing_waits;
            some = omega arith;
            few_open = all_may_open 5 (filter_events later) (filter_events (life_of machine.history)) l.filters;
            enough = omega arith;
          };
        };
        heard_near = omega (arith, begin.0, t.in_time);
      })

  -- so it is never later
  pub never_later : (late : ℕ) → most + 3 ≤ late → StandardLinkIsNeverLater AreSuch late
  never_later late long id first events pauses machine receipt last now later next l such t =
      let a = arrives id first events pauses machine receipt last now later next l such t in
      let low = (near (next ∷ pauses) such).0 in
      (a.whole, each-map _ _ (λ transition is. omega arith) _ (a.at (scans_of_pause next) now t).late)

  -- blocks make up for no more scans than their inputs need to report what these take
  no_more : scans ≤ 15 → (blocks : ℕ) → scans * blocks ≤ 5 * (255 * blocks / 64)
  no_more slow blocks =
      let filled : 3 * blocks ≤ 255 * blocks / 64 = (le-div_iff_mul-le {k = 64} {x = 3 * blocks} {y = 255 * blocks} (omega arith)).1 (omega arith) in
      let made_up : scans * blocks ≤ 15 * blocks = mul-le-mul_right blocks slow in
      omega arith

  -- so it is never later than the blocks are behind
  pub never_later_exactly : (late : ℕ) → scans ≤ 15 → most ≤ late + 1 → StandardLinkIsNeverLater AreSuch late
  never_later_exactly late slow long id first events pauses machine receipt last now later next l such t =
      let a = arrives id first events pauses machine receipt last now later next l such t in
      let low = (near (next ∷ pauses) such).0 in
      let x = (a.at (scans_of_pause next) now t).exactly in
      let made_up = no_more slow x.blocks in
      (a.whole, each-map _ _ (λ transition is. omega arith) _ x.young)

  -- and records new levels
  pub records_levels : (late : ℕ) → most + 3 ≤ late → StandardLinkRecordsNewLevels AreSuch late
  records_levels late long id first events pauses machine receipt last now later next l such t =
      let a = arrives id first events pauses machine receipt last now later next l such t in
      let low = (near (next ∷ pauses) such).0 in
      records-later machine now _ (late + 2) _ _ (omega arith) (λ same. (same, omega arith)) (a.at (scans_of_pause next) now t).levels

  pub records_levels_exactly : (late : ℕ) → scans ≤ 15 → most ≤ late + 1 → StandardLinkRecordsNewLevels AreSuch late
  records_levels_exactly late slow long id first events pauses machine receipt last now later next l such t =
      let a = arrives id first events pauses machine receipt last now later next l such t in
      let low = (near (next ∷ pauses) such).0 in
      let i = a.at (scans_of_pause next) now t in
      let made_up = no_more slow i.exactly.blocks in
      records-later machine now _ (late + 2) _ _ (omega arith) (λ same. (same, omega arith)) i.levels_exactly

-- in time
pub near_in_time : (pauses : List Pause) → AreInTime 19 0 pauses → BeginNear 19 19 pauses
near_in_time = begin_in_time 19 0 19 (omega arith)

pub near_where_answers_are_lost : (pauses : List Pause) → AreInTime 19 19 pauses → BeginNear 19 38 pauses
near_where_answers_are_lost = begin_in_time 19 19 38 (omega arith)

-- if at most 5 of each 100 rounds are lost, and rounds begin at most 12 scans apart
pub near_where_rounds_are_lost : (pauses : List Pause) → LoseFewRounds 12 100 5 pauses → BeginNear 15 72 pauses
near_where_rounds_are_lost pauses few = lost_rounds_are_possible 15 12 99 5 pauses few (omega arith) (omega arith)
