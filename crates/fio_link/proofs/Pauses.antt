-- How long pauses may be, and what is in time.
use Rattle.std.proofs.lemmas.Bool.Decides.{nat_tests}
use Rattle.fio_link.proofs.Names.{◌≡◌, ℕ, zero, suc, ◌+◌, ◌-◌, ◌*◌, ◌≤◌, List, [], ◌∷◌, ◌++◌, length, drop, refl, arith, mul-le-mul_left, Settings, Life, life_of, scans_of, Machine, after, clean_round, LeadsOn, Pause, left_behind, BeginNear}
use Rattle.fio_link.specs.declared.event.Event.TheVariants as events
use Rattle.fio_link.specs.KeptUp.{AreInTime, RoundIsInTime, RoundWithNothingBetweenIsAfter, Arrives, AllArrivesWhereKeptUpWith, AllArrivesInTime, OutagesArePossible, RoundsCatchUp, StandardLimitsHaveRoom}
use Rattle.fio_link.proofs.MadeBlocks.{each-map}
use Rattle.fio_link.proofs.Grown.{grows, scans_grown, leads_on-then}
use Rattle.fio_link.proofs.NewLevels.{records-later}

-- after pauses in time the blocks are no further behind than a lost answer can keep them
pub left_in_time : (scans untaken : ℕ) (pauses : List Pause) → AreInTime scans untaken pauses → left_behind scans pauses ≤ untaken
left_in_time scans untaken [] all = omega arith
left_in_time scans untaken (pause ∷ pauses) all =
    let rest = left_in_time scans untaken pauses all.1 in
    omega (arith, all.0.few, all.0.few_untaken)

pub begin_in_time : (scans untaken most : ℕ) → scans + untaken ≤ most → (pauses : List Pause) → AreInTime scans untaken pauses
    → BeginNear scans most pauses
begin_in_time scans untaken most near [] all = tt
begin_in_time scans untaken most near (pause ∷ pauses) all =
    let rest = left_in_time scans untaken pauses all.1 in
    (omega (arith, all.0.few), begin_in_time scans untaken most near pauses all.1)

-- nor further than after the outage
left_after : (scans untaken most : ℕ) (later earlier : List Pause) → AreInTime scans untaken later
    → left_behind scans earlier ≤ most - scans → scans + untaken ≤ most → left_behind scans (later ++ earlier) ≤ most - scans
left_after scans untaken most [] earlier all low near = low
left_after scans untaken most (pause ∷ later) earlier all low near =
    let rest = left_after scans untaken most later earlier all.1 low near in
    omega (arith, all.0.few, all.0.few_untaken)

begin_after : (scans untaken most : ℕ) (later earlier : List Pause) → AreInTime scans untaken later
    → left_behind scans earlier ≤ most - scans → scans + untaken ≤ most → BeginNear scans most earlier
    → BeginNear scans most (later ++ earlier)
begin_after scans untaken most [] earlier all low near begin = begin
begin_after scans untaken most (pause ∷ later) earlier all low near begin =
    let left = left_after scans untaken most later earlier all.1 low near in
    (omega (arith, all.0.few), begin_after scans untaken most later earlier all.1 low near begin)

-- an outage within a pace
pub outages_are_possible : OutagesArePossible
outages_are_possible scans untaken most later outage earlier before longer after near = grind (arith, nat_tests, left_in_time, begin_after, begin_in_time)

-- rounds catch up
pub rounds_catch_up : RoundsCatchUp
rounds_catch_up scans pace untaken [] earlier few all = omega arith
rounds_catch_up scans pace untaken (pause ∷ later) earlier few all =
    let rest = rounds_catch_up scans pace untaken later earlier few all.1 in
    let one_more : (length later + 1) * (scans - pace) ≡ length later * (scans - pace) + (scans - pace) = grind arith in
    omega (arith, all.0.few, all.0.few_untaken)

-- at the standard limits
pub standard_limits_have_room : StandardLimitsHaveRoom 19 76
standard_limits_have_room id opened few = (omega arith, omega arith)

-- of pauses in time the older ones are
in_time-drop : (scans untaken n : ℕ) (pauses : List Pause) → AreInTime scans untaken pauses → AreInTime scans untaken (drop n pauses)
in_time-drop scans untaken zero pauses all = all
in_time-drop scans untaken (suc n) [] all = tt
in_time-drop scans untaken (suc n) (pause ∷ pauses) all = in_time-drop scans untaken n pauses all.1

-- what arrives no later than so arrives no later than any that is later
arrives-later : (settings : Settings) (first opened filter scans most : ℕ) (behind more : ℕ → ℕ) (machine : Machine) (receipts : List Machine)
    (receipt last : Machine) (later : Life) → ((n : ℕ) → behind n ≤ more n)
    → Arrives settings first opened filter scans most behind machine receipts receipt last later
    → Arrives settings first opened filter scans most more machine receipts receipt last later
arrives-later settings first opened filter scans most behind more machine receipts receipt last later le a =
    let least = le 0 in
    record {
      whole = a.whole;
      times = a.times;
      through = λ rounds earlier few is.
          let low = le rounds in
          let fewer : opened * (behind rounds + (filter - 1)) ≤ opened * (more rounds + (filter - 1)) = mul-le-mul_left opened (omega arith) in
          a.through rounds earlier (omega arith) is;
      at = λ between now t.
          let l = a.at between now t in
          record {
            late = each-map _ _ (λ transition is. omega arith) _ l.late;
            exactly = record { blocks = l.exactly.blocks; young = each-map _ _ (λ transition is. omega arith) _ l.exactly.young };
            levels = records-later machine now (between + behind 0 + filter) (between + more 0 + filter) _ _ (omega arith) (λ in_time. in_time) l.levels;
            levels_exactly = records-later machine now _ _ _ _ (omega arith) (λ in_time. in_time) l.levels_exactly;
            keeps_up = λ stretch few. l.keeps_up stretch (omega arith);
          };
    }

-- if a link is polled in time
pub all_arrives_in_time : (settings : Settings) (first : ℕ) (machine : Machine)
    → AllArrivesWhereKeptUpWith settings first machine → AllArrivesInTime settings first machine
all_arrives_in_time settings first machine arrive opened filter scans untaken pauses receipt last later p =
    let low : (n : ℕ) → left_behind scans (drop n pauses) ≤ untaken = λ n. left_in_time scans untaken (drop n pauses) (in_time-drop scans untaken n pauses p.in_time) in
    arrives-later settings first opened filter scans (scans + untaken) (λ n. left_behind scans (drop n pauses)) (λ n. untaken) machine _ receipt last later low
    (arrive opened filter scans (scans + untaken) pauses receipt last later (record {
      some_wait = p.some_wait;
      room = p.room;
      near = begin_in_time scans untaken (scans + untaken) (omega arith) pauses p.in_time;
      from = p.from;
      heard_near = let left = low 0 in omega (arith, p.heard_in_time);
    }))

-- a clean round whose poll is received in time is one in time
pub round_is_in_time : (settings : Settings) (first : ℕ) (machine : Machine) → RoundIsInTime settings first machine
round_is_in_time settings first machine scans untaken earlier between begin receipt last l c t u taken order in_time few =
    let g = grows settings first between receipt u.events u.no_restart u.leads in
    let count = scans_grown between receipt g.stretch g.life in
    let before = scans_of (life_of between.history) - scans_of (life_of earlier.history) in
    let more = scans_of (life_of receipt.history) - scans_of (life_of between.history) in (
      record { settled = before; untaken = more },
      record { few = omega arith; few_untaken = omega arith },
      record {
        begin = begin;
        leads_on = l;
        round = c;
        between = between;
        settled = record { leads_on = t; in_time = omega arith };
        all_taken = taken;
        untaken = record { leads_on = u; in_time = omega arith };
      },
    )

-- a round with nothing between
pub quick_round_after : (settings : Settings) (first : ℕ) (machine : Machine) → RoundWithNothingBetweenIsAfter settings first machine
quick_round_after settings first machine pause earlier between begin last t u all_taken leads =
    let receipt = after settings first begin events.Poll in
    let g = grows settings first begin last (clean_round begin) (tt, (tt, (tt, tt))) leads in
    let count = scans_grown begin last g.stretch g.life in
    let polls : LeadsOn settings first begin receipt = record { events = events.Poll ∷ []; no_restart = (tt, tt); leads = (refl, refl) } in (
      record {
        begin = begin;
        leads_on = leads_on-then settings first machine between begin t.leads_on u.leads_on;
        round = record { before = []; after = []; none_before = tt; none_after = tt; sent = (refl, refl); answered = leads.1 };
        between = between;
        settled = t;
        all_taken = all_taken;
        untaken = record { leads_on = leads_on-then settings first between begin receipt u.leads_on polls; in_time = u.in_time };
      },
      (refl, refl),
      omega (arith, g.few),
    )
