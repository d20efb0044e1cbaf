-- Rounds on a line come after pauses, and their blocks keep up.
use Rattle.fio_link.proofs.Names.{◌≡◌, ℕ, ◌+◌, ◌-◌, ◌*◌, ◌<◌, ◌≤◌, List, [], ◌∷◌, ◌++◌, length, drop, refl, ap, sym, ◌∙◌, arith, append_assoc, mul-le-mul_right, HasFewOpen, FewStayOpen, Settings, AreInRange, Life, Commanded, life_of, scans_of, filter_events, log_of, newest_end, blocks_of, waiting_of, nothing_left, AtEachTime, scans_behind, behind_each, IsKeptUp, latest_sending, Machine, number_of, next_round, LeadsOn, IsSettled, Pause, left_behind, BeginNear}
use Rattle.fio_message.specs.declared.commands.Command.TheVariants as commands
use Rattle.fio_module.specs.ExactBounds.{KeepsUpExactly}
use Rattle.fio_module.specs.KeepingUp.{KeepsUp}
use Rattle.fio_module.proofs.ExactBounds.{kept_up_keeps_up_exactly}
use Rattle.fio_module.proofs.Pace.{each_before}
use Rattle.fio_module.proofs.Polling.{kept_up_keeps_up}
use Rattle.fio_link.specs.declared.event.Event.TheVariants as events
use Rattle.fio_link.specs.declared.line.TimedLine.{TimedLine}
use Rattle.fio_link.specs.declared.line.Traffic.{Traffic}
use Rattle.fio_link.specs.Delivery.{IsCleanRound, IsWithinRound}
use Rattle.fio_link.proofs.MadeBlocks.{each-append}
use Rattle.fio_link.specs.KeptUp.{scans_of_pause, receipts_of, RoundsAfter, IsRoundAfter}
use Rattle.fio_link.specs.Pace.{IsPace, traffic_of, clean_pace, most_apart, most_behind, most_entries, round_scans}
use Rattle.fio_link.specs.Rate.{IsNextRound, octets_answered}
use Rattle.fio_link.proofs.AnswerLengths.{TakesFew, few_since, answer_is_sent}
use Rattle.fio_link.proofs.Grown.{grows, scans_grown, leads_on-then}
use Rattle.fio_link.proofs.KeptUp.{Reached, reached}
use Rattle.fio_link.proofs.PaceNumbers.{apart, few_taken, more_scans}
use Rattle.fio_link.proofs.Settled.{IsOpen, IsAlong, at_base, along, along_round, count_blocks, ends_round}
use Rattle.fio_link.proofs.WithinRounds.{HasCleanRound, poll_stays, within_no_restart}

-- scans do not become fewer
abbrev pub time : Machine → ℕ
time machine = scans_of (life_of machine.history)

pub no_fewer : (settings : Settings) (first : ℕ) (machine last : Machine) → LeadsOn settings first machine last → time machine ≤ time last
no_fewer settings first machine last l =
    let g = grows settings first machine last l.events l.no_restart l.leads in
    omega (arith, scans_grown machine last g.stretch g.life)

-- a clean round leads on
round_leads_on : (settings : Settings) (first : ℕ) (begin receipt last : Machine) → IsCleanRound settings first begin receipt last
    → LeadsOn settings first begin receipt × LeadsOn settings first receipt last
round_leads_on settings first begin receipt last c =
    let heard = events.ToCpu (length receipt.to_cpu + 1) ∷ [] in (
      record { events = events.Poll ∷ c.before; no_restart = (tt, within_no_restart c.before c.none_before); leads = c.sent },
      record {
        events = events.ToModule (length begin.to_module + 1) ∷ (c.after ++ heard);
        no_restart = (tt, within_no_restart (c.after ++ heard) (each-append IsWithinRound c.after heard c.none_after (tt, tt)));
        leads = c.answered;
      },
    )

-- so does the next round on a line
pub next_leads_on : (settings : Settings) (first : ℕ) (line : TimedLine) (pace lost : ℕ) (earlier done begin receipt last : Machine)
    → IsNextRound settings first line pace lost earlier done begin receipt last → LeadsOn settings first done last
next_leads_on settings first line pace lost earlier done begin receipt last n =
    let r = round_leads_on settings first begin receipt last n.round.round in
    leads_on-then settings first done begin last (leads_on-then settings first done n.again begin n.leads_on n.repeats)
    (leads_on-then settings first begin receipt last r.0 r.1)

-- what holds by two facts at each time
each-both : (P Q R : Life → Type 0) → ((l : Life) → P l → Q l → R l) → (l : Life) → AtEachTime P l → AtEachTime Q l → AtEachTime R l
each-both P Q R both [] p q = both [] p q
each-both P Q R both (occurrence ∷ l) p q = (both (occurrence ∷ l) p.0 q.0, each-both P Q R both l p.1 q.1)

module _ (settings : Settings) (range : AreInRange settings) (first : ℕ) (machine : Machine) (o : IsOpen settings range first machine)
    (line : TimedLine) (opened filter pace : ℕ) (p : IsPace line (traffic_of settings opened filter) pace) (some_wait : 1 ≤ settings.waiting)
    (some : 1 ≤ filter) (settled : IsSettled settings first machine) where
  abbrev life : Life
  life = life_of machine.history

  abbrev traffic : Traffic
  traffic = traffic_of settings opened filter

  abbrev scans : ℕ
  scans = clean_pace line pace

  abbrev most : ℕ
  most = most_behind line pace

  -- how far apart polls may be: a round ends before that
  abbrev far : ℕ
  far = most_apart line pace

  pub ends_before : round_scans line traffic pace ≤ far
  ends_before = let a = apart line pace in omega (arith, p.ends)

  abbrev pub IsFew : Life → Type 0
  IsFew l = FewStayOpen opened filter (filter_events l) (filter_events life)

  kept_up : (l : Life) → IsFew l → AtEachTime (λ l. scans_behind scans l life ≤ most) l → IsKeptUp settings opened filter scans most life l
  kept_up l stay near =
      record {
        few_change = record { nothing_waits = settled.nothing_waits; some = some; few_open = stay; enough = p.enough };
        behind = near;
        room = p.room;
      }

  keeps : (l : Life) → IsFew l → AtEachTime (λ l. scans_behind scans l life ≤ most) l → AtEachTime (KeepsUp settings opened filter scans life) l
  keeps l stay near = kept_up_keeps_up settings opened filter scans most life l range some_wait (kept_up l stay near)

  older : (l before : Life) → IsFew (l ++ before) → IsFew before
  older l before = each_before (HasFewOpen opened filter) l before life

  ends_at_log : newest_end settings life ≡ length (log_of life)
  ends_at_log = nothing_left settings some_wait life (ap length settled.nothing_waits)

  -- no block that is made takes more entries than an answer may have
  takes_few : (l : Life) → KeepsUpExactly settings opened filter scans life l → scans_behind scans l life ≤ most
      → TakesFew settings life (most_entries line traffic pace) l
  takes_few l x low =
      few_taken opened filter settings.per_block scans most (scans_behind scans l life) x.blocks (length (waiting_of settings (l ++ life)))
      some (omega arith) low x.few_wait

  -- Rounds so far: they come after pauses, and the newest took its time.
  pub record IsPunctual (begin receipt last : Machine) : Type 0 where
    pub pauses : List Pause
    pub rounds : RoundsAfter settings first machine pauses receipt last
    pub near : BeginNear scans most pauses
    pub left : left_behind scans pauses + time begin ≤ line.lost * far + time receipt
    pub ends : time last ≤ time begin + round_scans line traffic pace
    pub order : time receipt ≤ time last

  pub none_yet : IsPunctual machine machine machine
  none_yet = record { pauses = []; rounds = (refl, refl); near = tt; left = omega arith; ends = omega arith; order = omega arith }

  -- one more round
  module _ (lost : ℕ) (earlier reached_it done begin receipt last : Machine) (so_far : IsPunctual earlier reached_it done)
      (few_lost : lost ≤ line.lost) (n : IsNextRound settings first line pace lost earlier done begin receipt last)
      (few : (l : Life) → life_of last.history ≡ l ++ life → IsFew l) where
    clean : IsCleanRound settings first begin receipt last
    clean = n.round.round

    polled_on : LeadsOn settings first begin receipt
    polled_on = (round_leads_on settings first begin receipt last clean).0

    begins_on : LeadsOn settings first done begin
    begins_on = leads_on-then settings first done n.again begin n.leads_on n.repeats

    untaken_on : LeadsOn settings first n.again receipt
    untaken_on = leads_on-then settings first n.again begin receipt n.repeats polled_on

    abbrev pause : Pause
    pause = record { settled = time n.again - time reached_it; untaken = time receipt - time n.again }

    -- the scans at which all of this was
    pub record AreInOrder : Type 0 where
      pub done_again : time done ≤ time n.again
      pub again_begin : time n.again ≤ time begin
      pub begin_receipt : time begin ≤ time receipt
      pub again_paced : time n.again ≤ time earlier + far
      pub begin_paced : time begin ≤ time n.again + line.lost * far

    in_order : AreInOrder
    in_order =
        let fewer : lost * far ≤ line.lost * far = mul-le-mul_right far few_lost in
        record {
          done_again = no_fewer settings first done n.again n.leads_on;
          again_begin = no_fewer settings first n.again begin n.repeats;
          begin_receipt = no_fewer settings first begin receipt polled_on;
          again_paced = omega (arith, n.paced, so_far.ends, ends_before);
          begin_paced = omega (arith, n.lost_paced);
        }

    after : IsRoundAfter settings first pause reached_it done receipt last
    after =
        let i = in_order in
        record {
          begin = begin;
          leads_on = begins_on;
          round = clean;
          between = n.again;
          settled = record { leads_on = n.leads_on; in_time = omega (arith, i.done_again, so_far.order) };
          all_taken = n.all_taken;
          untaken = record { leads_on = untaken_on; in_time = omega (arith, i.again_begin, i.begin_receipt) };
        }

    paces : clean_pace line pace ≡ line.lost * far + far
    paces = grind arith

    rounds_now : RoundsAfter settings first machine (pause ∷ so_far.pauses) receipt last
    rounds_now = (reached_it, done, so_far.rounds, after)

    near_now : left_behind scans so_far.pauses + scans_of_pause pause ≤ most
    near_now =
        let i = in_order in
        omega (arith, so_far.left, so_far.order, i.done_again, i.again_begin, i.begin_receipt, i.again_paced, i.begin_paced, n.round.poll, paces)

    left_now : left_behind scans (pause ∷ so_far.pauses) + time begin ≤ line.lost * far + time receipt
    left_now =
        let i = in_order in
        omega (arith, so_far.left, so_far.order, i.done_again, i.again_begin, i.begin_receipt, i.again_paced, i.begin_paced, paces)

    found : (later : Life) × Reached settings range first machine opened filter scans most some IsFew older ends_at_log keeps
        (λ rounds. left_behind scans (drop rounds so_far.pauses)) (receipts_of settings first machine so_far.pauses reached_it done so_far.rounds) reached_it done later
    found = reached settings range first machine opened filter scans most some IsFew older ends_at_log keeps
        (at_base settings range first machine o settled.all_taken) settled.all_taken so_far.pauses reached_it done so_far.rounds so_far.near

    at_begin : IsAlong settings range first machine begin
    at_begin = along settings range first machine done begin begins_on.events begins_on.no_restart begins_on.leads found.1.at_end

    round : HasCleanRound settings first begin receipt last
    round = (ends_round settings range first begin receipt last at_begin.is_open clean).round

    -- the life up to the module's receipt of the poll, which made a block
    abbrev number : ℕ
    number = number_of first begin.round

    to_receipt : (stretch : Life) × (life_of receipt.history ≡ stretch ++ life_of done.history)
    to_receipt =
        let l = leads_on-then settings first done begin receipt begins_on polled_on in
        let g = grows settings first done receipt l.events l.no_restart l.leads in
        (g.stretch, g.life)

    abbrev upto : Life
    upto = Commanded (commands.Poll number) ∷ (to_receipt.0 ++ found.0)

    is_upto : Commanded (commands.Poll number) ∷ life_of receipt.history ≡ upto ++ life
    is_upto =
        ap (λ l. Commanded (commands.Poll number) ∷ l)
        (to_receipt.1 ∙ ap (λ l. to_receipt.0 ++ l) found.1.since ∙ sym (append_assoc to_receipt.0 found.0 life))

    stays_few : IsFew upto
    stays_few =
        let h = round in
        let g = grows settings first h.polled last h.after_it h.none_after h.rest in
        older g.stretch upto (few (g.stretch ++ upto)
        (g.life ∙ ap (λ l. g.stretch ++ l) (h.life ∙ is_upto) ∙ sym (append_assoc g.stretch upto life)))

    near_done : AtEachTime (λ l. scans_behind scans l life ≤ most) found.0
    near_done = let order = found.1.since_receipt in found.1.near (omega (arith, so_far.left, so_far.ends, ends_before))

    near_upto : AtEachTime (λ l. scans_behind scans l life ≤ most) upto
    near_upto =
        let order = found.1.since_receipt in
        let behind = found.1.now in
        let count = scans_grown done receipt to_receipt.0 to_receipt.1 in
        let i = in_order in
        behind_each scans life found.0 most (Commanded (commands.Poll number) ∷ to_receipt.0)
        (omega (arith, so_far.left, i.done_again, i.again_begin, i.begin_receipt, i.again_paced, i.begin_paced, n.round.poll, paces)) near_done

    each_few : AtEachTime (TakesFew settings life (most_entries line traffic pace)) upto
    each_few =
        each-both (KeepsUpExactly settings opened filter scans life) (λ l. scans_behind scans l life ≤ most)
        (TakesFew settings life (most_entries line traffic pace)) takes_few upto
        (kept_up_keeps_up_exactly settings opened filter scans most life upto range some_wait (kept_up upto stays_few near_upto)) near_upto

    one_more : length (blocks_of settings life) < length (blocks_of settings (upto ++ life))
    one_more =
        let h = round in
        let count = count_blocks settings range first machine h.polled (along_round settings range first machine begin receipt last at_begin h).0 in
        let newest : next_round h.polled.polls ≡ begin.round + 1 = ap next_round h.polls in
        let same = ap (λ l. length (blocks_of settings l)) (h.life ∙ is_upto) in
        omega (arith, count, newest, same, at_begin.since.started)

    -- so the answer is no longer than it may be, and the round ends in time
    few_octets : octets_answered settings first receipt (length begin.to_module + 1) ≤ 8 + 3 * most_entries line traffic pace
    few_octets =
        let sent = answer_is_sent settings first begin.round receipt (length begin.to_module)
        (poll_stays settings range first begin receipt last at_begin.is_open.always clean) in
        let entries = few_since settings life (most_entries line traffic pace) upto each_few one_more sent.0
        (sym (ap (latest_sending settings) is_upto) ∙ sent.1) in
        omega (arith, sent.2)

    pub next : IsPunctual begin receipt last
    next =
        record {
          pauses = pause ∷ so_far.pauses;
          rounds = rounds_now;
          near = (near_now, so_far.near);
          left = left_now;
          ends =
              let scans_more = more_scans line (octets_answered settings first receipt (length begin.to_module + 1)) (8 + 3 * most_entries line traffic pace) p.some_rate few_octets in
              omega (arith, n.round.answer);
          order = no_fewer settings first receipt last (round_leads_on settings first begin receipt last clean).1;
        }
