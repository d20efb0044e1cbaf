-- Links that are kept up with for each input deliver all.
use Rattle.std.proofs.lemmas.Bool.Decides.{nat_tests}
use Rattle.fio_link.proofs.Names.{◌≡◌, ℕ, ◌+◌, ◌-◌, ◌*◌, ◌≤◌, List, [], ◌∷◌, ◌++◌, length, drop, ap, sym, subst, ◌∙◌, arith, append_assoc, cases_lt, mul-le-mul_left, append_cancel_right, Settings, AreInRange, Life, life_of, filter_events, log_of, newest_end, waiting_of, nothing_left, AtEachTime, scans_behind, holds_now, Machine, Pause, left_behind}
use Rattle.fio_module.specs.KeepingUp.{KeepsUp}
use Rattle.fio_input.specs.FiltersThatDiffer.{Plan, IsAsPlanned, StaysAsPlanned, most_reports}
use Rattle.fio_input.proofs.FiltersThatDiffer.{most_reports-more}
use Rattle.fio_module.proofs.Pace.{each_before}
use Rattle.fio_module.proofs.KeptUpForEach.{KeepsUpForEach, kept_up_for_each}
use Rattle.fio_link.specs.KeptUp.{receipts_of}
use Rattle.fio_link.specs.ForEach.{IsPolledInTimeForEach, ArrivesForEach, AllArrivesForEach}
use Rattle.fio_link.proofs.MadeBlocks.{each-map}
use Rattle.fio_link.proofs.Settled.{IsOpen, at_base}
use Rattle.fio_link.proofs.Pauses.{left_in_time, begin_in_time}
use Rattle.fio_link.proofs.KeptUp.{Reached, reached}
use Rattle.fio_link.proofs.KeptUpArrives.{whole, times, late, levels, near_now}

-- what waits for each input, as if each scan reported a block of changes
as_one : (settings : Settings) (plan : Plan) (scans : ℕ) (life later : Life) → scans_behind scans later life ≤ 2 * scans
    → KeepsUpForEach settings plan scans life later → KeepsUp settings settings.per_block 1 scans life later
as_one settings plan scans life later near k = grind (arith, nat_tests, cases_lt, mul-le-mul_left)

module _ (settings : Settings) (range : AreInRange settings) (first : ℕ) (machine : Machine) (o : IsOpen settings range first machine)
    (plan : Plan) (scans untaken : ℕ) (pauses : List Pause) (receipt last : Machine) (later : Life)
    (p : IsPolledInTimeForEach settings plan first scans untaken machine pauses receipt last later) where
  abbrev life : Life
  life = life_of machine.history

  abbrev most : ℕ
  most = scans + untaken

  abbrev IsFew : Life → Type 0
  IsFew l = StaysAsPlanned plan (filter_events l) (filter_events life)

  abbrev IsNear : Life → Type 0
  IsNear l = AtEachTime (λ l. scans_behind scans l life ≤ most) l

  nearer : (l : Life) → IsNear l → AtEachTime (λ l. scans_behind scans l life ≤ 2 * scans) l
  nearer [] near = omega (arith, p.few_untaken)
  nearer (occurrence ∷ l) near = (let here = near.0 in omega (arith, p.few_untaken), nearer l near.1)

  for_each : (l : Life) → IsFew l → IsNear l → AtEachTime (KeepsUpForEach settings plan scans life) l
  for_each l stay near =
      kept_up_for_each settings plan scans most life l p.some_wait (record {
        few_change = record { nothing_waits = p.few_change.nothing_waits; as_planned = stay; enough = p.few_change.enough };
        behind = near;
        room = p.room;
      })

  each_as_one : (l : Life) → AtEachTime (λ l. scans_behind scans l life ≤ 2 * scans) l → AtEachTime (KeepsUpForEach settings plan scans life) l
      → AtEachTime (KeepsUp settings settings.per_block 1 scans life) l
  each_as_one [] near each = as_one settings plan scans life [] near each
  each_as_one (occurrence ∷ l) near each = (as_one settings plan scans life (occurrence ∷ l) near.0 each.0, each_as_one l near.1 each.1)

  keeps : (l : Life) → IsFew l → IsNear l → AtEachTime (KeepsUp settings settings.per_block 1 scans life) l
  keeps l stay near = each_as_one l (nearer l near) (for_each l stay near)

  older : (l before : Life) → IsFew (l ++ before) → IsFew before
  older l before stay = each_before (IsAsPlanned plan) l before life stay

  ends : newest_end settings life ≡ length (log_of life)
  ends = nothing_left settings p.some_wait life (ap length p.few_change.nothing_waits)

  some : 1 ≤ 1
  some = omega arith

  abbrev behinds : ℕ → ℕ
  behinds rounds = left_behind scans (drop rounds pauses)

  abbrev receipts : List Machine
  receipts = receipts_of settings first machine pauses receipt last p.rounds

  abbrev IsReached : Life → Type 0
  IsReached l = Reached settings range first machine settings.per_block 1 scans most some IsFew older ends keeps behinds receipts receipt last l

  reached_later : IsReached later
  reached_later =
      let found = reached settings range first machine settings.per_block 1 scans most some IsFew older ends keeps
      (at_base settings range first machine o p.all_taken) p.all_taken pauses receipt last p.rounds (begin_in_time scans untaken most (omega arith) pauses p.in_time) in
      subst IsReached (append_cancel_right found.0 later life (sym found.1.since ∙ p.since)) found.1

  near : left_behind scans pauses + reached_later.so_far ≤ most
  near =
      let left = left_in_time scans untaken pauses p.in_time in
      let order = reached_later.since_receipt in
      omega (arith, p.heard_in_time)

  all_arrives_for : ArrivesForEach settings plan first scans untaken machine receipt last later
  all_arrives_for =
      let stay = p.few_change.as_planned in
      let r = reached_later in
      let left = left_in_time scans untaken pauses p.in_time in
      record {
        whole = whole settings range first machine settings.per_block 1 scans most some IsFew older ends keeps behinds receipts receipt last later r near stay;
        times = times settings range first machine settings.per_block 1 scans most some IsFew older ends keeps behinds receipts receipt last later r near stay;
        at = λ now t. record {
          late = each-map _ _ (λ transition is. omega arith) _ (late settings range first machine settings.per_block 1 scans most some IsFew older ends keeps behinds receipts receipt last later r near stay scans now t);
          levels = λ input level before samples after is new long.
              levels settings range first machine settings.per_block 1 scans most some IsFew older ends keeps behinds receipts receipt last later r near stay scans now t
              input level before samples after is new (omega arith);
          few_wait = λ stretch is stay_on.
              let near_then = near_now settings range first machine settings.per_block 1 scans most some IsFew older ends keeps behinds receipts receipt last later r near stay scans now t stretch (omega arith) is in
              let here = holds_now (λ l. scans_behind scans l life ≤ most) (stretch ++ later) near_then in
              let k = holds_now (KeepsUpForEach settings plan scans life) (stretch ++ later) (for_each (stretch ++ later) stay_on near_then) in
              let same : life_of now.history ≡ (stretch ++ later) ++ life = is ∙ sym (append_assoc stretch later life) in
              let reported : length (waiting_of settings ((stretch ++ later) ++ life)) ≤ most_reports plan (scans_behind scans (stretch ++ later) life) = k.few_reported in
              let more : most_reports plan (scans_behind scans (stretch ++ later) life) ≤ most_reports plan most = most_reports-more plan (scans_behind scans (stretch ++ later) life) most here in
              subst (λ l. length (waiting_of settings l) ≤ most_reports plan most) (sym same) (omega arith);
        };
      }

-- if a link is polled in time for each input
pub all_arrives_for_each : (settings : Settings) (range : AreInRange settings) (first : ℕ) (machine : Machine) → IsOpen settings range first machine
    → AllArrivesForEach settings first machine
all_arrives_for_each settings range first machine o = all_arrives_for settings range first machine o
