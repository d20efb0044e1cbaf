-- Links that are kept up with deliver all.
use Rattle.fio_link.proofs.Names.{◌≡◌, ℕ, ◌+◌, ◌≤◌, List, ◌++◌, length, drop, ap, sym, subst, ◌∙◌, append_cancel_right, HasFewOpen, FewStayOpen, Settings, AreInRange, Life, life_of, filter_events, log_of, newest_end, nothing_left, AtEachTime, scans_behind, IsKeptUp, Machine, Pause, left_behind}
use Rattle.fio_module.specs.KeepingUp.{KeepsUp}
use Rattle.fio_module.proofs.Pace.{each_before}
use Rattle.fio_module.proofs.Polling.{kept_up_keeps_up}
use Rattle.fio_link.specs.KeptUp.{receipts_of, IsKeptUpWith, Arrives, AllArrivesWhereKeptUpWith}
use Rattle.fio_link.proofs.Settled.{IsOpen, at_base}
use Rattle.fio_link.proofs.KeptUp.{Reached, reached, heard_near}
use Rattle.fio_link.proofs.KeptUpArrives.{whole, times, through, late, exactly, levels, near_now}

-- if a link is kept up with
module _ (settings : Settings) (range : AreInRange settings) (first : ℕ) (machine : Machine) (o : IsOpen settings range first machine) where
  abbrev life : Life
  life = life_of machine.history

  abbrev behinds : ℕ → List Pause → ℕ → ℕ
  behinds scans pauses rounds = left_behind scans (drop rounds pauses)

  module _ (opened filter scans most : ℕ) (pauses : List Pause) (receipt last : Machine) (later : Life)
      (p : IsKeptUpWith settings first opened filter scans most machine pauses receipt last later) where
    abbrev IsFew : Life → Type 0
    IsFew l = FewStayOpen opened filter (filter_events l) (filter_events life)

    kept_up : (l : Life) → IsFew l → AtEachTime (λ l. scans_behind scans l life ≤ most) l → IsKeptUp settings opened filter scans most life l
    kept_up l stay near =
        let f = p.from.few_change in
        record {
          few_change = record { nothing_waits = f.nothing_waits; some = f.some; few_open = stay; enough = f.enough };
          behind = near;
          room = p.room;
        }

    keeps : (l : Life) → IsFew l → AtEachTime (λ l. scans_behind scans l life ≤ most) l → AtEachTime (KeepsUp settings opened filter scans life) l
    keeps l stay near = kept_up_keeps_up settings opened filter scans most life l range p.some_wait (kept_up l stay near)

    older : (l before : Life) → IsFew (l ++ before) → IsFew before
    older l before = each_before (HasFewOpen opened filter) l before life

    ends : newest_end settings life ≡ length (log_of life)
    ends = nothing_left settings p.some_wait life (ap length p.from.few_change.nothing_waits)

    abbrev receipts : List Machine
    receipts = receipts_of settings first machine pauses receipt last p.from.rounds

    abbrev IsReached : Life → Type 0
    IsReached l = Reached settings range first machine opened filter scans most p.from.few_change.some IsFew older ends keeps (behinds scans pauses) receipts receipt last l

    reached_later : IsReached later
    reached_later =
        let found = reached settings range first machine opened filter scans most p.from.few_change.some IsFew older ends keeps
        (at_base settings range first machine o p.from.all_taken) p.from.all_taken pauses receipt last p.from.rounds p.near in
        subst IsReached (append_cancel_right found.0 later life (sym found.1.since ∙ p.from.since)) found.1

    near : left_behind scans pauses + reached_later.so_far ≤ most
    near = heard_near scans most reached_later.so_far pauses receipt last p.near p.heard_near reached_later.since_receipt

    all_arrives : Arrives settings first opened filter scans most (behinds scans pauses) machine receipts receipt last later
    all_arrives =
        let f = p.from.few_change in
        let r = reached_later in
        record {
          whole = whole settings range first machine opened filter scans most f.some IsFew older ends keeps (behinds scans pauses) receipts receipt last later r near f.few_open;
          times = times settings range first machine opened filter scans most f.some IsFew older ends keeps (behinds scans pauses) receipts receipt last later r near f.few_open;
          through = through settings range first machine opened filter scans most f.some IsFew older ends keeps (behinds scans pauses) receipts receipt last later r near f.few_open;
          at = λ between now t.
              let x = exactly settings range first machine opened filter scans most f.some IsFew older ends keeps (behinds scans pauses) receipts receipt last later r near f.few_open between now t
              (kept_up later f.few_open (r.near near)) p.some_wait in
              record {
                late = late settings range first machine opened filter scans most f.some IsFew older ends keeps (behinds scans pauses) receipts receipt last later r near f.few_open between now t;
                exactly = x.0;
                levels_exactly = x.1;
                levels = levels settings range first machine opened filter scans most f.some IsFew older ends keeps (behinds scans pauses) receipts receipt last later r near f.few_open between now t;
                keeps_up = λ stretch few is stay. kept_up (stretch ++ later) stay
                    (near_now settings range first machine opened filter scans most f.some IsFew older ends keeps (behinds scans pauses) receipts receipt last later r near f.few_open between now t stretch few is);
              };
        }

  pub all_arrives_where_kept_up_with : AllArrivesWhereKeptUpWith settings first machine
  all_arrives_where_kept_up_with = all_arrives
