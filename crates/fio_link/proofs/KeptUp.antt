-- Links that are kept up with: what holds at the end of each round, also if rounds are lost.
use Rattle.fio_link.proofs.Names.{◌≡◌, ℕ, zero, suc, ◌+◌, ◌-◌, ◌*◌, ◌≤◌, List, [], ◌∷◌, ◌++◌, length, drop, Some, slice_get, refl, ap, sym, subst, ◌∙◌, arith, append_assoc, mul-le-mul_left, mul-le-mul_right, scans_in, Settings, AreInRange, Life, life_of, scans_of, filter_events, log_of, newest_end, blocks_of, AtEachTime, scans_behind, ends-grow, log-grown, behind_more, behind_each, after_block, scans_of-append, Machine, HasTakenAll, Pause, left_behind, BeginNear, IsWithin}
use Rattle.fio_module.specs.KeepingUp.{KeepsUp}
use Rattle.fio_link.specs.KeptUp.{scans_of_pause, RoundsAfter, receipts_of}
use Rattle.fio_link.proofs.Settled.{IsAlong}
use Rattle.fio_link.proofs.Arrivals.{few_left}
use Rattle.fio_link.proofs.RoundStretches.{stretch_of, HasStretch, has_stretch}
use Rattle.fio_link.proofs.LeftOver.{LeftOf, left_then}

module _ (settings : Settings) (range : AreInRange settings) (first : ℕ) (base : Machine) where
  -- since few change, in whatever way, the module keeps up while the blocks are not far behind
  module _ (opened filter scans most : ℕ) (some : 1 ≤ filter) (IsFew : Life → Type 0)
      (older : (later before : Life) → IsFew (later ++ before) → IsFew before)
      (ends : newest_end settings (life_of base.history) ≡ length (log_of (life_of base.history)))
      (keeps : (later : Life) → IsFew later → AtEachTime (λ l. scans_behind scans l (life_of base.history) ≤ most) later
      → AtEachTime (KeepsUp settings opened filter scans (life_of base.history)) later) where
    abbrev life : Life
    life = life_of base.history

    abbrev IsNear : Life → Type 0
    IsNear later = AtEachTime (λ l. scans_behind scans l life ≤ most) later

    -- what holds at the end of a round whose poll was received some scans before
    pub record Reached (behind : ℕ → ℕ) (receipts : List Machine) (receipt last : Machine) (later : Life) : Type 0 where
      pub so_far : ℕ
      pub since_receipt : scans_of (life_of last.history) ≡ scans_of (life_of receipt.history) + so_far
      pub since : life_of last.history ≡ later ++ life
      pub near : behind 0 + so_far ≤ most → IsNear later
      pub now : scans_behind scans later life ≤ behind 0 + so_far
      pub at_end : IsAlong settings range first base last
      pub all_taken : HasTakenAll first last
      pub through : IsFew later → (rounds : ℕ) (earlier : Machine) → slice_get receipts rounds ≡ Some earlier
          → LeftOf settings filter (opened * (behind rounds + (filter - 1))) rounds (life_of earlier.history) (life_of last.history)

    -- the clean round that has just ended
    left_now : (behind : ℕ) (upto after_it : Life) (number : ℕ) (begin last : Life) → stretch_of number begin ≡ upto ++ life
        → last ≡ after_it ++ stretch_of number begin → scans_behind scans upto life ≤ behind → IsNear upto → IsFew (after_it ++ upto)
        → LeftOf settings filter (opened * (behind + (filter - 1))) 0 begin last
    left_now behind upto after_it number begin last since rest low near stay =
        let here = few_left settings opened filter scans most life upto ends (keeps upto (older after_it upto stay) near) near in
        let polled = stretch_of number begin in
        let log_polled : length (log_of begin) ≡ length (log_of (upto ++ life)) = ap (λ l. length (log_of l)) since in
        let end_polled : newest_end settings polled ≡ newest_end settings (upto ++ life) = ap (newest_end settings) since in
        let grown = log-grown after_it polled in
        let later_end = ends-grow settings after_it polled in
        let log_last = ap (λ l. length (log_of l)) rest in
        let end_last = ap (newest_end settings) rest in
        let left = length (log_of begin) - newest_end settings last in
        let product : left * filter ≤ (length (log_of (upto ++ life)) - newest_end settings (upto ++ life)) * filter =
        mul-le-mul_right filter (omega arith) in
        let more : opened * (scans_behind scans upto life + (filter - 1)) ≤ opened * (behind + (filter - 1)) = mul-le-mul_left opened (omega arith) in
        let nothing_more : 0 * (settings.per_block * filter) ≡ 0 = grind arith in
        record { logged = omega arith; few = λ some_left. omega arith }

    -- how far the blocks were behind when the poll that many rounds earlier was received
    abbrev behind_at : List Pause → ℕ → ℕ
    behind_at pauses rounds = left_behind scans (drop rounds pauses)

    -- one more round
    next_reached : (pause : Pause) (pauses : List Pause) (receipts : List Machine) (earlier done receipt last : Machine) (later : Life)
        → Reached (behind_at pauses) receipts earlier done later
        → HasStretch settings range first base pause earlier done receipt last → left_behind scans pauses + scans_of_pause pause ≤ most
        → (now : Life) × Reached (behind_at (pause ∷ pauses)) (receipt ∷ receipts) receipt last now
    next_reached pause pauses receipts earlier done receipt last later r s few =
        let before = s.settled ++ later in
        let stretch = stretch_of s.number s.untaken in
        let upto = stretch ++ before in
        let polled = stretch_of s.number (life_of receipt.history) in
        let settled : s.settled ++ life_of done.history ≡ before ++ life =
        ap (λ l. s.settled ++ l) r.since ∙ sym (append_assoc s.settled later life) in
        let since_receipt : polled ≡ upto ++ life =
        ap (stretch_of s.number) (s.upto ∙ ap (λ l. s.untaken ++ l) settled ∙ sym (append_assoc s.untaken before life)) in
        let since : life_of last.history ≡ (s.after_it ++ upto) ++ life =
        s.rest ∙ ap (λ l. s.after_it ++ l) since_receipt ∙ sym (append_assoc s.after_it upto life) in
        let count_last : scans_of (life_of last.history) ≡ scans_in (filter_events s.after_it) + scans_of (life_of receipt.history) =
        ap scans_of s.rest ∙ scans_of-append s.after_it polled in
        let order = r.since_receipt in
        let low : r.so_far + scans_in (filter_events s.settled) ≤ pause.settled = omega (arith, s.few_settled) in
        let high = s.few_untaken in
        let blocks_before = ap (λ l. length (blocks_of settings l)) settled in
        let blocks_now = ap (λ l. length (blocks_of settings l)) since_receipt in
        let one_more = s.one_more in
        let so = r.now in
        let so_far = behind_more scans life later s.settled in
        let made = after_block settings scans life before stretch (omega arith) in
        let more = behind_more scans life upto s.after_it in
        let low_then : scans_behind scans upto life ≤ left_behind scans (pause ∷ pauses) = omega arith in
        let then_near = behind_each scans life before most stretch (omega arith) (behind_each scans life later most s.settled (omega arith) (r.near (omega arith))) in (
          s.after_it ++ upto,
          record {
            so_far = scans_in (filter_events s.after_it);
            since_receipt = omega arith;
            since = since;
            near = λ few_now. behind_each scans life upto most s.after_it (omega arith) then_near;
            now = omega arith;
            at_end = s.at_end;
            all_taken = s.all_taken;
            through = through upto stretch since_receipt low_then then_near (λ stay.
                older s.settled later (older stretch before (older s.after_it upto stay)));
          },
        )
      where
        through : (upto stretch : Life) → stretch_of s.number (life_of receipt.history) ≡ upto ++ life
            → scans_behind scans upto life ≤ left_behind scans (pause ∷ pauses) → IsNear upto
            → (IsFew (s.after_it ++ upto) → IsFew later)
            → IsFew (s.after_it ++ upto) → (rounds : ℕ) (begin : Machine) → slice_get (receipt ∷ receipts) rounds ≡ Some begin
            → LeftOf settings filter (opened * (behind_at (pause ∷ pauses) rounds + (filter - 1))) rounds (life_of begin.history) (life_of last.history)
        through upto stretch since low near older stay zero begin is =
            let same : receipt ≡ begin = cc in
            subst (λ m. LeftOf settings filter (opened * (left_behind scans (pause ∷ pauses) + (filter - 1))) 0 (life_of m.history) (life_of last.history)) same
            (left_now (left_behind scans (pause ∷ pauses)) upto s.after_it s.number (life_of receipt.history) (life_of last.history) since s.rest low near stay)
        through upto stretch since low near older stay (suc rounds) begin is =
            left_then settings filter (s.after_it ++ stretch_of s.number (s.untaken ++ s.settled)) (life_of begin.history) (life_of done.history) (life_of last.history) rounds
            (opened * (behind_at pauses rounds + (filter - 1)))
            (s.rest ∙ ap (λ l. s.after_it ++ stretch_of s.number l) (s.upto ∙ sym (append_assoc s.untaken s.settled (life_of done.history)))
            ∙ sym (append_assoc s.after_it (stretch_of s.number (s.untaken ++ s.settled)) (life_of done.history)))
            s.more (r.through (older stay) rounds begin is)

    -- all rounds
    pub reached : IsAlong settings range first base base → HasTakenAll first base
        → (pauses : List Pause) (receipt last : Machine) → (rounds : RoundsAfter settings first base pauses receipt last) → BeginNear scans most pauses
        → (later : Life) × Reached (behind_at pauses) (receipts_of settings first base pauses receipt last rounds) receipt last later
    reached a taken [] receipt last rounds near =
        let start : (later : Life) × Reached (behind_at []) [] base base later = (
          [],
          record {
            so_far = 0;
            since_receipt = omega arith;
            since = refl;
            near = λ few. omega arith;
            now = omega arith;
            at_end = a;
            all_taken = taken;
            through = λ stay n begin is. absurd (cc is);
          },
        ) in
        subst (λ m. (later : Life) × Reached (behind_at []) [] m last later) (sym rounds.0) (subst (λ m. (later : Life) × Reached (behind_at []) [] base m later) (sym rounds.1) start)
    reached a taken (pause ∷ pauses) receipt last rounds near =
        let r = reached a taken pauses rounds.0 rounds.1 rounds.2 near.1 in
        let s = has_stretch settings range first base pause rounds.0 rounds.1 receipt last r.1.at_end r.1.all_taken rounds.3 in
        next_reached pause pauses (receipts_of settings first base pauses rounds.0 rounds.1 rounds.2) rounds.0 rounds.1 receipt last r.0 r.1 s near.0

-- the blocks are never further behind than they may be
left_within : (scans most : ℕ) (pauses : List Pause) → BeginNear scans most pauses → left_behind scans pauses ≤ most
left_within scans most [] near = omega arith
left_within scans most (pause ∷ pauses) near = omega (arith, near.0)

-- the newest poll's answer is heard near
pub heard_near : (scans most so_far : ℕ) (pauses : List Pause) (receipt last : Machine) → BeginNear scans most pauses
    → IsWithin (most - left_behind scans pauses) receipt last → scans_of (life_of last.history) ≡ scans_of (life_of receipt.history) + so_far
    → left_behind scans pauses + so_far ≤ most
heard_near scans most so_far pauses receipt last near heard order = let within = left_within scans most pauses near in omega (arith, heard)
