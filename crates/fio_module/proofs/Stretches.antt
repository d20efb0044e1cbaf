-- What a stretch of a life does, in which blocks are made.
use Rattle.std.proofs.lemmas.Bool.Decides.{nat_tests}
use Rattle.fio_module.proofs.Names.{◌≡◌, ℕ, zero, suc, ◌+◌, ◌-◌, ◌<◌, ◌≤◌, max, Bool, true, false, List, [], ◌∷◌, ◌++◌, length, take, drop, refl, ap, sym, ◌∙◌, arith, append_assoc, append-nil, length-take, AllByRecursion, flat_map, take-append-le, drop-append-le, Poll, ConfigureInputs, scans_in, Settings, Life, Scanned, Commanded, scans_of, filter_events, Transition, transitions_below, log_of, MadeBlock, newest_poll, is_new, blocks_of, last_end, next_block, newest_end, start_after, count_from, waiting_of, AtEachTime, scans_behind, IsYoung, KeepsUp}
use Rattle.std.proofs.Math.Seq.{take-add}
use Rattle.std.proofs.lemmas.Grind.{flat_map-append}
use Rattle.fio_module.proofs.Ends.{last_end-append}
pub use Rattle.fio_module.proofs.ListParts.{each-push}
use Rattle.fio_module.proofs.BlockLaws.{blocks_end_within}
use Rattle.fio_module.proofs.Losses.{holds_now, next_not_lost}
use Rattle.fio_module.proofs.Outages.{log-later, ends-grow}

-- the log never gets shorter
pub log-grown : (later life : Life) → length (log_of life) ≤ length (log_of (later ++ life))
log-grown [] life = omega arith
log-grown (occurrence ∷ later) life =
    let rest = log-grown later life in
    let here = log-later occurrence (later ++ life) in
    omega arith

-- what a poll, new or not, does to the blocks and to how far they are behind
pub blocks_new : (settings : Settings) (life : Life) (number : ℕ) → is_new (newest_poll life) number ≡ true
    → blocks_of settings (Commanded (Poll number) ∷ life) ≡ blocks_of settings life ++ next_block settings life ∷ []
blocks_new settings life number is = rw is refl

pub blocks_old : (settings : Settings) (life : Life) (number : ℕ) → is_new (newest_poll life) number ≡ false
    → blocks_of settings (Commanded (Poll number) ∷ life) ≡ blocks_of settings life
blocks_old settings life number is = rw is refl

end_new : (settings : Settings) (life : Life) (number : ℕ) → is_new (newest_poll life) number ≡ true
    → let start = start_after settings (log_of life) (newest_end settings life) in
    newest_end settings (Commanded (Poll number) ∷ life) ≡ start + count_from settings (log_of life) start
end_new settings life number is = grind (arith, nat_tests, blocks_new, last_end-append)

pub behind_new : (scans : ℕ) (later life : Life) (number : ℕ) → is_new (newest_poll (later ++ life)) number ≡ true
    → scans_behind scans (Commanded (Poll number) ∷ later) life ≡ scans_behind scans later life - scans
behind_new scans later life number is = rw is refl

behind_old : (scans : ℕ) (later life : Life) (number : ℕ) → is_new (newest_poll (later ++ life)) number ≡ false
    → scans_behind scans (Commanded (Poll number) ∷ later) life ≡ scans_behind scans later life
behind_old scans later life number is = rw is refl

module _ (scans : ℕ) (life before : Life) where
  abbrev behind : Life → ℕ
  behind stretch = scans_behind scans (stretch ++ before) life

  abbrev scanned : Life → ℕ
  scanned stretch = scans_in (filter_events stretch)

  -- a poll does not put them further behind
  behind_poll : (number : ℕ) (stretch : Life) (new : Bool) → is_new (newest_poll ((stretch ++ before) ++ life)) number ≡ new
      → behind (Commanded (Poll number) ∷ stretch) ≤ behind stretch
  behind_poll number stretch true is =
      let less = behind_new scans (stretch ++ before) life number is in omega arith
  behind_poll number stretch false is =
      let same = behind_old scans (stretch ++ before) life number is in omega arith

  -- over a stretch the blocks fall behind by no more than its scans
  pub behind_more : (stretch : Life) → behind stretch ≤ scans_behind scans before life + scanned stretch
  behind_more [] = omega arith
  behind_more (Scanned raw ∷ stretch) = let rest = behind_more stretch in omega arith
  behind_more (Commanded (Poll number) ∷ stretch) =
      let rest = behind_more stretch in
      let here = behind_poll number stretch (is_new (newest_poll ((stretch ++ before) ++ life)) number) refl in
      omega arith
  behind_more (Commanded (ConfigureInputs items) ∷ stretch) = behind_more stretch
  behind_more (other ∷ stretch) = behind_more stretch

  -- so this holds at each time of a stretch
  pub behind_each : (limit : ℕ) (stretch : Life) → scans_behind scans before life + scanned stretch ≤ limit
      → AtEachTime (λ l. scans_behind scans l life ≤ limit) before
      → AtEachTime (λ l. scans_behind scans l life ≤ limit) (stretch ++ before)
  behind_each limit [] few each = each
  behind_each limit (Scanned raw ∷ stretch) few each =
      let here = behind_more (Scanned raw ∷ stretch) in
      (omega arith, behind_each limit stretch (omega arith) each)
  behind_each limit (Commanded (ConfigureInputs items) ∷ stretch) few each =
      let here = behind_more (Commanded (ConfigureInputs items) ∷ stretch) in
      (omega arith, behind_each limit stretch few each)
  behind_each limit (other ∷ stretch) few each =
      let here = behind_more (other ∷ stretch) in
      (omega arith, behind_each limit stretch few each)

module _ (settings : Settings) (scans : ℕ) (life before : Life) where
  abbrev count : Life → ℕ
  count stretch = length (blocks_of settings ((stretch ++ before) ++ life))

  abbrev scanned_in : Life → ℕ
  scanned_in stretch = scans_in (filter_events stretch)

  after_poll : (number : ℕ) (stretch : Life) (new : Bool) → is_new (newest_poll ((stretch ++ before) ++ life)) number ≡ new
      → (length (blocks_of settings (before ++ life)) < count stretch
      → scans_behind scans (stretch ++ before) life ≤ max (scans_behind scans before life + scanned_in stretch - scans) (scanned_in stretch))
      → length (blocks_of settings (before ++ life)) < count (Commanded (Poll number) ∷ stretch)
      → scans_behind scans (Commanded (Poll number) ∷ (stretch ++ before)) life
      ≤ max (scans_behind scans before life + scanned_in stretch - scans) (scanned_in stretch)
  after_poll number stretch true is rest more =
      let less = behind_new scans (stretch ++ before) life number is in
      let most = behind_more scans life before stretch in
      omega arith
  after_poll number stretch false is rest more =
      let same = behind_old scans (stretch ++ before) life number is in
      let blocks = ap length (blocks_old settings ((stretch ++ before) ++ life) number is) in
      let few = rest (omega arith) in
      omega arith

  -- after a stretch in which a block was made, the blocks are behind by at most its scans, or by what they were with these
  -- scans, less what one block makes up for
  pub after_block : (stretch : Life) → length (blocks_of settings (before ++ life)) < count stretch
      → scans_behind scans (stretch ++ before) life ≤ max (scans_behind scans before life + scanned_in stretch - scans) (scanned_in stretch)
  after_block [] more = absurd (omega arith)
  after_block (Scanned raw ∷ stretch) more = let rest = after_block stretch more in omega arith
  after_block (Commanded (Poll number) ∷ stretch) more =
      after_poll number stretch (is_new (newest_poll ((stretch ++ before) ++ life)) number) refl (after_block stretch) more
  after_block (Commanded (ConfigureInputs items) ∷ stretch) more = after_block stretch more
  after_block (other ∷ stretch) more = after_block stretch more

-- a stretch in which a block was made takes a whole block, or all that had been logged before it
module _ (settings : Settings) (life : Life) (bound : ℕ) (logged : bound ≤ length (log_of life))
    (near : bound ≤ newest_end settings life + settings.per_block) where
  end_after_poll : (number : ℕ) (stretch : Life) (new : Bool) → is_new (newest_poll (stretch ++ life)) number ≡ new
      → (length (blocks_of settings life) < length (blocks_of settings (stretch ++ life)) → bound ≤ newest_end settings (stretch ++ life))
      → length (blocks_of settings life) < length (blocks_of settings (Commanded (Poll number) ∷ (stretch ++ life)))
      → bound ≤ newest_end settings (Commanded (Poll number) ∷ (stretch ++ life))
  end_after_poll number stretch true is rest more =
      let here = stretch ++ life in
      let start = start_after settings (log_of here) (newest_end settings here) in
      let ends = end_new settings here number is in
      let within : newest_end settings here ≤ length (log_of here) = blocks_end_within settings here in
      let grown = log-grown stretch life in
      let later = ends-grow settings stretch life in
      omega arith
  end_after_poll number stretch false is rest more =
      let here = stretch ++ life in
      let blocks = ap length (blocks_old settings here number is) in
      let ends = ap (last_end 0) (blocks_old settings here number is) in
      let before = rest (omega arith) in
      omega arith

  pub end_after_block : (stretch : Life) → length (blocks_of settings life) < length (blocks_of settings (stretch ++ life))
      → bound ≤ newest_end settings (stretch ++ life)
  end_after_block [] more = absurd (omega arith)
  end_after_block (Commanded (Poll number) ∷ stretch) more =
      end_after_poll number stretch (is_new (newest_poll (stretch ++ life)) number) refl (end_after_block stretch) more
  end_after_block (other ∷ stretch) more = end_after_block stretch more

-- a block before which nothing was lost, and whose transitions are young when it is made
pub record IsPunctual (most filter : ℕ) (block : MadeBlock) : Type 0 where
  pub not_lost : block.lost ≡ false
  pub young : AllByRecursion (λ (transition : Transition). block.scans + 2 ≤ transition.scans + (most + filter)) block.transitions

-- the transitions of blocks
abbrev pub transitions_in : List MadeBlock → List Transition
transitions_in blocks = flat_map (λ (block : MadeBlock). block.transitions) blocks

-- the blocks made since a time: they are what was logged since then
pub record HasMade (settings : Settings) (filter most : ℕ) (life later : Life) : Type 0 where
  pub made : List MadeBlock
  pub blocks : blocks_of settings (later ++ life) ≡ blocks_of settings life ++ made
  pub entries :
      transitions_in made
      ≡ drop (newest_end settings life) (take (newest_end settings (later ++ life)) (log_of (later ++ life)))
  pub punctual : AllByRecursion (IsPunctual most filter) made

-- what holds of the first n, with a higher limit
young-take : (life : Life) (behind most filter n : ℕ) (ts : List Transition) → behind ≤ most
    → AllByRecursion (IsYoung behind filter life) ts
    → AllByRecursion (λ (transition : Transition). scans_of life + 2 ≤ transition.scans + (most + filter)) (take n ts)
young-take life behind most filter zero ts le all = tt
young-take life behind most filter (suc n) [] le all = tt
young-take life behind most filter (suc n) (t ∷ ts) le all =
    let here = all.0 in (omega arith, young-take life behind most filter n ts le all.1)

module _ (settings : Settings) (opened filter scans most : ℕ) (life : Life) where
  abbrev Keeps : Life → Type 0
  Keeps later = KeepsUp settings opened filter scans life later

  abbrev IsNear : Life → Type 0
  IsNear later = scans_behind scans later life ≤ most

  made-poll : (number : ℕ) (later : Life) (new : Bool) → is_new (newest_poll (later ++ life)) number ≡ new
      → Keeps later → IsNear later → HasMade settings filter most life later
      → HasMade settings filter most life (Commanded (Poll number) ∷ later)
  made-poll number later false is k near h =
      let here = later ++ life in
      let same = blocks_old settings here number is in
      let ends = ap (last_end 0) same in
      record {
        made = h.made;
        blocks = same ∙ h.blocks;
        entries = h.entries ∙ ap (λ n. drop (newest_end settings life) (take n (log_of here))) (sym ends);
        punctual = h.punctual;
      }
  made-poll number later true is k near h =
      let here = later ++ life in
      let log = log_of here in
      let next = next_block settings here in
      let end = newest_end settings here in
      let start = start_after settings log end in
      let count = count_from settings log start in
      let more = blocks_new settings here number is in
      let ends = end_new settings here number is in
      let few = k.few_beyond in
      let begins : start ≡ end = omega arith in
      let within : end ≤ length log = blocks_end_within settings here in
      let later_end = ends-grow settings later life in
      let first = newest_end settings life in
      let taken = length-take end log in
      let parts : drop first (take (end + count) log) ≡ drop first (take end log) ++ take count (drop end log) =
      ap (drop first) (take-add end count log) ∙ drop-append-le first (take end log) (take count (drop end log)) (omega arith) in
      record {
        made = h.made ++ next ∷ [];
        blocks = more ∙ ap (λ bs. bs ++ next ∷ []) h.blocks ∙ append_assoc (blocks_of settings life) h.made (next ∷ []);
        entries =
            flat_map-append (λ (block : MadeBlock). block.transitions) h.made (next ∷ [])
            ∙ ap (λ ts. ts ++ (next.transitions ++ [])) h.entries
            ∙ ap (λ ts. drop first (take end log) ++ ts) (append-nil next.transitions)
            ∙ ap (λ s. drop first (take end log) ++ take count (drop s log)) begins
            ∙ sym parts
            ∙ ap (λ n. drop first (take (n + count) log)) (sym begins)
            ∙ ap (λ n. drop first (take n log)) (sym ends);
        punctual = each-push (IsPunctual most filter) h.made next h.punctual (record {
          not_lost = next_not_lost settings here few;
          young = young-take here (scans_behind scans later life) most filter count (waiting_of settings here) near k.young;
        });
      }

  -- while the blocks keep up
  pub has_made : (later : Life) → AtEachTime Keeps later → AtEachTime IsNear later → HasMade settings filter most life later
  has_made [] keeps near =
      record {
        made = [];
        blocks = sym (append-nil (blocks_of settings life));
        entries = nothing (newest_end settings life) (log_of life);
        punctual = tt;
      }
    where
      nothing : (n : ℕ) (ts : List Transition) → [] ≡ drop n (take n ts)
      nothing zero ts = refl
      nothing (suc n) [] = refl
      nothing (suc n) (t ∷ ts) = nothing n ts
  has_made (Scanned raw ∷ later) keeps near =
      let here = later ++ life in
      let h = has_made later keeps.1 near.1 in
      let within : newest_end settings here ≤ length (log_of here) = blocks_end_within settings here in
      record {
        made = h.made;
        blocks = h.blocks;
        entries = h.entries ∙ ap (drop (newest_end settings life))
            (sym (take-append-le (newest_end settings here) (log_of here) (transitions_below 64 raw here) within));
        punctual = h.punctual;
      }
  has_made (Commanded (Poll number) ∷ later) keeps near =
      made-poll number later (is_new (newest_poll (later ++ life)) number) refl (holds_at Keeps later keeps.1)
      (holds_at IsNear later near.1) (has_made later keeps.1 near.1)
    where
      holds_at : (P : Life → Type 0) (later : Life) → AtEachTime P later → P later
      holds_at P later each = holds_now P later each
  has_made (other ∷ later) keeps near =
      let h = has_made later keeps.1 near.1 in
      record { made = h.made; blocks = h.blocks; entries = h.entries; punctual = h.punctual }
