-- What a restart loses.
use Rattle.fio_link.proofs.Names.{◌≡◌, ℕ, ◌+◌, ◌-◌, ◌≤◌, ◌⊎◌, false, List, [], ◌∷◌, ◌++◌, length, take, drop, refl, ap, sym, subst, ◌∙◌, arith, inl, inr, length-append, length-take, length-drop, append_assoc, nat_lt, AllByRecursion, nat_tests, Settings, Transition, log_of, MadeBlock, blocks_of, last_end, end_of_blocks, newest_end, waiting_from, waiting_of, FewBeyond, NeverTooMany, FollowOneAnother, blocks_follow, blocks_end_within, holds_now, nothing_is_lost, TakenLife, IsOneStretch, AtEachRestart}
use Rattle.fio_link.specs.Restarts.{transitions_of_blocks, pushed_out_before, LosesFew}
use Rattle.fio_link.proofs.PieceLaws.{part_count}
use Rattle.fio_link.proofs.StretchesOfLives.{NotBoth}

-- the blocks after a first part end where all blocks end
last_end-split : (start : ℕ) (xs ys : List MadeBlock) → last_end start (xs ++ ys) ≡ last_end (last_end start xs) ys
last_end-split start [] ys = refl
last_end-split start (x ∷ xs) ys = last_end-split x.end xs ys

-- if blocks follow one another, so do those after a first part
pub follow-behind : (log : List Transition) (per_block start : ℕ) (xs ys : List MadeBlock)
    → FollowOneAnother log per_block start (xs ++ ys) → FollowOneAnother log per_block (last_end start xs) ys
follow-behind log per_block start [] ys f = f
follow-behind log per_block start (x ∷ xs) ys f = follow-behind log per_block x.end xs ys f.2

-- and the first ones do
follow-front : (log : List Transition) (per_block start : ℕ) (xs ys : List MadeBlock)
    → FollowOneAnother log per_block start (xs ++ ys) → FollowOneAnother log per_block start xs
follow-front log per_block start [] ys f = tt
follow-front log per_block start (x ∷ xs) ys f = (f.0, f.1, follow-front log per_block x.end xs ys f.2)

-- up to their end lie their entries and what was pushed out before them
counted : (log : List Transition) (per_block start : ℕ) (blocks : List MadeBlock)
    → FollowOneAnother log per_block start blocks
    → start + (length (transitions_of_blocks blocks) + pushed_out_before blocks) ≡ last_end start blocks
counted log per_block start [] f = omega arith
counted log per_block start (block ∷ blocks) f =
    let begins : block.before ≡ start = f.0 in
    let forward : block.before ≤ block.start = f.1.forward in
    let count : block.start + length block.transitions ≡ block.end = part_count log per_block block f.1 in
    omega (arith, length-append block.transitions (transitions_of_blocks blocks), counted log per_block block.end blocks f.2)

-- one block has at most the most entries of a block
few_in_one : (log : List Transition) (per_block start : ℕ) (blocks : List MadeBlock) → length blocks ≤ 1
    → FollowOneAnother log per_block start blocks → length (transitions_of_blocks blocks) ≤ per_block
few_in_one log per_block start [] le f = omega arith
few_in_one log per_block start (block ∷ []) le f =
    let few : block.end - block.start ≤ per_block = f.1.few in
    let count : block.start + length block.transitions ≡ block.end = part_count log per_block block f.1 in
    omega (arith, length-append block.transitions [])
few_in_one log per_block start (block ∷ (other ∷ blocks)) le f = absurd (omega arith)

-- before blocks that say of no loss nothing was pushed out
none_pushed : (log : List Transition) (per_block start : ℕ) (blocks : List MadeBlock)
    → FollowOneAnother log per_block start blocks → AllByRecursion (λ block. block.lost ≡ false) blocks
    → pushed_out_before blocks ≡ 0
none_pushed log per_block start [] f none = refl
none_pushed log per_block start (block ∷ blocks) f none =
    let kept : nat_lt block.before block.start ≡ false = sym f.1.lost ∙ none.0 in
    let low : block.start ≤ block.before = grind (arith, nat_tests) in
    omega (arith, none_pushed log per_block block.end blocks f.2 none.1)

-- what holds of each of two lists joined holds of each of them
pub each-behind : (P : MadeBlock → Type 0) (xs ys : List MadeBlock) → AllByRecursion P (xs ++ ys) → AllByRecursion P ys
each-behind P [] ys all = all
each-behind P (x ∷ xs) ys all = each-behind P xs ys all.1

pub each-front : (P : MadeBlock → Type 0) (xs ys : List MadeBlock) → AllByRecursion P (xs ++ ys) → AllByRecursion P xs
each-front P [] ys all = tt
each-front P (x ∷ xs) ys all = (all.0, each-front P xs ys all.1)

-- what a life has after the blocks taken of it
record HasAfter (settings : Settings) (part : TakenLife) : Type 0 where
  pub few : length (transitions_of_blocks part.after) ≤ settings.per_block
  pub few_wait : length (waiting_of settings part.life) ≤ settings.waiting
  pub count :
      length (drop (end_of_blocks (part.before ++ part.taken)) (log_of part.life))
      ≡ (length (transitions_of_blocks part.after) + length (waiting_of settings part.life))
      + (pushed_out_before part.after + (waiting_from settings part.life - newest_end settings part.life))
  pub unless_full :
      NeverTooMany settings part.life
      → pushed_out_before part.after + (waiting_from settings part.life - newest_end settings part.life) ≡ 0

has_after : (settings : Settings) (part : TakenLife) → IsOneStretch settings part → HasAfter settings part
has_after settings part stretch =
    let log = log_of part.life in
    let through = part.before ++ part.taken in
    let split : blocks_of settings part.life ≡ through ++ part.after =
    stretch.blocks ∙ sym (append_assoc part.before part.taken part.after) in
    let all = subst (FollowOneAnother log settings.per_block 0) split (blocks_follow settings part.life) in
    let behind = follow-behind log settings.per_block 0 through part.after all in
    let end : newest_end settings part.life ≡ last_end (end_of_blocks through) part.after =
    ap end_of_blocks split ∙ last_end-split 0 through part.after in
    let within : newest_end settings part.life ≤ length log = blocks_end_within settings part.life in
    let counts = counted log settings.per_block (end_of_blocks through) part.after behind in
    let left = length-drop (end_of_blocks through) log in
    let waits = length-drop (waiting_from settings part.life) log in
    record {
      few = few_in_one log settings.per_block (end_of_blocks through) part.after stretch.one_after behind;
      few_wait = omega (arith, waits);
      count = omega (arith, left, waits, counts, end, within);
      unless_full = λ few.
          let now : FewBeyond settings part.life = holds_now (FewBeyond settings) part.life few in
          let none = each-behind (λ block. block.lost ≡ false) through part.after
          (subst (AllByRecursion (λ block. block.lost ≡ false)) split (nothing_is_lost settings part.life few)) in
          omega (arith, now, none_pushed log settings.per_block (end_of_blocks through) part.after behind none);
    }

-- what a life has before the blocks taken of it
record HasBefore (settings : Settings) (part : TakenLife) : Type 0 where
  pub few : length (transitions_of_blocks part.before) ≤ settings.per_block
  pub count :
      length (take (end_of_blocks part.before) (log_of part.life))
      ≡ length (transitions_of_blocks part.before) + pushed_out_before part.before
  pub unless_full : NeverTooMany settings part.life → pushed_out_before part.before ≡ 0

has_before : (settings : Settings) (part : TakenLife) → IsOneStretch settings part → HasBefore settings part
has_before settings part stretch =
    let log = log_of part.life in
    let rest = part.taken ++ part.after in
    let all = subst (FollowOneAnother log settings.per_block 0) stretch.blocks (blocks_follow settings part.life) in
    let front = follow-front log settings.per_block 0 part.before rest all in
    let behind = follow-behind log settings.per_block 0 part.before rest all in
    let end : newest_end settings part.life ≡ last_end (end_of_blocks part.before) rest =
    ap end_of_blocks stretch.blocks ∙ last_end-split 0 part.before rest in
    let within : newest_end settings part.life ≤ length log = blocks_end_within settings part.life in
    let counts = counted log settings.per_block 0 part.before front in
    let after = counted log settings.per_block (end_of_blocks part.before) rest behind in
    let taken = length-take (end_of_blocks part.before) log in
    record {
      few = few_in_one log settings.per_block 0 part.before stretch.one_before front;
      count = omega (arith, taken, counts, after, end, within);
      unless_full = λ few.
          let none = each-front (λ block. block.lost ≡ false) part.before rest
          (subst (AllByRecursion (λ block. block.lost ≡ false)) stretch.blocks (nothing_is_lost settings part.life few)) in
          none_pushed log settings.per_block 0 part.before front none;
    }

-- few are not pushed out, if not both blocks are missed
few_of : (per_block waiting : ℕ) (after waits before : List Transition) → (after ≡ []) ⊎ (before ≡ [])
    → length after ≤ per_block → length waits ≤ waiting → length before ≤ per_block
    → length (after ++ (waits ++ before)) ≤ waiting + per_block
few_of per_block waiting after waits before one few_after few_wait few_before = grind (arith, nat_tests, length-append)

-- a restart loses few
loses_few : (settings : Settings) (old new : TakenLife) → IsOneStretch settings old → IsOneStretch settings new
    → NotBoth old new → LosesFew settings old new
loses_few settings old new left right one =
    let a = has_after settings old left in
    let b = has_before settings new right in
    let lost = drop (end_of_blocks (old.before ++ old.taken)) (log_of old.life) in
    let none : (transitions_of_blocks old.after ≡ []) ⊎ (transitions_of_blocks new.before ≡ []) =
    elim one as (λ _. (transitions_of_blocks old.after ≡ []) ⊎ (transitions_of_blocks new.before ≡ [])) [
      | inl none_after ↦ inl (ap transitions_of_blocks none_after)
      | inr none_before ↦ inr (ap transitions_of_blocks none_before)
    ] in
    record {
      not_both = one;
      few = let all = few_of settings.per_block settings.waiting (transitions_of_blocks old.after) (waiting_of settings old.life)
          (transitions_of_blocks new.before) none a.few a.few_wait b.few in omega arith;
      others = omega (
        arith,
        length-append lost (take (end_of_blocks new.before) (log_of new.life)),
        length-append (transitions_of_blocks old.after) (waiting_of settings old.life ++ transitions_of_blocks new.before),
        length-append (waiting_of settings old.life) (transitions_of_blocks new.before),
        a.count,
        b.count,
      );
      unless_full = λ few more. omega (arith, a.unless_full few, b.unless_full more);
    }

-- so does each
pub restarts_lose_few : (settings : Settings) (lives : List TakenLife) → AllByRecursion (IsOneStretch settings) lives
    → AtEachRestart NotBoth lives → AtEachRestart (LosesFew settings) lives
restarts_lose_few settings (old ∷ (new ∷ later)) stretches ones =
    (loses_few settings old new stretches.0 stretches.1.0 ones.0, restarts_lose_few settings (new ∷ later) stretches.1 ones.1)
restarts_lose_few settings _ stretches ones = tt
