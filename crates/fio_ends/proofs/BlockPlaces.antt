-- Where the blocks of a life are in its log.
use Rattle.fio_ends.proofs.Names.{◌≡◌, ◌∙◌, ◌+◌, ◌-◌, ◌≤◌, ℕ, zero, suc, false, List, [], ◌∷◌, length, take, drop, Some, slice_get, ap, sym, subst, arith, length-drop, length-take, nat_lt, nat_tests, same_Some, Settings, Life, Transition, log_of, MadeBlock, blocks_of, end_of_blocks, last_end-append, take_one_more, last_end, FollowOneAnother, IsPartOf, blocks_follow, get_part}

-- where the first blocks of a life end
abbrev pub end_at : Settings → Life → ℕ → ℕ
end_at settings life round = end_of_blocks (take round (blocks_of settings life))

-- the first blocks end within the log
end_within : (log : List Transition) (per_block before k : ℕ) (blocks : List MadeBlock) → before ≤ length log
    → FollowOneAnother log per_block before blocks → last_end before (take k blocks) ≤ length log
end_within log per_block before zero blocks within follow = within
end_within log per_block before (suc k) [] within follow = within
end_within log per_block before (suc k) (block ∷ blocks) within follow =
    end_within log per_block block.end k blocks follow.1.within follow.2

pub ends_within : (settings : Settings) (life : Life) (round : ℕ) → end_at settings life round ≤ length (log_of life)
ends_within settings life round =
    end_within (log_of life) settings.per_block 0 round (blocks_of settings life) (omega arith) (blocks_follow settings life)

-- a block begins where those before it end, and is a part of the log
part_at : (log : List Transition) (per_block before k : ℕ) (blocks : List MadeBlock) (block : MadeBlock)
    → FollowOneAnother log per_block before blocks → slice_get blocks k ≡ Some block
    → (block.before ≡ last_end before (take k blocks)) × IsPartOf log per_block block
part_at log per_block before k [] block follow at = absurd (cc at)
part_at log per_block before zero (first ∷ blocks) block follow at =
    let same : first ≡ block = same_Some _ _ at in
    (ap (λ (b : MadeBlock). b.before) (sym same) ∙ follow.0, subst (IsPartOf log per_block) same follow.1)
part_at log per_block before (suc k) (first ∷ blocks) block follow at =
    part_at log per_block first.end k blocks block follow.2 at

-- a block after the first blocks of a life
pub record IsNext (settings : Settings) (life : Life) (round : ℕ) (block : MadeBlock) : Type 0 where
  pub forward : end_at settings life round ≤ block.start
  pub begins : block.lost ≡ false → end_at settings life round ≡ block.start
  pub count : block.start + length block.transitions ≡ block.end
  pub logged : (k : ℕ) (t : Transition) → slice_get block.transitions k ≡ Some t
      → slice_get (log_of life) (block.start + k) ≡ Some t
  pub ends : block.end ≡ end_at settings life (round + 1)

pub is_next : (settings : Settings) (life : Life) (round : ℕ) (block : MadeBlock)
    → slice_get (blocks_of settings life) round ≡ Some block → IsNext settings life round block
is_next settings life round block made =
    let log = log_of life in
    let part = part_at log settings.per_block 0 round (blocks_of settings life) block (blocks_follow settings life) made in
    let size = block.end - block.start in
    let all : length block.transitions ≡ length (take size (drop block.start log)) = ap length part.1.transitions in
    record {
      forward = omega (arith, part.0, part.1.forward);
      begins = λ whole.
          (let ahead : block.before ≤ block.start = part.1.forward in
          let kept : nat_lt block.before block.start ≡ false = sym part.1.lost ∙ whole in
          let same : block.before ≡ block.start = grind (arith, nat_tests) in
          sym part.0 ∙ same);
      count = omega (arith, part.1.ends, part.1.within, length-take size (drop block.start log), length-drop block.start log);
      logged = λ k t at.
          get_part size block.start log k t (ap (λ (ts : List Transition). slice_get ts k) (sym part.1.transitions) ∙ at);
      ends =
          sym (ap end_of_blocks (take_one_more (blocks_of settings life) round block made)
          ∙ last_end-append 0 (take round (blocks_of settings life)) block);
    }
