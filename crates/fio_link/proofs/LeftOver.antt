-- What blocks do not take of what had been logged before an earlier time.
use Rattle.fio_link.proofs.Names.{◌≡◌, ℕ, zero, suc, ◌+◌, ◌-◌, ◌*◌, ◌<◌, ◌≤◌, ◌++◌, length, refl, ap, arith, mul-le-mul_right, Settings, Life, log_of, newest_end, blocks_of, log-grown}
use Rattle.std.proofs.Common.{min}
use Rattle.fio_module.proofs.Stretches.{end_after_block}

-- What blocks take of what had been logged before an earlier time: everything, or `rounds` whole blocks of what at most
-- remained.
pub record LeftOf (settings : Settings) (filter most rounds : ℕ) (begin now : Life) : Type 0 where
  pub logged : length (log_of begin) ≤ length (log_of now)
  pub few :
      let left = length (log_of begin) - newest_end settings now in
      1 ≤ left → left * filter + rounds * (settings.per_block * filter) ≤ most

module _ (settings : Settings) (filter : ℕ) where
  -- one that ended earlier
  pub left_then : (stretch begin before last : Life) (rounds limit : ℕ) → last ≡ stretch ++ before
      → length (blocks_of settings before) < length (blocks_of settings last)
      → LeftOf settings filter limit rounds begin before → LeftOf settings filter limit (suc rounds) begin last
  left_then stretch begin before last rounds limit is one_more l =
      let logged = length (log_of begin) in
      let grown = log-grown stretch before in
      let log_now = ap (λ l. length (log_of l)) is in
      let end_now = ap (newest_end settings) is in
      let blocks_now = ap (λ l. length (blocks_of settings l)) is in
      let bound = min logged (newest_end settings before + settings.per_block) in
      let old = l.logged in
      let taken_more : bound ≤ newest_end settings (stretch ++ before) =
      end_after_block settings before bound (omega arith) (omega arith) stretch (omega arith) in
      let spread : suc rounds * (settings.per_block * filter) ≡ rounds * (settings.per_block * filter) + settings.per_block * filter = grind arith in
      record {
        logged = omega arith;
        few = λ some_left.
            let left = logged - newest_end settings last in
            let more : left + settings.per_block ≤ logged - newest_end settings before = omega arith in
            let products : (left + settings.per_block) * filter ≤ (logged - newest_end settings before) * filter = mul-le-mul_right filter more in
            let both : (left + settings.per_block) * filter ≡ left * filter + settings.per_block * filter = grind arith in
            let earlier_few = l.few (omega arith) in
            omega arith;
      }

  -- so if nothing can remain after that many blocks, nothing does
  pub none_left : 1 ≤ filter → (limit rounds : ℕ) (begin now : Life) → LeftOf settings filter limit rounds begin now
      → limit ≤ rounds * (settings.per_block * filter) → length (log_of begin) ≤ newest_end settings now
  none_left some limit rounds begin now l few =
      let left = length (log_of begin) - newest_end settings now in
      none left (length (log_of begin)) (newest_end settings now) refl (λ some_left.
      let product : 1 * filter ≤ left * filter = mul-le-mul_right filter some_left in
      let too_many = l.few some_left in
      absurd (omega arith))
    where
      none : (left logged end : ℕ) → left ≡ logged - end → (1 ≤ left → ⊥) → logged ≤ end
      none zero logged end is not = omega arith
      none (suc left) logged end is not = absurd (not (omega arith))
