-- Numbers of a pace.
use Rattle.fio_link.proofs.Names.{◌≡◌, ℕ, zero, suc, ◌+◌, ◌-◌, ◌*◌, ◌<◌, ◌≤◌, inl, inr, subst, arith, mul-le-mul_left, mul-le-mul_right, cases_lt}
use Rattle.std.proofs.Common.{◌/◌}
use Rattle.std.specs.Prelude.{min}
use Rattle.std.proofs.Math.Nat.{div-lt_iff_lt-mul, div-mul-le_self, le-div_iff_mul-le}
use Rattle.fio_wire.specs.Lengths.{most_bits}
use Rattle.fio_wire.specs.declared.line_kind.LineKind.{LineKind}
use Rattle.fio_wire.specs.declared.line_kind.LineKind.TheVariants.{Asynchronous, Synchronous}
use Rattle.fio_link.specs.declared.line.TimedLine.{TimedLine}
use Rattle.fio_link.specs.declared.line.Traffic.{Traffic}
use Rattle.fio_link.specs.Pace.{HasNoPaceBelow, IsPace, answer_scans, clean_pace, least_apart, most_apart, most_entries, round_scans, scans_on_line}

-- a longer message takes no fewer bits
pub more_bits : (kind : LineKind) (few many : ℕ) → few ≤ many → most_bits kind few ≤ most_bits kind many
more_bits (Asynchronous stop) few many le = mul-le-mul_left (1 + 8 + stop) (omega arith)
more_bits Synchronous few many le = omega arith

div-more : (a b k : ℕ) → 1 ≤ k → a ≤ b → a / k ≤ b / k
div-more a b k some le = let low = div-mul-le_self a k in (le-div_iff_mul-le {k = k} {x = a / k} {y = b} some).1 (omega arith)

-- and no fewer scans
pub more_scans : (line : TimedLine) (few many : ℕ) → 1 ≤ line.rate → few ≤ many → answer_scans line few ≤ answer_scans line many
more_scans line few many some le =
    let bits = more_bits line.kind few many le in
    let scans = div-more (1000 * (most_bits line.kind 2 + most_bits line.kind few + line.other) + (line.rate - 1))
    (1000 * (most_bits line.kind 2 + most_bits line.kind many + line.other) + (line.rate - 1)) line.rate some (omega arith) in
    omega arith

-- a number, divided and rounded up
rounded : (x filter : ℕ) → 1 ≤ filter → x < (1 + x / filter) * filter
rounded x filter some = (div-lt_iff_lt-mul {k = filter} {x = x} {y = 1 + x / filter} some).0 (omega arith)

-- What a block takes when m scans wait at most: j blocks make up for j s scans, in which no more is reported than they take.
pub few_taken : (opened filter per_block scans most behind blocks waiting : ℕ) → 1 ≤ filter → scans ≤ most → behind ≤ most
    → waiting + per_block * blocks ≤ opened * (1 + (scans * blocks + behind - 1) / filter)
    → min per_block waiting ≤ min per_block (opened * (1 + (most - 1) / filter))
few_taken opened filter per_block scans most behind blocks waiting some le low few =
    elim (cases_lt (opened * (1 + (most - 1) / filter)) per_block) as (λ _. min per_block waiting ≤ min per_block (opened * (1 + (most - 1) / filter))) [
      | inr full ↦ omega arith
      | inl less ↦
          let times = (scans - 1) / filter in
          let later = (most - 1) / filter in
          let all = (scans * blocks + behind - 1) / filter in
          let count = (1 + times) * blocks in
          let fewer : times ≤ later = div-more (scans - 1) (most - 1) filter some (omega arith) in
          let takes : opened * (1 + times) ≤ opened * (1 + later) = mul-le-mul_left opened (omega arith) in
          let within = rounded (scans - 1) filter some in
          let within_most = rounded (most - 1) filter some in
          let made_up : scans * blocks ≤ (1 + times) * filter * blocks = mul-le-mul_right blocks (omega arith) in
          let regroup : (1 + times) * filter * blocks ≡ count * filter = grind arith in
          let sum : (count + (1 + later)) * filter ≡ count * filter + (1 + later) * filter = grind arith in
          let below : all < count + (1 + later) =
          (div-lt_iff_lt-mul {k = filter} {x = scans * blocks + behind - 1} {y = count + (1 + later)} some).1 (omega arith) in
          let product : opened * (1 + all) ≤ opened * (count + (1 + later)) = mul-le-mul_left opened (omega arith) in
          let split : opened * ((1 + times) * blocks + (1 + later)) ≡ opened * (1 + times) * blocks + opened * (1 + later) = grind arith in
          let taken : opened * (1 + times) * blocks ≤ per_block * blocks = mul-le-mul_right blocks (omega arith) in
          omega arith
    ]

-- what blocks make up for, if each takes all that may come
pub no_more_scans : (opened filter per_block scans blocks : ℕ) → 1 ≤ opened → 1 ≤ filter → opened * (1 + (scans - 1) / filter) ≤ per_block
    → scans * blocks ≤ filter * (per_block * blocks / opened)
no_more_scans opened filter per_block scans blocks some_open some takes =
    let count = 1 + (scans - 1) / filter in
    let within = rounded (scans - 1) filter some in
    let made_up : scans * blocks ≤ count * filter * blocks = mul-le-mul_right blocks (omega arith) in
    let regroup : count * filter * blocks ≡ filter * (count * blocks) = grind arith in
    let all : opened * count * blocks ≤ per_block * blocks = mul-le-mul_right blocks takes in
    let turned : count * blocks * opened ≡ opened * count * blocks = grind arith in
    let filled : count * blocks ≤ per_block * blocks / opened =
    (le-div_iff_mul-le {k = opened} {x = count * blocks} {y = per_block * blocks} some_open).1 (omega arith) in
    let more : filter * (count * blocks) ≤ filter * (per_block * blocks / opened) = mul-le-mul_left filter filled in
    omega arith

-- polls are never closer together than by a right clock, nor further apart
pub apart : (line : TimedLine) (pace : ℕ) → (least_apart line pace ≤ pace) × (pace ≤ most_apart line pace)
apart line pace =
    let slow : pace * (1000000 + line.drift) ≡ pace * 1000000 + pace * line.drift = grind arith in
    let fast : pace * (1000000 - line.drift) ≤ pace * 1000000 = mul-le-mul_left pace (omega arith) in
    let whole = div-mul-le_self (pace * (1000000 - line.drift)) 1000000 in
    let below : pace ≤ (pace * (1000000 + line.drift) + 999999) / 1000000 =
    (le-div_iff_mul-le {k = 1000000} {x = pace} {y = pace * (1000000 + line.drift) + 999999} (omega arith)).1 (omega arith) in
    (omega arith, omega arith)

-- at a slower pace they may be further apart
apart_more : (line : TimedLine) (pace n : ℕ) → pace ≤ n → most_apart line pace ≤ most_apart line n
apart_more line pace n le =
    let slow : pace * (1000000 + line.drift) ≤ n * (1000000 + line.drift) = mul-le-mul_right (1000000 + line.drift) le in
    let scans = div-more (pace * (1000000 + line.drift) + 999999) (n * (1000000 + line.drift) + 999999) 1000000 (omega arith) (omega arith) in
    omega arith

-- no slower pace is one, if blocks do not make up for all scans at this one
none_slower : (line : TimedLine) (traffic : Traffic) (pace n : ℕ) → pace ≤ n → traffic.per_block * traffic.filter < traffic.opened * clean_pace line pace
    → IsPace line traffic n → ⊥
none_slower line traffic pace n le many p =
    let clean : clean_pace line pace ≤ clean_pace line n = mul-le-mul_left (line.lost + 1) (apart_more line pace n le) in
    let each : traffic.opened * clean_pace line pace ≤ traffic.opened * clean_pace line n = mul-le-mul_left traffic.opened clean in
    omega (arith, p.enough)

-- so there is none, if none is below it
pub none_at_all : (line : TimedLine) (traffic : Traffic) (pace : ℕ) → HasNoPaceBelow line traffic pace
    → traffic.per_block * traffic.filter < traffic.opened * clean_pace line pace → (n : ℕ) → IsPace line traffic n → ⊥
none_at_all line traffic pace below many n p =
    elim (cases_lt n pace) as (λ _. ⊥) [
      | inl less ↦ below n less p
      | inr more ↦ none_slower line traffic pace n more many p
    ]

-- blocks never make up for so many scans
pub most_are_too_many : (line : TimedLine) (traffic : Traffic) → 1 ≤ traffic.opened → traffic.per_block ≤ 255 → traffic.filter ≤ 255
    → traffic.per_block * traffic.filter < traffic.opened * clean_pace line (255 * 255 + 1)
most_are_too_many line traffic some few_entries few_samples =
    let more : 1 ≤ line.lost + 1 = omega arith in
    let far = (apart line (255 * 255 + 1)).1 in
    let once : 1 * most_apart line (255 * 255 + 1) ≤ clean_pace line (255 * 255 + 1) = mul-le-mul_right (most_apart line (255 * 255 + 1)) more in
    let each : 1 * clean_pace line (255 * 255 + 1) ≤ traffic.opened * clean_pace line (255 * 255 + 1) = mul-le-mul_right (clean_pace line (255 * 255 + 1)) some in
    let block : traffic.per_block * traffic.filter ≤ 255 * traffic.filter = mul-le-mul_right traffic.filter few_entries in
    omega arith

-- one number more is no pace
pub none_below_more : (line : TimedLine) (traffic : Traffic) (pace : ℕ) → HasNoPaceBelow line traffic pace → (IsPace line traffic pace → ⊥)
    → HasNoPaceBelow line traffic (pace + 1)
none_below_more line traffic pace below none n less p =
    elim (cases_lt n pace) as (λ _. ⊥) [
      | inl before ↦ below n before p
      | inr same ↦ let here : n ≡ pace = omega arith in none (subst (IsPace line traffic) here p)
    ]

-- a round takes a scan at least
some_bits : (kind : LineKind) → 1 ≤ most_bits kind 2
some_bits (Asynchronous stop) = omega arith
some_bits Synchronous = omega arith

pub some_round : (line : TimedLine) (traffic : Traffic) (pace : ℕ) → 1 ≤ line.rate → 1 ≤ round_scans line traffic pace
some_round line traffic pace some_rate =
    let bits = some_bits line.kind in
    let all = most_bits line.kind 2 + most_bits line.kind (8 + 3 * most_entries line traffic pace) + line.other in
    let some : 1 ≤ scans_on_line line.rate all = (le-div_iff_mul-le {k = line.rate} {x = 1} {y = 1000 * all + (line.rate - 1)} some_rate).1 (omega arith) in
    omega arith

-- so polls are a scan apart at least
pub some_apart : (line : TimedLine) (traffic : Traffic) (pace : ℕ) → IsPace line traffic pace → 1 ≤ least_apart line pace
some_apart line traffic pace p = let some = some_round line traffic pace p.some_rate in omega (arith, p.ends)

pub none_below_one : (line : TimedLine) (traffic : Traffic) → HasNoPaceBelow line traffic 1
none_below_one line traffic zero less p = let some = some_apart line traffic 0 p in let near = (apart line 0).0 in omega arith
none_below_one line traffic (suc n) less p = omega arith
