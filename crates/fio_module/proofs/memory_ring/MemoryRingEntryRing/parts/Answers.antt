use Rattle.fio_module.proofs.Names.{◌≡◌, ◌≤◌, ◌-◌, ◌++◌, length, take, drop, min, ap, ap₂, ◌∙◌, arith, first_in}
use Rattle.fio_module.proofs.RingLists.{ring-parts}
use Rattle.fio_module.proofs.MemoryRings.{first_in-at_most}
use Rattle.fio_module.proofs.memory_ring.MemoryRingEntryRing.parts.Goals as goal

pub returns : goal.returns
returns c =
    let slots = c.args.self.now.entries.now in
    let first = first_in c.args.self.now.place.now.first (length slots) in
    let count = min c.args.self.now.place.now.count (length slots) in
    let few : count ≤ length slots = omega arith in
    let counted : c.from-count.result ≡ count = omega (arith, c.from-count.ensures, c.count.ensures) in
    let begin : c.from-first.result ≡ first = omega (arith, c.from-first.ensures, c.first.ensures) in
    let split = c.split_at.ensures in
    let straight : c.min-from_first.result ≡ min (length slots - first) count =
    omega (arith, counted, c.split_at.ensures.back_len, begin, counted) in
    ap₂ (λ n entries. take n entries ++ take (c.from-count.result - c.min-from_first.result) c.split_at.result.0.now) straight (split.back ∙ ap (λ n. drop n slots) begin)
    ∙ ap₂ (λ n entries. take (min (length slots - first) count) (drop first slots) ++ take n entries)
    (ap₂ (λ a b. a - b) counted straight) (split.front ∙ ap (λ n. take n slots) begin)
    ∙ ring-parts slots first count (first_in-at_most _ _) few
