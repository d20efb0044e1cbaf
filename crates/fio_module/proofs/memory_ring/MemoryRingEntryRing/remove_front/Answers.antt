use Rattle.fio_module.proofs.Names.{◌≡◌, ◌+◌, ◌-◌, ◌≤◌, length, drop, min, ap, ap₂, sym, ◌∙◌, arith, inl, inr, drop_min, leb_tells, buffer, first_in}
use Rattle.fio_module.proofs.RingLists.{ring_from, ring-length, remove-straight, remove-wrapped}
use Rattle.fio_module.proofs.MemoryRings.{first_in-at_most, first_in-inside, first_in-next, first_in-same}
use Rattle.fio_module.proofs.memory_ring.MemoryRingEntryRing.remove_front.Goals as goal

pub returns-clause-entries : goal.returns-clause-entries
returns-clause-entries c =
    let slots = c.args.self.now.entries.now in
    let room = length slots in
    let first = first_in c.args.self.now.place.now.first room in
    let count = min c.args.self.now.place.now.count room in
    let removed = min c.args.count count in
    let next = c.index_behind-next.result in
    let few : count ≤ room = omega arith in
    let inside : first ≤ room = first_in-at_most c.args.self.now.place.now.first room in
    let counted : c.count-held.result ≡ count = c.count-held.ensures in
    let gone : c.min-removed.result ≡ removed = omega (arith, counted, c.from.ensures, c.min-removed.ensures) in
    let left : min (c.count-held.result - c.min-removed.result) room ≡ count - removed = omega (arith, counted, gone) in
    let all = ring_from slots first count in
    let same = ap (λ n. drop (min c.args.count n) all) (sym (ring-length slots first count few))
    ∙ drop_min c.args.count all in
    ap (λ items. buffer items room)
    (elim (leb_tells (first + removed + 1) room) [
      | inl straight ↦
          let is : next ≡ first + removed = c.index_behind-next.ensures.straight (omega (arith, straight.1, gone, c.first-first.ensures)) ∙ ap₂ (λ a b. a + b) c.first-first.ensures gone in
          ap₂ (ring_from slots) (ap (λ n. first_in n room) is ∙ first_in-same (first + removed) room (omega (arith, straight.1))) left
          ∙ remove-straight slots first count removed (omega (arith, straight.1)) (omega arith) ∙ same
      | inr wrapped ↦
          let is : room + next ≡ first + removed = omega (
            arith,
            c.room-room.ensures,
            c.first-first.ensures,
            gone,
            c.index_behind-next.ensures.wrapped (omega (arith, wrapped.1, gone, c.first-first.ensures, c.room-room.ensures)),
          ) in
          ap₂ (ring_from slots) (first_in-next next room (omega (arith, is, inside)) (λ some. omega (arith, is, first_in-inside c.args.self.now.place.now.first room some))) left
          ∙ remove-wrapped slots first count removed next inside few (omega arith) is ∙ same
    ])
