use Rattle.fio_module.proofs.Names.{◌≡◌, ◌+◌, ◌-◌, ◌<◌, ◌≤◌, ◌++◌, ◌∷◌, [], length, drop, min, ap, ap₂, sym, ◌∙◌, arith, inl, inr, length-append, slice_set, leb_tells, length-set, buffer, first_in}
use Rattle.fio_module.proofs.RingLists.{ring_from, ring-length, push-straight, push-wrapped, push-full, push-full_last}
use Rattle.fio_module.proofs.MemoryRings.{first_in-inside, first_in-same}
use Rattle.fio_module.proofs.memory_ring.MemoryRingEntryRing.push.Goals as goal

pub returns-then-count-room-clause-entries : goal.returns-then-count-room-clause-entries
returns-then-count-room-clause-entries c =
    let slots = c.args.self.now.entries.now in
    let entry = c.args.entry in
    let room = length slots in
    let first = first_in c.args.self.now.place.now.first room in
    let count = min c.args.self.now.place.now.count room in
    let place = c.from.result in
    let after = slice_set slots place entry in
    let few : count ≤ room = omega arith in
    let counted : c.count-count.result ≡ count = c.count-count.ensures in
    let inside : first < room = first_in-inside _ _ (omega (arith, c.if-count-room.true)) in
    let long : length after ≡ room = length-set slots place entry in
    let more : min (c.count-count.result + 1) (length after) ≡ count + 1 = omega (arith, long, counted, c.if-count-room.true) in
    let all = ring_from slots first count in
    let none : length (all ++ entry ∷ []) - room ≡ 0 =
    omega (arith, counted, c.if-count-room.true, length-append all (entry ∷ []), ring-length slots first count few) in
    ap₂ buffer
    (ap₂ (ring_from after) (ap (first_in c.args.self.now.place.now.first) long) more
    ∙ elim (leb_tells (first + count + 1) room) [
      | inl straight ↦
          let at : place ≡ first + count = c.from.ensures ∙ c.index_behind.ensures.straight (omega (arith, straight.1, counted, c.first-first.ensures)) ∙ ap₂ (λ a b. a + b) c.first-first.ensures counted in
          push-straight slots first count place entry at (omega (arith, at, straight.1))
      | inr wrapped ↦
          push-wrapped slots first count place entry (omega (arith, inside)) (omega (arith, counted, c.if-count-room.true))
          (omega (
            arith,
            c.from.ensures,
            c.room-room.ensures,
            counted,
            c.first-first.ensures,
            c.index_behind.ensures.wrapped (omega (arith, wrapped.1, counted, c.first-first.ensures, c.room-room.ensures)),
          ))
    ]
    ∙ ap (λ n. drop n (all ++ entry ∷ [])) (sym none))
    long

pub returns-else-count-room-clause-entries : goal.returns-else-count-room-clause-entries
returns-else-count-room-clause-entries c =
    let slots = c.args.self.now.entries.now in
    let entry = c.args.entry in
    let room = length slots in
    let first = first_in c.args.self.now.place.now.first room in
    let count = min c.args.self.now.place.now.count room in
    let place = c.from.result in
    let next = c.index_behind-next.result in
    let after = slice_set slots place entry in
    let few : count ≤ room = omega arith in
    let counted : c.count-count.result ≡ count = c.count-count.ensures in
    let some : 0 < room = omega (arith, c.if-room-eq0.false) in
    let inside : first < room = first_in-inside _ _ some in
    let full : count ≡ room = omega (arith, counted, c.if-count-room.false) in
    let long : length after ≡ room = length-set slots place entry in
    let still : min c.args.self.now.place.now.count (length after) ≡ room = omega (arith, long, full) in
    let at : place ≡ first = omega (arith, full, counted, c.first-first.ensures, c.from.ensures, c.index_behind.ensures.wrapped) in
    let all = ring_from slots first count in
    let one : length (all ++ entry ∷ []) - room ≡ 1 =
    omega (arith, full, length-append all (entry ∷ []), ring-length slots first count few) in
    ap₂ buffer
    (ap₂ (λ n place. ring_from (slice_set slots place entry) (first_in next n) (min c.args.self.now.place.now.count n)) long at
    ∙ ap (λ n. ring_from (slice_set slots first entry) (first_in next room) n) full
    ∙ elim (leb_tells (first + 2) room) [
      | inl straight ↦
          let next_is : next ≡ first + 1 = omega (arith, straight.1, c.first-first.ensures, c.index_behind-next.ensures.straight) in
          ap (λ n. ring_from (slice_set slots first entry) (first_in n room) room) next_is
          ∙ ap (λ n. ring_from (slice_set slots first entry) n room) (first_in-same (first + 1) room (omega (arith, straight.1)))
          ∙ push-full slots first entry (omega (arith, straight.1))
      | inr last ↦
          let next_is : next ≡ 0 = omega (arith, inside, last.1, c.first-first.ensures, c.index_behind-next.ensures.wrapped) in
          ap (λ n. ring_from (slice_set slots first entry) (first_in n room) room) next_is
          ∙ ap (λ n. ring_from (slice_set slots first entry) n room) (first_in-same 0 room some)
          ∙ push-full_last slots first entry (omega (arith, inside, last.1))
    ]
    ∙ ap₂ (λ count n. drop n (ring_from slots first count ++ entry ∷ [])) (sym full) (sym one))
    long
