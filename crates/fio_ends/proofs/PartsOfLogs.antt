-- Parts of lists of transitions, from one place up to another.
use Rattle.fio_module.proofs.Names.{◌≡◌, ℕ, ◌+◌, ◌-◌, ◌≤◌, List, ◌++◌, length, map, take, drop, refl, ap, sym, arith, length-drop, take-append-le, drop-append-le, drop-drop, map-append, Transition, entry_of}
use Rattle.std.proofs.Math.Seq.{take-add, drop-append-add}
use Rattle.fio_message.specs.declared.fields.Entry.{Entry}

-- the entries of the transitions from one place up to another
abbrev pub part_of : List Transition → ℕ → ℕ → List Entry
part_of log start end = map entry_of (take (end - start) (drop start log))

-- they stay as the list grows
pub part_longer : (log more : List Transition) (start end : ℕ) → start ≤ end → end ≤ length log
    → part_of (log ++ more) start end ≡ part_of log start end
part_longer log more start end order within =
    let dropped : drop start (log ++ more) ≡ drop start log ++ more = drop-append-le start log more (omega arith) in
    rw dropped (ap (map entry_of) (take-append-le (end - start) (drop start log) more (omega (arith, length-drop start log))))

-- parts that follow one another
pub part_join : (log : List Transition) (start middle end : ℕ) → start ≤ middle → middle ≤ end
    → part_of log start middle ++ part_of log middle end ≡ part_of log start end
part_join log start middle end below above =
    let whole : end - start ≡ (middle - start) + (end - middle) = omega arith in
    let place : start + (middle - start) ≡ middle = omega arith in
    sym (rw (whole, take-add (middle - start) (end - middle) (drop start log), drop-drop (middle - start) start log)
    (rw place (map-append entry_of (take (middle - start) (drop start log)) (take (end - middle) (drop middle log)))))

-- those of the last of two lists
pub part_of_last : (front log : List Transition) (begin start end : ℕ) → begin ≡ length front
    → part_of (front ++ log) (begin + start) (begin + end) ≡ part_of log start end
part_of_last front log begin start end is =
    let long : (begin + end) - (begin + start) ≡ end - start = omega arith in
    let dropped : drop (begin + start) (front ++ log) ≡ drop start log = rw is (drop-append-add front log start) in
    rw (long, dropped) refl
