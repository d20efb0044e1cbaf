use Rattle.std.proofs.Common.{◌≡◌, ◌<◌, ◌-◌, [], length, take, drop, subst, sym, arith, length-drop}
use Rattle.std.proofs.Math.Seq.{take-add}
use Rattle.std.proofs.lemmas.List.{take_all}
use Rattle.fio_log.specs.Telling.{HasTaken}
use Rattle.fio_c.proofs.Returned.{none_told, read_on_by, verdicts_fed}
use Rattle.fio_c.proofs.TakenOctets.{none_taken, piece_taken, same_taken, taken_as}
use Rattle.fio_c.proofs.log.read_on.Goals as goal

pub pieces-init : goal.pieces-init
pieces-init c =
    let first = c.args.reader.now in
    let filled = c.fill in
    record {
      within = omega arith;
      octets = same_taken first first filled.new.reader [] filled.ensures.making filled.ensures.read filled.ensures.is_ended (none_taken first);
      verdicts = filled.ensures.verdicts first [] (none_told first c.clear.new.self c.clear.ensures.empty);
      room = filled.ensures.room (λ none. c.clear.ensures.room);
      due = filled.ensures.due;
    }

pub pieces-preserved : goal.pieces-preserved
pieces-preserved c =
    let first = c.args.reader.now in
    let octets = c.args.octets.now in
    let fed = c.feed-count in
    let count = fed.result in
    let some : 0 < count = omega arith in
    let rest = drop c.pieces.taken octets in
    let all : take (length octets - c.pieces.taken) rest ≡ rest = take_all (length octets - c.pieces.taken) rest (omega (arith, length-drop c.pieces.taken octets)) in
    let taken = subst (λ piece. HasTaken c.pieces.reader (take count piece) fed.new.self) all (fed.ensures.taken some) in
    let last = c.fill-in-pieces in
    let above = c.pieces.invariant in
    record {
      within = omega (arith, fed.ensures.within, above.within, length-drop c.pieces.taken octets);
      octets = taken_as first last.new.reader _ _ (take-add c.pieces.taken count octets)
          (same_taken first fed.new.self last.new.reader _ last.ensures.making last.ensures.read last.ensures.is_ended
          (piece_taken first c.pieces.reader fed.new.self (take c.pieces.taken octets) (take count rest) above.octets taken));
      verdicts = last.ensures.verdicts first _
          (verdicts_fed first above.octets.whole c.pieces.reader fed.new.self (take count rest) c.pieces.batch taken above.octets.read
          fed.ensures.knows above.verdicts);
      room = last.ensures.room above.room;
      due = last.ensures.due;
    }

pub returns-else-has_room : goal.returns-else-has_room
returns-else-has_room c =
    let above = c.pieces.invariant in
    read_on_by c.args.reader.now c.args.octets.now c.pieces.taken c.pieces.reader c.pieces.batch above.within above.octets above.verdicts above.room
    above.due (λ none running more. let room = above.room none in absurd (cc))

pub returns-after-pieces : goal.returns-after-pieces
returns-after-pieces c =
    let above = c.pieces.invariant in
    read_on_by c.args.reader.now c.args.octets.now c.pieces.taken c.pieces.reader c.pieces.batch above.within above.octets above.verdicts above.room
    above.due (λ none running more. omega (arith, above.within))

pub returns-then-count-eq0 : goal.returns-then-count-eq0
returns-then-count-eq0 c =
    let above = c.pieces.invariant in
    let fed = c.feed-count in
    rw (fed.ensures.none c.if-count-eq0.true)
    (read_on_by c.args.reader.now c.args.octets.now c.pieces.taken c.pieces.reader c.pieces.batch above.within above.octets above.verdicts above.room
    above.due (λ none running more.
    let ready = (above.due (above.room none)).ready in
    let rest = drop c.pieces.taken c.args.octets.now in
    let some : 0 < length rest = omega (arith, length-drop c.pieces.taken c.args.octets.now) in
    let all : take (length c.args.octets.now - c.pieces.taken) rest ≡ rest =
    take_all (length c.args.octets.now - c.pieces.taken) rest (omega (arith, length-drop c.pieces.taken c.args.octets.now)) in
    absurd (omega (arith, fed.ensures.forward ready running more (subst (λ piece. 0 < length piece) (sym all) some)))))
