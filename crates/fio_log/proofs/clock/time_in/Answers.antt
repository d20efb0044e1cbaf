use Rattle.std.proofs.Common.{◌≡◌, true, arith}
use Rattle.std.specs.Prelude.{nat_le}
use Rattle.std.proofs.lemmas.Bool.Decides.{nat_tests}
use Rattle.std.proofs.lemmas.List.{drop_more}
use Rattle.fio_log.proofs.clock.time_in.Goals as goal

pub returns-then-start-ge-TIME_OCTETS-clause-time : goal.returns-then-start-ge-TIME_OCTETS-clause-time
returns-then-start-ge-TIME_OCTETS-clause-time c =
    let more = drop_more c.args.line.now c.places.start 0 c.places-test.true in
    let far : nat_le 200 c.places.start ≡ true = grind (arith, nat_tests, c.if-start-ge-TIME_OCTETS.true) in
    rw far at (rw more at c.places.invariant.same)
