use Rattle.std.proofs.Common.{◌≤◌, ◌^◌, length, arith}
use Rattle.fio_form.proofs.Values.{at_most_eight}
use Rattle.fio_form.proofs.numbers.value_of.Goals as goal

pub overflow_cast-result : goal.overflow_cast-result
overflow_cast-result c =
    let most : 16 ^ length c.args.digits.now ≤ 4294967296 = at_most_eight (length c.args.digits.now) (omega arith) in
    omega (arith, most, c.in-Some.ensures.small)
