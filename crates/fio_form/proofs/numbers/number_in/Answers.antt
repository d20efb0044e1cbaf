use Rattle.std.proofs.Common.{◌≤◌, ◌^◌, arith}
use Rattle.std.proofs.Math.Nat.{mul-le-mul_left}
use Rattle.fio_form.proofs.Values.{below_twelve}
use Rattle.fio_form.proofs.numbers.number_in.Goals as goal

pub overflow_mul-value : goal.overflow_mul-value
overflow_mul-value c =
    let most : 16 ^ c.digits.place ≤ 17592186044416 = below_twelve c.digits.place (omega arith) in
    let base : c.from.result ≤ 16 = omega (arith, c.from.ensures) in
    omega (arith, c.digits.invariant.small, most, mul-le-mul_left c.digits.value base)

pub overflow_add-value : goal.overflow_add-value
overflow_add-value c =
    let most : 16 ^ c.digits.place ≤ 17592186044416 = below_twelve c.digits.place (omega arith) in
    let base : c.from.result ≤ 16 = omega (arith, c.from.ensures) in
    omega (arith, c.digits.invariant.small, most, mul-le-mul_left c.digits.value base)
