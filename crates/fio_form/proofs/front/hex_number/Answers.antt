use Rattle.std.proofs.Common.{◌≤◌, ◌^◌, arith}
use Rattle.fio_form.proofs.Values.{below}
use Rattle.fio_form.proofs.front.hex_number.Goals as goal

pub overflow_mul-value : goal.overflow_mul-value
overflow_mul-value c =
    let most : 16 ^ c.digits.place ≤ 268435456 = below c.digits.place (omega (arith, c.digits-test.true, c.requires)) in
    omega (arith, c.digits.invariant.small, most)

pub overflow_add-value : goal.overflow_add-value
overflow_add-value c =
    let most : 16 ^ c.digits.place ≤ 268435456 = below c.digits.place (omega (arith, c.digits-test.true, c.requires)) in
    omega (arith, c.digits.invariant.small, most, c.from.ensures)
