use Rattle.std.proofs.Common.{◌≡◌, ◌<◌, ◌≤◌, ◌∙◌, List, ℕ, ap, arith, false, length, subst, sym, true}
use Rattle.std.specs.Prelude.{nat_lt, take}
use Rattle.std.proofs.lemmas.Bool.{ltb-true}
use Rattle.std.proofs.lemmas.Bool.Decides.{nat_tests}
use Rattle.fio_form.specs.Reading.{octets_found, swapped}
use Rattle.fio_form.specs.declared.octets.TheConstants.{OCTETS}
use Rattle.fio_form.proofs.Finding.{few_taken, many_taken}
use Rattle.fio_form.proofs.line_reading.octets_by.Goals as goal

pub returns-in-Some-clause-read : goal.returns-in-Some-clause-read
returns-in-Some-clause-read c =
    let form = c.args.form.now in
    let line = c.args.line.now in
    let swap = form.is_swapped in
    let here = octets_found form line in
    let whole = c.in-Some.ensures.octets in
    λ (small : nat_lt c.len.result OCTETS ≡ true).
    let less : length c.find.new.octets.items < OCTETS = omega (arith, ltb-true c.len.result OCTETS small, c.len.ensures.value) in
    let few : length (swapped swap (take OCTETS here)) < OCTETS = subst (λ (octets : List ℕ). length octets < OCTETS) whole less in
    sym (whole ∙ ap (swapped swap) (few_taken swap here few))

pub returns-in-Some-clause-many : goal.returns-in-Some-clause-many
returns-in-Some-clause-many c =
    let form = c.args.form.now in
    let line = c.args.line.now in
    let swap = form.is_swapped in
    let here = octets_found form line in
    let whole = c.in-Some.ensures.octets in
    λ (large : nat_lt c.len.result OCTETS ≡ false).
    let full : OCTETS ≤ c.len.result = grind (arith, nat_tests) in
    let most : OCTETS ≤ length c.find.new.octets.items = omega (arith, full, c.len.ensures.value) in
    let many : OCTETS ≤ length (swapped swap (take OCTETS here)) = subst (λ (octets : List ℕ). OCTETS ≤ length octets) whole most in
    many_taken swap here many
