use Rattle.std.proofs.Common.{◌≡◌, ℕ, true, false, leb, ltb, rules, arith}
use Rattle.std.proofs.lemmas.Bool.Decides.{nat_tests}
use Rattle.fio_c.specs.Flat.{can_be_named}
use Rattle.fio_c.proofs.Found.{all_pass-none}
use Rattle.fio_c.proofs.filters.fio2070_filters_configure.Goals as goal

-- an input that is not above 63 is one that a message can name
below : (input : ℕ) → leb 64 input ≡ false → ltb input 128 ≡ true
below input h = grind (arith, nat_tests)

pub invariant_of-configure_from : goal.invariant_of-configure_from
invariant_of-configure_from c =
    record {
      named = all_pass-none (λ item. leb 64 item.input) (λ item. can_be_named item.input) (λ item. below item.input) c.args.items.now (search rules);
    }
