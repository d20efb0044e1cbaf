-- A checker is what its struct of C stands for.
use Rattle.std.proofs.Common.{◌≡◌, ℕ, Bool, true, false, Option, Some, None, refl}
use Rattle.std.specs.Prelude.{◌==◌, not, is_some, unwrap_or}
use Rattle.fio_message.specs.Bits.{bit_of}
use Rattle.fio_check.specs.declared.checker.Checker.{Checker}
use Rattle.fio_check.specs.declared.checker.Skips.{Skips}
use Rattle.fio_check.specs.declared.checker.Skips.TheVariants.{Nothing, ToCommand, ToPoll}
use Rattle.fio_c.specs.Checkers.{checker_in, flat_checker, flat_more, flat_skips, more_in, octet_if, skips_in}

octet-kept : (octet : Option ℕ) → octet_if (bit_of (is_some octet)) (unwrap_or octet 0) ≡ octet
octet-kept None = refl
octet-kept (Some octet) = refl

truth-kept : (truth : Bool) → not (bit_of truth == 0) ≡ truth
truth-kept true = refl
truth-kept false = refl

more-kept : (more : Option Bool) → more_in (flat_more more) ≡ more
more-kept None = refl
more-kept (Some true) = refl
more-kept (Some false) = refl

skips-kept : (skips : Skips) → skips_in (flat_skips skips) ≡ skips
skips-kept Nothing = refl
skips-kept ToPoll = refl
skips-kept ToCommand = refl

pub checker_kept : (checker : Checker) → checker_in (flat_checker checker) ≡ checker
checker_kept checker =
    let facts = checker.facts in
    rw (octet-kept facts.awaited, truth-kept facts.absent_named, octet-kept facts.polled, truth-kept facts.answered, truth-kept facts.advanced, more-kept facts.more, skips-kept checker.skips) refl
