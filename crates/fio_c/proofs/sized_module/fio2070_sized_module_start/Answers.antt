use Rattle.std.proofs.Common.{ℕ, [], refl, sym, subst, take}
use Rattle.std.proofs.lemmas.List.{length-take-le}
use Rattle.fio_module.proofs.Names.{buffer}
use Rattle.fio_module.specs.State.{IsAfter}
use Rattle.fio_flat.specs.Module.{flat_settings}
use Rattle.fio_c.proofs.sized_module.fio2070_sized_module_start.Goals as goal

pub returns-clause-made : goal.returns-clause-made
returns-clause-made c are slots room =
    let most = c.args.limits.waiting in
    record {
      state = rw (c.new-2.ensures.none (take most slots)) (
          subst (λ (n : ℕ). IsAfter (flat_settings c.args.id c.args.limits) c.new.result (buffer [] n) [])
          (sym (length-take-le most slots room)) (c.new.ensures.life most));
      errors = refl;
      limit = refl;
    }
