use Rattle.fio_input.proofs.Names.{refl, arith, inr, get_or-replicate, is_set-ones}
use Rattle.fio_input.proofs.filters.Filters.new.Goals as goal

pub returns-clause-history : goal.returns-clause-history
returns-clause-history c =
    record {
      raw = refl;
      inputs = λ i h. record {
        run_length = inr (get_or-replicate 64 i 0 0 h);
        leading = get_or-replicate 64 i 5 0 h;
        trailing = get_or-replicate 64 i 5 0 h;
        leading_fits = omega arith;
        trailing_fits = omega arith;
        ignored = is_set-ones i h;
        filtered = is_set-ones i h;
      };
    }
