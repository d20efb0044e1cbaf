use Rattle.std.proofs.Common.{rules}
use Rattle.fio_c.proofs.Returned.{nothing_read}
use Rattle.fio_c.proofs.log.begin_next.Goals as goal

pub returns-then-has_told_all : goal.returns-then-has_told_all
returns-then-has_told_all c =
    let begun = c.start_again.ensures in
    record {
      anew = λ all some. record {
        reads = begun.form;
        making = begun.line;
        read = begun.none_read;
        told = begun.none_told;
        is_ended = begun.open;
        log = nothing_read c.start_again.new.self begun.knows;
      };
      untold = search rules;
      empty = search rules;
    }
