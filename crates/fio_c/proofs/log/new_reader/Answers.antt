use Rattle.std.proofs.Common.{rules}
use Rattle.fio_c.proofs.Returned.{nothing_read}
use Rattle.fio_c.proofs.log.new_reader.Goals as goal

pub returns : goal.returns
returns c =
    let begun = c.new.ensures in
    record {
      reads = search rules;
      making = begun.line;
      read = begun.none_read;
      told = begun.none_told;
      is_ended = begun.open;
      log = nothing_read c.new.result begun.knows;
    }
