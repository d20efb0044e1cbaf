use Rattle.std.proofs.Common.{◌∙◌, ap, take, ◌+◌, length, rules}
use Rattle.fio_c.proofs.Batches.{lengths_more, octets_more}
use Rattle.fio_c.proofs.log_batch.LogBatch.push_frame.Goals as goal

pub returns-clause-added : goal.returns-clause-added
returns-clause-added c = λ content holds.
    let octets = c.args.octets.now in
    let batch = c.args.self.now in
    record {
      verdicts = holds.verdicts;
      lengths = lengths_more batch.lengths batch.frame_count content.frames octets (search rules) holds.lengths;
      octets = ap (take (batch.octet_count + length octets)) c.write_at.ensures
          ∙ octets_more batch.octets batch.octet_count content.frames octets (search rules) holds.octets;
      places = holds.places;
    }
