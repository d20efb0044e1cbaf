use Rattle.std.proofs.Common.{◌∙◌, arith}
use Rattle.fio_c.specs.Logs.{content_of}
use Rattle.fio_c.specs.Told.{told_by}
use Rattle.fio_c.proofs.Batches.{content_more}
use Rattle.fio_c.proofs.Returned.{told_read, verdict_more, verdict_of, verdicts_same}
use Rattle.fio_c.proofs.log_verdicts.fill.Goals as goal

pub verdicts-preserved : goal.verdicts-preserved
verdicts-preserved c =
    let before = c.verdicts.reader in
    let after = c.verdict.new.self in
    let verdict = c.in-Some.verdict in
    let told = c.in-Some.ensures.told in
    record {
      verdicts = λ first whole has. verdict_more first whole before after verdict c.verdicts.batch c.add.new.batch told c.add.ensures.spelled
          (λ texts read. verdict_of texts before after verdict c.in-Some.ensures.knows c.in-Some.ensures.words c.in-Some.ensures.blank
          c.in-Some.ensures.own c.in-Some.ensures.last read)
          (λ all holds. content_more all (told_by verdict after) c.add.new.batch (c.add.ensures.told (content_of all) holds))
          (c.verdicts.invariant.verdicts first whole has);
      making = told.making ∙ c.verdicts.invariant.making;
      read = told.read ∙ c.verdicts.invariant.read;
      is_ended = told.is_ended ∙ c.verdicts.invariant.is_ended;
      room = λ above none. absurd (omega (arith, c.add.ensures.count, none));
    }

pub returns-in_default-clause-verdicts : goal.returns-in_default-clause-verdicts
returns-in_default-clause-verdicts c = λ first whole has.
    let before = c.verdicts.reader in
    let after = c.verdict.new.self in
    let more = c.in_default.ensures.told in
    verdicts_same first whole before after c.verdicts.batch more.told more.form
    (λ texts read. told_read texts before after c.in_default.ensures.knows read)
    (c.verdicts.invariant.verdicts first whole has)
