use Rattle.fio_log.proofs.HeardLemmas.{messages_read, messages_skipped, octets_not_damaged, octets_not_other, read_by}
use Rattle.fio_log.proofs.by_forms.FormReader.hear_text.Goals as goal

pub returns-then-is_read-clause-messages : goal.returns-then-is_read-clause-messages
returns-then-is_read-clause-messages c = messages_read _ _ _ _ _ c.read.ensures.exact

pub returns-else-is_read-clause-messages : goal.returns-else-is_read-clause-messages
returns-else-is_read-clause-messages c = messages_skipped _ c.skip.ensures.said c.skip.ensures.closed

pub returns-then-is_read-clause-form : goal.returns-then-is_read-clause-form
returns-then-is_read-clause-form c = λ says. rw c.list.ensures at (c.read.ensures.form (octets_not_other c.read.result.said says))

pub returns-else-is_read-clause-form : goal.returns-else-is_read-clause-form
returns-else-is_read-clause-form c = λ says. absurd (octets_not_damaged c.skip.result.said says c.skip.ensures.said)

pub returns-then-is_read-clause-read : goal.returns-then-is_read-clause-read
returns-then-is_read-clause-read c = λ is. read_by _ _ _ _ _ _ c.list.ensures (record {
  rows = c.read.ensures.exact;
  on = c.read.ensures.goes_on;
  broken = c.read.ensures.is_broken;
  ended = c.read.ensures.is_ended;
  form = c.read.ensures.kept;
  within = c.read.ensures.found;
  places = c.read.ensures.at;
})

pub returns-else-is_read-clause-passed : goal.returns-else-is_read-clause-passed
returns-else-is_read-clause-passed c = λ is. record {
  said = c.skip.ensures.said;
  on = c.skip.ensures.goes_on;
  broken = c.skip.ensures.is_broken;
  ended = c.skip.ensures.is_ended;
  closed = c.skip.ensures.closed;
}
