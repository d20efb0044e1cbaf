use Rattle.std.proofs.Common.{◌≡◌, true, false, rules}
use Rattle.fio_log.specs.Heard.{ended_message}
use Rattle.fio_log.proofs.HeardLemmas.{tells_no_other, tells_only}
use Rattle.fio_log.proofs.by_forms.FormReader.tell_ended.Goals as goal

pub returns-then-not-is_told-clause-told : goal.returns-then-not-is_told-clause-told
returns-then-not-is_told-clause-told c = λ is.
    let failed : c.take_message-is_told.result ≡ false = search rules in
    tells_no_other (ended_message c.args.is_end c.args.self.now.reading) _ _ c.ended_message-message.result.now c.take_message-is_told.result
    c.ended_message-message.ensures failed c.take_message-is_told.ensures.room is

pub returns-clause-told : goal.returns-clause-told
returns-clause-told c = λ is.
    let taken : c.take_message-is_told.result ≡ true = search rules in
    tells_only (ended_message c.args.is_end c.args.self.now.reading) _ c.ended_message-message.result.now c.take_message-is_told.result
    c.ended_message-message.ensures taken c.take_message-is_told.ensures.taken
