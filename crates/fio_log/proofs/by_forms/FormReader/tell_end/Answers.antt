use Rattle.std.proofs.Common.{ap}
use Rattle.fio_log.proofs.HeardLemmas.{same_only}
use Rattle.fio_log.proofs.by_forms.FormReader.tell_end.Goals as goal

pub returns-then-is_whole-clause-told : goal.returns-then-is_whole-clause-told
returns-then-is_whole-clause-told c = λ whole.
    same_only _ _ _ _ (ap (λ m. m.items) c.end-is_whole.ensures.message) c.tell_ended.ensures.told
