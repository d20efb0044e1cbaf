use Rattle.fio_check.proofs.ContentNext.{content_is_kept}
use Rattle.fio_check.proofs.laws.content_is_kept.Goals as goal

pub returns : goal.returns
returns c = content_is_kept
