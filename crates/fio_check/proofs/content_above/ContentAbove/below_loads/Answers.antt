use Rattle.fio_check.proofs.Names.{ap, ContentFacts}
use Rattle.fio_check.proofs.content_above.ContentAbove.below_loads.Goals as goal

pub returns : goal.returns
returns c = ap {A = ContentFacts} (λ facts. record facts { excuses = c.args.loads }) c.new.ensures
