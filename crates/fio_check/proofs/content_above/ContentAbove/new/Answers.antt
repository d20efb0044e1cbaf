use Rattle.fio_check.proofs.Names.{ap₂, no_content, fun_ext, is_set-zero}
use Rattle.fio_check.proofs.content_above.ContentAbove.new.Goals as goal

pub returns : goal.returns
returns c = ap₂ (λ since inputs. record no_content { since_poll = since; inputs = inputs }) (fun_ext is_set-zero) (fun_ext c.new.ensures)
