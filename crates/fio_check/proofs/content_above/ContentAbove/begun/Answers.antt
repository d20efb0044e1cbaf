use Rattle.fio_check.proofs.Names.{◌∙◌, ap, ContentFacts, None, Some, true, content_begun, fun_ext, input_kept}
use Rattle.fio_check.proofs.content_above.ContentAbove.begun.Goals as goal

pub returns : goal.returns
returns c =
    ap {A = ContentFacts} (λ facts. record facts {
      clear = true;
      clock = Some 0;
      block_heard = true;
      timely = true;
      full = Some 0;
      floor = Some (record { time = 0; input = None });
      inputs = λ input. input_kept c.begun.result input;
    }) c.new.ensures
    ∙ ap (λ inputs. record content_begun { inputs = inputs }) (fun_ext c.begun.ensures)
