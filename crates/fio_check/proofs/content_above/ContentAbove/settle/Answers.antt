use Rattle.fio_check.proofs.Names.{◌∙◌, sym, ap, facts_kept, input_kept, says_again}
use Rattle.fio_check.proofs.KeptContent.{settled_clear}
use Rattle.fio_check.proofs.content_above.ContentAbove.settle.Goals as goal

pub returns-then-not-again : goal.returns-then-not-again
returns-then-not-again c stamp = settled_clear (facts_kept c.args.self.now) (λ input. input_kept c.settle_but.new.self input) c.args.status stamp
    c.requires (ap says_again (sym c.from_octet.ensures) ∙ sym c.if-not-again.ensures) c.settle_but.ensures
