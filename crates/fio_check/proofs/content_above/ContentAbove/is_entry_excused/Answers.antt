use Rattle.fio_check.proofs.Names.{◌∙◌, ◌==◌, ap, not, sym, Entry, Recorded, facts_kept}
use Rattle.fio_check.proofs.Unexcused.{none_excused}
use Rattle.fio_check.proofs.content_above.ContentAbove.is_entry_excused.Goals as goal

pub returns-else-self-ne0 : goal.returns-else-self-ne0
returns-else-self-ne0 c stamp =
    ap (λ n. not (n == 0)) c.if-self-ne0.false
    ∙ sym (none_excused (facts_kept c.args.self.now) (Recorded (Entry c.args.input c.args.level stamp c.args.wide)) c.if-self-ne0.false)
