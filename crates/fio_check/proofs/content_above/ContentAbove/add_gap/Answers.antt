use Rattle.fio_check.proofs.Names.{◌∙◌, ℕ, None, ap, sym, facts_kept, InputAbove, fun_ext}
use Rattle.fio_check.proofs.Unexcused.{gap_step}
use Rattle.fio_check.proofs.content_above.ContentAbove.add_gap.Goals as goal

pub returns : goal.returns
returns c =
    ap {A = ℕ → InputAbove} (λ inputs. record (facts_kept c.args.self.now) { seen = None; inputs = inputs }) (fun_ext c.add_gap.ensures)
    ∙ sym (gap_step (facts_kept c.args.self.now))
