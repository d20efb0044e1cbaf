use Rattle.fio_check.proofs.Names.{◌≡◌, ◌∙◌, ℕ, Bool, sym, ap, Ended, false, content_step, facts_kept, fun_ext, is_set-zero, says_more}
use Rattle.fio_check.proofs.KeptContent.{ended_full, ended_more, flagged_if}
use Rattle.fio_check.proofs.content_above.ContentAbove.step_end.Goals as goal
use Rattle.fio_check.proofs.content_above.ContentAbove.step_end.Goals.{then-not-more, else-not-more}

pub returns : goal.returns
returns c =
    let old = c.args.self.now in
    let status = c.args.status in
    let stamp = c.args.stamp in
    let more = ap says_more (sym c.from_octet.ensures) ∙ sym c.more.ensures in
    let ended : (record (facts_kept c.if-not-more.self) { polled = false; since_poll = λ input. false }) ≡ content_step (facts_kept old) (Ended status stamp) = elim c.if-not-more.branch [
      | then-not-more w ↦
          ap (λ self. record (facts_kept self) { polled = false; since_poll = λ input. false }) w.self-is
          ∙ ended_full (facts_kept old) (facts_kept w.come_to_end.new.self) (facts_kept w.settle.new.self) (facts_kept w.end_full.new.self) status stamp
          (more ∙ w.if-not-more.true) w.come_to_end.ensures (w.settle.ensures stamp) w.end_full.ensures
      | else-not-more w ↦
          ap (λ self. record (facts_kept self) { polled = false; since_poll = λ input. false }) w.self-is
          ∙ ended_more (facts_kept old) status stamp (more ∙ w.if-not-more.false) (flagged_if old.timely old.full)
    ] in
    ap {A = ℕ → Bool} (λ since. record (facts_kept c.if-not-more.self) { polled = false; since_poll = since }) (fun_ext is_set-zero) ∙ ended
