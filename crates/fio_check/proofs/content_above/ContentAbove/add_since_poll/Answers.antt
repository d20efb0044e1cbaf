use Rattle.fio_check.proofs.Names.{◌≡◌, ◌∙◌, ◌==◌, ℕ, Bool, false, not, ap, ap₂, sym, arith, nat_tests, is_set, facts_kept, fun_ext, is_set-or, ◌&&◌, ◌||◌}
use Rattle.fio_check.proofs.content_above.ContentAbove.add_since_poll.Goals as goal

pub returns-then-self-ne0 : goal.returns-then-self-ne0
returns-then-self-ne0 c =
    let old = c.args.self.now in
    let there : (old.polled == 0) ≡ false = (let set = c.if-self-ne0.true in grind (arith, nat_tests)) in
    ap {A = ℕ → Bool} (λ since. record (facts_kept old) { since_poll = since })
    (fun_ext (λ input. is_set-or c.named.result old.since_poll input
    ∙ ap₂ (λ polled named. (polled && named) || is_set old.since_poll input) (ap not (sym there)) (c.named.ensures input)))
