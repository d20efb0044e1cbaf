use Rattle.fio_module.proofs.Names.{◌≡◌, [], List, ℕ, sym, subst, Buffer, buffer, settings_with, IsAfter}
use Rattle.fio_module.proofs.module.Module.with_limits.Goals as goal

pub returns : goal.returns
returns c =
    let waiting = c.args.limits.waiting in
    let ring : c.in_ok-with_capacity.field-0 ≡ buffer [] waiting = cc (c.in_ok-with_capacity.ensures) in
    subst (λ (ring : Buffer (List ℕ)). IsAfter (settings_with c.args.id c.args.limits) c.new.result ring []) (sym ring)
    (subst (λ (most : ℕ). IsAfter (record { id = c.args.id; per_block = most; waiting = waiting }) c.new.result (buffer [] waiting) [])
    c.per_block.ensures (c.new.ensures.life waiting))
