use Rattle.fio_input.proofs.Names.{sym, ◌∙◌, arith, is_set-set_same, is_set-set_other, is_set-clear_same, is_set-clear_other}
use Rattle.fio_input.specs.Filters.{with_ignored}
use Rattle.fio_input.proofs.Configured.{item_carries}
use Rattle.fio_input.proofs.filters.Filters.apply.Goals as goal

pub returns-then-item : goal.returns-then-item
returns-then-item c history items present s =
    let old = with_ignored c.args.self.now c.args.ignored.now in
    let item = c.args.item in
    rw c.get-input.ensures.same (
    item_carries old item _ items history (omega arith) (omega arith) (omega arith) (omega arith) (omega arith) (omega arith)
    (is_set-set_same old.ignored item.input (omega arith) ∙ sym c.if-item.true)
    (λ i h other. is_set-set_other old.ignored item.input (omega arith) i other) present s)

pub returns-else-item : goal.returns-else-item
returns-else-item c history items present s =
    let old = with_ignored c.args.self.now c.args.ignored.now in
    let item = c.args.item in
    rw c.get-input.ensures.same (
    item_carries old item _ items history (omega arith) (omega arith) (omega arith) (omega arith) (omega arith) (omega arith)
    (is_set-clear_same old.ignored item.input (omega arith) ∙ sym c.if-item.false)
    (λ i h other. is_set-clear_other old.ignored item.input (omega arith) i h other) present s)
