use Rattle.fio_check.proofs.Names.{◌∙◌, sym, arith, is_set-above}
use Rattle.std.proofs.lemmas.Bool.{le-ltb}
use Rattle.fio_message.proofs.Bits.{is_set_read}
use Rattle.fio_check.proofs.input_sets.has_input.Goals as goal

pub returns-then-input-lt-INPUTS-clause-set : goal.returns-then-input-lt-INPUTS-clause-set
returns-then-input-lt-INPUTS-clause-set c = is_set_read c.args.set c.args.input

pub returns-else-input-lt-INPUTS-clause-set : goal.returns-else-input-lt-INPUTS-clause-set
returns-else-input-lt-INPUTS-clause-set c =
    le-ltb c.args.input 64 (omega arith) ∙ sym (is_set-above c.args.set 64 c.args.input (omega arith) (omega arith))
