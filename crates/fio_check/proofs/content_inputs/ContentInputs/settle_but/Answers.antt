use Rattle.fio_check.proofs.Names.{arith, bit_and, bit_not, w64}
use Rattle.std.proofs.lemmas.Nat.{and_le_l}
use Rattle.fio_check.proofs.KeptSettled.{settled_kept}
use Rattle.fio_check.proofs.content_inputs.ContentInputs.settle_but.Goals as goal

pub returns : goal.returns
returns c input =
    let old = c.args.self.now in
    let both = and_le_l old.taken old.sent in
    let settled = and_le_l (bit_and old.taken old.sent) (bit_not w64 c.args.unsettled) in
    settled_kept old c.args.unsettled input (omega arith) (omega (arith, both)) (omega arith) (omega (arith, both, settled))
