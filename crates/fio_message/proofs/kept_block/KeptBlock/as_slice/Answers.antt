use Rattle.fio_message.proofs.Names.{◌≡◌, ℕ, take, length, min, ap, ◌∙◌, arith, take_min}
use Rattle.fio_message.proofs.kept_block.KeptBlock.as_slice.Goals as goal

pub returns : goal.returns
returns c =
    let octets = c.args.self.now.octets in
    let least : c.min-length.result ≡ min c.args.self.now.length (length octets) = omega arith in
    ap (λ (n : ℕ). take n octets) least ∙ take_min c.args.self.now.length octets
