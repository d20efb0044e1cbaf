use Rattle.std.proofs.Common.{◌≡◌, ◌+◌, ◌++◌, length, take, ap, ◌∙◌, arith}
use Rattle.std.proofs.Math.Seq.{take-append-add}
use Rattle.fio_text.proofs.writing.append_part.Goals as goal

pub returns : goal.returns
returns c =
    let old = c.args.text.now.items in
    let before : c.len-before.result ≡ length old = omega (arith, c.len-before.ensures) in
    c.truncate.ensures.items
    ∙ ap (take (c.len-before.result + c.args.count)) c.in_ok-extend_from_slice.ensures.items
    ∙ ap (λ n. take (n + c.args.count) (old ++ c.args.octets.now)) before
    ∙ take-append-add old c.args.octets.now c.args.count
