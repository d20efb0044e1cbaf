use Rattle.std.proofs.Common.{◌≡◌, ◌+◌, ◌-◌, ◌++◌, length, take, sym, ap, ◌∙◌, arith}
use Rattle.std.proofs.Math.Seq.{take-append-add}
use Rattle.std.proofs.lemmas.List.{length-take-le, take-take}
use Rattle.std.proofs.lemmas.Slice.{take-put_mid}
use borrow.Rule.Slice.PartMut.{put_mid}
use Rattle.fio_show.proofs.record_lines.put_part.Goals as goal

pub returns-clause-put : goal.returns-clause-put
returns-clause-put c =
    let room = c.args.room.now in
    let octets = c.args.octets.now in
    let end = c.args.end in
    let count = c.args.count in
    let copied = c.copy_from_slice.new.self in
    let after = put_mid end (end + length octets - end) room copied in
    let front : length (take end room) ≡ end = length-take-le end room (omega arith) in
    let whole : take (end + length octets) after ≡ take end room ++ octets =
    take-put_mid end (end + length octets - end) room copied (end + length octets) (omega (arith, ap length c.copy_from_slice.ensures.after)) (omega arith)
    ∙ ap (λ more. take end room ++ more) c.copy_from_slice.ensures.after in
    sym (take-take (end + count) (end + length octets) after (omega arith))
    ∙ ap (take (end + count)) whole
    ∙ ap (λ n. take (n + count) (take end room ++ octets)) (sym front)
    ∙ take-append-add (take end room) octets count
