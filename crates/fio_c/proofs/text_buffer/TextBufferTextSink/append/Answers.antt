use Rattle.std.proofs.Common.{rules, ◌≡◌, ◌+◌, length}
use Rattle.fio_flat.specs.Written.{Appends}
use Rattle.fio_c.proofs.Appending.{goes_on}
use Rattle.fio_c.proofs.text_buffer.TextBufferTextSink.append.Goals as goal

pub returns : goal.returns
returns c =
    let octets = c.args.octets.now in
    let before = c.args.self.now in
    let after = c.if-end-self.self in
    let same : after.text.ghost_name ≡ before.text.ghost_name = search rules in
    let appended : Appends octets before.text.now after.text.now before.end (before.end + length octets) = search rules in
    (same, goes_on _ _ _ _ _ appended)
