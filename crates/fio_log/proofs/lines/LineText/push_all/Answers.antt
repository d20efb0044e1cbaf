use Rattle.std.proofs.Common.{◌≡◌, ◌++◌, ◌∙◌, take, length, true, ap, sym, arith}
use Rattle.std.proofs.lemmas.List.{length-take-le}
use Rattle.fio_log.specs.Lines.{Text}
use Rattle.fio_log.proofs.LineLemmas.{ok-then, with-fitting, with-too-many}
use Rattle.fio_log.proofs.lines.LineText.push_all.Goals as goal

pub returns-then-octets-room : goal.returns-then-octets-room
returns-then-octets-room c =
    let text : Text = record { octets = c.self.inside.octets.items; is_long = c.self.inside.is_long } in
    let call = c.try_extend_from_slice-fits.ensures in
    let room = c.remaining_capacity-room.ensures in
    let fits = with-fitting c.args.octets.now text (omega (arith, room, c.if-octets-room.true)) in
    let is : c.try_extend_from_slice-fits.new.self.items ≡ text.octets ++ c.args.octets.now =
    ok-then c.try_extend_from_slice-fits.result (call.variant.1 (omega (arith, room, c.if-octets-room.true))) call.ok in
    rw (← c.self.view_is) (ap (λ l. record { octets = l; is_long = c.self.inside.is_long }) is ∙ sym fits)

pub returns-else-octets-room : goal.returns-else-octets-room
returns-else-octets-room c =
    let text : Text = record { octets = c.self.inside.octets.items; is_long = c.self.inside.is_long } in
    let call = c.try_extend_from_slice-fits-else-octets-room.ensures in
    let room = c.remaining_capacity-room.ensures in
    let free = c.remaining_capacity-room.result in
    let front : length (take free c.args.octets.now) ≡ free =
    length-take-le free c.args.octets.now (omega (arith, c.if-octets-room.false)) in
    let many = with-too-many c.args.octets.now text free (omega (arith, room)) (omega (arith, c.if-octets-room.false)) in
    let is : c.try_extend_from_slice-fits-else-octets-room.new.self.items ≡ text.octets ++ take free c.args.octets.now =
    ok-then c.try_extend_from_slice-fits-else-octets-room.result (call.variant.1 (omega (arith, room, front))) call.ok in
    rw (← c.self.view_is) (ap (λ l. record { octets = l; is_long = true }) is ∙ sym many)
