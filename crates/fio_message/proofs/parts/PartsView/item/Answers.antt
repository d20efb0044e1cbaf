use Rattle.fio_message.proofs.Names.{◌*◌, length-drop, ap, ◌∙◌, sym, arith, take_rest}
use Rattle.fio_message.proofs.PartLists.{parts_in-place, length-parts_in}
use Rattle.fio_message.proofs.parts.PartsView.item.Goals as goal

pub overflow_mul-place : goal.overflow_mul-place
overflow_mul-place g c = omega (arith, c.requires, length-parts_in g.T.Part.part_at c.args.self.now.octets.now, c.args.self.now.fits)

pub slice_bounds-of_octets-count : goal.slice_bounds-of_octets-count
slice_bounds-of_octets-count g c = omega (arith, c.requires, length-parts_in g.T.Part.part_at c.args.self.now.octets.now)

pub slice_bounds-of_octets-start : goal.slice_bounds-of_octets-start
slice_bounds-of_octets-start g c = omega (arith, c.requires, length-parts_in g.T.Part.part_at c.args.self.now.octets.now)

pub of_octets-requires : goal.of_octets-requires
of_octets-requires g c =
    let octets = c.args.self.now.octets.now in
    let start = 3 * c.args.place in
    rw (take_rest octets start) (omega (arith, c.requires, length-parts_in g.T.Part.part_at octets, length-drop start octets))

pub returns : goal.returns
returns g c =
    let octets = c.args.self.now.octets.now in
    c.of_octets.ensures
    ∙ ap g.T.Part.part_at (take_rest octets (3 * c.args.place))
    ∙ sym (parts_in-place g.T.Part.part_at octets c.args.place _ c.requires)
