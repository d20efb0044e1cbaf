use Rattle.fio_world.proofs.Names.{append_assoc}
use Rattle.fio_world.proofs.simulation.lines.push_counts.Goals as goal

pub returns : goal.returns
returns c =
    let counts = rw (
      c.push_line-put.ensures.put,
      c.push_line-put_number-4.ensures.put,
      c.push_line-put_number-3.ensures.put,
      c.push_line-put_number-2.ensures.put,
      c.push_line-put_number.ensures.put,
      c.push_line-line_end.ensures.empty,
      c.push_line-from.ensures,
      c.push_line-from-2.ensures,
      c.push_line-from-3.ensures,
      c.push_line-from-4.ensures,
    )
    at c.in_ok-push_line.ensures in
    rw (counts, append_assoc) at c.push_items.ensures
