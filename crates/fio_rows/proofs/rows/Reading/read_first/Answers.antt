-- the line begins with the form at the index
use Rattle.std.proofs.Common.{arith}
use Rattle.std.proofs.lemmas.Grind.{common_steps}
use Rattle.fio_rows.specs.Places.{first_places}
use Rattle.fio_rows.proofs.Lines.{first_here_index, begun_alone, places_here_index}
use Rattle.fio_rows.proofs.rows.Reading.read_first.Goals as goal

pub returns-in-Some-clause-exact : goal.returns-in-Some-clause-exact
returns-in-Some-clause-exact c =
    grind (
      arith,
      common_steps,
      first_here_index,
      begun_alone,
      places_here_index,
      c.loop-at.invariant.places,
      c.loop-at.invariant.rest (first_places c.args.forms.now c.args.line.now).end,
      c.begin-said.ensures.rows c.args.line.now,
    )
