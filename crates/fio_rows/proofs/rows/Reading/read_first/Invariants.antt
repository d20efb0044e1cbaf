-- the forms that are left read the line as all forms do, and nothing is known that was not known before
use Rattle.std.proofs.Common.{◌≡◌, ℕ, List, drop}
use Rattle.fio_rows.specs.Lines.{first_line_in}
use Rattle.fio_rows.specs.Places.{first_places}
use Rattle.fio_rows.specs.Rows.{state_of}
use Rattle.fio_rows.proofs.rows.Reading.read_first.Given as goal

abbrev pub invariant-loop-at : goal.invariant-loop-at
invariant-loop-at l = record {
  same : state_of l.self ≡ state_of l.initial.self;
  ended : l.self.ended ≡ l.initial.self.ended;
  rest : (tail : List ℕ) → first_line_in l.at (drop l.at l.forms) l.line tail (state_of l.initial.self)
      ≡ first_line_in 0 l.forms l.line tail (state_of l.initial.self);
  places : first_places (drop l.at l.forms) l.line ≡ first_places l.forms l.line;
}
