use Rattle.std.proofs.Common.{length, ◌-◌, ◌≡◌, ◌≤◌, drop}
use Rattle.fio_form.specs.Fronts.{past}
use Rattle.fio_form.specs.declared.form.Piece.TheVariants.{Blanks}
use Rattle.fio_form.proofs.numbers.past_blanks.Given as goal

abbrev pub invariant-blanks : goal.invariant-blanks
invariant-blanks l = record {
  same : past Blanks (drop l.start l.text) ≡ past Blanks l.text;
  within : l.start ≤ length l.text;
}

abbrev pub decreases-blanks : goal.decreases-blanks
decreases-blanks l = length l.text - l.start
