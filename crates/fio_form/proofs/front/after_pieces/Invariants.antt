use Rattle.std.proofs.Common.{length, ◌-◌, ◌≡◌, ◌≤◌, drop}
use Rattle.fio_form.specs.Fronts.{after_front}
use Rattle.fio_form.proofs.front.after_pieces.Given as goal

abbrev pub invariant-pieces : goal.invariant-pieces
invariant-pieces l = record {
  same : after_front l.values (drop l.at l.pieces) (drop l.place l.text) ≡ after_front l.values l.pieces l.text;
  within : l.place ≤ length l.text;
}

abbrev pub decreases-pieces : goal.decreases-pieces
decreases-pieces l = length l.pieces - l.at
