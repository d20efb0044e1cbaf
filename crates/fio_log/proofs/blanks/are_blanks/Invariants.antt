use Rattle.std.proofs.Common.{◌≡◌, drop}
use Rattle.fio_log.specs.Blanks.{are_blanks}
use Rattle.fio_log.proofs.blanks.are_blanks.Given as goal

abbrev pub invariant-loop-octet : goal.invariant-loop-octet
invariant-loop-octet l = are_blanks l.text ≡ are_blanks (drop l.octet-index l.text)
