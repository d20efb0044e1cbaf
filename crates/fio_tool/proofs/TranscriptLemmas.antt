-- The text of the lines that are read.
use Rattle.fio_tool.proofs.Names.{ℕ, List, refl}
use Rattle.fio_check.proofs.Verdicts.{one_verdict}
use Rattle.fio_tool.specs.TranscriptLaws.{IsTextOfItsLines}

pub text_of_its_lines : (input : List ℕ) → IsTextOfItsLines input
text_of_its_lines input lines verdict short reads is =
    let same = (one_verdict lines verdict).0 is in
    (rw (short, reads, same) refl, rw (short, reads, same) refl)
