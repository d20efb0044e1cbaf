-- What a reader returns of lines is what it reports of them.
use Rattle.std.proofs.Common.{◌≡◌, ◌+◌, ℕ, Bool, false, List, [], ◌∷◌, subst, arith}
use Rattle.std.specs.List.{AllByRecursion}
use Rattle.fio_log.specs.Blanks.{Texts}
use Rattle.fio_log.specs.Following.{TellsOf}
use Rattle.fio_log.specs.Heard.{Above}
use Rattle.fio_log.specs.LineLogs.{AreToldInTurn}
use Rattle.fio_log.specs.Telling.{forms_of, frames_of}
use Rattle.fio_log.specs.Wordings.{SaysWords}
use Rattle.fio_logs.specs.ReportedLines.{HasItsFrames, HaveTrueReasons, lines_told}
use Rattle.fio_logs.specs.ReturnedVerdicts.{AreReturned, ReturnedVerdict, VerdictsAccuseNone, lines_returned}
use Rattle.fio_logs.specs.WrittenLogs.{LinesAccuseNone}
use Rattle.fio_logs.proofs.WrittenLogs.{lines_accuse_none}

module _ (texts : Texts) where
  in_turn : (verdicts : List ReturnedVerdict) (told : ℕ) (above : Above) → AreReturned texts told above verdicts
      → AreToldInTurn texts told above (lines_told (lines_returned verdicts))
  in_turn [] told above are = tt
  in_turn (one ∷ verdicts) told above are =
      let next : one.verdict.line + 1 ≡ told + 2 = omega (arith, are.3) in
      let below = are.0.below in
      let here = subst (λ (b : Bool). TellsOf b (forms_of one.before) (texts one.verdict.line) (texts (one.verdict.line + 1)) above
      one.verdict.kind one.verdict.reason (frames_of one.after) below) are.4 are.0.tells in
      let lines = subst (λ (n : ℕ). TellsOf false (forms_of one.before) (texts one.verdict.line) (texts n) above
      one.verdict.kind one.verdict.reason (frames_of one.after) below) next here in (
        below,
        subst (λ (n : ℕ). TellsOf false (forms_of one.before) (texts n) (texts (told + 2)) above
            one.verdict.kind one.verdict.reason (frames_of one.after) below) are.3 lines,
        in_turn verdicts (told + 1) below are.5,
      )

  have_frames : (verdicts : List ReturnedVerdict) (told : ℕ) (above : Above) → AreReturned texts told above verdicts
      → AllByRecursion HasItsFrames (lines_returned verdicts)
  have_frames [] told above are = tt
  have_frames (one ∷ verdicts) told above are = (are.1.agreed.frames, have_frames verdicts (told + 1) are.0.below are.5)

  have_reasons : (verdicts : List ReturnedVerdict) (told : ℕ) (above : Above) → AreReturned texts told above verdicts
      → HaveTrueReasons texts told (lines_returned verdicts)
  have_reasons [] told above are = tt
  have_reasons (one ∷ verdicts) told above are = (
    subst (λ (n : ℕ). SaysWords (texts n).octets one.verdict.reason) are.3 are.2,
    have_reasons verdicts (told + 1) are.0.below are.5,
  )

pub verdicts_accuse_none : VerdictsAccuseNone
unfolding VerdictsAccuseNone LinesAccuseNone
verdicts_accuse_none as_said texts told above verdicts place starts settings limits first before steps machine last none log closed are such senders written =
    lines_accuse_none as_said texts told above (lines_returned verdicts) place starts settings limits first before steps machine last none log
    (record {
      closed = closed;
      such = such;
      in_turn = in_turn texts verdicts told above are;
      frames = have_frames texts verdicts told above are;
      words = have_reasons texts verdicts told above are;
      senders = senders;
    }) written
