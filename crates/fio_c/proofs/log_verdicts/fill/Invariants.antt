use Rattle.std.proofs.Common.{◌≡◌, ◌-◌, List}
use Rattle.fio_log.specs.Lines.{Text}
use Rattle.fio_log.specs.Telling.{Telling}
use Rattle.fio_c.specs.Logs.{HasRoomFirst, HasVerdicts}
use Rattle.fio_c.specs.declared.log_batch.TheConstants.{LOG_VERDICTS}
use Rattle.fio_c.proofs.log_verdicts.fill.Given as goal

abbrev pub invariant-verdicts : goal.invariant-verdicts
invariant-verdicts l = record {
  verdicts : (first : Telling) (whole : List Text) → HasVerdicts first whole l.initial.batch l.initial.reader
      → HasVerdicts first whole l.batch l.reader;
  making : l.reader.making ≡ l.initial.reader.making;
  read : l.reader.read ≡ l.initial.reader.read;
  is_ended : l.reader.is_ended ≡ l.initial.reader.is_ended;
  room : HasRoomFirst l.initial.batch → HasRoomFirst l.batch;
}

abbrev pub decreases-verdicts : goal.decreases-verdicts
decreases-verdicts l = LOG_VERDICTS - l.batch.verdict_count
