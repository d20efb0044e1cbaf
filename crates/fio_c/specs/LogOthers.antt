-- Lines of a batch with messages that this protocol has not, which are passed over once several show that they are no damage.
use Rattle.std.specs.Prelude.{ℕ, ◌==◌, if◌then◌else◌, List, [], ◌∷◌}
use Rattle.fio_log.specs.Others.{passed, passes}
use Rattle.fio_log.specs.declared.foreign.Foreign.{Foreign}
use Rattle.fio_log.specs.declared.others.Others.{Others}
use Rattle.fio_log.specs.declared.verdict.Kind.{Kind}
use Rattle.fio_log.specs.declared.verdict.Kind.TheVariants as kinds
use Rattle.fio_c.specs.declared.log_batch.LogVerdict.{LogVerdict}

-- the kind with a number
abbrev pub kind_of : ℕ → Kind
kind_of number =
    if number == 0 then kinds.Blank
    else if number == 1 then kinds.Frames
    else if number == 2 then kinds.Part
    else if number == 3 then kinds.Possible
    else if number == 4 then kinds.Damaged
    else kinds.PassedOver

-- the message that a line has, of those that this protocol has not
abbrev pub foreign_of : LogVerdict → Foreign
foreign_of verdict = record { code = verdict.foreign; octets = verdict.control }

-- a line that is passed over: one with frames has no message of this protocol then, and no header
abbrev pub without_frames : LogVerdict → LogVerdict
without_frames verdict = if verdict.kind == 1
    then record verdict { kind = 5; reason = 2; address = 0; control = 0; header = 0 }
    else record verdict { kind = 5 }

-- a line as it is told, by all that is counted
abbrev pub passed_line : Others → LogVerdict → LogVerdict
passed_line others verdict = if passes others (kind_of verdict.kind) (foreign_of verdict) then without_frames verdict else verdict

-- what is counted below a line
abbrev pub below_line : Others → LogVerdict → Others
below_line others verdict = passed others (kind_of verdict.kind) (foreign_of verdict)

-- lines as they are told, each below the one above
abbrev pub passed_lines : Others → List LogVerdict → List LogVerdict
passed_lines others [] = []
passed_lines others (verdict ∷ verdicts) = passed_line others verdict ∷ passed_lines (below_line others verdict) verdicts

-- what is counted below them
abbrev pub below_lines : Others → List LogVerdict → Others
below_lines others [] = others
below_lines others (verdict ∷ verdicts) = below_lines (below_line others verdict) verdicts
