-- The table of events: what a line of a log is to its judge, by the kind of the line.
use Rattle.std.specs.Prelude.{List, [], ◌∷◌}
use Rattle.fio_check.specs.LogJudges.{Heading, LogEvent, Lost, Missing, Possible}
use Rattle.fio_check.specs.declared.line_kind.LogLineKind.{LogLineKind}
use Rattle.fio_check.specs.declared.line_kind.LogLineKind.TheVariants as kinds

-- The events above the frames of a line:
abbrev pub events_of_line : LogLineKind → List LogEvent
-- Nothing is beside its frames.
events_of_line kinds.Frames = []
-- What is beside its frames may be another one.
events_of_line kinds.FramesAndMore = Lost ∷ []
-- It was a frame, and has other octets now.
events_of_line kinds.Damaged = Lost ∷ []
-- What is not kept of it may be a frame.
events_of_line kinds.TooLong = Lost ∷ []
-- The message above was a frame.
events_of_line kinds.BreakingOff = Lost ∷ []
-- It may be a frame.
events_of_line kinds.Possible = Possible ∷ []
-- Frames may be missing that no line has.
events_of_line kinds.Loss = Missing ∷ []
-- Another part of the log begins: frames between the two are missing.
events_of_line kinds.Heading = Heading ∷ []
-- It is surely no frame.
events_of_line kinds.Other = []

-- the events below each frame of a line: what is beside its frames may be below any of them
abbrev pub events_below_frame : LogLineKind → List LogEvent
events_below_frame kinds.FramesAndMore = Lost ∷ []
events_below_frame kind = []
