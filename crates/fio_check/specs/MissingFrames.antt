-- Where frames may be missing, by the lines of a log that speak of loss, and what they explain.
use Rattle.std.specs.Prelude.{Bool, true, false}
use Rattle.fio_check.specs.declared.missing_frames.MissingFrames.{MissingFrames}
use Rattle.fio_check.specs.declared.missing_frames.MissingFrames.TheVariants.{AbovePoll, Below, Nowhere}
use Rattle.fio_check.specs.declared.observation.Observation.{Observation}
use Rattle.fio_check.specs.declared.observation.Observation.TheVariants.{Block, Poll}
use Rattle.fio_check.specs.declared.rules.Rule.{Rule}
use Rattle.fio_check.specs.declared.rules.Rule.TheVariants.{Advance, Number, Pair, Refusal, Same}

-- where frames may be missing below a frame that says this: up to the next block answer
abbrev pub missing_below : MissingFrames → Observation → MissingFrames
missing_below Nowhere observation = Nowhere
missing_below missing (Poll number) = AbovePoll
missing_below missing (Block number status entries absent) = Nowhere
missing_below missing observation = missing

-- Frames that are missing can be the reason why a frame breaks a rule:
abbrev pub do_explain : MissingFrames → Rule → Bool
do_explain Nowhere rule = false
-- Below the latest poll and the latest block answer a command, an answer or a poll is missing.
do_explain Below Pair = true
do_explain Below Number = true
do_explain Below Advance = true
do_explain Below Same = true
do_explain Below Refusal = true
do_explain Below rule = false
-- Above the latest poll the first poll for the same block is missing: the block may be sent again.
do_explain AbovePoll Same = true
do_explain AbovePoll rule = false
