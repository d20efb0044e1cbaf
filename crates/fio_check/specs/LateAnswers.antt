-- Late answers: what a CPU's end that waits for each answer only until a deadline hears late or twice.
use Rattle.std.specs.Prelude.{ℕ, ◌==◌, ◌%◌, ◌+◌, ◌&&◌, ◌||◌, Bool, false, not, Option, Some, None, is_some, if◌then◌else◌}
use Rattle.fio_check.specs.Places.{is_some_and}
use Rattle.fio_check.specs.declared.late_answers.LateAnswers.{LateAnswers}
use Rattle.fio_check.specs.declared.late_answers.Lateness.{Lateness}
use Rattle.fio_check.specs.declared.late_answers.Lateness.TheVariants.{InTime, Late, LateButTaken}
use Rattle.fio_check.specs.declared.observation.Observation.{Observation}
use Rattle.fio_check.specs.declared.observation.Observation.TheVariants.{Answer, Block, Command, Poll, Unreadable}
use Rattle.fio_message.specs.declared.types.TheConstants.{BLOCK_ANSWER}

-- what is kept above the first frame
abbrev pub late_above : LateAnswers
late_above = record { settled = false; awaited = None; polled = None; first = false; answered = false }

-- ---- which answers are late

-- the latest command still waits for an answer of this type
abbrev pub awaits : LateAnswers → ℕ → Bool
awaits late code = is_some_and late.awaited (λ awaited. awaited == code)

-- a block for which no poll directly above waits: the CPU's end may take it, if it is the first with the number of the latest
-- poll
abbrev pub unawaited_block : LateAnswers → Lateness
unawaited_block late = if late.answered then Late else LateButTaken

-- how late a block below a poll with this number is: it is that poll's own, one of the poll before, or any other block, which
-- is not late
abbrev pub lateness_below : LateAnswers → ℕ → ℕ → Lateness
lateness_below late polled number = if polled == (number + 1) % 256 then Late
    else if polled == number && not (awaits late BLOCK_ANSWER) then unawaited_block late
    else InTime

-- how late a block with this number is; above the first poll each block is late
abbrev pub lateness_of_polled : LateAnswers → Option ℕ → ℕ → Lateness
lateness_of_polled late None number = Late
lateness_of_polled late (Some polled) number = lateness_below late polled number

-- how late a block with this number is, by what is kept of the frames above
abbrev pub lateness_of_block : LateAnswers → ℕ → Lateness
lateness_of_block late number = lateness_of_polled late late.polled number

-- whether a frame with this observation is a late answer
abbrev pub lateness_of : LateAnswers → Observation → Lateness
lateness_of late (Block number status entries absent) = lateness_of_block late number
lateness_of late (Answer code accepts) = if awaits late code then InTime else Late
lateness_of late observation = InTime

-- ---- with a frame more

-- what is kept after a command with an answer of this type: an answer to the command above can still come, if that was not
-- answered
abbrev pub late_below_command : LateAnswers → Option ℕ → LateAnswers
late_below_command late answer =
    record late { settled = late.settled && not (is_some late.awaited); awaited = answer }

-- what is kept after a poll
abbrev pub late_below_poll : LateAnswers → ℕ → LateAnswers
late_below_poll late number = record (late_below_command late (Some BLOCK_ANSWER)) {
  polled = Some number;
  first = not (is_some_and late.polled (λ polled. polled == number));
  answered = false;
}

-- what is kept after an answer, by whether it is late, and whether it shows that no answer to a command above can still come
abbrev pub late_below_answer : LateAnswers → Lateness → Bool → LateAnswers
late_below_answer late InTime settles = record late { settled = late.settled || settles; awaited = None }
late_below_answer late lateness settles = record late { settled = false }

-- what is kept after a block with this number
abbrev pub late_below_block : LateAnswers → ℕ → LateAnswers
late_below_block late number =
    late_below_answer (record late { answered = late.answered || is_some_and late.polled (λ polled. polled == number) })
    (lateness_of_block late number) late.first

-- what is kept after a frame with this observation: a block in time, whose poll was sent once, settles what is above
abbrev pub late_with : LateAnswers → Observation → LateAnswers
late_with late (Poll number) = late_below_poll late number
late_with late (Command answer absent) = late_below_command late (Some answer)
late_with late (Block number status entries absent) = late_below_block late number
late_with late (Answer code accepts) = late_below_answer late (lateness_of late (Answer code accepts)) false
late_with late Unreadable = late
