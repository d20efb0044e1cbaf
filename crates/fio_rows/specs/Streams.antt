-- What a stream has: the octets that are not divided yet, and the command above them.
use Rattle.std.specs.Prelude.{ℕ, ◌≡◌, ◌<◌, ◌≤◌, ◌==◌, true, if◌then◌else◌, List, [], ◌++◌, length, take, drop}
use Rattle.fio_form.specs.Messages.{is_message, size_of}
use Rattle.fio_form.specs.declared.message.Size.{Size}
use Rattle.fio_form.specs.declared.message.Size.TheVariants as sizes
use Rattle.fio_rows.specs.Dividing.{divided_at, begins_command, may_stand}
use Rattle.fio_rows.specs.declared.dividing.Next.{Next}
use Rattle.fio_rows.specs.declared.dividing.Next.TheVariants.{Message, Broken, Idle, Wait}
use Rattle.fio_rows.specs.declared.stream.Stream.{Stream}

-- the first octets of the message above, if it is a command; none if it is not known
abbrev pub command_above : Stream → List ℕ
command_above stream = stream.command.items

-- Some of the octets that were there are divided off, in order: those of the message that is said, or this many that are none;
-- the rest stays.
abbrev pub Divides : Next → List ℕ → List ℕ → List ℕ → Type 0
Divides (Message count) before message after = (before ≡ message ++ after) × (length message ≡ count) × (is_message message ≡ true)
Divides (Broken count) before message after = (after ≡ drop count before) × (0 < count) × (count ≤ length before)
Divides (Idle count) before message after = (after ≡ drop count before) × (0 < count) × (count ≤ length before)
Divides Wait before message after = after ≡ before

-- the command above the octets after a division: the first two octets of a message that is a command
abbrev pub command_after : Next → List ℕ → List ℕ → List ℕ
command_after (Message count) message command = if begins_command message then take 2 message else []
command_after Wait message command = command
command_after _ message command = []

-- what the last octets of a stream are, by their size
abbrev pub last_by : Size → List ℕ → Next
last_by (sizes.Known size) octets = if size == length octets then divided_at size octets else Wait
last_by _ octets = Wait

-- what is next in a stream below a command, after which nothing comes
unfoldable pub last_in : List ℕ → List ℕ → Next
last_in command octets = if may_stand command octets then last_by (size_of octets) octets else Wait
