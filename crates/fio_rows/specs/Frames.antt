-- How a stream of frames is divided, between flags.
use Rattle.std.specs.Prelude.{ℕ, ◌≡◌, ◌<◌, ◌≤◌, ◌+◌, ◌-◌, ◌==◌, nat_le, Bool, true, if◌then◌else◌, List, [], ◌∷◌, length, take, drop, position, slice_index, Option, Some, None, is_some, zero, suc}
use Rattle.fio_form.specs.Messages.{is_message}
use Rattle.fio_form.specs.Wholes.{begins_flag, framed_in, kept_of}
use Rattle.fio_rows.specs.declared.dividing.Next.{Next}
use Rattle.fio_rows.specs.declared.dividing.Next.TheVariants.{Message, Broken, Idle, Wait}
use Rattle.fio_rows.specs.declared.dividing.TheConstants.{FULL}
use Rattle.fio_rows.specs.declared.frames.TheConstants.{FLAG}
use Rattle.fio_rows.specs.declared.stream.Stream.{Stream}

-- whether the last octet that was divided off is a flag: it ended the frame above, and may begin the next one
abbrev pub flag_above : Stream → Bool
flag_above stream = stream.is_flagged

-- whether a frame, with its flags, has a right check
unfoldable pub is_right : List ℕ → Bool
is_right frame = is_some (framed_in frame)

-- what a frame holds between its header and its check
unfoldable pub held_by_frame : List ℕ → List ℕ
held_by_frame frame = kept_of (framed_in frame)

-- where the first flag is
abbrev pub flag_in : List ℕ → Option ℕ
flag_in octets = position (λ octet. octet == FLAG) octets

-- what is next if there is no flag: nothing yet, or all octets if they are too many
abbrev pub given_up_all : List ℕ → Next
given_up_all octets = if nat_le FULL (length octets) then Broken (length octets) else Wait

-- the octets of a frame with the flag above them, if they do not begin with one of their own
abbrev pub with_flag : List ℕ → List ℕ
with_flag octets = if begins_flag octets then octets else FLAG ∷ octets

-- what a frame with both flags is, of which this many octets are below the frame above
abbrev pub next_of_frame : ℕ → List ℕ → Next
next_of_frame count frame = if is_right frame then (if is_message (held_by_frame frame) then Message count else Idle count) else Broken count

-- what the first octets are, of which the last is the flag that ends a frame
abbrev pub next_by_frame : ℕ → List ℕ → Next
next_by_frame count octets = next_of_frame count (with_flag (take count octets))

-- what is next between a flag and the one after it
abbrev pub unframed_to : Option ℕ → List ℕ → Next
unframed_to None octets = given_up_all octets
unframed_to (Some zero) octets = Idle 1
unframed_to (Some (suc end)) octets = next_by_frame (suc end + 2) octets

-- what is next of octets that begin with a flag
unfoldable pub unframed_from_flag : List ℕ → Next
unframed_from_flag octets = unframed_to (flag_in (drop 1 octets)) octets

-- what is next, by where the first flag is: what is before it is a frame if a flag is above it, else the end of one that was lost
abbrev pub unframed_at : Bool → Option ℕ → List ℕ → Next
unframed_at flagged None octets = given_up_all octets
unframed_at flagged (Some zero) octets = unframed_from_flag octets
unframed_at flagged (Some (suc flag)) octets = if flagged then next_by_frame (suc flag + 1) octets else Broken (suc flag + 1)

-- what is next in a stream of frames, of which no octet of a frame that ended is left
unfoldable pub unframed : Bool → List ℕ → Next
unframed flagged octets = unframed_at flagged (flag_in octets) octets

-- whether an octet at an index is a flag
abbrev pub is_flag_at : List ℕ → ℕ → Bool
is_flag_at octets at = slice_index octets at == FLAG

-- whether a flag is above the octets after a division
abbrev pub flag_after : Next → List ℕ → Bool → Bool
flag_after (Message count) before flagged = is_flag_at before (count - 1)
flag_after (Broken count) before flagged = is_flag_at before (count - 1)
flag_after (Idle count) before flagged = is_flag_at before (count - 1)
flag_after Wait before flagged = flagged

-- after this many of its octets are taken, it is at its front
pub record Takes (count : ℕ) (before after : List ℕ) : Type 0 where
  pub some : 0 < count
  pub within : count ≤ length before
  pub rest : after ≡ drop count before

-- Some of the octets that were there are divided off, in order; the rest stays. A message is what the frame holds that they are.
abbrev pub DividesFrame : Next → List ℕ → List ℕ → List ℕ → Type 0
DividesFrame (Message count) before message after =
    Takes count before after × (message ≡ held_by_frame (with_flag (take count before))) × (is_message message ≡ true)
DividesFrame (Broken count) before message after = Takes count before after
DividesFrame (Idle count) before message after = Takes count before after
DividesFrame Wait before message after = after ≡ before

-- the command above the octets after a division: none is known, but if nothing was divided off
abbrev pub command_after_frame : Next → List ℕ → List ℕ
command_after_frame Wait command = command
command_after_frame _ command = []
