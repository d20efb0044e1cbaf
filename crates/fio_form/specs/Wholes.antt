-- What the octets of a form are.
use Rattle.std.specs.Prelude.{ℕ, ◌+◌, ◌-◌, ◌/◌, ◌%◌, ◌≤◌, ◌&&◌, ◌||◌, ◌==◌, not, nat_le, nat_lt, if◌then◌else◌, Bool, true, false, List, [], ◌∷◌, ◌++◌, Option, Some, None, option_and_then, length, drop, take, slice_index}
use Rattle.fio_wire.specs.Checks.{frame_check_of}
use Rattle.fio_form.specs.Messages.{is_message, size_of}
use Rattle.fio_form.specs.declared.form.LineForm.{LineForm}
use Rattle.fio_form.specs.declared.message.Size.{Size}
use Rattle.fio_form.specs.declared.message.Size.TheVariants as sizes
use Rattle.fio_form.specs.declared.octets.TheConstants.{OCTETS}
use Rattle.fio_form.specs.declared.reading.Whole.{Whole}
use Rattle.fio_form.specs.declared.reading.Whole.TheVariants.{Message, Any, Lacking, Idle, Damaged}

-- the places of a message are in order, and within this many octets
abbrev pub IsWithinOctets : ℕ → Whole → Type 0
IsWithinOctets count (Message start end) = (start ≤ end) × (end ≤ count)
IsWithinOctets count (Any start end) = (start ≤ end) × (end ≤ count)
IsWithinOctets count _ = Unit {0}

-- ---- Frames of the wire

-- whether an octet is a flag
abbrev pub is_flag : ℕ → Bool
is_flag octet = octet == 126

-- whether two octets are the check of others, its low octet first
abbrev pub are_check : ℕ → ℕ → ℕ → Bool
are_check low high check = low == check % 256 && high == check / 256

-- whether the last two octets are the frame check of those before them, of which there are at least two
abbrev pub has_check : List ℕ → Bool
has_check octets =
    nat_le 4 (length octets)
    && are_check (slice_index octets (length octets - 2)) (slice_index octets (length octets - 1)) (frame_check_of (take (length octets - 2) octets))

-- what is between the header and the check of a frame
abbrev pub content : List ℕ → List ℕ
content octets = take (length octets - 2 - 2) (drop 2 octets)

-- what a frame without flags holds, if its check is right
abbrev pub held_in : List ℕ → Option (List ℕ)
held_in octets = if has_check octets then Some (content octets) else None

-- an octet, with its sixth bit exchanged if it is after an escape
abbrev pub unescaped : Bool → ℕ → ℕ
unescaped false octet = octet
unescaped true octet = if octet / 32 % 2 == 0 then octet + 32 else octet - 32

-- octets without escapes, after others: none if there is a flag among them
abbrev pub plain_from : Bool → List ℕ → List ℕ → Option (List ℕ)
plain_from escape plain [] = Some plain
plain_from escape plain (octet ∷ octets) =
    if is_flag octet then None
    else if octet == 125 then plain_from true plain octets
    else plain_from false (plain ++ unescaped escape octet ∷ []) octets

-- octets of which there are not too many
abbrev pub few_of : List ℕ → Option (List ℕ)
few_of octets = if nat_le (length octets) OCTETS then Some octets else None

-- What a frame holds between flags: if the check is right of the octets as they are, as a logger writes them that
-- does not escape, these; else those without escapes.
abbrev pub held_inside : List ℕ → Option (List ℕ)
held_inside octets =
    if has_check octets then Some (content octets)
    else option_and_then held_in (option_and_then few_of (plain_from false [] octets))

-- the octets between the first and the last one
abbrev pub inner : List ℕ → List ℕ
inner octets = take (length octets - 1 - 1) (drop 1 octets)

-- whether octets begin with a flag
abbrev pub begins_flag : List ℕ → Bool
begins_flag [] = false
begins_flag (octet ∷ octets) = is_flag octet

-- whether octets begin with a flag and do not end with another one
abbrev pub is_open_frame : List ℕ → Bool
is_open_frame octets = begins_flag octets && (length octets == 1 || not (is_flag (slice_index octets (length octets - 1))))

-- what a frame holds, without flags or with them, if its check is right
unfoldable pub framed_in : List ℕ → Option (List ℕ)
framed_in octets =
    if is_open_frame octets then None
    else if begins_flag octets then held_inside (inner octets)
    else held_in octets

-- what is kept of what a frame holds: as much as there is room for
unfoldable pub kept_of : Option (List ℕ) → List ℕ
kept_of None = []
kept_of (Some held) = take OCTETS held

-- ---- The octets of a form

-- what octets are after those before the message, if they are a frame of the wire, by what it holds
abbrev pub whole_held : Option (List ℕ) → Whole
whole_held None = Damaged
whole_held (Some held) = if is_message (take OCTETS held) then Message 0 (length (take OCTETS held)) else Idle

-- what octets are after those before the message, if they are a frame of the wire
abbrev pub whole_frame : List ℕ → Whole
whole_frame octets = if is_open_frame octets then Lacking else whole_held (framed_in octets)

-- whether there is one octet more than such a message has, a 0, where there may be one
abbrev pub is_longer : Bool → ℕ → List ℕ → Bool
is_longer swapped size octets = swapped && (length octets == size + 1 && slice_index octets (length octets - 1) == 0)

-- what octets are, of which this many are before a message of this size, and this many after it
abbrev pub whole_known : Bool → ℕ → ℕ → ℕ → List ℕ → Whole
whole_known swapped before after size octets =
    if nat_lt (length octets) (before + size + after) then Lacking
    else if (length octets == before + size + after || is_longer swapped (before + size + after) octets) && is_message (take size (drop before octets))
    then Message before (before + size)
    else Damaged

-- what octets are, of which this many before and after are no part of a message of unknown length
abbrev pub whole_any : Bool → ℕ → ℕ → List ℕ → Whole
whole_any swapped before after octets =
    if is_message (take (length octets - after - before) (drop before octets)) && not (swapped && slice_index octets (length octets - 1) == 0)
    then Any before (length octets - after)
    else Damaged

-- what octets are, by how long the message is that they begin
abbrev pub whole_by_size : Size → Bool → ℕ → ℕ → List ℕ → Whole
whole_by_size sizes.Unknown swapped before after octets = Lacking
whole_by_size (sizes.Known size) swapped before after octets = whole_known swapped before after size octets
whole_by_size sizes.Any swapped before after octets = whole_any swapped before after octets
whole_by_size sizes.None swapped before after octets = Damaged

-- what the octets of a form are
unfoldable pub whole_of : LineForm → List ℕ → Whole
whole_of form octets =
    if nat_le (length octets) (form.before + form.after)
    then (if nat_lt 0 form.before && length octets == form.before + form.after then Idle else Lacking)
    else if form.is_framed then whole_frame (drop form.before octets)
    else whole_by_size (size_of (drop form.before octets)) form.is_swapped form.before form.after octets

-- the octets that the places of a whole are of: those that a frame of the wire holds, if there is one, or those of the form
abbrev pub held_of : LineForm → List ℕ → List ℕ
held_of form octets =
    if form.is_framed
    then (if nat_le (length octets) (form.before + form.after) then [] else kept_of (framed_in (drop form.before octets)))
    else octets
