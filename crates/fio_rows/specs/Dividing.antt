-- What is next in a stream of octets, by what follows each message.
use Rattle.std.specs.Prelude.{ℕ, ◌+◌, ◌-◌, ◌&&◌, ◌||◌, nat_le, nat_lt, nat_eq, Bool, true, false, if◌then◌else◌, List, [], ◌∷◌, length, take, drop, Option, Some, None}
use Rattle.std.specs.List.{starts_with}
use Rattle.fio_form.specs.Messages.{may_answer, is_message, size_of}
use Rattle.fio_form.specs.declared.message.Size.{Size}
use Rattle.fio_form.specs.declared.message.Size.TheVariants as sizes
use Rattle.fio_rows.specs.declared.dividing.Next.{Next}
use Rattle.fio_rows.specs.declared.dividing.Next.TheVariants.{Message, Broken, Wait}
use Rattle.fio_rows.specs.declared.dividing.TheConstants.{FREE, FULL}

-- where a message of a size ends, if this many octets have all of it
abbrev pub known_end : Size → ℕ → Option ℕ
known_end (sizes.Known size) count = if nat_le size count then Some size else None
known_end _ count = None

-- whether octets begin with the type of a command
abbrev pub begins_command : List ℕ → Bool
begins_command [] = false
begins_command (code ∷ rest) = nat_lt code 128

-- whether the octets after a command are its answer, or the same command
abbrev pub is_repeated_or_answered : List ℕ → List ℕ → Bool
is_repeated_or_answered command rest =
    begins_command command && nat_le 2 (length rest) && (may_answer command (take 2 rest) || starts_with nat_eq rest command)

-- whether a command, which ends there, is followed by its answer or by the same command
abbrev pub goes_on_from : Option ℕ → List ℕ → Bool
goes_on_from None octets = false
goes_on_from (Some end) octets = is_repeated_or_answered (take end octets) (drop end octets)

-- whether octets begin with a command, and after it its answer or the same command again
unfoldable pub stream_goes_on : List ℕ → Bool
stream_goes_on octets = goes_on_from (known_end (size_of octets) (length octets)) octets

-- where the stream goes on with a command, of octets from an index on
unfoldable pub beginning_from : ℕ → List ℕ → Option ℕ
beginning_from at [] = None
beginning_from at (octet ∷ octets) = if stream_goes_on (octet ∷ octets) then Some at else beginning_from (at + 1) octets

-- where the stream goes on with a command, after the first octet
abbrev pub next_beginning : List ℕ → Option ℕ
next_beginning octets = beginning_from 1 (drop 1 octets)

-- whether nothing begins with a type
abbrev pub is_no_type : Size → Bool
is_no_type sizes.None = true
is_no_type _ = false

-- whether an answer may follow a message; None if one octet of it does not say it yet
abbrev pub followed_by_answer : List ℕ → ℕ → List ℕ → Option Bool
followed_by_answer message first [] = None
followed_by_answer message first (second ∷ rest) = Some (may_answer message (first ∷ second ∷ rest))

-- whether what is after a command may follow it
abbrev pub followed_by : Bool → List ℕ → ℕ → List ℕ → Option Bool
followed_by after_answer message first rest =
    if is_no_type (size_of (first ∷ [])) then Some false
    else (if nat_lt first 128 then Some true
    else (if after_answer then Some false else followed_by_answer message first rest))

-- whether octets begin with the type of an answer
abbrev pub is_answer_type : List ℕ → Bool
is_answer_type [] = false
is_answer_type (code ∷ rest) = nat_le 128 code

-- whether what follows a message may follow it: any command, and an answer if the message is its command. None if nothing
-- says it yet
abbrev pub followed : List ℕ → List ℕ → Option Bool
followed message [] = None
followed message (first ∷ rest) = followed_by (is_answer_type message) message first rest

-- what is next if no message is: what is before the next command, if the stream goes on with one
abbrev pub given_up_before : Option ℕ → ℕ → Next
given_up_before (Some at) count = Broken at
given_up_before None count = if nat_le FULL count then Broken (count - FREE) else Wait

-- what is next if no message begins there
abbrev pub given_up : List ℕ → Next
given_up octets = given_up_before (next_beginning octets) (length octets)

-- what is next if a message ends there
unfoldable pub divided_at : ℕ → List ℕ → Next
divided_at end octets = if is_message (take end octets) then Message end else given_up octets

-- what is next by what follows
abbrev pub divided_if : Option Bool → ℕ → List ℕ → Next
divided_if None size octets = Wait
divided_if (Some true) size octets = divided_at size octets
divided_if (Some false) size octets = given_up octets

-- what is next if nothing says the length but the next command
abbrev pub divided_before : Option ℕ → List ℕ → Next
divided_before (Some end) octets = if nat_lt end FREE then divided_at end octets else given_up octets
divided_before None octets = if nat_lt (length octets) FULL then Wait else given_up octets

-- what is next by the size of the first message
abbrev pub divided_by : Size → List ℕ → Next
divided_by sizes.Unknown octets = Wait
divided_by (sizes.Known size) octets =
    if nat_lt (length octets) size then Wait else divided_if (followed (take size octets) (drop size octets)) size octets
divided_by sizes.Any octets = divided_before (next_beginning octets) octets
divided_by sizes.None octets = given_up octets

-- whether octets may be below a command: no answer to another one
abbrev pub may_stand : List ℕ → List ℕ → Bool
may_stand command [] = true
may_stand command (first ∷ []) = true
may_stand command (first ∷ second ∷ rest) = nat_lt first 128 || may_answer command (first ∷ second ∷ [])

-- what is next in a stream below a command
unfoldable pub next_in_stream : List ℕ → List ℕ → Next
next_in_stream command octets = if may_stand command octets then divided_by (size_of octets) octets else given_up octets
