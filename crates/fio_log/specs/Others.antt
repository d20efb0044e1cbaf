-- Which messages that this protocol has not are no damage: what is counted of a log, line by line, and what shows it.
use Rattle.std.specs.Prelude.{ℕ, ◌+◌, ◌*◌, ◌%◌, ◌==◌, ◌&&◌, ◌||◌, Bool, false, true, not, nat_le, nat_lt, max, if◌then◌else◌, List, length, replicate, slice_index, slice_set}
use Rattle.fio_message.specs.declared.types.TheConstants.{ANSWER, FILTERED_INPUTS_ANSWER, RAW_INPUTS_ANSWER, SET_OUTPUTS, SET_OUTPUTS_ANSWER}
use Rattle.fio_log.specs.declared.foreign.Foreign.{Foreign}
use Rattle.fio_log.specs.declared.others.Others.{Others}
use Rattle.fio_log.specs.declared.others.TheConstants.{FEW, SHARE, SIZES, TYPES}
use Rattle.fio_log.specs.declared.verdict.Kind.{Kind}
use Rattle.fio_log.specs.declared.verdict.Kind.TheVariants as kinds
use Rattle.fio_log.specs.declared.verdict.LineVerdict.{LineVerdict}

-- no such message
abbrev pub no_message : Foreign
no_message = record { code = 0; octets = 0 }

-- the counts above the first line
abbrev pub no_others : Others
no_others = record {
  above = no_message;
  types = replicate TYPES 0;
  sizes = replicate SIZES 0;
  all = replicate TYPES 0;
  sized = replicate (3 * SIZES) 0;
  is_passed = false;
}

-- one more, at most as many as fit 32 bits
abbrev pub next_count : ℕ → ℕ
next_count count = if nat_lt count 4294967295 then count + 1 else 4294967295

-- counts with one more at a place, if the table has it
abbrev pub counted_at : List ℕ → ℕ → List ℕ
counted_at counts place = if nat_lt place (length counts) then slice_set counts place (next_count (slice_index counts place)) else counts

-- the place of a message among those of a size
abbrev pub size_place : Foreign → ℕ
size_place message =
    if message.code == RAW_INPUTS_ANSWER then message.octets
    else if message.code == FILTERED_INPUTS_ANSWER then SIZES + message.octets
    else if message.code == SET_OUTPUTS then 2 * SIZES + message.octets
    else 3 * SIZES

-- whether a message answers the one above
abbrev pub is_exchange : Foreign → Foreign → Bool
is_exchange above message = nat_lt 0 above.code && message.code == above.code + ANSWER

-- the message of a line: that of its only frame, which has this type, or the one that this protocol has not
abbrev pub message_of : LineVerdict → ℕ → Foreign
message_of verdict code =
    if verdict.frames == 1 then record { code = code; octets = 0 }
    else if nat_lt 0 verdict.foreign then record { code = verdict.foreign; octets = verdict.header.control }
    else no_message

-- the counts with an exchange: by its size, if one of its messages has another one, else by its type
abbrev pub exchange_counted : Others → ℕ → Others
exchange_counted others size = if nat_lt 0 size then record others { sizes = counted_at others.sizes size }
    else record others { types = counted_at others.types others.above.code }

-- the counts with the exchange that a message ends, if it answers the one above
abbrev pub answer_counted : Others → Foreign → Others
answer_counted others message =
    if is_exchange others.above message then exchange_counted others (max others.above.octets message.octets) else others

-- the counts below a message
abbrev pub counted : Others → Foreign → Others
counted others message = record (answer_counted others message) {
  above = message;
  all = counted_at others.all message.code;
  sized = counted_at others.sized (size_place message);
}

-- whether a line is blank
abbrev pub is_blank_kind : Kind → Bool
is_blank_kind kinds.Blank = true
is_blank_kind _ = false

-- the counts below a line
abbrev pub taken_below : Others → LineVerdict → ℕ → Others
taken_below others verdict code = if is_blank_kind verdict.kind then others else counted others (message_of verdict code)

-- whether a line has nothing but the answer to the outputs above it, which are those of a module of another size; its first frame has
-- this type
abbrev pub answers_others : Others → LineVerdict → ℕ → Bool
answers_others others verdict code =
    not (is_blank_kind verdict.kind) && verdict.frames == 1 && code == SET_OUTPUTS_ANSWER
    && others.above.code == SET_OUTPUTS && nat_lt 0 others.above.octets

-- the message of a line that this protocol has not, or such an answer
abbrev pub foreign_below : Others → LineVerdict → ℕ → ℕ
foreign_below others verdict code = if answers_others others verdict code then SET_OUTPUTS_ANSWER else verdict.foreign

-- whether messages of a type, or of a size, are no damage: more than a few exchanges have it; and a share of the messages of a type
-- that this protocol has too
abbrev pub are_usual : Others → Foreign → Bool
are_usual others message =
    if message.octets == 0 then nat_lt FEW (slice_index others.types (message.code % ANSWER))
    else nat_lt FEW (slice_index others.sizes message.octets)
    && nat_le (slice_index others.all message.code) (SHARE * slice_index others.sized (size_place message))

-- whether a line of a kind is passed over that has such a message
abbrev pub passes_kind : Others → Kind → Foreign → Bool
passes_kind others kinds.Blank message = false
passes_kind others kinds.Frames message = others.is_passed
passes_kind others kinds.PassedOver message = true
passes_kind others _ message = are_usual others message

-- whether a line of a kind is passed over: one with a message that this protocol has not, if that is no damage; and the answer to one
-- that is
abbrev pub passes : Others → Kind → Foreign → Bool
passes others kind message = not (message.code == 0) && passes_kind others kind message

-- the counts where it is known of a line whether it is passed over
abbrev pub passed : Others → Kind → Foreign → Others
passed others kind message = if is_blank_kind kind then others else record others { is_passed = passes others kind message }
