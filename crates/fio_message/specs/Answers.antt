-- What each answer spells: its octets are its type, 177 to 188, and its fields in order (TEES 2009; the lengths, and the
-- layout of the inputs, are own profile: this project's choice for 64 inputs and outputs).
use Rattle.std.specs.Prelude.{◌≡◌, ℕ, ◌+◌, ◌*◌, ◌<◌, ◌≤◌, ◌^◌, List, [], ◌∷◌, ◌++◌, length, Option, Some, None, if◌then◌else◌, ◌==◌, slice_index_or}
use Rattle.std.specs.List.{AllByRecursion, flat_map}
use Rattle.std.specs.Int.{w32, to_be_bytes}
use Rattle.fio_message.specs.Octets.{IsOctet, IsOctets, IsEntry, entry_octets, inputs_octets}
use Rattle.fio_message.specs.declared.answers.Answer.{Answer}
use Rattle.fio_message.specs.declared.answers.Answer.TheVariants.{Status, LoadCounter, ConfigureInputs, RawInputs, FilteredInputs, Block, Watchdog, Other}
use Rattle.fio_message.specs.declared.answers.OtherAnswer.{OtherAnswer}
use Rattle.fio_message.specs.declared.answers.OtherAnswer.TheVariants.{SetOutputs, TrackInputs, ComplexOutputs, ControllerId, Identify}
use Rattle.fio_message.specs.declared.types.TheConstants.{STATUS, LOAD_COUNTER, CONFIGURE_INPUTS, RAW_INPUTS, FILTERED_INPUTS, POLL, SET_OUTPUTS, TRACK_INPUTS, COMPLEX_OUTPUTS, WATCHDOG, CONTROLLER_ID, IDENTIFY, ANSWER, STATUS_ANSWER, LOAD_COUNTER_ANSWER, CONFIGURE_INPUTS_ANSWER, RAW_INPUTS_ANSWER, FILTERED_INPUTS_ANSWER, BLOCK_ANSWER, SET_OUTPUTS_ANSWER, TRACK_INPUTS_ANSWER, COMPLEX_OUTPUTS_ANSWER, WATCHDOG_ANSWER, CONTROLLER_ID_ANSWER, IDENTIFY_ANSWER}
use Rattle.fio_message.specs.declared.limits.TheConstants.{BLOCK_ENTRIES, BODY_OCTETS}

-- the type of the command that is answered, for an answer that has only a body
abbrev pub answered_by_other : OtherAnswer → ℕ
answered_by_other SetOutputs = SET_OUTPUTS
answered_by_other TrackInputs = TRACK_INPUTS
answered_by_other ComplexOutputs = COMPLEX_OUTPUTS
answered_by_other ControllerId = CONTROLLER_ID
answered_by_other Identify = IDENTIFY

-- the type of the command that is answered
abbrev pub answered_code : Answer → ℕ
answered_code (Status _ _ _ _) = STATUS
answered_code (LoadCounter _) = LOAD_COUNTER
answered_code (ConfigureInputs _) = CONFIGURE_INPUTS
answered_code (RawInputs _ _) = RAW_INPUTS
answered_code (FilteredInputs _ _) = FILTERED_INPUTS
answered_code (Block _ _ _ _) = POLL
answered_code (Watchdog _) = WATCHDOG
answered_code (Other kind _) = answered_by_other kind

-- The type of an answer that has only a body: that of its command plus 128 (TEES 2009).
abbrev pub other_answer_code : OtherAnswer → ℕ
other_answer_code kind = answered_by_other kind + ANSWER

-- which answer with only a body has this type, if any
abbrev pub other_answer_of : ℕ → Option OtherAnswer
other_answer_of code =
    if code == SET_OUTPUTS_ANSWER then Some SetOutputs
    else (if code == TRACK_INPUTS_ANSWER then Some TrackInputs
    else (if code == COMPLEX_OUTPUTS_ANSWER then Some ComplexOutputs
    else (if code == CONTROLLER_ID_ANSWER then Some ControllerId
    else (if code == IDENTIFY_ANSWER then Some Identify else None))))

-- the type of an answer: that of its command plus 128
abbrev pub answer_code : Answer → ℕ
answer_code answer = answered_code answer + ANSWER

-- The octets after the type: numbers most significant octet first, a stamp in four octets, a count before its entries, a
-- body as it is. The bits of a flag or status octet are kept as they are, also those that have no name (own profile). The
-- named flags are, from bit 7 down, P (the module was reset), E, K, R, T, M, L and W; the named status bits are those of the
-- file `Status`. The letters and order of the flags, and all bit positions, are own profile.
abbrev pub answer_fields : Answer → List ℕ
answer_fields (Status flags receive_errors transmit_errors stamp) =
    flags ∷ receive_errors ∷ transmit_errors ∷ to_be_bytes w32 stamp
answer_fields (LoadCounter status) = status ∷ []
answer_fields (ConfigureInputs status) = status ∷ []
answer_fields (RawInputs inputs stamp) = inputs_octets inputs ++ to_be_bytes w32 stamp
answer_fields (FilteredInputs inputs stamp) = inputs_octets inputs ++ to_be_bytes w32 stamp
answer_fields (Block block entries status stamp) =
    block ∷ length entries.items
    ∷ (flat_map entry_octets entries.items ++ (status ∷ to_be_bytes w32 stamp))
answer_fields (Watchdog status) = status ∷ []
answer_fields (Other _ body) = body.items

-- all octets of an answer
abbrev pub answer_octets : Answer → List ℕ
answer_octets answer = answer_code answer ∷ answer_fields answer

-- The answer to the setting of outputs: the octet 0, then the stamp (own profile).
abbrev pub outputs_answer : ℕ → Answer
outputs_answer stamp = Other SetOutputs (record { items = 0 ∷ to_be_bytes w32 stamp })

-- The answer to `Identify`: one octet, the module's identification (own profile).
abbrev pub identity_answer : ℕ → Answer
identity_answer id = Other Identify (record { items = id ∷ [] })

-- The numbers and lists of an answer are within the ranges of their types: an octet is below 256, a stamp below 2^32, inputs
-- are below 2^64, there are at most 255 entries, and a body has at most 772 octets.
abbrev pub IsAnswer : Answer → Type 0
IsAnswer (Status flags receive_errors transmit_errors stamp) =
    IsOctet flags × IsOctet receive_errors × IsOctet transmit_errors × (stamp < 2 ^ 32)
IsAnswer (LoadCounter status) = IsOctet status
IsAnswer (ConfigureInputs status) = IsOctet status
IsAnswer (RawInputs inputs stamp) = (inputs < 2 ^ 64) × (stamp < 2 ^ 32)
IsAnswer (FilteredInputs inputs stamp) = (inputs < 2 ^ 64) × (stamp < 2 ^ 32)
IsAnswer (Block block entries status stamp) =
    IsOctet block × (length entries.items ≤ BLOCK_ENTRIES) × AllByRecursion IsEntry entries.items
    × IsOctet status × (stamp < 2 ^ 32)
IsAnswer (Watchdog status) = IsOctet status
IsAnswer (Other _ body) = (length body.items ≤ BODY_OCTETS) × IsOctets body.items

-- The answer spells the octets: it is within its ranges, and they are its type and its fields.
pub record SpellsAnswer (answer : Answer) (octets : List ℕ) : Type 0 where
  pub within : IsAnswer answer
  pub spelled : octets ≡ answer_octets answer

-- how many octets a block answer has, from the number and the count that begin its fields: type, number, count, status and
-- stamp are 8 octets, and each entry is 3 more. If the octet of the count is missing, the count is taken as 0.
abbrev pub block_fields_length : List ℕ → ℕ
block_fields_length fields = 8 + 3 * slice_index_or fields 1 0

-- how many octets an answer with this first octet and this count has, or None if no answer has this type. An answer that has
-- only a body may have any length.
abbrev pub answer_length : List ℕ → Option ℕ
answer_length [] = None
answer_length (code ∷ fields) =
    if code == STATUS_ANSWER then Some 8
    else (if code == LOAD_COUNTER_ANSWER then Some 2
    else (if code == CONFIGURE_INPUTS_ANSWER then Some 2
    else (if code == RAW_INPUTS_ANSWER then Some 13
    else (if code == FILTERED_INPUTS_ANSWER then Some 13
    else (if code == BLOCK_ANSWER then Some (block_fields_length fields)
    else (if code == SET_OUTPUTS_ANSWER then Some (1 + length fields)
    else (if code == TRACK_INPUTS_ANSWER then Some (1 + length fields)
    else (if code == COMPLEX_OUTPUTS_ANSWER then Some (1 + length fields)
    else (if code == WATCHDOG_ANSWER then Some 2
    else (if code == CONTROLLER_ID_ANSWER then Some (1 + length fields)
    else (if code == IDENTIFY_ANSWER then Some (1 + length fields) else None)))))))))))

-- the same for a reader of block answers alone, to which every other type is unknown
abbrev pub block_length : List ℕ → Option ℕ
block_length [] = None
block_length (code ∷ fields) = if code == BLOCK_ANSWER then Some (block_fields_length fields) else None
