-- Laws of messages and their octets: each function of the module `laws` promises one of them.
use Rattle.std.specs.Prelude.{◌≡◌, ◌↔◌, ℕ, ◌+◌, ◌*◌, ◌%◌, ◌<◌, ◌≤◌, Bool, true, false, List, ◌∷◌, ◌++◌, length, Contains, map, slice_index_or, Option, Some, None, Result, Ok, Err}
use Rattle.std.specs.Int.{IsBitSet}
use Rattle.fio_message.specs.Octets.{IsOctets, IsFrameLength, entry_octets, inputs_octets}
use Rattle.fio_message.specs.Commands.{SpellsCommand}
use Rattle.fio_message.specs.Answers.{SpellsAnswer, answer_octets, answer_length, block_length}
use Rattle.fio_message.specs.Status as status
use Rattle.fio_message.specs.Status.{error_status, set_before_status, block_status, again_status}
use Rattle.fio_message.specs.KeptBlock.{block_octets}
use Rattle.fio_message.specs.Refusals.{Refuses}
use Rattle.fio_message.specs.declared.faults.DecodeError.{DecodeError}
use Rattle.fio_message.specs.declared.commands.Command.{Command}
use Rattle.fio_message.specs.declared.answers.Answer.{Answer}
use Rattle.fio_message.specs.declared.answers.Answer.TheVariants as answers
use Rattle.fio_message.specs.declared.fields.Entry.{Entry}
use Rattle.fio_message.specs.declared.limits.TheConstants.{BODY_OCTETS}

-- for commands and for answers alike, given which octets each message spells
module _ {V : Type 0} (Spells : V → List ℕ → Type 0) where
  -- each message within the ranges of its type spells exactly one list of octets, of 1 to 773
  abbrev pub EachSpellsOneList : (V → Type 0) → Type 0
  EachSpellsOneList Fits =
      (message : V) → Fits message →
      (octets : List ℕ) × Spells message octets × IsFrameLength (length octets) × IsOctets octets
      × ((others : List ℕ) → Spells message others → others ≡ octets)

  -- no two messages spell the same list
  abbrev pub NoTwoSpellOneList : Type 0
  NoTwoSpellOneList = (a b : V) (octets : List ℕ) → Spells a octets → Spells b octets → a ≡ b

  -- 1 to 773 octets of a known type are spelled exactly if they have the length needed
  abbrev pub IsSpelledAtNeededLength : (List ℕ → Option ℕ) → Type 0
  IsSpelledAtNeededLength length_of =
      (octets : List ℕ) (needed : ℕ) → IsOctets octets → IsFrameLength (length octets) →
      length_of octets ≡ Some needed →
      ((message : V) × Spells message octets) ↔ (length octets ≡ needed)

  -- octets are spelled by a message exactly if they are not refused for any fault
  abbrev pub IsSpelledOrRefused : (List ℕ → Option ℕ) → Type 0
  IsSpelledOrRefused length_of =
      (octets : List ℕ) → IsOctets octets →
      ((message : V) × Spells message octets)
      ↔ ((fault : DecodeError) → Refuses (length_of octets) octets fault → ⊥)

  -- the message that spells octets is the one that is read from them
  abbrev pub IsReadBack : (List ℕ → Option V) → Type 0
  IsReadBack found =
      (message : V) (octets : List ℕ) → Spells message octets → found octets ≡ Some message

  -- the message that is read from octets spells them
  abbrev pub SpellsWhatIsRead : (List ℕ → Option V) → Type 0
  SpellsWhatIsRead found =
      (octets : List ℕ) (message : V) → IsOctets octets → found octets ≡ Some message
      → Spells message octets

  -- a decoder returns a message exactly if it spells the octets
  abbrev pub AnswersWhatIsSpelled : (List ℕ → Result V DecodeError) → Type 0
  AnswersWhatIsSpelled decoded =
      (octets : List ℕ) (message : V) → IsOctets octets
      → (decoded octets ≡ Ok message) ↔ Spells message octets

  -- no message is a proper beginning of another, if its type is none of these
  abbrev pub BeginsNoOther : List ℕ → Type 0
  BeginsNoOther any_length =
      (a b : V) (code octet : ℕ) (fields more : List ℕ) → (Contains any_length code → ⊥)
      → Spells a (code ∷ fields) → Spells b (code ∷ (fields ++ octet ∷ more)) → ⊥

  -- Two messages of one type differ in length by a multiple of three octets, if it is none of these types. So a message with
  -- one octet put in or taken out after its type is none, nor with two, whatever else is changed after the type.
  abbrev pub DiffersByThrees : List ℕ → Type 0
  DiffersByThrees any_length =
      (a b : V) (code : ℕ) (fields others : List ℕ) → (Contains any_length code → ⊥)
      → Spells a (code ∷ fields) → Spells b (code ∷ others) → length fields % 3 ≡ length others % 3

  -- octets with one of these types that fit in a frame are a message, whatever their length
  abbrev pub TakesAnyLength : List ℕ → Type 0
  TakesAnyLength any_length =
      (code : ℕ) (fields : List ℕ) → Contains any_length code → IsOctets fields → length fields ≤ BODY_OCTETS
      → (message : V) × Spells message (code ∷ fields)

-- a decoder returns a fault exactly if the octets are refused for it
abbrev pub AnswersRefusals :
    {V : Type 0} → (List ℕ → Option ℕ) → (List ℕ → Result V DecodeError) → Type 0
AnswersRefusals length_of decoded =
    (octets : List ℕ) (fault : DecodeError)
    → (decoded octets ≡ Err fault) ↔ Refuses (length_of octets) octets fault

-- Octets with the type of a block answer need the same length whether block answers or all answers are read. So if they are
-- refused as a block answer, they are refused as an answer for the same fault.
abbrev pub NeedsTheSame : Type 0
NeedsTheSame =
    (octets : List ℕ) (needed : ℕ)
    → block_length octets ≡ Some needed → answer_length octets ≡ Some needed

-- each named bit of a block's status reads back as it was put there
pub record StatusReadsBack (more lost again out_of_sequence : Bool) : Type 0 where
  pub says_more : status.says_more (block_status more lost again out_of_sequence) ≡ more
  pub says_lost : status.says_lost (block_status more lost again out_of_sequence) ≡ lost
  pub says_again : status.says_again (block_status more lost again out_of_sequence) ≡ again
  pub says_out_of_sequence :
      status.says_out_of_sequence (block_status more lost again out_of_sequence) ≡ out_of_sequence

-- S and Y read back as they were put there
abbrev pub ErrorReadsBack : Type 0
ErrorReadsBack = (error : Bool) → status.says_error (error_status error) ≡ error

-- the status of a watchdog answer reads back as whether a timeout had been set before
abbrev pub SetBeforeReadsBack : Type 0
SetBeforeReadsBack = (before : Bool) → status.says_set_before (set_before_status before) ≡ before

-- the status of a block that is sent again has E set and G clear, and C and F as before
abbrev pub SetsAgainAlone : Type 0
SetsAgainAlone =
    (more lost again out_of_sequence : Bool)
    → again_status (block_status more lost again out_of_sequence)
    ≡ block_status more lost true false

-- the octets of a block whose entries are given as octets are those of the block answer
abbrev pub KeepsBlockAnswers : Type 0
KeepsBlockAnswers =
    (number : ℕ) (entries : List Entry) (status stamp : ℕ)
    → block_octets number (map entry_octets entries) status stamp
    ≡ answer_octets (answers.Block number (record { items = entries }) status stamp)

-- no list is both a command and an answer
abbrev pub IsNeverBoth : Type 0
IsNeverBoth =
    (command : Command) (answer : Answer) (octets : List ℕ)
    → SpellsCommand command octets → SpellsAnswer answer octets → ⊥

-- bit b of octet j is input 8 * j + b
abbrev pub IsInputsLayout : Type 0
IsInputsLayout =
    (inputs j b : ℕ) → j < 8 → b < 8
    → IsBitSet (slice_index_or (inputs_octets inputs) j 0) b ↔ IsBitSet inputs (8 * j + b)

-- the known types are those from `low` to `high`: no other type has a needed length
abbrev pub IsKnownWithin : (List ℕ → Option ℕ) → ℕ → ℕ → Type 0
IsKnownWithin length_of low high =
    (code : ℕ) (fields : List ℕ)
    → (length_of (code ∷ fields) ≡ None) ↔ ((low ≤ code) × (code ≤ high) → ⊥)
