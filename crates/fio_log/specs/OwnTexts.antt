-- Lines of the texts that the program's own tools read: of frames, as `show` reads them, and of transcripts, as `check` does.
use Rattle.std.specs.Prelude.{◌≡◌, ℕ, ◌≤◌, Bool, true, false, codes, nat_lt, slice_index, if◌then◌else◌, List, length, Option, Some, None, is_some, option_map, option_and_then, take}
use Rattle.std.specs.Option.{option_or}
use Rattle.fio_message.specs.declared.limits.TheConstants.{FRAME_OCTETS}
use Rattle.fio_message.specs.Decoding.{answer_in, command_in}
use Rattle.fio_text.specs.Hexadecimal.{octets_in}
use Rattle.fio_text.specs.Lines.{is_skipped}
use Rattle.fio_text.specs.Words.{after_prefix}
use Rattle.fio_log.specs.declared.own_texts.OwnForm.{OwnForm}
use Rattle.fio_log.specs.declared.own_texts.OwnForm.TheVariants.{Frames, Transcript}
use Rattle.fio_log.specs.declared.own_texts.OwnLine.{OwnLine}
use Rattle.fio_log.specs.declared.own_texts.OwnLine.TheVariants.{Skipped, Bad, Faulty, Frame}

-- whether octets are an answer, by their first octet
abbrev pub is_answer : List ℕ → Bool
is_answer octets = nat_lt 127 (slice_index octets 0)

-- whether octets encode a message: the decoder of its direction accepts them
abbrev pub spells : List ℕ → Bool
spells octets = if is_answer octets then is_some (answer_in octets) else is_some (command_in octets)

-- whether the CPU sent a word, if the text says that, and the octets of the word
abbrev pub own_frame_with : Option Bool → List ℕ → Option (Option Bool × List ℕ)
own_frame_with from_cpu word = option_map (λ octets. (from_cpu, octets)) (octets_in word)

-- The frame of a line. In a transcript `> HEX` was sent by the CPU, and `< HEX` was heard; in a text of frames the line is HEX.
abbrev pub own_frame : OwnForm → List ℕ → Option (Option Bool × List ℕ)
own_frame Frames line = own_frame_with None line
own_frame Transcript line = option_or
    (option_and_then (own_frame_with (Some true)) (after_prefix (codes "> ") line))
    (option_and_then (own_frame_with (Some false)) (after_prefix (codes "< ") line))

-- whether octets encode a message of the end that sent them; if the text does not say which, of the end that their first octet
-- names
abbrev pub spells_from : Option Bool → List ℕ → Bool
spells_from None octets = spells octets
spells_from (Some from_cpu) octets = if from_cpu then is_some (command_in octets) else is_some (answer_in octets)

-- A line is a frame with `count` octets, which are at the front of the room if they fit in it.
pub record IsFrameInRoom (form : OwnForm) (line : List ℕ) (from_cpu : Option Bool) (count : ℕ) (room : List ℕ) : Type 0 where
  pub octets : List ℕ
  pub frame : own_frame form line ≡ Some (from_cpu, octets)
  pub counted : count ≡ length octets
  pub read : count ≤ FRAME_OCTETS → octets ≡ take count room

-- A line is a frame with `count` octets, which encode a message exactly if `spells` is true.
pub record IsOwnFrame (form : OwnForm) (line room : List ℕ) (count : ℕ) (spells : Bool) : Type 0 where
  pub said : is_skipped line ≡ false
  pub from_cpu : Option Bool
  pub read : IsFrameInRoom form line from_cpu count room
  pub spelled : spells_from from_cpu read.octets ≡ spells

-- What a line is, and what the room for the longest frame contains of it.
abbrev pub IsOwnLine : OwnForm → List ℕ → List ℕ → OwnLine → Type 0
IsOwnLine form line room Skipped = is_skipped line ≡ true
IsOwnLine form line room Bad = (is_skipped line ≡ false) × (own_frame form line ≡ None)
IsOwnLine form line room (Faulty count) = IsOwnFrame form line room count false
IsOwnLine form line room (Frame count) = IsOwnFrame form line room count true
