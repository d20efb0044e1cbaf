-- Octets and lists in arrays of the caller.
use Rattle.std.specs.Prelude.{◌≡◌, ◌<◌, ◌≤◌, ℕ, List, ◌∷◌, ◌+◌, ◌++◌, length, take, drop, Option, Some, None}
use Rattle.fio_message.specs.declared.answers.Answer.{Answer}
use Rattle.fio_message.specs.Answers.{answer_octets}
use Rattle.fio_flat.specs.declared.written.TheConstants.{NO_MESSAGE}

-- Octets, entries or items are written to the front of the array if it has room for them. `count` is how many they are.
pub record Writes {T : Type 0} (items before after : List T) (count : ℕ) : Type 0 where
  -- with room or without
  pub counted : count ≡ length items
  -- the rest of the array is unchanged
  pub room : length items ≤ length before → after ≡ items ++ drop (length items) before
  -- nothing is written
  pub no_room : length before < length items → after ≡ before

-- A text is written to the front of the array, with a zero octet after it, if there is room for both. `count` is how many
-- octets the text has.
pub record WritesText (text before after : List ℕ) (count : ℕ) : Type 0 where
  -- with room or without
  pub counted : count ≡ length text
  -- the rest of the array is unchanged
  pub room :
      length text < length before → after ≡ text ++ (0 ∷ drop (1 + length text) before)
  -- nothing is written
  pub no_room : length before ≤ length text → after ≡ before

-- there is no such message: nothing is written, and the count is larger than any array
abbrev pub WritesNoMessage : {T : Type 0} → List T → List T → ℕ → Type 0
WritesNoMessage before after count =
    (count ≡ NO_MESSAGE) × ((length before < count) × (after ≡ before))

-- the buffer with these octets in it from an index on
abbrev pub buffer_with : ℕ → List ℕ → List ℕ → List ℕ
buffer_with place octets before =
    take place before ++ (octets ++ drop (place + length octets) before)

-- Octets are written from the index `place` on, if there is room for them, and end at the index `end`.
pub record Appends (octets before after : List ℕ) (place end : ℕ) : Type 0 where
  -- where they end, with room or without
  pub counted : end ≡ place + length octets
  -- if there is room, the rest of the buffer is unchanged
  pub written : end ≤ length before → after ≡ buffer_with place octets before

-- Octets are written as by `Appends`, and whatever is written after them is one text with them.
pub record WritesOn (octets before after : List ℕ) (place end : ℕ) : Type 0 where
  -- where they end, with room or without
  pub counted : end ≡ place + length octets
  -- what is written from there on is appended to them
  pub joined :
      (more last : List ℕ) (at : ℕ)
      → Appends more after last end at → Appends (octets ++ more) before last place at

-- nothing is written, and the count is 0
abbrev pub WritesNothing : List ℕ → List ℕ → ℕ → Type 0
WritesNothing before after count = (count ≡ 0) × (after ≡ before)

-- the octets of the answer are written, or nothing if there is no answer
abbrev pub WritesAnswer : Option Answer → List ℕ → List ℕ → ℕ → Type 0
WritesAnswer None before after count = WritesNothing before after count
WritesAnswer (Some answer) before after count =
    Writes (answer_octets answer) before after count
