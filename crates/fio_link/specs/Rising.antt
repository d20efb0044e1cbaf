-- The record rises through the log, however often the module restarts.
use Rattle.std.specs.Prelude.{◌≡◌, ℕ, List, [], ◌∷◌, map, slice_get, Some}
use Rattle.std.specs.List.Sorted.{IsStrictlyIncreasing}
use Rattle.fio_message.specs.declared.fields.Entry.{Entry}
use Rattle.fio_module.specs.Log.{Transition, entry_of, whole_log}
use Rattle.fio_link.specs.Link.{Machine}
use Rattle.fio_link.specs.Pieces.{Piece, Gap, EntryPiece, piece_of}

-- the entries among pieces, in order
abbrev pub entries_got : List Piece → List Entry
entries_got [] = []
entries_got (Gap ∷ pieces) = entries_got pieces
entries_got (EntryPiece entry ∷ pieces) = entry ∷ entries_got pieces

-- The pieces rise through a log: it has strictly rising places, one for each entry in order, and at each of these places is
-- that entry.
pub record Rises (log : List Transition) (pieces : List Piece) : Type 0 where
  pub places : List ℕ
  pub rise : IsStrictlyIncreasing places
  pub stand : map (slice_get (map entry_of log)) places ≡ map Some (entries_got pieces)

-- Whatever restarts, the record rises through the transition logs of all the module's lives, joined: nothing is doubled,
-- reordered or invented.
abbrev pub IsRising : Machine → Type 0
IsRising machine = Rises (whole_log machine.history) (map piece_of machine.items)
