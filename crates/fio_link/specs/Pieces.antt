-- The record as pieces of the transition log.
use Rattle.std.specs.Prelude.{◌≡◌, ℕ, ◌+◌, ◌<◌, ◌≤◌, true, List, [], ◌∷◌, ◌++◌, map, length, take, slice_get, Some, Contains, if◌then◌else◌}
use Rattle.std.specs.List.{flat_map}
use Rattle.fio_message.specs.declared.fields.Entry.{Entry}
use Rattle.fio_module.specs.Settings.{Settings}
use Rattle.fio_module.specs.Life.{Life}
use Rattle.fio_module.specs.Log.{entry_of, log_of}
use Rattle.fio_module.specs.Blocks.{MadeBlock, end_of_blocks, blocks_of}
use Rattle.fio_cpu.specs.declared.record.Item.{Item}
use Rattle.fio_cpu.specs.declared.record.Item.TheVariants as items

-- an item of the record without its wide time: a gap mark, or an entry
pub data Piece : Type 0 where
  Gap : Piece
  EntryPiece : (entry : Entry) → Piece

-- the piece that an item of the record is: the item without its wide time
abbrev pub piece_of : Item → Piece
piece_of items.Gap = Gap
piece_of (items.Entry input level stamp wide) =
    EntryPiece (record { input = input; level = level; stamp = stamp })

-- the pieces that a block adds to the record: a gap mark if it says that entries were lost before it, then its entries
abbrev pub pieces_of : MadeBlock → List Piece
pieces_of block =
    (if block.lost then Gap ∷ [] else [])
    ++ map (λ transition. EntryPiece (entry_of transition)) block.transitions

-- the pieces that the first m blocks add to the record
abbrev pub pieces_of_blocks : ℕ → List MadeBlock → List Piece
pieces_of_blocks m blocks = flat_map pieces_of (take m blocks)

-- one of these blocks says that entries were lost before it, from the place where the block before it ended to its own start
pub record HasLoss (blocks : List MadeBlock) (before start : ℕ) : Type 0 where
  pub block : MadeBlock
  pub is_made : Contains blocks block
  pub said : block.lost ≡ true
  pub begins : block.before ≡ before
  pub ends : block.start ≡ start
  pub forward : before < start

-- The pieces are a life's transition log from one place up to another. Each entry is the next one in the log, and entries
-- are left out only at a gap mark: those from where a block ended to the start of the next block, which says so.
abbrev pub ArePieces : Settings → Life → ℕ → List Piece → ℕ → Type 0
ArePieces settings life from [] to = to ≡ from
ArePieces settings life from (EntryPiece entry ∷ pieces) to =
    (slice_get (map entry_of (log_of life)) from ≡ Some entry)
    × ArePieces settings life (from + 1) pieces to
ArePieces settings life from (Gap ∷ pieces) to =
    (next : ℕ) × HasLoss (blocks_of settings life) from next
    × ArePieces settings life next pieces to

-- the law of pieces: the pieces that the first m blocks of a life add to the record are the pieces of its log up to where
-- the m-th block ends, or up to 0 if m is 0
abbrev pub TakenArePieces : Type 0
TakenArePieces = (settings : Settings) (life : Life) (m : ℕ) →
    let blocks = blocks_of settings life in
    m ≤ length blocks → ArePieces settings life 0 (pieces_of_blocks m blocks) (end_of_blocks (take m blocks))

-- the entries before the first gap mark
abbrev pub until_gap : List Piece → List Entry
until_gap [] = []
until_gap (Gap ∷ pieces) = []
until_gap (EntryPiece entry ∷ pieces) = entry ∷ until_gap pieces

-- the log of a life begins with these entries
abbrev pub BeginLog : Life → List Entry → Type 0
BeginLog life entries = (rest : List Entry) × (map entry_of (log_of life) ≡ entries ++ rest)

-- up to the first gap mark, pieces of the log from its start are a prefix of it
abbrev pub PiecesBeginLog : Type 0
PiecesBeginLog = (settings : Settings) (life : Life) (pieces : List Piece) (to : ℕ) →
    ArePieces settings life 0 pieces to → BeginLog life (until_gap pieces)
