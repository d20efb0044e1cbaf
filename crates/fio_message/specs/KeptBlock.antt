-- The octets of a block answer that are kept, so that they can be sent again.
use Rattle.std.specs.Prelude.{ℕ, ◌+◌, ◌*◌, List, ◌∷◌, ◌++◌, length, take, replicate, slice_index_or, slice_set}
use Rattle.std.specs.Int.{w32, to_be_bytes}
use Rattle.std.specs.List.{flat_map}
use Rattle.fio_message.specs.Status.{again_status}
use Rattle.fio_message.specs.Blocks.{Block}
use Rattle.fio_message.specs.declared.limits.TheConstants.{FRAME_OCTETS}
use Rattle.fio_message.specs.declared.types.TheConstants.{BLOCK_ANSWER}
use Rattle.fio_message.specs.declared.kept_block.KeptBlock.{KeptBlock}

-- no block is kept: the length is 0, and so is each octet of the room
abbrev pub no_block : KeptBlock
no_block = record { octets = replicate FRAME_OCTETS 0; reserved = 0; length = 0 }

-- the octets that are kept: the first `length` of those that there is room for
abbrev pub kept_octets : KeptBlock → List ℕ
kept_octets kept = take kept.length kept.octets

-- the octets of a block answer whose entries are given as octets
abbrev pub block_octets : ℕ → List (List ℕ) → ℕ → ℕ → List ℕ
block_octets number entries status stamp =
    BLOCK_ANSWER ∷ number ∷ length entries
    ∷ (flat_map (λ entry. entry) entries ++ (status ∷ to_be_bytes w32 stamp))

-- a block as it is sent again: E is set, G is clear, and all else is as it was
abbrev pub block_sent_again : Block → Block
block_sent_again block = record {
  number = block.number;
  entries = block.entries;
  status = again_status block.status;
  stamp = block.stamp;
}

-- the index of the status in the octets of a block: after its entries, which the octet at index 2 counts. Only private
-- contracts cite this and `marked_octets`.
abbrev pub status_place : List ℕ → ℕ
status_place octets = 3 + 3 * slice_index_or octets 2 0

-- the octets of a block as it is sent again: its status octet has E set and G clear
abbrev pub marked_octets : List ℕ → List ℕ
marked_octets octets =
    let place = status_place octets in
    slice_set octets place (again_status (slice_index_or octets place 0))
