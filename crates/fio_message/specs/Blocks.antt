-- A block answer as its view shows it. The view does not copy the entries out of the octets.
use Rattle.std.specs.Prelude.{ℕ, List, drop, slice_index_or}
use Rattle.std.specs.Int.{w32, from_be_bytes}
use Rattle.fio_message.specs.declared.fields.Entry.{Entry}
use Rattle.fio_message.specs.declared.answers.Answer.{Answer}
use Rattle.fio_message.specs.declared.answers.Answer.TheVariants as answers
use Rattle.fio_message.specs.Answers.{SpellsAnswer}
use Rattle.fio_message.specs.Reading.{entry_at, parts_in, block_entries, block_ending}

-- what the view of a block answer shows: the block number, the entries in order, the status octet
-- and the stamp, the module's counter when the block was made
pub record Block : Type 0 where
  pub number : ℕ
  pub entries : List Entry
  pub status : ℕ
  pub stamp : ℕ

-- the answer that the view shows
abbrev pub block_answer : Block → Answer
block_answer block =
    answers.Block block.number (record { items = block.entries }) block.status block.stamp

-- The octets are the encoding of the answer that the view shows.
abbrev pub SpellsBlock : Block → List ℕ → Type 0
SpellsBlock block octets = SpellsAnswer (block_answer block) octets

-- the block that the fields of a block answer encode. Only the private step from octets to the view cites this; crates above
-- use `SpellsBlock`.
abbrev pub block_of_fields : List ℕ → Block
block_of_fields fields = record {
  number = slice_index_or fields 0 0;
  entries = block_entries fields;
  status = slice_index_or (block_ending fields) 0 0;
  stamp = from_be_bytes w32 (drop 1 (block_ending fields));
}

-- the entries in octets that hold nothing but entries
abbrev pub entries_in : List ℕ → List Entry
entries_in = parts_in entry_at
