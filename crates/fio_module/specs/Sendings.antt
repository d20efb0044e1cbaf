-- The answers to polls: each block is sent once for the poll that made it, and again for each further poll with its number.
use Rattle.std.specs.Prelude.{ℕ, ◌+◌, ◌%◌, ◌==◌, Bool, true, false, not, List, [], ◌∷◌, map, Option, Some, None, option_map, if◌then◌else◌}
use Rattle.fio_message.specs.declared.fields.Entry.{Entry}
use Rattle.fio_message.specs.declared.answers.Answer.{Answer}
use Rattle.fio_message.specs.declared.answers.Answer.TheVariants as answers
use Rattle.fio_message.specs.declared.commands.Command.TheVariants.{Poll}
use Rattle.fio_message.specs.Status.{block_status}
use Rattle.fio_module.specs.Settings.{Settings}
use Rattle.fio_module.specs.Life.{Commanded, Life}
use Rattle.fio_module.specs.Log.{entry_of}
use Rattle.fio_module.specs.Blocks.{MadeBlock, newest_poll, is_new, next_block}

-- one sending of a block: its number, its entries, the status bits C, F, E and G, and its stamp
pub record Sending : Type 0 where
  pub number : ℕ
  pub entries : List Entry
  pub more : Bool
  pub lost : Bool
  pub again : Bool
  pub out_of_sequence : Bool
  pub stamp : ℕ

-- the answer that carries a sending
abbrev pub answer_of_sending : Sending → Answer
answer_of_sending sending =
    answers.Block
    sending.number
    (record { items = sending.entries })
    (block_status sending.more sending.lost sending.again sending.out_of_sequence)
    sending.stamp

-- whether a number is out of sequence after the poll received before: it is not that poll's number plus one, 0 after 255
abbrev pub is_out_of_sequence : Option ℕ → ℕ → Bool
is_out_of_sequence None number = false
is_out_of_sequence (Some before) number = not (number == (before + 1) % 256)

-- a block as it is first sent, for a poll with this number
abbrev pub sending_of : MadeBlock → ℕ → Bool → Sending
sending_of block number out_of_sequence =
    record {
      number = number;
      entries = map entry_of block.transitions;
      more = block.more;
      lost = block.lost;
      again = false;
      out_of_sequence = out_of_sequence;
      stamp = block.stamp;
    }

-- the next block as it is first sent, for a new poll with this number
abbrev pub first_sending : Settings → Life → ℕ → Sending
first_sending settings life number =
    sending_of (next_block settings life) number (is_out_of_sequence (newest_poll life) number)

-- a sending as it is sent again: E is set, G is clear, and all else is as it was
abbrev pub repeat_of : Sending → Sending
repeat_of sending =
    record {
      number = sending.number;
      entries = sending.entries;
      more = sending.more;
      lost = sending.lost;
      again = true;
      out_of_sequence = false;
      stamp = sending.stamp;
    }

-- the answer to the poll received last
abbrev pub latest_sending : Settings → Life → Option Sending
latest_sending settings [] = None
latest_sending settings (Commanded (Poll number) ∷ life) =
    if is_new (newest_poll life) number
    then Some (first_sending settings life number)
    else option_map repeat_of (latest_sending settings life)
latest_sending settings (other ∷ life) = latest_sending settings life
