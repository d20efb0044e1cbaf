-- The lines of each answer.
use Rattle.std.specs.Prelude.{ℕ, List, ◌++◌, length, codes, decimal}
use Rattle.std.specs.List.{flat_map}
use Rattle.fio_message.specs.Octets.{inputs_octets}
use Rattle.fio_message.specs.Answers.{other_answer_code}
use Rattle.fio_message.specs.declared.fields.Entry.{Entry}
use Rattle.fio_message.specs.declared.answers.Answer.{Answer}
use Rattle.fio_message.specs.declared.answers.Answer.TheVariants.{Status, LoadCounter, ConfigureInputs, RawInputs, FilteredInputs, Block, Watchdog, Other}
use Rattle.fio_input.specs.Widening.{wide_time_of}
use Rattle.fio_text.specs.Digits.{digits_of, octet_digits}
use Rattle.fio_show.specs.EntryLines.{entry_line}
use Rattle.fio_show.specs.CommandLines.{other_text}

-- the error counts, and the stamp
abbrev pub errors_text : ℕ → ℕ → ℕ → List ℕ
errors_text receive_errors transmit_errors stamp =
    codes " receive " ++ (decimal receive_errors
    ++ (codes " transmit " ++ (decimal transmit_errors
    ++ (codes " stamp " ++ (decimal stamp ++ codes "\n")))))

-- the line of an answer with the status flags
abbrev pub flags_text : ℕ → ℕ → ℕ → ℕ → List ℕ
flags_text flags receive_errors transmit_errors stamp =
    codes "status flags "
    ++ (octet_digits flags ++ errors_text receive_errors transmit_errors stamp)

-- the line of an answer with a status octet: the name of the answer, then the status
abbrev pub status_text : List ℕ → ℕ → List ℕ
status_text name status = name ++ (codes " status " ++ (octet_digits status ++ codes "\n"))

-- the line of an answer with the levels of all inputs: its name, then the levels and the stamp
abbrev pub levels_text : List ℕ → ℕ → ℕ → List ℕ
levels_text name inputs stamp =
    name ++ (codes " inputs " ++ (digits_of (inputs_octets inputs)
    ++ (codes " stamp " ++ (decimal stamp ++ codes "\n"))))

-- the line of an entry of a block answer with this stamp: as in a record, after two blanks
abbrev pub entry_text : ℕ → Entry → List ℕ
entry_text stamp entry =
    codes "  "
    ++ entry_line entry.input entry.level entry.stamp (wide_time_of stamp entry.stamp)

-- the first line of a block answer
abbrev pub block_head_text : ℕ → ℕ → ℕ → ℕ → List ℕ
block_head_text block count status stamp =
    codes "block " ++ (decimal block
    ++ (codes " entries " ++ (decimal count
    ++ (codes " status " ++ (octet_digits status
    ++ (codes " stamp " ++ (decimal stamp ++ codes "\n")))))))

-- the lines of a block answer: the first, and one for each entry
abbrev pub block_text : ℕ → List Entry → ℕ → ℕ → List ℕ
block_text block entries status stamp =
    block_head_text block (length entries) status stamp ++ flat_map (entry_text stamp) entries

-- the lines of an answer
abbrev pub answer_text : Answer → List ℕ
answer_text (Status flags receive_errors transmit_errors stamp) =
    flags_text flags receive_errors transmit_errors stamp
answer_text (LoadCounter status) = status_text (codes "counter load") status
answer_text (ConfigureInputs status) = status_text (codes "configure") status
answer_text (RawInputs inputs stamp) = levels_text (codes "raw") inputs stamp
answer_text (FilteredInputs inputs stamp) = levels_text (codes "filtered") inputs stamp
answer_text (Block block entries status stamp) =
    block_text block entries.items status stamp
answer_text (Watchdog status) = status_text (codes "watchdog") status
answer_text (Other kind body) = other_text (other_answer_code kind) body.items
