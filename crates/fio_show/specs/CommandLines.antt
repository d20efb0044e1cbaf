-- The lines of each command.
use Rattle.std.specs.Prelude.{ℕ, List, [], ◌∷◌, ◌++◌, length, codes, decimal}
use Rattle.std.specs.List.{flat_map}
use Rattle.fio_message.specs.Bits.{bit_of}
use Rattle.fio_message.specs.Commands.{other_command_code}
use Rattle.fio_message.specs.declared.fields.InputItem.{InputItem}
use Rattle.fio_message.specs.declared.commands.Command.{Command}
use Rattle.fio_message.specs.declared.commands.Command.TheVariants.{Status, LoadCounter, ConfigureInputs, RawInputs, FilteredInputs, Poll, SetOutputs, Watchdog, Identify, Other}
use Rattle.fio_text.specs.Digits.{digits_of, octet_digits}

-- a line of these words and a number
abbrev pub number_text : List ℕ → ℕ → List ℕ
number_text words number = words ++ (decimal number ++ codes "\n")

-- the line of an item: the settings of one input
abbrev pub item_text : InputItem → List ℕ
item_text item =
    codes "  input " ++ (decimal item.input
    ++ (codes " ignore " ++ (decimal (bit_of item.ignore)
    ++ (codes " leading " ++ (decimal item.leading
    ++ (codes " trailing " ++ (decimal item.trailing ++ codes "\n")))))))

-- the line of a command that clears status flags
abbrev pub clearing_text : ℕ → List ℕ
clearing_text clear = codes "status clear " ++ (octet_digits clear ++ codes "\n")

-- the lines of a configuration: the first, and one for each item
abbrev pub configuration_text : List InputItem → List ℕ
configuration_text items =
    number_text (codes "configure inputs ") (length items) ++ flat_map item_text items

-- the line of a command that sets outputs
abbrev pub outputs_text : List ℕ → List ℕ → List ℕ
outputs_text levels controls =
    codes "set outputs data " ++ (digits_of levels
    ++ (codes " control " ++ (digits_of controls ++ codes "\n")))

-- the octets of a body, or a dash if it has none
abbrev pub body_text : List ℕ → List ℕ
body_text [] = codes "-"
body_text (octet ∷ octets) = digits_of (octet ∷ octets)

-- the line of a message whose type and body alone are read
abbrev pub other_text : ℕ → List ℕ → List ℕ
other_text code body =
    codes "other " ++ (decimal code ++ (codes " body " ++ (body_text body ++ codes "\n")))

-- the lines of a command
abbrev pub command_text : Command → List ℕ
command_text (Status clear) = clearing_text clear
command_text (LoadCounter load) = number_text (codes "load counter ") load
command_text (ConfigureInputs items) = configuration_text items.items
command_text RawInputs = codes "raw inputs\n"
command_text FilteredInputs = codes "filtered inputs\n"
command_text (Poll block) = number_text (codes "poll block ") block
command_text (SetOutputs levels controls) = outputs_text levels controls
command_text (Watchdog timeout) = number_text (codes "watchdog ms ") timeout
command_text Identify = codes "identify\n"
command_text (Other kind body) = other_text (other_command_code kind) body.items
