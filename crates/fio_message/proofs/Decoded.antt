-- What a decoder returns says what is read from the octets.
use Rattle.fio_message.proofs.Names.{◌≡◌, ℕ, List, Option, Some, None, Ok, ok_or, Command, DecodeError, command_length, command_in, decoded_command, fault_in}

-- if it returns a message, that message is read
message_read : {V : Type 0} (found : Option V) (fault : DecodeError) (message : V)
    → ok_or found fault ≡ Ok message → found ≡ Some message
message_read None fault message is = absurd (cc is)
message_read (Some other) fault message is = cc is

-- the command that is decoded is the one that the octets spell
pub command_read : (octets : List ℕ) (command : Command) → decoded_command octets ≡ Ok command
    → command_in octets ≡ Some command
command_read octets command = message_read (command_in octets) (fault_in (command_length octets) octets) command
