-- The status octets of answers. The named bits are S, bit 0, of a load and of a configuration; Y, bit 0, of a watchdog; and
-- C, F, E and G, from bit 3 down, of a block. The letters are those of TEES 2009, the bit positions are own profile. The
-- other bits have no name: they are kept as they come.
use Rattle.std.specs.Prelude.{ℕ, ◌+◌, ◌-◌, ◌*◌, ◌^◌, Bool, bit_and, bit_or}
use Rattle.fio_message.specs.Bits.{bit_of, is_set}
use Rattle.fio_message.specs.declared.status.TheConstants.{MORE, LOST, AGAIN, OUT_OF_SEQUENCE, ERROR, SET_BEFORE}

-- S, bit 0 of the status of a load or a configuration: 0 done, 1 error
abbrev pub says_error : ℕ → Bool
says_error status = is_set status ERROR

-- the status with S as given, and no other bit
abbrev pub error_status : Bool → ℕ
error_status error = 2 ^ ERROR * bit_of error

-- Y, bit 0 of the status of a watchdog: a timeout had been set before
abbrev pub says_set_before : ℕ → Bool
says_set_before status = is_set status SET_BEFORE

-- the status with Y as given, and no other bit
abbrev pub set_before_status : Bool → ℕ
set_before_status before = 2 ^ SET_BEFORE * bit_of before

-- C, bit 3 of the status of a block: more entries waited than the block takes, so more follow in
-- the next block
abbrev pub says_more : ℕ → Bool
says_more status = is_set status MORE

-- F, bit 2: some entries between the block before and this one were pushed out, and are lost
abbrev pub says_lost : ℕ → Bool
says_lost status = is_set status LOST

-- E, bit 1: the same block number was requested again, and the same block is sent again
abbrev pub says_again : ℕ → Bool
says_again status = is_set status AGAIN

-- G, bit 0: the block number is not the one before plus one modulo 256
abbrev pub says_out_of_sequence : ℕ → Bool
says_out_of_sequence status = is_set status OUT_OF_SEQUENCE

-- the status of a block with these named bits, and no other
abbrev pub block_status : Bool → Bool → Bool → Bool → ℕ
block_status more lost again out_of_sequence =
    2 ^ MORE * bit_of more
    + (2 ^ LOST * bit_of lost + (2 ^ AGAIN * bit_of again + 2 ^ OUT_OF_SEQUENCE * bit_of out_of_sequence))

-- the status of a block that is sent again: E is set, G is clear, and the other bits are as they were
abbrev pub again_status : ℕ → ℕ
again_status status = bit_and (bit_or status (2 ^ AGAIN)) (255 - 2 ^ OUT_OF_SEQUENCE)
