-- The named bits of the statuses.
use Rattle.fio_message.proofs.Names.{◌≡◌, ℕ, ◌≤◌, ◌==◌, Bool, true, false, refl, ap, ◌∙◌, arith, and_le_r, bit_at, is_set, bit_of, IsOctet, ErrorReadsBack, SetBeforeReadsBack, StatusReadsBack, SetsAgainAlone}
use Rattle.std.proofs.Common.{bit_or}
use Rattle.fio_message.specs.Status.{error_status, set_before_status, block_status, again_status}

-- a flag as a bit is 0 or 1
bit_of_small : (flag : Bool) → bit_of flag ≤ 1
bit_of_small true = omega arith
bit_of_small false = omega arith

-- and it is 1 exactly if the flag is set
bit_of_set : (flag : Bool) → (bit_of flag == 1) ≡ flag
bit_of_set true = refl
bit_of_set false = refl

-- the bit of a flag says whether the flag is set
set_by : (word place : ℕ) (flag : Bool) → bit_at word place ≡ bit_of flag → is_set word place ≡ flag
unfolding is_set
set_by word place flag same = ap (λ (n : ℕ). n == 1) same ∙ bit_of_set flag

-- S and Y read back as they were put there
pub error_back : ErrorReadsBack
error_back error = set_by (error_status error) 0 error (omega (arith, bit_of_small error))

pub set_before_back : SetBeforeReadsBack
set_before_back before = set_by (set_before_status before) 0 before (omega (arith, bit_of_small before))

-- each named bit of a block's status reads back as it was put there
pub status_back : (more lost again out_of_sequence : Bool) → StatusReadsBack more lost again out_of_sequence
status_back more lost again out_of_sequence =
    let status = block_status more lost again out_of_sequence in
    let m = bit_of_small more in
    let l = bit_of_small lost in
    let a = bit_of_small again in
    let o = bit_of_small out_of_sequence in
    record {
      says_more = set_by status 3 more (omega (arith, m, l, a, o));
      says_lost = set_by status 2 lost (omega (arith, m, l, a, o));
      says_again = set_by status 1 again (omega (arith, m, l, a, o));
      says_out_of_sequence = set_by status 0 out_of_sequence (omega (arith, m, l, a, o));
    }

-- the status of a block is an octet
pub block_status-fits : (more lost again out_of_sequence : Bool) → IsOctet (block_status more lost again out_of_sequence)
block_status-fits more lost again out_of_sequence =
    omega (arith, bit_of_small more, bit_of_small lost, bit_of_small again, bit_of_small out_of_sequence)

-- and so is any status that is marked as sent again
pub again_status-fits : (status : ℕ) → IsOctet (again_status status)
again_status-fits status = omega (arith, and_le_r (bit_or status 2) 254)

-- a status that is marked has E set and G clear
pub status_again : SetsAgainAlone
status_again true true true true = refl
status_again true true true false = refl
status_again true true false true = refl
status_again true true false false = refl
status_again true false true true = refl
status_again true false true false = refl
status_again true false false true = refl
status_again true false false false = refl
status_again false true true true = refl
status_again false true true false = refl
status_again false true false true = refl
status_again false true false false = refl
status_again false false true true = refl
status_again false false true false = refl
status_again false false false true = refl
status_again false false false false = refl
