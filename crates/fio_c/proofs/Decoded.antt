-- The block that octets spell which were read as an answer.
use Rattle.std.proofs.Common.{◌≡◌, ℕ, List, Option, Some, None, Ok, ap}
use Rattle.std.specs.Option.{ok_or}
use Rattle.fio_message.specs.declared.answers.Answer.{Answer}
use Rattle.fio_message.specs.Decoding.{answer_in, answered_block, block_in, decoded_answer}

-- what a decoder returns is what was found
pub found : {V E : Type 0} (value : Option V) (fault : E) (got : V) → ok_or value fault ≡ Ok got → value ≡ Some got
found None fault got is = absurd (cc is)
found (Some other) fault got is = let same : other ≡ got = cc is in ap Some same

-- so a block that was read is found
pub block_decoded : (octets : List ℕ) (answer : Answer) → decoded_answer octets ≡ Ok answer
    → block_in octets ≡ answered_block (Some answer)
block_decoded octets answer is = ap answered_block (found (answer_in octets) _ answer is)
