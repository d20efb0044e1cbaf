-- How many bits a message takes.
use Rattle.std.proofs.Common.{◌≡◌, ℕ, suc, ◌+◌, ◌*◌, ◌/◌, ◌≤◌, List, [], ◌∷◌, ◌++◌, length, Bool, true, false, refl, ◌∙◌, arith}
use Rattle.std.specs.Prelude.{◌==◌, ◌||◌, if◌then◌else◌, map}
use Rattle.std.proofs.Math.Nat.{mul-le-mul_left}
use Rattle.std.proofs.lemmas.Bool.Decides.{nat_tests}
use Rattle.std.proofs.lemmas.List.{length-append}
use Rattle.std.specs.Int.Bits.{bit_xor}
use Rattle.fio_wire.specs.Checks.{divided, with_octet}
use Rattle.fio_wire.specs.Detection.{low_bits}
use Rattle.fio_wire.specs.Frames.{frame_of}
use Rattle.fio_wire.specs.Octets.{stuffed, stuffed_octet}
use Rattle.fio_wire.specs.Bits.{bit_stuffed, flag_bits, line_bits}
use Rattle.fio_wire.specs.Lengths.{TakesFewBits, TakesMostBits}
use Rattle.fio_wire.specs.declared.line_kind.LineKind.TheVariants.{Asynchronous, Synchronous}
use Rattle.fio_wire.specs.declared.limits.TheConstants.{FLAG, ESCAPE, STUFFED}

length_frame : (address control : ℕ) (message : List ℕ) → length (frame_of address control message) ≡ length message + 4
length_frame address control message = length-append (address ∷ control ∷ message) _ ∙ omega arith

one_or_two : (is : Bool) (octet : ℕ) → length (if is then ESCAPE ∷ bit_xor octet STUFFED ∷ [] else octet ∷ []) ≤ 2
one_or_two true octet = omega arith
one_or_two false octet = omega arith

few_octet : (octet : ℕ) → length (stuffed_octet octet) ≤ 2
few_octet octet = one_or_two (octet == FLAG || octet == ESCAPE) octet

few_stuffed : (octets : List ℕ) → length (stuffed octets) ≤ 2 * length octets
few_stuffed [] = omega arith
few_stuffed (octet ∷ octets) = omega (arith, length-append (stuffed_octet octet) (stuffed octets), few_octet octet, few_stuffed octets)

-- after a 1, given how many bits those after it become
few_after_one : (is : Bool) (ones : ℕ) (bits : List Bool) → ones ≤ 4 → (ones == 4) ≡ is
    → ((before : ℕ) → before ≤ 4 → length (bit_stuffed before bits) ≤ length bits + (before + length bits) / 5)
    → length (if is then true ∷ false ∷ bit_stuffed 0 bits else true ∷ bit_stuffed (suc ones) bits) ≤ length (true ∷ bits) + (ones + length (true ∷ bits)) / 5
few_after_one true ones bits le is few =
    let four : ones ≡ 4 = grind (arith, nat_tests) in
    omega (arith, few 0 (omega arith))
few_after_one false ones bits le is few =
    let less : suc ones ≤ 4 = grind (arith, nat_tests) in
    omega (arith, few (suc ones) less)

-- a 0 comes after each five bits at most
few_bits : (bits : List Bool) (ones : ℕ) → ones ≤ 4 → length (bit_stuffed ones bits) ≤ length bits + (ones + length bits) / 5
few_bits [] ones le = omega arith
few_bits (false ∷ bits) ones le = omega (arith, few_bits bits 0 (omega arith))
few_bits (true ∷ bits) ones le = few_after_one (ones == 4) ones bits le refl (few_bits bits)

pub length_line_bits : (octets : List ℕ) → length (line_bits octets) ≡ 8 * length octets
length_line_bits [] = refl
length_line_bits (octet ∷ octets) =
    length-append (map (λ bit. bit == 1) (low_bits 8 octet)) (line_bits octets) ∙ omega (arith, length_line_bits octets)

pub takes_few_bits : TakesFewBits
takes_few_bits (Asynchronous stop) address control message =
    let frame = frame_of address control message in
    let few = few_stuffed frame in
    let all = length-append (stuffed frame) (FLAG ∷ []) in
    mul-le-mul_left (1 + 8 + stop) (omega (arith, length_frame address control message))
takes_few_bits Synchronous address control message =
    let bits = line_bits (frame_of address control message) in
    let few = few_bits bits 0 (omega arith) in
    let count = length_line_bits (frame_of address control message) in
    let size = length_frame address control message in
    omega (arith, length-append flag_bits (bit_stuffed 0 bits ++ flag_bits), length-append (bit_stuffed 0 bits) flag_bits)

-- nine octets, each of which is stuffed, as are those of the frame check
pub nine_octets : (stop : ℕ) → TakesMostBits (Asynchronous stop) 126 126 (126 ∷ 125 ∷ 125 ∷ 126 ∷ 126 ∷ 126 ∷ 125 ∷ 126 ∷ 126 ∷ [])
unfolding with_octet divided
nine_octets stop = record { all = refl }

-- no octets: all bits of the frame are ones
pub no_octets : TakesMostBits Synchronous 255 255 []
unfolding with_octet divided
no_octets = record { all = refl }
