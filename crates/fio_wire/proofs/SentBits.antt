-- Frames over a line with bit stuffing.
use Rattle.std.proofs.Common.{◌≡◌, ℕ, List, [], ◌∷◌, ◌++◌, length, Bool, true, false, refl, ap, ap₂, ◌∙◌, arith}
use Rattle.std.specs.Prelude.{flat_map, map}
use Rattle.std.specs.List.{AllByRecursion}
use Rattle.fio_wire.specs.Frames.{Frame, frame_of, is_frame, is_checked}
use Rattle.fio_wire.specs.Bits.{Reading, said_in, said_of, bit_stuffed, line_bits, flag_bits, HasNoSix}
use Rattle.fio_wire.specs.Laws.{AreOctets, CanSend, Flips, BitFate, KeptBits, StruckBits, bits_between, IsBitFate, arrives_by_bits}
use Rattle.fio_wire.proofs.BitLines.{exact, octets_said, destuffed_again, stuffed_has_no_six}
use Rattle.fio_wire.proofs.Sent.{Framed, checked_octets, found, frame_is, framed, judged_damage, judged_frame, same_length}

frame_bits : (octets : List ℕ) → AreOctets octets → is_frame octets ≡ true → said_in (bit_stuffed 0 (line_bits octets)) ≡ Frame octets ∷ []
frame_bits octets all frame =
    octets_said octets (bit_stuffed 0 (line_bits octets)) (framed octets frame).most all (destuffed_again 0 (line_bits octets) (omega arith))
    ∙ judged_frame octets frame

pub sent_bits : (address control : ℕ) (message : List ℕ) → CanSend address control message
    → HasNoSix 0 (bit_stuffed 0 (line_bits (frame_of address control message)))
    × (said_in (bit_stuffed 0 (line_bits (frame_of address control message))) ≡ Frame (frame_of address control message) ∷ [])
sent_bits address control message can =
    let frame : List ℕ = frame_of address control message in
    (stuffed_has_no_six 0 (line_bits frame) (omega arith), frame_bits frame (checked_octets (address ∷ control ∷ message) can.octets) (frame_is address control message can))

fate_said : (fate : BitFate) → IsBitFate fate → said_in (bits_between fate) ≡ arrives_by_bits fate ∷ []
fate_said (KeptBits octets) is = frame_bits octets is.0 is.1
fate_said (StruckBits octets errors got part) is =
    let frame : Framed octets = framed octets is.1.0 in
    let f : Flips errors octets got = is.1.1.1.0 in
    let wrong : is_checked got ≡ false = found errors octets got f is.1.1.1.1 frame.right in
    let same : length got ≡ length octets = same_length errors octets got f in
    octets_said got part (omega (arith, same, frame.most)) f.octets_got is.1.1.0
    ∙ judged_damage false got (omega (arith, same, frame.least)) wrong

fate_free : (fate : BitFate) → IsBitFate fate → HasNoSix 0 (bits_between fate)
fate_free (KeptBits octets) is = stuffed_has_no_six 0 (line_bits octets) (omega arith)
fate_free (StruckBits octets errors got part) is = is.0

fates_free : (fates : List BitFate) → AllByRecursion IsBitFate fates → AllByRecursion (HasNoSix 0) (map bits_between fates)
fates_free [] all = tt
fates_free (f ∷ fs) all = (fate_free f all.0, fates_free fs all.1)

fates_said : (fates : List BitFate) → AllByRecursion IsBitFate fates → flat_map said_in (map bits_between fates) ≡ map arrives_by_bits fates
fates_said [] all = refl
fates_said (f ∷ fs) all = ap₂ ◌++◌ (fate_said f all.0) (fates_said fs all.1)

pub bits_arrive : (reading : Reading) (noise : List Bool) (fates : List BitFate) → AllByRecursion IsBitFate fates
    → said_of reading (noise ++ (flag_bits ++ flat_map (λ part. part ++ flag_bits) (map bits_between fates)))
    ≡ said_of reading (noise ++ flag_bits) ++ map arrives_by_bits fates
bits_arrive reading noise fates all =
    exact reading noise (map bits_between fates) (fates_free fates all)
    ∙ ap (λ x. said_of reading (noise ++ flag_bits) ++ x) (fates_said fates all)
