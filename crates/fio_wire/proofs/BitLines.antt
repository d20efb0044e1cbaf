-- A decoder of bits says of a line exactly what its parts between flags say.
use Rattle.std.proofs.Common.{◌≡◌, ℕ, zero, suc, ◌+◌, ◌/◌, ◌<◌, ◌≤◌, List, [], ◌∷◌, ◌++◌, length, Bool, true, false, refl, sym, ap, ap₂, ◌∙◌, arith, append_assoc, inl, inr}
use Rattle.std.specs.Prelude.{◌==◌, ◌&&◌, not, nat_lt, if◌then◌else◌, fold, flat_map, map}
use Rattle.std.specs.List.{AllByRecursion}
use Rattle.std.proofs.lemmas.Bool.Decides.{nat_tests}
use Rattle.std.proofs.lemmas.Bool.{false≢true}
use Rattle.std.proofs.lemmas.List.{append-nil, length-append}
use Rattle.std.proofs.lemmas.List.Sums.{fold-append}
use Rattle.fio_wire.specs.Frames.{Said, Frame, Damage, judged}
use Rattle.fio_wire.specs.declared.limits.TheConstants.{HELD_OCTETS}
use Rattle.fio_wire.proofs.Batch.{said_both}
use Rattle.fio_wire.proofs.Folding.{last_or, rest_holds, first_holds}
use Rattle.fio_wire.specs.Detection.{low_bits}
use Rattle.fio_wire.specs.Bits.{Reading, Packing, BitPhase, Within, Whole, fresh, none_packed, packed, flushed, ending, says_flag, after_flag, aborted, after_zero, begun, says, next, said_of, said_in, destuffed, bit_stuffed, line_bits, flag_bits, HasNoSix, is_none}

-- in a frame
abbrev pub at : Packing → ℕ → Bool → Reading
at packing ones is_pending = record { packing = packing; ones = ones; is_pending = is_pending; phase = Within }

after_whole : (packing : Packing) (bits : List Bool) → said_of (record { packing = packing; ones = 0; is_pending = false; phase = Whole }) bits ≡ said_of fresh bits
after_whole packing [] = refl
after_whole packing _ = refl

-- what is said after a flag, whatever that said
flagged : (said : List Said) (packing : Packing) (rest : List Bool) → said_of (after_flag said packing) rest ≡ said_of fresh rest
flagged (Frame frame ∷ more) packing rest = after_whole packing rest
flagged _ packing rest = refl

below_six : (n : ℕ) → n ≤ 5 → nat_lt n 6 ≡ true
below_six n h = grind (arith, nat_tests)

pub not_six : (n : ℕ) → n ≤ 5 → (n == 6) ≡ false
not_six n h = grind (arith, nat_tests)

-- what a 0 leaves, by the tests of the ones before it
abbrev zeroed : Bool → Bool → Packing → ℕ → Bool → Reading
zeroed low six packing n b =
    if low then at (flushed (at packing n b)) 0 (nat_lt n 5)
    else (if six then after_flag (ending packing) packing else at packing 0 false)

pub zero_step : (packing : Packing) (n : ℕ) (b : Bool) (rest : List Bool) → n ≤ 5
    → said_of (at packing n b) (false ∷ rest) ≡ said_of (at (flushed (at packing n b)) 0 (nat_lt n 5)) rest
zero_step packing n b rest h =
    ap₂ (λ low six. (if six then ending packing else []) ++ said_of (zeroed low six packing n b) rest)
    (below_six n h) (not_six n h)

abbrev after_one_phase : Packing → Bool → BitPhase
after_one_phase packing b = aborted Within (is_none packing && not b)

one_is : (low : Bool) (packing : Packing) (n : ℕ) (b : Bool) → low ≡ true
    → (if low then at packing (n + 1) b else record { packing = packing; ones = 7; is_pending = b; phase = after_one_phase packing b }) ≡ at packing (suc n) b
one_is true packing n b h = let more : n + 1 ≡ suc n = omega arith in ap (λ m. at packing m b) more
one_is false packing n b h = absurd (false≢true h)

pub one_step : (packing : Packing) (n : ℕ) (b : Bool) (rest : List Bool) → n ≤ 5
    → said_of (at packing n b) (true ∷ rest) ≡ said_of (at packing (suc n) b) rest
one_step packing n b rest h = ap (λ r. said_of r rest) (one_is (nat_lt n 6) packing n b (below_six n h))

-- the octets that a part makes, after what was kept back
abbrev made : Packing → ℕ → Bool → List Bool → Packing
made packing n b part = fold packed (flushed (at packing n b)) (destuffed n part)

-- a 0 behind so many ones
behind : (five : Bool) (packing : Packing) (part : List Bool)
    → fold packed (if five then packing else packed packing false) (destuffed 0 part) ≡ fold packed packing (if five then destuffed 0 part else false ∷ destuffed 0 part)
behind true packing part = refl
behind false packing part = refl

by_tests : (low five : Bool) (packing : Packing) → (low ≡ true → five ≡ false) → (low ≡ false → five ≡ true)
    → (if low then packed packing false else packing) ≡ (if five then packing else packed packing false)
by_tests true five packing h k = ap (λ t. if t then packing else packed packing false) (sym (h refl))
by_tests false five packing h k = ap (λ t. if t then packing else packed packing false) (sym (k refl))

low_not_five : (n : ℕ) → nat_lt n 5 ≡ true → (n == 5) ≡ false
low_not_five n h = grind (arith, nat_tests)

high_is_five : (n : ℕ) → n ≤ 5 → nat_lt n 5 ≡ false → (n == 5) ≡ true
high_is_five n h k = grind (arith, nat_tests)

pending_is : (n : ℕ) (packing : Packing) → n ≤ 5 → (if nat_lt n 5 then packed packing false else packing) ≡ (if n == 5 then packing else packed packing false)
pending_is n packing h = by_tests (nat_lt n 5) (n == 5) packing (low_not_five n) (high_is_five n h)

-- a part without flag and abort, and the flag behind it
pub run : (packing : Packing) (n : ℕ) (b : Bool) (part rest : List Bool) → n ≤ 5 → HasNoSix n part
    → said_of (at packing n b) (part ++ (flag_bits ++ rest)) ≡ ending (made packing n b part) ++ said_of fresh rest
run packing n b [] rest h free =
    zero_step packing n b (true ∷ true ∷ true ∷ true ∷ true ∷ true ∷ false ∷ rest) h
    ∙ ap (λ x. ending (flushed (at packing n b)) ++ x) (flagged (ending (flushed (at packing n b))) (flushed (at packing n b)) rest)
run packing n b (true ∷ bits) rest h free =
    one_step packing n b (bits ++ (flag_bits ++ rest)) h
    ∙ run packing (suc n) b bits rest (omega (arith, free.0)) free.1
run packing n b (false ∷ bits) rest h free =
    zero_step packing n b (bits ++ (flag_bits ++ rest)) h
    ∙ run (flushed (at packing n b)) 0 (nat_lt n 5) bits rest (omega arith) free
    ∙ ap (λ p. ending p ++ said_of fresh rest)
    (ap (λ p. fold packed p (destuffed 0 bits)) (pending_is n (flushed (at packing n b)) h) ∙ behind (n == 5) (flushed (at packing n b)) bits)

parts_said : (parts : List (List Bool)) → AllByRecursion (HasNoSix 0) parts
    → said_of fresh (flat_map (λ part. part ++ flag_bits) parts) ≡ flat_map said_in parts
parts_said [] all = refl
parts_said (part ∷ parts) all =
    ap (said_of fresh) (append_assoc part flag_bits (flat_map (λ part. part ++ flag_bits) parts))
    ∙ run none_packed 0 false part (flat_map (λ part. part ++ flag_bits) parts) (omega arith) all.0
    ∙ ap (λ x. said_in part ++ x) (parts_said parts all.1)

-- ---- After a flag

-- six ones and a 0, behind a 0
six_on : (packing : Packing) (b : Bool) (phase : BitPhase) (rest : List Bool)
    → said_of (fold next (record { packing = packing; ones = 0; is_pending = b; phase = phase }) (true ∷ true ∷ true ∷ true ∷ true ∷ true ∷ false ∷ [])) rest ≡ said_of fresh rest
six_on packing b Within rest = flagged (ending packing) packing rest
six_on packing b _ rest = refl

six_from : (reading : Reading) (rest : List Bool) → reading.ones ≡ 0
    → said_of (fold next reading (true ∷ true ∷ true ∷ true ∷ true ∷ true ∷ false ∷ [])) rest ≡ said_of fresh rest
six_from reading rest none =
    ap (λ n. said_of (fold next (record { packing = reading.packing; ones = n; is_pending = reading.is_pending; phase = reading.phase }) (true ∷ true ∷ true ∷ true ∷ true ∷ true ∷ false ∷ [])) rest) none
    ∙ six_on reading.packing reading.is_pending reading.phase rest

after_flag_ones : (said : List Said) (packing : Packing) → (after_flag said packing).ones ≡ 0
after_flag_ones [] packing = refl
after_flag_ones (Frame frame ∷ more) packing = refl
after_flag_ones (Damage ∷ more) packing = refl

zero_ones : (low six : Bool) (a c : Reading) (said : List Said) (packing : Packing) → a.ones ≡ 0 → c.ones ≡ 0
    → (if low then a else (if six then after_flag said packing else c)).ones ≡ 0
zero_ones true six a c said packing h k = h
zero_ones false true a c said packing h k = after_flag_ones said packing
zero_ones false false a c said packing h k = k

after_zero_ones : (reading : Reading) → (after_zero reading).ones ≡ 0
after_zero_ones reading =
    zero_ones (nat_lt reading.ones 6) (reading.ones == 6)
    (record { packing = flushed reading; ones = 0; is_pending = nat_lt reading.ones 5; phase = reading.phase })
    (record { packing = reading.packing; ones = 0; is_pending = false; phase = reading.phase })
    (says_flag reading.phase reading.packing) reading.packing refl refl

-- After a flag the decoder says what one says that was started there, whatever came before.
pub resynchronised : (reading : Reading) (noise rest : List Bool)
    → said_of reading (noise ++ (flag_bits ++ rest)) ≡ said_of reading (noise ++ flag_bits) ++ said_of fresh rest
resynchronised reading noise rest =
    let q : Reading = fold next reading noise in
    ap (said_of reading) (sym (append_assoc noise flag_bits rest))
    ∙ said_both says next reading (noise ++ flag_bits) rest
    ∙ ap (λ x. said_of reading (noise ++ flag_bits) ++ said_of x rest) (fold-append next reading noise flag_bits)
    ∙ ap (λ x. said_of reading (noise ++ flag_bits) ++ x) (six_from (next q false) rest (after_zero_ones (begun q)))

-- Behind any noise that ends with a flag, a decoder says what the parts between flags say.
pub exact : (reading : Reading) (noise : List Bool) (parts : List (List Bool)) → AllByRecursion (HasNoSix 0) parts
    → said_of reading (noise ++ (flag_bits ++ flat_map (λ part. part ++ flag_bits) parts)) ≡ said_of reading (noise ++ flag_bits) ++ flat_map said_in parts
exact reading noise parts all =
    resynchronised reading noise (flat_map (λ part. part ++ flag_bits) parts)
    ∙ ap (λ x. said_of reading (noise ++ flag_bits) ++ x) (parts_said parts all)

-- ---- Stuffing

five_of : (n : ℕ) → n ≤ 4 → (n == 5) ≡ false
five_of n h = grind (arith, nat_tests)

four_is : (n : ℕ) → (n == 4) ≡ true → n ≡ 4
four_is n h = grind (arith, nat_tests)

four_not : (n : ℕ) → n ≤ 4 → (n == 4) ≡ false → suc n ≤ 4
four_not n h k = grind (arith, nat_tests)

destuffed_one : (four : Bool) (n : ℕ) (bits : List Bool) → (n == 4) ≡ four → destuffed 0 (bit_stuffed 0 bits) ≡ bits
    → ((n == 4) ≡ false → destuffed (suc n) (bit_stuffed (suc n) bits) ≡ bits)
    → destuffed n (if four then true ∷ false ∷ bit_stuffed 0 bits else true ∷ bit_stuffed (suc n) bits) ≡ true ∷ bits
destuffed_one true n bits four zero_on more = ap (λ m. destuffed m (true ∷ false ∷ bit_stuffed 0 bits)) (four_is n four) ∙ ap (λ x. true ∷ x) zero_on
destuffed_one false n bits four zero_on more = ap (λ x. true ∷ x) (more four)

pub destuffed_again : (n : ℕ) (bits : List Bool) → n ≤ 4 → destuffed n (bit_stuffed n bits) ≡ bits
destuffed_again n [] h = refl
destuffed_again n (false ∷ bits) h =
    ap (λ t. if t then destuffed 0 (bit_stuffed 0 bits) else false ∷ destuffed 0 (bit_stuffed 0 bits)) (five_of n h)
    ∙ ap (λ x. false ∷ x) (destuffed_again 0 bits (omega arith))
destuffed_again n (true ∷ bits) h =
    destuffed_one (n == 4) n bits refl (destuffed_again 0 bits (omega arith)) (λ k. destuffed_again (suc n) bits (four_not n h k))

free_one : (four : Bool) (n : ℕ) (bits : List Bool) → n ≤ 4 → HasNoSix 0 (bit_stuffed 0 bits)
    → ((n == 4) ≡ false → HasNoSix (suc n) (bit_stuffed (suc n) bits)) → (n == 4) ≡ four
    → HasNoSix n (if four then true ∷ false ∷ bit_stuffed 0 bits else true ∷ bit_stuffed (suc n) bits)
free_one true n bits h zero_on more four = (omega (arith, h), zero_on)
free_one false n bits h zero_on more four = (omega (arith, h), more four)

pub stuffed_has_no_six : (n : ℕ) (bits : List Bool) → n ≤ 4 → HasNoSix n (bit_stuffed n bits)
stuffed_has_no_six n [] h = tt
stuffed_has_no_six n (false ∷ bits) h = stuffed_has_no_six 0 bits (omega arith)
stuffed_has_no_six n (true ∷ bits) h =
    free_one (n == 4) n bits h (stuffed_has_no_six 0 bits (omega arith)) (λ k. stuffed_has_no_six (suc n) bits (four_not n h k)) refl

-- ---- Octets

-- the octet that eight bits make
abbrev value_of : ℕ → ℕ
value_of octet = fold (λ value bit. value / 2 + (if bit then 128 else 0)) 0 (map (λ bit. bit == 1) (low_bits 8 octet))

abbrev all_valued : ℕ → Bool
all_valued zero = true
all_valued (suc n) = if value_of n == n then all_valued n else false

each_octet : all_valued 256 ≡ true
each_octet = refl

by_octets : (n k : ℕ) → all_valued n ≡ true → k < n → value_of k ≡ k
by_octets zero k all h = absurd (omega (arith, h))
by_octets (suc n) k all h =
    elim (last_or k n h) [
      | inl e ↦ ap value_of e ∙ first_holds (value_of n) n (all_valued n) all ∙ sym e
      | inr l ↦ by_octets n k (rest_holds (value_of n == n) (all_valued n) all) l
    ]

-- octets packed, and none in part
abbrev whole : List ℕ → Packing
whole octets = record { octets = octets; value = 0; count = 0; is_long = false }

packed_octet : (octets : List ℕ) (o : ℕ) → length octets < HELD_OCTETS → o < 256
    → fold packed (whole octets) (map (λ bit. bit == 1) (low_bits 8 o)) ≡ whole (octets ++ o ∷ [])
packed_octet octets o room h =
    let fits : nat_lt (length octets) HELD_OCTETS ≡ true = grind (arith, nat_tests) in
    ap₂ (λ t v. if t then whole (octets ++ v ∷ []) else record { octets = octets; value = 0; count = 0; is_long = true }) fits (by_octets 256 o each_octet h)

packed_octets : (held octets : List ℕ) → length held + length octets ≤ HELD_OCTETS → AllByRecursion (λ octet. octet < 256) octets
    → fold packed (whole held) (line_bits octets) ≡ whole (held ++ octets)
packed_octets held [] room all = ap whole (sym (append-nil held))
packed_octets held (o ∷ os) room all =
    let some : length held < HELD_OCTETS = omega (arith, room) in
    let more : length (held ++ o ∷ []) + length os ≤ HELD_OCTETS = omega (arith, room, length-append held (o ∷ [])) in
    fold-append packed (whole held) (map (λ bit. bit == 1) (low_bits 8 o)) (line_bits os)
    ∙ ap (λ p. fold packed p (line_bits os)) (packed_octet held o some all.0)
    ∙ packed_octets (held ++ o ∷ []) os more all.1
    ∙ ap whole (append_assoc held (o ∷ []) os)

-- what a part says, if its bits are whole octets
pub octets_said : (octets : List ℕ) (part : List Bool) → length octets ≤ HELD_OCTETS → AllByRecursion (λ octet. octet < 256) octets
    → destuffed 0 part ≡ line_bits octets → said_in part ≡ judged false octets
octets_said octets part room all is =
    let packing : fold packed none_packed (destuffed 0 part) ≡ whole octets =
    ap (fold packed none_packed) is ∙ packed_octets [] octets (omega (arith, room)) all in
    ap ending packing
