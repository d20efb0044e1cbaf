-- A decoder says of a line exactly what its parts between flags say.
use Rattle.std.proofs.Common.{◌≡◌, ◌≢◌, ℕ, ◌+◌, ◌<◌, ◌≤◌, List, [], ◌∷◌, ◌++◌, length, Bool, true, false, refl, sym, ap, ◌∙◌, arith, append_assoc}
use Rattle.std.specs.Prelude.{◌==◌, ◌&&◌, nat_lt, if◌then◌else◌, flat_map}
use Rattle.std.specs.List.{AllByRecursion}
use Rattle.std.specs.Int.Bits.{bit_xor}
use Rattle.std.proofs.lemmas.Bool.Decides.{nat_tests}
use Rattle.std.proofs.lemmas.List.{append-nil, length-append}
use Rattle.fio_wire.specs.declared.limits.TheConstants.{FLAG, ESCAPE, STUFFED, HELD_OCTETS}
use Rattle.fio_wire.specs.Frames.{Said, Frame, Damage, is_checked, judged}
use Rattle.fio_wire.specs.Octets.{Reading, Phase, Within, Escaped, Lost, Whole, start, fresh, kept, taken, ending, ended_by, next, says, said_of, said_in, begun, unstuffed, is_open, HasNoFlag, with_flags}

-- after a frame the decoder goes on as after a flag
after_whole : (octets line : List ℕ) → said_of (record { octets = octets; phase = Whole }) line ≡ said_of fresh line
after_whole octets [] = refl
after_whole octets (o ∷ os) = refl

pub no_flag : (o : ℕ) → o ≢ FLAG → (o == FLAG) ≡ false
no_flag o h = grind (arith, nat_tests)

abbrev phase_of : Bool → Phase
phase_of true = Escaped
phase_of false = Within

-- what is said after a flag, whatever that said
after_flag : (said : List Said) (rest : List ℕ) → said_of (ended_by said) rest ≡ said_of fresh rest
after_flag (Frame frame ∷ more) rest = after_whole frame rest
after_flag _ rest = refl

-- at the flag: what is held is judged
flagged : (b : Bool) (octets rest : List ℕ)
    → said_of (record { octets = octets; phase = phase_of b }) (FLAG ∷ rest) ≡ judged b octets ++ said_of fresh rest
flagged true octets rest = refl
flagged false octets rest = ap (λ x. judged false octets ++ x) (after_flag (judged false octets) rest)

-- up to the next flag a part that is too long is passed over
lost : (held part rest : List ℕ) → HasNoFlag part → said_of (record { octets = held; phase = Lost }) (part ++ FLAG ∷ rest) ≡ Damage ∷ said_of fresh rest
lost held [] rest h = refl
lost held (o ∷ os) rest h =
    ap (λ b. (if b then Damage ∷ [] else []) ++ said_of (if b then fresh else record { octets = held; phase = Lost }) (os ++ FLAG ∷ rest)) (no_flag o h.0)
    ∙ lost held os rest h.1

pub and_false : (a : Bool) → (a && false) ≡ false
and_false true = refl
and_false false = refl

-- what is too long is damaged
too_long : (b : Bool) (octets : List ℕ) → HELD_OCTETS < length octets → judged b octets ≡ Damage ∷ []
too_long true octets h = refl
too_long false [] h = absurd (omega (arith, h))
too_long false (o ∷ os) h =
    let out : nat_lt (length (o ∷ os)) (HELD_OCTETS + 1) ≡ false = grind (arith, nat_tests) in
    ap (λ b. (if nat_lt 4 (length (o ∷ os)) && (b && is_checked (o ∷ os)) then Frame (o ∷ os) else Damage) ∷ []) out
    ∙ ap (λ b. (if b then Frame (o ∷ os) else Damage) ∷ []) (and_false (nat_lt 4 (length (o ∷ os))))

full : (n : ℕ) → nat_lt n HELD_OCTETS ≡ false → HELD_OCTETS ≤ n
full n h = grind (arith, nat_tests)

longer : (n : ℕ) (held os : List ℕ) → HELD_OCTETS ≤ length held → HELD_OCTETS < length (held ++ n ∷ os)
longer n held os h = omega (arith, h, length-append held (n ∷ os))

-- an octet that is kept, if there is room
room : (fits : Bool) (n : ℕ) (held os rest : List ℕ) → HasNoFlag os → length held ≤ HELD_OCTETS → nat_lt (length held) HELD_OCTETS ≡ fits
    → (length (held ++ n ∷ []) ≤ HELD_OCTETS
    → said_of (record { octets = held ++ n ∷ []; phase = Within }) (os ++ FLAG ∷ rest)
    ≡ judged (is_open false os) ((held ++ n ∷ []) ++ unstuffed false os) ++ said_of fresh rest)
    → said_of (if fits then record { octets = held ++ n ∷ []; phase = Within } else record { octets = held; phase = Lost }) (os ++ FLAG ∷ rest)
    ≡ judged (is_open false os) (held ++ n ∷ unstuffed false os) ++ said_of fresh rest
room true n held os rest h within fits goes =
    goes (grind (arith, nat_tests, length-append))
    ∙ ap (λ x. judged (is_open false os) x ++ said_of fresh rest) (append_assoc held (n ∷ []) (unstuffed false os))
room false n held os rest h within fits goes =
    lost held os rest h
    ∙ ap (λ x. x ++ said_of fresh rest) (sym (too_long (is_open false os) (held ++ n ∷ unstuffed false os) (longer n held (unstuffed false os) (full (length held) fits))))

-- an octet outside an escape that is no flag
plain : (e : Bool) (o : ℕ) (held os rest : List ℕ) → HasNoFlag os → length held ≤ HELD_OCTETS
    → said_of (record { octets = held; phase = Escaped }) (os ++ FLAG ∷ rest) ≡ judged (is_open true os) (held ++ unstuffed true os) ++ said_of fresh rest
    → (length (held ++ o ∷ []) ≤ HELD_OCTETS
    → said_of (record { octets = held ++ o ∷ []; phase = Within }) (os ++ FLAG ∷ rest)
    ≡ judged (is_open false os) ((held ++ o ∷ []) ++ unstuffed false os) ++ said_of fresh rest)
    → said_of (if e then record { octets = held; phase = Escaped } else kept held o) (os ++ FLAG ∷ rest)
    ≡ judged (is_open e os) (held ++ (if e then unstuffed true os else o ∷ unstuffed false os)) ++ said_of fresh rest
plain true o held os rest h within escaped goes = escaped
plain false o held os rest h within escaped goes = room (nat_lt (length held) HELD_OCTETS) o held os rest h within refl goes

-- the octets of a part, and the flag behind it
run : (b : Bool) (held part rest : List ℕ) → HasNoFlag part → length held ≤ HELD_OCTETS
    → said_of (record { octets = held; phase = phase_of b }) (part ++ FLAG ∷ rest) ≡ judged (is_open b part) (held ++ unstuffed b part) ++ said_of fresh rest
run b held [] rest h within =
    flagged b held rest ∙ ap (λ x. judged b x ++ said_of fresh rest) (sym (append-nil held))
run true held (o ∷ os) rest h within =
    ap (λ f. (if f then Damage ∷ [] else []) ++ said_of (if f then fresh else kept held (bit_xor o STUFFED)) (os ++ FLAG ∷ rest)) (no_flag o h.0)
    ∙ room (nat_lt (length held) HELD_OCTETS) (bit_xor o STUFFED) held os rest h.1 within refl (run false (held ++ bit_xor o STUFFED ∷ []) os rest h.1)
run false held (o ∷ os) rest h within =
    ap (λ f. (if f then ending Within held else []) ++ said_of (if f then ended_by (ending Within held) else taken Within held o) (os ++ FLAG ∷ rest)) (no_flag o h.0)
    ∙ plain (o == ESCAPE) o held os rest h.1 within (run true held os rest h.1 within) (run false (held ++ o ∷ []) os rest h.1)

-- a part and the flag behind it
pub part_said : (part rest : List ℕ) → HasNoFlag part → said_of fresh (part ++ FLAG ∷ rest) ≡ said_in part ++ said_of fresh rest
part_said part rest h = run false [] part rest h (omega arith)

-- before the first flag nothing is said
hunts : (noise rest : List ℕ) → HasNoFlag noise → said_of start (noise ++ FLAG ∷ rest) ≡ said_of fresh rest
hunts [] rest h = refl
hunts (o ∷ os) rest h =
    ap (λ f. (if f then [] else []) ++ said_of (if f then fresh else start) (os ++ FLAG ∷ rest)) (no_flag o h.0)
    ∙ hunts os rest h.1

-- a rest without a flag says nothing
quiet : (reading : Reading) (rest : List ℕ) → HasNoFlag rest → said_of reading rest ≡ []
quiet reading [] h = refl
quiet reading (o ∷ os) h =
    ap (λ f. (if f then ending (begun reading).phase (begun reading).octets else []) ++ said_of (next reading o) os) (no_flag o h.0)
    ∙ quiet (next reading o) os h.1

parts_said : (parts : List (List ℕ)) (rest : List ℕ) → AllByRecursion HasNoFlag parts → HasNoFlag rest
    → said_of fresh (with_flags parts ++ rest) ≡ flat_map said_in parts
parts_said [] rest h free = quiet fresh rest free
parts_said (part ∷ parts) rest h free =
    ap (said_of fresh) (ap (λ x. x ++ rest) (append_assoc part (FLAG ∷ []) (with_flags parts)) ∙ append_assoc part (FLAG ∷ with_flags parts) rest)
    ∙ part_said part (with_flags parts ++ rest) h.0
    ∙ ap (λ x. said_in part ++ x) (parts_said parts rest h.1 free)

-- A decoder says of a line what its parts between flags say, and nothing else.
pub exact : (noise : List ℕ) (parts : List (List ℕ)) (rest : List ℕ) → HasNoFlag noise → AllByRecursion HasNoFlag parts → HasNoFlag rest
    → said_of start (noise ++ FLAG ∷ (with_flags parts ++ rest)) ≡ flat_map said_in parts
exact noise parts rest before h after = hunts noise (with_flags parts ++ rest) before ∙ parts_said parts rest h after

-- After a flag the decoder says what it would say if the line began there, whatever came before.
pub resynchronised : (reading : Reading) (noise rest : List ℕ) → said_of reading (noise ++ FLAG ∷ rest) ≡ said_of reading (noise ++ FLAG ∷ []) ++ said_of start (FLAG ∷ rest)
resynchronised reading [] rest =
    ap (λ x. says reading FLAG ++ x) (after_flag (says reading FLAG) rest)
    ∙ ap (λ x. x ++ said_of fresh rest) (sym (append-nil (says reading FLAG)))
resynchronised reading (o ∷ os) rest =
    ap (λ x. says reading o ++ x) (resynchronised (next reading o) os rest)
    ∙ sym (append_assoc (says reading o) (said_of (next reading o) (os ++ FLAG ∷ [])) (said_of start (FLAG ∷ rest)))
