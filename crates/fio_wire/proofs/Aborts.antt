-- A decoder of bits says of a line exactly what the bits between its flags say, aborts and idle lines among them.
use Rattle.std.proofs.Common.{◌≡◌, ◌≢◌, ℕ, suc, ◌+◌, ◌/◌, ◌<◌, ◌≤◌, List, [], ◌∷◌, ◌++◌, length, Bool, true, false, refl, sym, ap, subst, ◌∙◌, arith, append_assoc}
use Rattle.std.specs.Prelude.{◌==◌, ◌&&◌, not, nat_lt, if◌then◌else◌, flat_map}
use Rattle.std.specs.List.{AllByRecursion}
use Rattle.std.proofs.lemmas.Bool.Decides.{nat_tests}
use Rattle.std.proofs.lemmas.Bool.{false≢true}
use Rattle.std.proofs.lemmas.List.{length-append}
use Rattle.fio_wire.specs.Frames.{Said, Damage}
use Rattle.fio_wire.specs.declared.limits.TheConstants.{HELD_OCTETS}
use Rattle.fio_wire.proofs.BitLines.{at, not_six, one_step, resynchronised, run, zero_step}
use Rattle.fio_wire.specs.Bits.{Reading, Packing, Within, fresh, none_packed, packed, with_ones, flushed, after_flag, aborted, said_of, said_in, said_between, flag_bits, HasNoSix, HasNoBitFlag, has_abort, begins_idle, is_none}

-- ---- After an abort

-- in a part that an abort broke off, or on an idle line
abbrev off : Bool → Packing → ℕ → Bool → Reading
off is_idle packing ones is_pending = record { packing = packing; ones = ones; is_pending = is_pending; phase = aborted Within is_idle }

-- what the next flag says
abbrev said_off : Bool → List Said
said_off is_idle = if is_idle then [] else Damage ∷ []

off_flag : (is_idle : Bool) (packing : Packing) (b : Bool) (rest : List Bool)
    → said_of (off is_idle packing 0 b) (true ∷ true ∷ true ∷ true ∷ true ∷ true ∷ false ∷ rest) ≡ said_off is_idle ++ said_of fresh rest
off_flag true packing b rest = refl
off_flag false packing b rest = refl

off_zero_by : (is_idle low : Bool) (first second : Packing) (b c : Bool) (rest : List Bool) (goal : List Said)
    → ((packing : Packing) (d : Bool) → said_of (off is_idle packing 0 d) rest ≡ goal)
    → said_of (if low then off is_idle first 0 b else off is_idle second 0 c) rest ≡ goal
off_zero_by is_idle true first second b c rest goal later = later first b
off_zero_by is_idle false first second b c rest goal later = later second c

-- a 0 that ends no flag
off_zero : (is_idle : Bool) (packing : Packing) (n : ℕ) (b : Bool) (rest : List Bool) (goal : List Said) → (n == 6) ≡ false
    → ((packing : Packing) (d : Bool) → said_of (off is_idle packing 0 d) rest ≡ goal)
    → said_of (off is_idle packing n b) (false ∷ rest) ≡ goal
off_zero true packing n b rest goal six later =
    ap (λ t. (if t then [] else []) ++ said_of (if nat_lt n 6 then off true (flushed (off true packing n b)) 0 (nat_lt n 5) else (if t then after_flag [] packing else off true packing 0 false)) rest) six
    ∙ off_zero_by true (nat_lt n 6) (flushed (off true packing n b)) packing (nat_lt n 5) false rest goal later
off_zero false packing n b rest goal six later =
    ap (λ t. (if t then Damage ∷ [] else []) ++ said_of (if nat_lt n 6 then off false (flushed (off false packing n b)) 0 (nat_lt n 5) else (if t then after_flag (Damage ∷ []) packing else off false packing 0 false)) rest) six
    ∙ off_zero_by false (nat_lt n 6) (flushed (off false packing n b)) packing (nat_lt n 5) false rest goal later

off_one_by : (is_idle low : Bool) (packing : Packing) (n : ℕ) (b : Bool) (rest : List Bool)
    → said_of (if low then off is_idle packing (n + 1) b else off is_idle packing 7 b) rest ≡ said_of (off is_idle packing (if low then n + 1 else 7) b) rest
off_one_by is_idle true packing n b rest = refl
off_one_by is_idle false packing n b rest = refl

off_one : (is_idle : Bool) (packing : Packing) (n : ℕ) (b : Bool) (rest : List Bool)
    → said_of (off is_idle packing n b) (true ∷ rest) ≡ said_of (off is_idle packing (if nat_lt n 6 then n + 1 else 7) b) rest
off_one true packing n b rest = off_one_by true (nat_lt n 6) packing n b rest
off_one false packing n b rest = off_one_by false (nat_lt n 6) packing n b rest

above_six : (n : ℕ) → 7 ≤ n → n ≢ 6
above_six n h e = absurd (omega (arith, h, e))

-- more than seven ones are as seven
as_seven : (m n : ℕ) (bits : List Bool) → 7 ≤ m → 7 ≤ n → HasNoBitFlag m bits → HasNoBitFlag n bits
as_seven m n [] h k free = above_six n k
as_seven m n (true ∷ bits) h k free = as_seven (suc m) (suc n) bits (omega (arith, h)) (omega (arith, k)) free
as_seven m n (false ∷ bits) h k free = (above_six n k, free.1)

six_at_least : (n : ℕ) → nat_lt n 6 ≡ false → 7 ≤ suc n
six_at_least n h = grind (arith, nat_tests)

counted_by : (low : Bool) (n : ℕ) (bits : List Bool) → nat_lt n 6 ≡ low → HasNoBitFlag (suc n) bits → HasNoBitFlag (if low then n + 1 else 7) bits
counted_by true n bits is free = let more : suc n ≡ n + 1 = omega arith in subst (λ m. HasNoBitFlag m bits) more free
counted_by false n bits is free = as_seven (suc n) 7 bits (six_at_least n is) (omega arith) free

is_not_six : (n : ℕ) → n ≢ 6 → (n == 6) ≡ false
is_not_six n h = grind (arith, nat_tests)

-- bits up to a flag
off_run : (is_idle : Bool) (packing : Packing) (n : ℕ) (b : Bool) (bits rest : List Bool) → HasNoBitFlag n bits
    → said_of (off is_idle packing n b) (bits ++ (flag_bits ++ rest)) ≡ said_off is_idle ++ said_of fresh rest
off_run is_idle packing n b [] rest free =
    off_zero is_idle packing n b (true ∷ true ∷ true ∷ true ∷ true ∷ true ∷ false ∷ rest) (said_off is_idle ++ said_of fresh rest) (is_not_six n free)
    (λ p d. off_flag is_idle p d rest)
off_run is_idle packing n b (true ∷ bits) rest free =
    off_one is_idle packing n b (bits ++ (flag_bits ++ rest))
    ∙ off_run is_idle packing (if nat_lt n 6 then n + 1 else 7) b bits rest (counted_by (nat_lt n 6) n bits refl free)
off_run is_idle packing n b (false ∷ bits) rest free =
    off_zero is_idle packing n b (bits ++ (flag_bits ++ rest)) (said_off is_idle ++ said_of fresh rest) (is_not_six n free.0)
    (λ p d. off_run is_idle p 0 d bits rest free.1)

-- ---- Bits with an abort

-- whether nothing of a part came before the ones at the end
abbrev is_silent : Packing → Bool → Bool
is_silent packing b = is_none packing && not b

and_false : (a b : Bool) → b ≡ false → (a && b) ≡ false
and_false true b h = h
and_false false b h = refl

and_true : (a : Bool) → (a && true) ≡ a
and_true true = refl
and_true false = refl

packed_by : (few room : Bool) (packing : Packing) (value : ℕ)
    → is_none (if few then record { octets = packing.octets; value = value; count = packing.count + 1; is_long = packing.is_long }
    else (if room then record { octets = packing.octets ++ value ∷ []; value = 0; count = 0; is_long = packing.is_long }
    else record { octets = packing.octets; value = 0; count = 0; is_long = true })) ≡ false
packed_by true room packing value =
    let some : (packing.count + 1 == 0) ≡ false = grind (arith, nat_tests) in
    and_false (length packing.octets == 0) ((packing.count + 1 == 0) && not packing.is_long) (ap (λ t. t && not packing.is_long) some)
packed_by false true packing value =
    let some : (length (packing.octets ++ value ∷ []) == 0) ≡ false = grind (arith, nat_tests, length-append packing.octets (value ∷ [])) in
    ap (λ t. t && not packing.is_long) some
packed_by false false packing value = and_false (length packing.octets == 0) false refl

some_packed : (packing : Packing) (bit : Bool) → is_none (packed packing bit) ≡ false
some_packed packing true = packed_by (nat_lt packing.count 7) (nat_lt (length packing.octets) HELD_OCTETS) packing (packing.value / 2 + 128)
some_packed packing false = packed_by (nat_lt packing.count 7) (nat_lt (length packing.octets) HELD_OCTETS) packing (packing.value / 2 + 0)

five_exactly : (n : ℕ) → n ≤ 5 → nat_lt n 5 ≡ false → n ≡ 5
five_exactly n h k = grind (arith, nat_tests)

-- a 0 is kept back, or five ones came
never_silent : (low : Bool) (packing : Packing) (n : ℕ) (b : Bool) → n ≤ 5 → nat_lt n 5 ≡ low → is_silent (flushed (at packing n b)) low ≡ false
never_silent true packing n b h is = and_false (is_none (flushed (at packing n b))) false refl
never_silent false packing n b h is =
    ap (λ t. t && true)
    (ap (λ m. is_none (with_ones m (if b then packed packing false else packing))) (five_exactly n h is)
    ∙ some_packed (with_ones 4 (if b then packed packing false else packing)) true)

five_at_most : (n : ℕ) → n ≤ 6 → n ≢ 6 → n ≤ 5
five_at_most n h k = grind (arith, nat_tests)

no_more : (n : ℕ) → n ≤ 6 → (n == 6) ≡ false → n ≤ 5
no_more n h k = grind (arith, nat_tests)

six_is : (n : ℕ) → (n == 6) ≡ true → n ≡ 6
six_is n h = grind (arith, nat_tests)

-- a 1, the seventh or not
run_one : (six : Bool) (packing : Packing) (n : ℕ) (b : Bool) (bits rest : List Bool) → (n == 6) ≡ six → n ≤ 6 → HasNoBitFlag (suc n) bits
    → (if six then true else has_abort (suc n) bits) ≡ true
    → (n ≤ 5 → has_abort (suc n) bits ≡ true
    → said_of (at packing (suc n) b) (bits ++ (flag_bits ++ rest)) ≡ said_off (begins_idle (suc n) bits && is_silent packing b) ++ said_of fresh rest)
    → said_of (at packing n b) (true ∷ (bits ++ (flag_bits ++ rest))) ≡ said_off ((if six then true else begins_idle (suc n) bits) && is_silent packing b) ++ said_of fresh rest
run_one true packing n b bits rest six h free is later =
    let seven : HasNoBitFlag 7 bits = subst (λ m. HasNoBitFlag (suc m) bits) (six_is n six) free in
    ap (λ m. said_of (at packing m b) (true ∷ (bits ++ (flag_bits ++ rest)))) (six_is n six)
    ∙ off_run (is_silent packing b) packing 7 b bits rest seven
run_one false packing n b bits rest six h free is later =
    one_step packing n b (bits ++ (flag_bits ++ rest)) (no_more n h six) ∙ later (no_more n h six) is

-- bits with an abort, and the flag after them
run_off : (packing : Packing) (n : ℕ) (b : Bool) (bits rest : List Bool) → n ≤ 6 → HasNoBitFlag n bits → has_abort n bits ≡ true
    → said_of (at packing n b) (bits ++ (flag_bits ++ rest)) ≡ said_off (begins_idle n bits && is_silent packing b) ++ said_of fresh rest
run_off packing n b [] rest h free is = absurd (false≢true is)
run_off packing n b (true ∷ bits) rest h free is =
    run_one (n == 6) packing n b bits rest refl h free is (λ few later. run_off packing (suc n) b bits rest (omega (arith, few)) free later)
run_off packing n b (false ∷ bits) rest h free is =
    let few : n ≤ 5 = five_at_most n h free.0 in
    zero_step packing n b (bits ++ (flag_bits ++ rest)) few
    ∙ run_off (flushed (at packing n b)) 0 (nat_lt n 5) bits rest (omega arith) free.1 is
    ∙ ap (λ t. said_off t ++ said_of fresh rest)
    (and_false (begins_idle 0 bits) (is_silent (flushed (at packing n b)) (nat_lt n 5)) (never_silent (nat_lt n 5) packing n b few refl))

-- ---- Any bits between flags

few_by : (six : Bool) (n : ℕ) (more : Bool) → n ≤ 5 → (suc n == 6) ≡ six → (if six then true else more) ≡ false → n < 5
few_by true n more h six none = absurd (false≢true (sym none))
few_by false n more h six none = grind (arith, nat_tests)

-- a 1 that makes no six ones
one_of_few : (n : ℕ) (bits : List Bool) → n ≤ 5 → HasNoBitFlag (suc n) bits → has_abort (suc n) bits ≡ false → n < 5
one_of_few n [] h free none = grind (arith, free)
one_of_few n (true ∷ bits) h free none = few_by (suc n == 6) n (has_abort (suc (suc n)) bits) h refl none
one_of_few n (false ∷ bits) h free none = grind (arith, free.0)

more_by : (six : Bool) (more : Bool) → six ≡ false → (if six then true else more) ≡ false → more ≡ false
more_by true more six none = absurd (false≢true (sym six))
more_by false more six none = none

no_six : (n : ℕ) (bits : List Bool) → n ≤ 5 → HasNoBitFlag n bits → has_abort n bits ≡ false → HasNoSix n bits
no_six n [] h free none = tt
no_six n (true ∷ bits) h free none =
    let further : has_abort (suc n) bits ≡ false = more_by (n == 6) (has_abort (suc n) bits) (not_six n h) none in
    let few : n < 5 = one_of_few n bits h free further in
    (few, no_six (suc n) bits (omega (arith, few)) free further)
no_six n (false ∷ bits) h free none = no_six 0 bits (omega arith) free.1 none

between_by : (abort : Bool) (bits rest : List Bool) → HasNoBitFlag 0 bits → has_abort 0 bits ≡ abort
    → said_of fresh (bits ++ (flag_bits ++ rest)) ≡ (if abort then said_off (begins_idle 0 bits) else said_in bits) ++ said_of fresh rest
between_by true bits rest free is =
    run_off none_packed 0 false bits rest (omega arith) free is ∙ ap (λ t. said_off t ++ said_of fresh rest) (and_true (begins_idle 0 bits))
between_by false bits rest free is = run none_packed 0 false bits rest (omega arith) (no_six 0 bits (omega arith) free is)

parts_said : (parts : List (List Bool)) → AllByRecursion (HasNoBitFlag 0) parts
    → said_of fresh (flat_map (λ part. part ++ flag_bits) parts) ≡ flat_map said_between parts
parts_said [] all = refl
parts_said (part ∷ parts) all =
    ap (said_of fresh) (append_assoc part flag_bits (flat_map (λ part. part ++ flag_bits) parts))
    ∙ between_by (has_abort 0 part) part (flat_map (λ part. part ++ flag_bits) parts) all.0 refl
    ∙ ap (λ x. said_between part ++ x) (parts_said parts all.1)

-- Behind any noise that ends with a flag, a decoder says what the bits between flags say.
pub exact_with_aborts : (reading : Reading) (noise : List Bool) (parts : List (List Bool)) → AllByRecursion (HasNoBitFlag 0) parts
    → said_of reading (noise ++ (flag_bits ++ flat_map (λ part. part ++ flag_bits) parts)) ≡ said_of reading (noise ++ flag_bits) ++ flat_map said_between parts
exact_with_aborts reading noise parts all =
    resynchronised reading noise (flat_map (λ part. part ++ flag_bits) parts)
    ∙ ap (λ x. said_of reading (noise ++ flag_bits) ++ x) (parts_said parts all)
