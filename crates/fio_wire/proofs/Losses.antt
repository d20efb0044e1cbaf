-- A part of which an octet was lost is damage, if the loss is reported.
use Rattle.std.proofs.Common.{◌≡◌, ◌≢◌, ℕ, List, [], ◌∷◌, ◌++◌, length, Bool, true, false, refl, sym, ap, ◌∙◌, append_assoc}
use Rattle.std.specs.Prelude.{◌==◌, if◌then◌else◌, nat_lt, flat_map}
use Rattle.std.specs.Int.Bits.{bit_xor}
use Rattle.std.proofs.lemmas.Bool.{false≢true}
use Rattle.std.specs.List.{AllByRecursion}
use Rattle.std.proofs.lemmas.List.{append-nil}
use Rattle.fio_wire.specs.declared.limits.TheConstants.{FLAG, ESCAPE, STUFFED, HELD_OCTETS}
use Rattle.fio_wire.specs.Frames.{Said, Frame, Damage}
use Rattle.fio_wire.specs.Octets.{Reading, Phase, Hunting, Within, Escaped, Lost, Whole, start, fresh, ended_by, ending, begun, kept, taken, next, says, said_of, said_in, HasNoFlag}
use Rattle.fio_wire.specs.Laws.{Arrival, Octet, Loss, ArrivesNoFlag, after_arrival, arrivals_with_flags, has_loss, octets_arrived, said_in_arrivals, said_of_arrivals}
use Rattle.fio_wire.proofs.Lines.{no_flag, part_said}

-- after a frame the decoder goes on as after a flag
after_whole : (octets : List ℕ) (line : List Arrival) → said_of_arrivals (record { octets = octets; phase = Whole }) line ≡ said_of_arrivals fresh line
after_whole octets [] = refl
after_whole octets _ = refl

-- what is said after a flag, whatever that said
after_flag : (said : List Said) (rest : List Arrival) → said_of_arrivals (ended_by said) rest ≡ said_of_arrivals fresh rest
after_flag (Frame frame ∷ more) rest = after_whole frame rest
after_flag _ rest = refl

flag_on : (reading : Reading) (rest : List Arrival)
    → said_of_arrivals reading (Octet FLAG ∷ rest) ≡ says reading FLAG ++ said_of_arrivals fresh rest
flag_on reading rest = ap (λ x. says reading FLAG ++ x) (after_flag (says reading FLAG) rest)

-- in a damaged part
lost_on : (held : List ℕ) (part rest : List Arrival) → ArrivesNoFlag part
    → said_of_arrivals (record { octets = held; phase = Lost }) (part ++ Octet FLAG ∷ rest) ≡ Damage ∷ said_of_arrivals fresh rest
lost_on held [] rest h = refl
lost_on held (Octet o ∷ os) rest h =
    ap (λ b. (if b then Damage ∷ [] else []) ++ said_of_arrivals (if b then fresh else record { octets = held; phase = Lost }) (os ++ Octet FLAG ∷ rest)) (no_flag o h.0)
    ∙ lost_on held os rest h.1
lost_on held (Loss ∷ os) rest h = lost_on held os rest h

-- whether a decoder is in a part
abbrev IsWithin : Phase → Type 0
IsWithin Hunting = ⊥
IsWithin Whole = ⊥
IsWithin phase = Unit {0}

abbrev kept_if : Bool → List ℕ → ℕ → Reading
kept_if fits octets o = if fits then record { octets = octets ++ o ∷ []; phase = Within } else record { octets = octets; phase = Lost }

kept_within : (fits : Bool) (octets : List ℕ) (o : ℕ) → IsWithin (kept_if fits octets o).phase
kept_within true octets o = tt
kept_within false octets o = tt

-- what one octet of a part does that is no flag
pass : (phase : Phase) (octets : List ℕ) (o : ℕ) (rest : List Arrival) → o ≢ FLAG → IsWithin phase
    → said_of_arrivals (record { octets = octets; phase = phase }) (Octet o ∷ rest) ≡ said_of_arrivals (taken phase octets o) rest
pass Hunting octets o rest h is = absurd is
pass Whole octets o rest h is = absurd is
pass other octets o rest h is =
    ap (λ b. (if b then ending other octets else []) ++ said_of_arrivals (if b then ended_by (ending other octets) else taken other octets o) rest) (no_flag o h)

abbrev escaped_if : Bool → List ℕ → ℕ → Reading
escaped_if b octets o = if b then record { octets = octets; phase = Escaped } else kept octets o

escaped_or_kept : (b : Bool) (octets : List ℕ) (o : ℕ) → IsWithin (escaped_if b octets o).phase
escaped_or_kept true octets o = tt
escaped_or_kept false octets o = kept_within (nat_lt (length octets) HELD_OCTETS) octets o

taken_within : (phase : Phase) (octets : List ℕ) (o : ℕ) → IsWithin phase → IsWithin (taken phase octets o).phase
taken_within Within octets o is = escaped_or_kept (o == ESCAPE) octets o
taken_within Escaped octets o is = kept_within (nat_lt (length octets) HELD_OCTETS) octets (bit_xor o STUFFED)
taken_within Lost octets o is = tt
taken_within _ octets o is = absurd is

lost_at : (phase : Phase) (octets : List ℕ) (rest : List Arrival) → IsWithin phase
    → said_of_arrivals (record { octets = octets; phase = phase }) (Loss ∷ rest) ≡ said_of_arrivals (record { octets = octets; phase = Lost }) rest
lost_at Hunting octets rest is = absurd is
lost_at Whole octets rest is = absurd is
lost_at _ octets rest is = refl

-- a part with a loss, and the flag behind it
lossy : (reading : Reading) (part rest : List Arrival) → ArrivesNoFlag part → has_loss part ≡ true → IsWithin reading.phase
    → said_of_arrivals reading (part ++ Octet FLAG ∷ rest) ≡ Damage ∷ said_of_arrivals fresh rest
lossy reading [] rest h loss is = absurd (false≢true loss)
lossy reading (Octet o ∷ os) rest h loss is =
    pass reading.phase reading.octets o (os ++ Octet FLAG ∷ rest) h.0 is
    ∙ lossy (taken reading.phase reading.octets o) os rest h.1 loss (taken_within reading.phase reading.octets o is)
lossy reading (Loss ∷ os) rest h loss is =
    lost_at reading.phase reading.octets (os ++ Octet FLAG ∷ rest) is ∙ lost_on reading.octets os rest h

-- a part without a loss says what its octets say
as_octets : (reading : Reading) (part rest : List Arrival) → has_loss part ≡ false
    → said_of_arrivals reading (part ++ Octet FLAG ∷ rest) ≡ said_of reading (octets_arrived part ++ FLAG ∷ []) ++ said_of_arrivals fresh rest
as_octets reading [] rest none = flag_on reading rest ∙ ap (λ x. x ++ said_of_arrivals fresh rest) (sym (append-nil (says reading FLAG)))
as_octets reading (Octet o ∷ os) rest none =
    ap (λ x. says reading o ++ x) (as_octets (next reading o) os rest none)
    ∙ sym (append_assoc (says reading o) (said_of (next reading o) (octets_arrived os ++ FLAG ∷ [])) (said_of_arrivals fresh rest))
as_octets reading (Loss ∷ os) rest none = absurd (false≢true (sym none))

free_octets : (part : List Arrival) → ArrivesNoFlag part → HasNoFlag (octets_arrived part)
free_octets [] h = tt
free_octets (Octet o ∷ os) h = (h.0, free_octets os h.1)
free_octets (Loss ∷ os) h = free_octets os h

by_loss : (loss : Bool) (part rest : List Arrival) → ArrivesNoFlag part → has_loss part ≡ loss
    → said_of_arrivals fresh (part ++ Octet FLAG ∷ rest) ≡ (if loss then Damage ∷ [] else said_in (octets_arrived part)) ++ said_of_arrivals fresh rest
by_loss true part rest h is = lossy fresh part rest h is tt
by_loss false part rest h is =
    as_octets fresh part rest is
    ∙ ap (λ x. x ++ said_of_arrivals fresh rest) (part_said (octets_arrived part) [] (free_octets part h) ∙ append-nil (said_in (octets_arrived part)))

-- before the first flag nothing is said
hunts : (noise rest : List Arrival) → ArrivesNoFlag noise → said_of_arrivals start (noise ++ Octet FLAG ∷ rest) ≡ said_of_arrivals fresh rest
hunts [] rest h = refl
hunts (Octet o ∷ os) rest h =
    ap (λ f. (if f then [] else []) ++ said_of_arrivals (if f then fresh else start) (os ++ Octet FLAG ∷ rest)) (no_flag o h.0)
    ∙ hunts os rest h.1
hunts (Loss ∷ os) rest h = hunts os rest h

-- a rest without a flag says nothing
quiet : (reading : Reading) (rest : List Arrival) → ArrivesNoFlag rest → said_of_arrivals reading rest ≡ []
quiet reading [] h = refl
quiet reading (Octet o ∷ os) h =
    ap (λ f. (if f then ending (begun reading).phase (begun reading).octets else []) ++ said_of_arrivals (next reading o) os) (no_flag o h.0)
    ∙ quiet (next reading o) os h.1
quiet reading (Loss ∷ os) h = quiet (after_arrival reading Loss) os h

parts_said : (parts : List (List Arrival)) (rest : List Arrival) → AllByRecursion ArrivesNoFlag parts → ArrivesNoFlag rest
    → said_of_arrivals fresh (arrivals_with_flags parts ++ rest) ≡ flat_map said_in_arrivals parts
parts_said [] rest h free = quiet fresh rest free
parts_said (part ∷ parts) rest h free =
    ap (said_of_arrivals fresh) (ap (λ x. x ++ rest) (append_assoc part (Octet FLAG ∷ []) (arrivals_with_flags parts)) ∙ append_assoc part (Octet FLAG ∷ arrivals_with_flags parts) rest)
    ∙ by_loss (has_loss part) part (arrivals_with_flags parts ++ rest) h.0 refl
    ∙ ap (λ x. said_in_arrivals part ++ x) (parts_said parts rest h.1 free)

-- A decoder says of what arrives what its parts say, each with a loss damage.
pub exact : (noise : List Arrival) (parts : List (List Arrival)) (rest : List Arrival) → ArrivesNoFlag noise → AllByRecursion ArrivesNoFlag parts → ArrivesNoFlag rest
    → said_of_arrivals start (noise ++ Octet FLAG ∷ (arrivals_with_flags parts ++ rest)) ≡ flat_map said_in_arrivals parts
exact noise parts rest before h after = hunts noise (arrivals_with_flags parts ++ rest) before ∙ parts_said parts rest h after
