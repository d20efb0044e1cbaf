-- What a decoder hears of a line, octet by octet.
use Rattle.fio_ends.proofs.Names.{◌≡◌, ◌≢◌, ◌∙◌, drop, inl, inr, ℕ, Bool, true, false, List, [], ◌∷◌, ◌++◌, Option, Some, None, refl, ap, sym, subst, append-nil, append_assoc, if◌then◌else◌, option_map, eqb_tells, Arrives, ComesWhole, FLAG, Framing, HasNoFlag, IsFraming, IsOctet, IsStruck, MayBring, Octet, Whole, WireLine, frame_of, message_heard, no_flag, part_after, sent, stuffed, arith, false≢true, same_from_push, WireHeard, Message, Other, Damaged, Said, Damage, wire_heard, is_own, message_of_frame, Phase, Hunting, Within, Escaped, Reading, begun, ended_by, ending, fresh, lost, next, said_in, said_of, says, Struck, part_said, arrive, message_again, sent_frame, IsNoise, message_if}
use Rattle.fio_wire.specs.declared.heard.WireHeard.TheVariants.{Nothing}
use Rattle.fio_wire.specs.Frames.{Frame}
use Rattle.fio_wire.specs.Frames as frames
use Rattle.fio_wire.specs.Octets.{Lost}
use Rattle.fio_ends.proofs.LineMessages.{IsMessage}

-- ---- What is known of lines

-- the flag after a part says what the part says
flag_said : (part : List ℕ) → HasNoFlag part → said_of fresh (part ++ FLAG ∷ []) ≡ said_in part
flag_said part free = part_said part [] free ∙ append-nil (said_in part)

-- a frame as it was written says itself
pub frame_said : (address control : ℕ) (message : List ℕ) → IsOctet address → IsOctet control → IsMessage message
    → said_in (stuffed (frame_of address control message)) ≡ Frame (frame_of address control message) ∷ []
frame_said address control message a c m =
    (sent_frame address control message (record { octets = (a, (c, m.0)); least = m.1.0; most = m.1.1 })).1

-- a struck frame says that there is damage
struck_said : (part : List ℕ) → HasNoFlag part → IsStruck part → said_in part ≡ Damage ∷ []
struck_said part free struck =
    sym (flag_said part free)
    ∙ ap (said_of fresh) (sym (append-nil (part ++ FLAG ∷ [])))
    ∙ arrive (Struck struck.0 struck.1 part ∷ []) (struck.2, tt)

-- so it is noise
pub struck_noise : (own : frames.WireSettings) (part : List ℕ) → IsStruck part → IsNoise own part
struck_noise own part struck e =
    let damage : wire_heard own (said_in part) ≡ Damaged = ap (wire_heard own) (struck_said part struck.2.0 struck) in cc (e, damage)

-- ---- Readings

-- a decoder in this phase says no frame at the next flag
abbrev pub IsDeaf : Phase → Type 0
IsDeaf Hunting = Unit {0}
IsDeaf Lost = Unit {0}
IsDeaf other = ⊥

-- a decoder has read this part since the latest flag
pub record HasRead (part : List ℕ) (reading : Reading) : Type 0 where
  pub free : HasNoFlag part
  pub same : (line : List ℕ) → said_of reading line ≡ said_of fresh (part ++ line)

-- a decoder and what came since the latest flag
abbrev pub IsReading : Option (List ℕ) → Reading → Type 0
IsReading None reading = IsDeaf reading.phase
IsReading (Some part) reading = HasRead part reading

-- after a flag, whatever it says
ended_says : (said : List Said) (line : List ℕ) → said_of (ended_by said) line ≡ said_of fresh line
ended_says [] line = refl
ended_says (Frame frame ∷ rest) [] = refl
ended_says (Frame frame ∷ rest) (o ∷ os) = refl
ended_says (Damage ∷ rest) line = refl

pub read_flag : (reading : Reading) → IsReading (Some []) (next reading FLAG)
read_flag reading = record { free = tt; same = ended_says (says reading FLAG) }

free_push : (part : List ℕ) (o : ℕ) → HasNoFlag part → o ≢ FLAG → HasNoFlag (part ++ o ∷ [])
free_push [] o free other = (other, tt)
free_push (x ∷ xs) o free other = (free.0, free_push xs o free.1 other)

-- an octet that is no flag says nothing
nothing_said : (reading : Reading) (o : ℕ) → o ≢ FLAG → says reading o ≡ []
nothing_said reading o other =
    ap (λ b. if b then ending (begun reading).phase (begun reading).octets else []) (no_flag o other)

deaf_next : (octets : List ℕ) (phase : Phase) (o : ℕ) → o ≢ FLAG → IsDeaf phase
    → IsDeaf (next (record { octets = octets; phase = phase }) o).phase
deaf_next octets phase o other deaf = grind (arith, no_flag)

-- one octet more that is no flag
read_more : (part : Option (List ℕ)) (reading : Reading) (o : ℕ) → o ≢ FLAG → IsReading part reading
    → IsReading (option_map (λ before. before ++ o ∷ []) part) (next reading o)
read_more None reading o other deaf = deaf_next reading.octets reading.phase o other deaf
read_more (Some part) reading o other r = record {
  free = free_push part o r.free other;
  same = λ line.
      ap (λ said. said ++ said_of (next reading o) line) (sym (nothing_said reading o other))
      ∙ r.same (o ∷ line)
      ∙ ap (said_of fresh) (sym (append_assoc part (o ∷ []) line));
}

-- a flag says what the part before it says
flag_says : (part : List ℕ) (reading : Reading) → HasRead part reading → says reading FLAG ≡ said_in part
flag_says part reading r =
    sym (append-nil (says reading FLAG)) ∙ r.same (FLAG ∷ []) ∙ flag_said part r.free

deaf_flag : (own : frames.WireSettings) (octets : List ℕ) (phase : Phase) → IsDeaf phase
    → wire_heard own (says (record { octets = octets; phase = phase }) FLAG) ≢ Message
deaf_flag own octets Hunting deaf e = absurd (cc e)
deaf_flag own octets Lost deaf e = absurd (cc e)
deaf_flag own octets Within deaf e = absurd deaf
deaf_flag own octets Escaped deaf e = absurd deaf
deaf_flag own octets Whole deaf e = absurd deaf

-- after a loss
deaf_lost : (octets : List ℕ) (phase : Phase) → IsDeaf (lost (record { octets = octets; phase = phase })).phase
deaf_lost octets phase = grind arith

pub read_loss : (reading : Reading) → IsReading None (lost reading)
read_loss reading = deaf_lost reading.octets reading.phase

-- ---- What is heard

no_message : (heard : WireHeard) (reading : Reading) → heard ≢ Message → message_if heard reading ≡ None
no_message heard reading other = grind arith

-- at a flag after which a line may bring no frame whole
flag_heard : (own : frames.WireSettings) (part : Option (List ℕ)) (reading : Reading) → IsReading part reading
    → ((octets : List ℕ) → part ≡ Some octets → IsNoise own octets)
    → wire_heard own (says reading FLAG) ≢ Message
flag_heard own None reading deaf brings e = deaf_flag own reading.octets reading.phase deaf e
flag_heard own (Some part) reading r brings e =
    let said : wire_heard own (says reading FLAG) ≡ wire_heard own (said_in part) = ap (wire_heard own) (flag_says part reading r) in
    absurd (brings part refl (sym said ∙ e))

-- An octet that ends no frame whole is heard as no message.
pub octet_heard : (own : frames.WireSettings) (line : WireLine) (o : ℕ) → IsReading line.part line.reading → MayBring own line (Arrives (Octet o))
    → (message_heard own line.reading (Octet o) ≡ None) × IsReading (part_after line.part (Octet o)) (next line.reading o)
octet_heard own line o r brings =
    elim (eqb_tells o FLAG) as (λ _. (message_heard own line.reading (Octet o) ≡ None) × IsReading (part_after line.part (Octet o)) (next line.reading o)) [
      | inl flag ↦
          let P : ℕ → Type 0 = λ n. (message_heard own line.reading (Octet n) ≡ None) × IsReading (part_after line.part (Octet n)) (next line.reading n) in
          subst P (sym flag.1) (
            no_message (wire_heard own (says line.reading FLAG)) (next line.reading FLAG) (flag_heard own line.part line.reading r (brings flag.1)),
            read_flag line.reading,
          )
      | inr other ↦ (
        no_message (wire_heard own (says line.reading o)) (next line.reading o) (λ e. (let none : wire_heard own (says line.reading o) ≡ Nothing = ap (wire_heard own) (nothing_said line.reading o other.1) in absurd (cc (e, none)))),
        subst (λ b. IsReading (if b then Some [] else option_map (λ before. before ++ o ∷ []) line.part) (next line.reading o)) (sym other.0)
            (read_more line.part line.reading o other.1 r),
      )
    ]

-- the message that is heard where a line says this at a flag
abbrev message_said : frames.WireSettings → List Said → Option (List ℕ)
message_said own said = message_if (wire_heard own said) (ended_by said)

own_heard : (own : frames.WireSettings) (is : Bool) (frame : List ℕ) → is ≡ true
    → message_if (if is then Message else Other) (record { octets = frame; phase = Whole }) ≡ Some (message_of_frame frame)
own_heard own true frame e = refl
own_heard own false frame e = absurd (false≢true e)

-- The flag that ends a frame whole is heard as its message.
pub whole_heard : (framing : Framing) → IsFraming framing → (line : WireLine) (number : ℕ) (message : List ℕ) → IsMessage message
    → IsReading line.part line.reading → (whole : ComesWhole line number)
    → FLAG ∷ whole.part ++ FLAG ∷ [] ≡ sent framing.address framing.control message
    → message_heard framing.own line.reading (Octet FLAG) ≡ Some message
whole_heard framing f line number message is r whole written =
    let frame = frame_of framing.address framing.control message in
    let part : whole.part ≡ stuffed frame = (same_from_push whole.part (stuffed frame) FLAG FLAG (ap (drop 1) written)).0 in
    let read : HasRead whole.part line.reading = subst (λ p. IsReading p line.reading) whole.is_part r in
    let said : says line.reading FLAG ≡ Frame frame ∷ [] =
    flag_says whole.part line.reading read ∙ ap said_in part
    ∙ frame_said framing.address framing.control message f.address f.control is in
    ap (message_said framing.own) said
    ∙ own_heard framing.own (is_own framing.own frame) frame f.own
    ∙ ap Some (message_again framing.address framing.control message)
