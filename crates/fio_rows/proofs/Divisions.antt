-- A division takes octets.
use Rattle.std.proofs.lemmas.Bool.Decides.{nat_tests}
use Rattle.std.proofs.Common.{◌≡◌, ◌≢◌, ℕ, ◌<◌, true, false, List, [], ◌∷◌, length, refl, ap, arith, length-append, length-drop}
use Rattle.std.proofs.lemmas.Grind.{common_steps}
use Rattle.fio_message.specs.Decoding.{message_in}
use Rattle.fio_form.specs.Messages.{is_message}
use Rattle.fio_rows.specs.Frames.{DividesFrame, Takes}
use Rattle.fio_rows.specs.Streams.{Divides}
use Rattle.fio_rows.specs.declared.dividing.Next.{Next}
use Rattle.fio_rows.specs.declared.dividing.Next.TheVariants.{Message, Broken, Idle, Wait}

-- a message has octets
pub message_has_octets : (message : List ℕ) → is_message message ≡ true → 0 < length message
unfolding message_in
message_has_octets [] h = absurd (let e : false ≡ true = h in cc)
message_has_octets (octet ∷ octets) h = grind (arith, common_steps)

-- what stays is shorter
pub divides_less : (next : Next) (before message after : List ℕ) → Divides next before message after → next ≢ Wait →
    length after < length before
divides_less (Message count) before message after h ne = grind (arith, nat_tests, message_has_octets, length-append)
divides_less (Broken count) before message after h ne = omega (arith, length-drop count before, ap length h.0)
divides_less (Idle count) before message after h ne = omega (arith, length-drop count before, ap length h.0)
divides_less Wait before message after h ne = absurd (ne refl)

-- the same of a stream of frames
takes_less : (count : ℕ) (before after : List ℕ) → Takes count before after → length after < length before
takes_less count before after h = omega (arith, length-drop count before, ap length h.rest)

pub frame_less : (next : Next) (before message after : List ℕ) → DividesFrame next before message after → next ≢ Wait →
    length after < length before
frame_less (Message count) before message after h ne = takes_less count before after h.0
frame_less (Broken count) before message after h ne = takes_less count before after h
frame_less (Idle count) before message after h ne = takes_less count before after h
frame_less Wait before message after h ne = absurd (ne refl)
