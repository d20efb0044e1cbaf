-- A frame of another station is noise.
use Rattle.fio_ends.proofs.Names.{◌≡◌, ◌∙◌, drop, ℕ, Bool, true, false, List, [], ◌∷◌, ◌++◌, Option, Some, None, option_map, refl, ap, sym, if◌then◌else◌, same_Some, SentFrame, FLAG, Framing, IsFraming, WireLine, frame_of, item_numbered, sent, stuffed, false≢true, same_from_push, Message, Other, is_own, wire_heard, said_in, IsNoise}
use Rattle.fio_wire.specs.Frames.{Frame}
use Rattle.fio_wire.specs.Frames as frames
use Rattle.fio_ends.proofs.LineMessages.{IsMessage}
use Rattle.fio_ends.proofs.LineParts.{frame_said}
use Rattle.fio_ends.proofs.LineFrames.{IsLine, numbered_of, written_numbered}

others : (own : Bool) → own ≡ false → (if own then Message else Other) ≡ Other
others true e = absurd (false≢true (sym e))
others false e = refl

module _ (own : frames.WireSettings) (framing : Framing) (f : IsFraming framing) (no : is_own own (framing.address ∷ framing.control ∷ []) ≡ false) where
  -- a message's frame whose address and control octet are not one's own
  frame_noise : (message : List ℕ) → IsMessage message
      → IsNoise own (stuffed (frame_of framing.address framing.control message))
  frame_noise message is heard =
      let other : wire_heard own (said_in (stuffed (frame_of framing.address framing.control message))) ≡ Other =
      ap (wire_heard own) (frame_said framing.address framing.control message f.address f.control is)
      ∙ others (is_own own (frame_of framing.address framing.control message)) no in
      absurd (cc (heard, other))

  part_noise : (part message : List ℕ) → IsMessage message
      → FLAG ∷ part ++ FLAG ∷ [] ≡ sent framing.address framing.control message → IsNoise own part
  part_noise part message is written heard =
      let same : part ≡ stuffed (frame_of framing.address framing.control message) =
      (same_from_push part (stuffed (frame_of framing.address framing.control message)) FLAG FLAG (ap (drop 1) written)).0 in
      frame_noise message is (ap (λ p. wire_heard own (said_in p)) (sym same) ∙ heard)

  noise_if : (sent_frames : List SentFrame) (last : ℕ) (line : WireLine) (number : ℕ) (part : List ℕ) (found : Option SentFrame)
      → IsLine framing sent_frames last line → item_numbered sent_frames number ≡ found
      → option_map (λ frame. sent framing.address framing.control frame.octets) found ≡ Some (FLAG ∷ part ++ FLAG ∷ [])
      → IsNoise own part
  noise_if sent_frames last line number part None l is written = absurd (cc written)
  noise_if sent_frames last line number part (Some frame) l is written =
      part_noise part frame.octets (numbered_of sent_frames number frame l.messages is) (sym (same_Some _ _ written))

  -- what was written to a line, if it is not one's own
  pub written_noise : (sent_frames : List SentFrame) (last : ℕ) (line : WireLine) (number : ℕ) (part : List ℕ)
      → IsLine framing sent_frames last line → item_numbered line.written number ≡ Some (FLAG ∷ part ++ FLAG ∷ [])
      → IsNoise own part
  written_noise sent_frames last line number part l is =
      noise_if sent_frames last line number part (item_numbered sent_frames number) l refl
      (sym (written_numbered framing sent_frames number) ∙ ap (λ written. item_numbered written number) (sym l.written) ∙ is)
