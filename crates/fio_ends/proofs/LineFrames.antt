-- One line of octets follows the frames of the link machine.
use Rattle.fio_ends.proofs.Names.{◌≡◌, ◌∙◌, ◌≤◌, ℕ, zero, suc, List, [], ◌∷◌, ◌++◌, append-nil, length, Option, Some, None, slice_get, refl, ap, sym, subst, arith, option_map, nat_tests, same_Some, slice_get_within, AllByRecursion, Answer, answer_octets, SentFrame, Arrives, ComesWhole, EndOf, FLAG, Framing, IsFraming, Loss, MayBring, Octet, WireLine, answer_frames, delivery_refusal, item_numbered, line_after, map_push, message_heard, sent, slice_get-map, with_answer_written, with_written, written_of}
use Rattle.fio_ends.proofs.LineMessages.{IsMessage}
use Rattle.fio_ends.proofs.LineParts.{IsReading, octet_heard, whole_heard, read_flag, read_loss}

-- each of these frames is a message that a frame can hold
abbrev pub AreMessages : List SentFrame → Type 0
AreMessages frames = AllByRecursion (λ frame. IsMessage frame.octets) frames

-- A line has what the machine has of it, and the decoder has read what came since the latest flag.
pub record IsLine (framing : Framing) (frames : List SentFrame) (last : ℕ) (line : WireLine) : Type 0 where
  pub written : line.written ≡ written_of framing frames
  pub same_last : line.last ≡ last
  pub messages : AreMessages frames
  pub reading : IsReading line.part line.reading

-- with one frame more
all_push : (frames : List SentFrame) (frame : SentFrame) → AreMessages frames → IsMessage frame.octets → AreMessages (frames ++ frame ∷ [])
all_push [] frame all is = (is, tt)
all_push (f ∷ fs) frame all is = (all.0, all_push fs frame all.1 is)

-- the frame at a place, or with a number, is a message
place_of : (frames : List SentFrame) (place : ℕ) (frame : SentFrame) → AreMessages frames → slice_get frames place ≡ Some frame → IsMessage frame.octets
place_of [] place frame all is = absurd (cc is)
place_of (f ∷ fs) zero frame all is = subst (λ (g : SentFrame). IsMessage g.octets) (same_Some _ _ is) all.0
place_of (f ∷ fs) (suc place) frame all is = place_of fs place frame all.1 is

pub numbered_of : (frames : List SentFrame) (number : ℕ) (frame : SentFrame) → AreMessages frames → item_numbered frames number ≡ Some frame → IsMessage frame.octets
numbered_of frames zero frame all is = absurd (cc is)
numbered_of frames (suc place) frame all is = place_of frames place frame all is

-- what was written for the frame with a number
pub written_numbered : (framing : Framing) (frames : List SentFrame) (number : ℕ)
    → item_numbered (written_of framing frames) number
    ≡ option_map (λ frame. sent framing.address framing.control frame.octets) (item_numbered frames number)
written_numbered framing frames zero = refl
written_numbered framing frames (suc place) = slice_get-map (λ frame. sent framing.address framing.control frame.octets) frames place

-- a frame that was sent, and none after it was delivered, may be delivered
not_refused : (frames : List SentFrame) (last number : ℕ) (frame : SentFrame) → item_numbered frames number ≡ Some frame → last ≤ number
    → delivery_refusal (length frames) last number ≡ None
not_refused frames last number frame is le = grind (arith, nat_tests, slice_get_within)

module _ (framing : Framing) (is_framing : IsFraming framing) (frames : List SentFrame) (last : ℕ) (line : WireLine) (l : IsLine framing frames last line) where
  -- one message more is written
  pub line_written : (frame : SentFrame) → IsMessage frame.octets
      → IsLine framing (frames ++ frame ∷ []) last (with_written framing line frame.octets)
  line_written frame is = grind (arith, all_push, map_push)

  -- an answer is written, if there is one
  pub line_answered : (reply : Option Answer) (round : ℕ) → ((answer : Answer) → reply ≡ Some answer → IsMessage (answer_octets answer))
      → IsLine framing (frames ++ answer_frames reply round) last (with_answer_written framing line reply)
  line_answered None round are = record {
    written = l.written ∙ ap (written_of framing) (sym (append-nil frames));
    same_last = l.same_last;
    messages = subst AreMessages (sym (append-nil frames)) l.messages;
    reading = l.reading;
  }
  line_answered (Some answer) round are =
      line_written (record { octets = answer_octets answer; round = round }) (are answer refl)

  -- an octet comes that ends no frame whole
  pub line_octet : (octet : ℕ) → MayBring framing.own line (Arrives (Octet octet))
      → (message_heard framing.own line.reading (Octet octet) ≡ None) × IsLine framing frames last (line_after line (Arrives (Octet octet)))
  line_octet octet may =
      let heard = octet_heard framing.own line octet l.reading may in (
        heard.0,
        record { written = l.written; same_last = l.same_last; messages = l.messages; reading = heard.1 },
      )

  -- an octet is lost
  pub line_lost : IsLine framing frames last (line_after line (Arrives Loss))
  line_lost = record { written = l.written; same_last = l.same_last; messages = l.messages; reading = read_loss line.reading }

  -- the frame that ends, if it is the one with a number
  pub record Ended (number : ℕ) : Type 0 where
    pub frame : SentFrame
    pub is : item_numbered frames number ≡ Some frame
    pub message : IsMessage frame.octets
    pub heard : message_heard framing.own line.reading (Octet FLAG) ≡ Some frame.octets
    pub fine : delivery_refusal (length frames) last number ≡ None
    pub next_line : IsLine framing frames number (line_after line (EndOf number))

  ended_if : (number : ℕ) (whole : ComesWhole line number) (found : Option SentFrame) → item_numbered frames number ≡ found
      → option_map (λ frame. sent framing.address framing.control frame.octets) found ≡ Some (FLAG ∷ whole.part ++ FLAG ∷ [])
      → Ended number
  ended_if number whole None is written = absurd (cc written)
  ended_if number whole (Some frame) is written =
      let message = numbered_of frames number frame l.messages is in
      record {
        frame = frame;
        is = is;
        message = message;
        heard = whole_heard framing is_framing line number frame.octets message l.reading whole (sym (same_Some _ _ written));
        fine = not_refused frames last number frame is (omega (arith, whole.in_order, l.same_last));
        next_line = record { written = l.written; same_last = refl; messages = l.messages; reading = read_flag line.reading };
      }

  pub line_ended : (number : ℕ) → ComesWhole line number → Ended number
  line_ended number whole = grind (arith, ended_if, written_numbered)
