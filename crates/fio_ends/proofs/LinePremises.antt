-- What a line may bring leaves open that frames come, whole and struck.
use Rattle.fio_ends.proofs.Names.{◌≡◌, ◌∙◌, ◌≤◌, ℕ, List, [], ◌∷◌, ◌++◌, Option, Some, None, option_map, refl, ap, sym, subst, arith, append-nil, append_assoc, same_Some, if◌then◌else◌, Settings, Arrives, AtCpu, AtModule, EndOf, FLAG, Framing, HasNoFlag, IsStruck, MayBring, MayFollow, Octet, WireEvent, WireLine, WiredEnds, after_line_event, after_message, after_receipt, frame_of, item_numbered, line_after, no_flag, part_after, part_brought, sent, stuffed, free_of_flags, Brought, MayCome, EachFrameMayCome, EachStruckFrameMayCome}
use Rattle.fio_ends.proofs.LineParts.{struck_noise}

-- a direction: what its events bring, and the line that they change
pub record IsDirection (line_of : WiredEnds → WireLine) (at : Brought → WireEvent) : Type 0 where
  pub may : (framing : Framing) (ends : WiredEnds) (brought : Brought) → MayBring framing.own (line_of ends) brought → MayCome framing ends (at brought)
  pub goes : (settings : Settings) (framing : Framing) (ends : WiredEnds) (brought : Brought)
      → line_of (after_line_event settings framing ends (at brought)) ≡ line_after (line_of ends) brought

received : (settings : Settings) (framing : Framing) (ends : WiredEnds) (heard : Option (List ℕ))
    → (after_receipt settings framing ends heard).to_module ≡ ends.to_module
received settings framing ends None = refl
received settings framing ends (Some message) = refl

heard_by_cpu : (ends : WiredEnds) (heard : Option (List ℕ)) → (after_message ends heard).to_cpu ≡ ends.to_cpu
heard_by_cpu ends None = refl
heard_by_cpu ends (Some message) = refl

pub at_module : IsDirection (λ ends. ends.to_module) AtModule
at_module = grind (arith, received)

pub at_cpu : IsDirection (λ ends. ends.to_cpu) AtCpu
at_cpu = grind (arith, heard_by_cpu)

-- a line as another, but for these octets since the latest flag
record HasPart (part : List ℕ) (before line : WireLine) : Type 0 where
  same_part : line.part ≡ Some part
  same_last : line.last ≡ before.last
  same_written : line.written ≡ before.written

module _ {line_of : WiredEnds → WireLine} {at : Brought → WireEvent} (d : IsDirection line_of at) (settings : Settings) (framing : Framing) where
  -- the octets of a part come, and what ends it if that may come then
  part_comes : (before : WireLine) (held part : List ℕ) (ending : Brought) (ends : WiredEnds) → HasNoFlag part → HasPart held before (line_of ends)
      → ((line : WireLine) → HasPart (held ++ part) before line → MayBring framing.own line ending)
      → MayFollow settings framing ends (part_brought at part ending)
  part_comes before held [] ending ends free has may = (
    after_line_event settings framing ends (at ending),
    (
      d.may framing ends ending (may (line_of ends) (record {
        same_part = has.same_part ∙ ap Some (sym (append-nil held));
        same_last = has.same_last;
        same_written = has.same_written;
      })),
      refl,
    ),
  )
  part_comes before held (o ∷ part) ending ends free has may =
      let later = after_line_event settings framing ends (at (Arrives (Octet o))) in
      let goes = d.goes settings framing ends (Arrives (Octet o)) in
      let one : part_after (line_of ends).part (Octet o) ≡ Some (held ++ o ∷ []) =
      ap (λ b. if b then Some [] else option_map (λ octets. octets ++ o ∷ []) (line_of ends).part) (no_flag o free.0)
      ∙ ap (option_map (λ octets. octets ++ o ∷ [])) has.same_part in
      let rest = part_comes before (held ++ o ∷ []) part ending later free.1 (record {
        same_part = ap (λ (l : WireLine). l.part) goes ∙ one;
        same_last = ap (λ (l : WireLine). l.last) goes ∙ has.same_last;
        same_written = ap (λ (l : WireLine). l.written) goes ∙ has.same_written;
      }) (λ line h. may line (record {
        same_part = h.same_part ∙ ap Some (append_assoc held (o ∷ []) part);
        same_last = h.same_last;
        same_written = h.same_written;
      })) in
      (rest.0, (d.may framing ends (Arrives (Octet o)) (λ flag octets is. absurd (free.0 flag)), rest.1))

  pub frame_comes : (ends : WiredEnds) (number : ℕ) (message : List ℕ) → (line_of ends).part ≡ Some [] → (line_of ends).last ≤ number
      → item_numbered (line_of ends).written number ≡ Some (sent framing.address framing.control message)
      → MayFollow settings framing ends (part_brought at (stuffed (frame_of framing.address framing.control message)) (EndOf number))
  frame_comes ends number message begun order is =
      let part = stuffed (frame_of framing.address framing.control message) in
      part_comes (line_of ends) [] part (EndOf number) ends (free_of_flags (frame_of framing.address framing.control message))
      (record { same_part = begun; same_last = refl; same_written = refl })
      (λ line h. record {
        part = part;
        is_part = h.same_part;
        is_written = ap (λ written. item_numbered written number) h.same_written ∙ is;
        in_order = omega (arith, order, h.same_last);
      })

  pub struck_comes : (ends : WiredEnds) (part : List ℕ) → (line_of ends).part ≡ Some [] → IsStruck part
      → MayFollow settings framing ends (part_brought at part (Arrives (Octet FLAG)))
  struck_comes ends part begun struck =
      part_comes (line_of ends) [] part (Arrives (Octet FLAG)) ends struck.2.0 (record { same_part = begun; same_last = refl; same_written = refl })
      (λ line h flag octets is. struck_noise framing.own octets (subst IsStruck (same_Some _ _ (sym h.same_part ∙ is)) struck))

pub frames_to_module : EachFrameMayCome (λ ends. ends.to_module) AtModule
frames_to_module settings framing ends number message begun order is =
    frame_comes at_module settings framing ends number message begun (omega (arith, order)) is

pub frames_to_cpu : EachFrameMayCome (λ ends. ends.to_cpu) AtCpu
frames_to_cpu settings framing ends number message begun order is =
    frame_comes at_cpu settings framing ends number message begun (omega (arith, order)) is

pub struck_to_module : EachStruckFrameMayCome (λ ends. ends.to_module) AtModule
struck_to_module = struck_comes at_module

pub struck_to_cpu : EachStruckFrameMayCome (λ ends. ends.to_cpu) AtCpu
struck_to_cpu = struck_comes at_cpu
