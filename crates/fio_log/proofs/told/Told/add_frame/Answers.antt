use Rattle.std.proofs.Common.{◌≡◌, ◌≤◌, ◌+◌, [], ◌∷◌, ◌++◌, true, length, arith, rules}
use Rattle.std.proofs.lemmas.Grind.{common_steps}
use Rattle.std.proofs.lemmas.List.Elements.{All-push}
use Rattle.fio_guess.specs.Lines.{parts_of, GoUp}
use Rattle.fio_guess.proofs.Lines.{GoUp-push, parts_of-push}
use Rattle.fio_log.specs.OwnTexts.{spells}
use Rattle.fio_log.proofs.FrameLemmas.{no_octets}
use Rattle.fio_log.proofs.OwnTextLemmas.{spelled_short}
use Rattle.fio_log.proofs.told.Told.add_frame.Goals as goal

pub returns-then-not-has_room-clause-room : goal.returns-then-not-has_room-clause-room
returns-then-not-has_room-clause-room c = λ spelled none.
    let ends = c.self.inside.ends.items in
    let empty = rw (← c.self.view_is) at none in
    let bare : (length ends ≡ 0) × (length c.self.inside.octets.items ≡ 0) = no_octets _ ends c.self.invariant.0 empty in
    let short : length c.args.octets.now ≤ 773 = spelled_short c.args.octets.now spelled in
    let yes : c.has_room-has_room.result ≡ true = c.has_room-has_room.ensures.room (omega (arith, bare.0)) (omega (arith, bare.1, short)) in
    search rules

pub invariant_of-self : goal.invariant_of-self
invariant_of-self c =
    let ends = c.self.inside.ends.items in
    let octets = c.self.inside.octets.items in
    let more : c.try_extend_from_slice-fits.new.self.items ≡ octets ++ c.args.octets.now = grind (arith, common_steps) in
    let next : c.try_push-fits.new.self.items ≡ ends ++ c.len.result ∷ [] = grind (arith, common_steps) in
    let last : c.len.result ≡ length octets + length c.args.octets.now = grind (arith, common_steps) in
    let up : GoUp 0 (ends ++ c.len.result ∷ []) c.len.result = GoUp-push 0 ends (length octets) c.len.result c.self.invariant.0 (omega arith) in
    let count : length c.try_extend_from_slice-fits.new.self.items ≡ c.len.result = grind (arith, common_steps) in
    let whole : parts_of (octets ++ c.args.octets.now) 0 (ends ++ c.len.result ∷ []) ≡ parts_of octets 0 ends ++ c.args.octets.now ∷ [] = parts_of-push _ _ 0 _ _ c.self.invariant.0 last in
    let spelled : spells c.args.octets.now ≡ true = search rules in
    (rw (next, count) up, rw (next, more, whole) (All-push (λ frame. spells frame ≡ true) (parts_of octets 0 ends) c.args.octets.now c.self.invariant.1 spelled))

pub returns-clause-added : goal.returns-clause-added
returns-clause-added c = λ is.
    let ends = c.self.inside.ends.items in
    let octets = c.self.inside.octets.items in
    let more : c.try_extend_from_slice-fits.new.self.items ≡ octets ++ c.args.octets.now = grind (arith, common_steps) in
    let next : c.try_push-fits.new.self.items ≡ ends ++ c.len.result ∷ [] = grind (arith, common_steps) in
    let last : c.len.result ≡ length octets + length c.args.octets.now = grind (arith, common_steps) in
    let whole : parts_of (octets ++ c.args.octets.now) 0 (ends ++ c.len.result ∷ []) ≡ parts_of octets 0 ends ++ c.args.octets.now ∷ [] = parts_of-push _ _ 0 _ _ c.self.invariant.0 last in
    rw (more, next, ← c.self.view_is) whole
