use Rattle.std.proofs.Common.{◌≡◌, ◌∙◌, true, false, length, ap, refl, sym, inl, inr, rules}
use Rattle.fio_log.proofs.HeardLemmas.{tells_message, tells_no_room, tells_none}
use Rattle.fio_log.proofs.by_forms.FormReader.tell_message.Goals as goal

pub returns-then-not-is_kept-clause-told : goal.returns-then-not-is_kept-clause-told
returns-then-not-is_kept-clause-told c =
    let failed : c.take_row-is_kept.result ≡ false = search rules in
    tells_no_room c.args.self.now.forms c.args.self.now.reading.message.items c.args.line.text.now (length c.args.self.now.rows.places.items) c.args.heard _ _ c.take_row-is_kept.result failed c.take_row-is_kept.ensures.room.1

pub returns-then-not-is_taken-clause-told : goal.returns-then-not-is_taken-clause-told
returns-then-not-is_taken-clause-told c =
    let failed : c.take_message-is_taken.result ≡ false = search rules in
    tells_none c.args.self.now.forms c.args.self.now.reading.message.items c.args.line.text.now (length c.args.self.now.rows.places.items) c.args.heard _ _ c.deref.result.now c.take_message-is_taken.result
    (c.deref.ensures.0 ∙ ap (λ r. r.reading.message.items) c.take_row-is_kept.ensures.kept) failed c.take_message-is_taken.ensures.room

pub returns-then-not-is_alone-clause-told : goal.returns-then-not-is_alone-clause-told
returns-then-not-is_alone-clause-told c =
    let kept : c.take_row-is_kept.result ≡ true = search rules in
    let taken : c.take_message-is_taken.result ≡ true = search rules in
    let forms = ap (λ r. r.forms) c.take_row-is_kept.ensures.kept in
    tells_message c.args.self.now.forms c.args.self.now.reading.message.items c.args.line.text.now (length c.args.self.now.rows.places.items) c.args.heard _ c.take_message-is_taken.new.told.frames _ c.deref.result.now
    (c.deref.ensures.0 ∙ ap (λ r. r.reading.message.items) c.take_row-is_kept.ensures.kept) (c.take_row-is_kept.ensures.room.0 kept)
    (c.take_message-is_taken.ensures.taken taken) c.tell_seconds-is_quiet.ensures.first
    (λ whole. elim c.then-not-is_alone.either [
      | inl more ↦ let no : false ≡ true = sym more ∙ c.is_alone-is_alone.ensures.whole (rw forms whole) in absurd (cc)
      | inr more ↦ let no : false ≡ true = sym more.1 ∙ (c.tell_seconds-is_quiet.ensures.none whole.end).0 in absurd (cc)
    ])

pub returns-clause-told : goal.returns-clause-told
returns-clause-told c =
    let kept : c.take_row-is_kept.result ≡ true = search rules in
    let taken : c.take_message-is_taken.result ≡ true = search rules in
    tells_message c.args.self.now.forms c.args.self.now.reading.message.items c.args.line.text.now (length c.args.self.now.rows.places.items) c.args.heard _ c.take_message-is_taken.new.told.frames _ c.deref.result.now
    (c.deref.ensures.0 ∙ ap (λ r. r.reading.message.items) c.take_row-is_kept.ensures.kept) (c.take_row-is_kept.ensures.room.0 kept)
    (c.take_message-is_taken.ensures.taken taken) c.tell_seconds-is_quiet.ensures.first
    (λ whole. ((c.tell_seconds-is_quiet.ensures.none whole.end).1, refl))
