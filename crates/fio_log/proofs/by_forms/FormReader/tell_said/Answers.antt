use Rattle.std.proofs.Common.{◌≡◌, ℕ, true, false, length, ap, ap₂, refl, rules}
use Rattle.fio_rows.specs.Rows.{Rows, state_of}
use Rattle.fio_rows.specs.declared.said.Said.TheVariants as said
use Rattle.fio_log.specs.Heard.{known_of}
use Rattle.fio_log.proofs.HeardLemmas.{left_closed, left_part, left_same, tells_as, tells_no_part, tells_part}
use Rattle.fio_log.proofs.by_forms.FormReader.tell_said.Goals as goal

pub returns-in-Frame-clause-told : goal.returns-in-Frame-clause-told
returns-in-Frame-clause-told c =
    let is : c.args.heard.said.said ≡ said.Frame = search rules in
    tells_as (known_of c.args.self.now) c.args.line.text.now c.args.heard _ _ _ c.args.heard.said.said said.Frame is c.tell_frame.ensures.told

pub returns-then-take_row-clause-told : goal.returns-then-take_row-clause-told
returns-then-take_row-clause-told c =
    let is : c.args.heard.said.said ≡ said.Part = search rules in
    let kept : c.take_row.result ≡ true = search rules in
    tells_as (known_of c.args.self.now) c.args.line.text.now c.args.heard _ _ _ c.args.heard.said.said said.Part is
    (tells_part (length c.args.self.now.rows.places.items) c.args.heard (c.take_row.ensures.room.0 kept))

pub returns-else-take_row-clause-told : goal.returns-else-take_row-clause-told
returns-else-take_row-clause-told c =
    let is : c.args.heard.said.said ≡ said.Part = search rules in
    let failed : c.take_row.result ≡ false = search rules in
    tells_as (known_of c.args.self.now) c.args.line.text.now c.args.heard _ _ _ c.args.heard.said.said said.Part is
    (tells_no_part (length c.args.self.now.rows.places.items) c.args.heard c.take_row.result failed c.take_row.ensures.room.1)

pub returns-in-Stream-clause-told : goal.returns-in-Stream-clause-told
returns-in-Stream-clause-told c =
    let is : c.args.heard.said.said ≡ said.Stream = search rules in
    tells_as (known_of c.args.self.now) c.args.line.text.now c.args.heard _ _ _ c.args.heard.said.said said.Stream is c.tell_stream.ensures.told

pub returns-in-Stream-clause-words : goal.returns-in-Stream-clause-words
returns-in-Stream-clause-words c = c.tell_stream.ensures.words c.args.line.text.now

pub returns-in-Idle-clause-told : goal.returns-in-Idle-clause-told
returns-in-Idle-clause-told c =
    let is : c.args.heard.said.said ≡ said.Idle = search rules in
    tells_as (known_of c.args.self.now) c.args.line.text.now c.args.heard _ _ _ c.args.heard.said.said said.Idle is refl

pub returns-in-Other-clause-told : goal.returns-in-Other-clause-told
returns-in-Other-clause-told c =
    let is : c.args.heard.said.said ≡ said.Other = search rules in
    tells_as (known_of c.args.self.now) c.args.line.text.now c.args.heard _ _ _ c.args.heard.said.said said.Other is c.tell_other.ensures.told

pub returns-in-Frame-clause-left : goal.returns-in-Frame-clause-left
returns-in-Frame-clause-left c =
    let is : c.args.heard.said.said ≡ said.Frame = search rules in
    left_same _ c.args.heard _ _ _ said.Frame is (λ no. absurd (cc)) (λ opened. ap state_of c.tell_frame.ensures.reading)

pub returns-then-take_row-clause-left : goal.returns-then-take_row-clause-left
returns-then-take_row-clause-left c =
    let kept : c.take_row.result ≡ true = search rules in
    left_part _ c.args.heard _ _ _
    (ap₂ (λ (state : Rows) (rows : ℕ). record { state = state; rows = rows }) (ap (λ r. state_of r.reading) c.take_row.ensures.kept) (c.take_row.ensures.rows kept))

pub returns-else-take_row-clause-left : goal.returns-else-take_row-clause-left
returns-else-take_row-clause-left c = left_closed _ c.args.heard _ _ c.close.ensures.closed

pub returns-in-Stream-clause-left : goal.returns-in-Stream-clause-left
returns-in-Stream-clause-left c =
    let is : c.args.heard.said.said ≡ said.Stream = search rules in
    left_same _ c.args.heard _ _ _ said.Stream is (λ no. absurd (cc)) (λ opened. ap state_of (c.tell_stream.ensures.open opened))

pub returns-in-Idle-clause-left : goal.returns-in-Idle-clause-left
returns-in-Idle-clause-left c =
    let is : c.args.heard.said.said ≡ said.Idle = search rules in
    left_same _ c.args.heard _ _ _ said.Idle is (λ no. absurd (cc)) (λ opened. refl)

pub returns-in-Other-clause-left : goal.returns-in-Other-clause-left
returns-in-Other-clause-left c =
    let is : c.args.heard.said.said ≡ said.Other = search rules in
    left_same _ c.args.heard _ _ _ said.Other is (λ no. absurd (cc)) (λ opened. ap state_of (c.tell_other.ensures.open opened))
