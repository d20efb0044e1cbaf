use Rattle.std.proofs.Common.{◌≡◌, ◌<◌, ◌++◌, ◌∷◌, [], ℕ, List, length, subst, ap, refl, ◌∙◌, arith, rules}
use Rattle.std.proofs.lemmas.Result.{on_ok_weaker}
use Rattle.fio_show.specs.CommandLines.{body_text}
use Rattle.fio_text.specs.Digits.{digits_of}
use Rattle.fio_show.proofs.further_lines.append_body.Goals as goal

-- a body that is not empty is written in its digits
body-digits : (body : List ℕ) → 0 < length body → digits_of body ≡ body_text body
body-digits [] some = absurd (omega (arith, some))
body-digits (octet ∷ body) some = refl

pub append-requires : goal.append-requires
append-requires g c = g.met.S.TextSink.room_left _ _ [] _ _ c.requires (g.met.S.TextSink.nothing _) (omega arith)

pub returns : goal.returns
returns g c =
    let octets = c.as_slice-octets.result.now in
    let some : 0 < length octets = search rules in
    on_ok_weaker c.append-2.result (λ ended.
    subst (λ text. g.S.TextSink.takes c.args.sink.now text c.append-2.new.self)
    (ap (λ digits. digits ++ 10 ∷ []) (body-digits octets some) ∙ ap (λ body. body_text body ++ 10 ∷ []) c.as_slice-octets.ensures.value)
    (g.met.S.TextSink.both _ _ _ _ _ c.in_ok-append_digits.ensures.text ended)) c.append-2.ensures
