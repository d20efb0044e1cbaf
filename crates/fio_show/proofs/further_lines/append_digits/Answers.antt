use Rattle.std.proofs.Common.{◌≡◌, ℕ, ◌+◌, ◌-◌, ◌*◌, List, ◌++◌, [], take, drop, length, subst, ap, ap₂, sym, ◌∙◌, arith, rules, append-nil, length-drop}
use Rattle.std.proofs.lemmas.List.{nil_from_length, take-append-drop, take_all}
use Rattle.fio_text.specs.Digits.{digits_of}
use Rattle.fio_text.proofs.DigitLemmas.{digits_of-append, digits_of-none, length-digits_of}
use Rattle.fio_show.proofs.further_lines.append_digits.Goals as goal

pub parts-init : goal.parts-init
parts-init g c = record {
  room = g.met.S.TextSink.room_left _ _ [] _ _ c.requires.room (g.met.S.TextSink.nothing _) (omega (arith, c.requires.few));
  whole = λ after then. then;
}

-- from the index at which they start, the line has nothing but the digits of a part
text-of : (part line : List ℕ) (start : ℕ) → drop start line ≡ digits_of part → length line ≡ 128
    → take (128 - start) (drop start line) ≡ digits_of part
text-of part line start put long =
    take_all (128 - start) (drop start line) (omega (arith, long, length-drop start line)) ∙ put

pub append-requires : goal.append-requires
append-requires g c =
    let part = c.split_at.result.0.now in
    let put = c.put_hexadecimal-start.ensures.put ∙ ap (λ more. digits_of part ++ more) c.line_end-end.ensures.empty ∙ append-nil (digits_of part) in
    let text = text-of part c.put_hexadecimal-start.new.line c.put_hexadecimal-start.result put c.put_hexadecimal-start.array_long in
    g.met.S.TextSink.room_left _ _ [] _ _ c.parts.invariant.room (g.met.S.TextSink.nothing _)
    (omega (arith, ap length text, length-digits_of part, c.split_at.ensures.front_len, c.split_at.ensures.back_len))

pub parts-preserved : goal.parts-preserved
parts-preserved g c =
    let part = c.split_at.result.0.now in
    let rest = c.split_at.result.1.now in
    let whole : part ++ rest ≡ c.parts.left.now =
    ap₂ (λ a b. a ++ b) c.split_at.ensures.front c.split_at.ensures.back ∙ take-append-drop c.min.result c.parts.left.now in
    let put = c.put_hexadecimal-start.ensures.put ∙ ap (λ more. digits_of part ++ more) c.line_end-end.ensures.empty ∙ append-nil (digits_of part) in
    let text = text-of part c.put_hexadecimal-start.new.line c.put_hexadecimal-start.result put c.put_hexadecimal-start.array_long in
    let appended = subst (λ octets. g.S.TextSink.takes c.parts.sink octets c.append.new.self) text c.in_ok-append.ensures in
    record {
      room = g.met.S.TextSink.room_left _ _ _ _ _ c.parts.invariant.room appended
          (omega (arith, length-digits_of part, c.split_at.ensures.front_len, c.split_at.ensures.back_len));
      whole = λ after then. c.parts.invariant.whole after
          (subst (λ octets. g.S.TextSink.takes c.parts.sink octets after) (sym (digits_of-append part rest) ∙ ap digits_of whole)
          (g.met.S.TextSink.both _ _ _ _ _ appended then));
    }

pub returns : goal.returns
returns g c =
    let none_left : length c.parts.left.now ≡ 0 = search rules in
    let left : c.parts.left.now ≡ [] = nil_from_length c.parts.left.now none_left in
    record {
      text = c.parts.invariant.whole _
          (subst (λ octets. g.S.TextSink.takes c.parts.sink octets c.parts.sink) (sym (ap digits_of left ∙ digits_of-none)) (g.met.S.TextSink.nothing _));
      room = subst (λ count. g.S.TextSink.has_room c.parts.sink (2 * count + 1)) none_left c.parts.invariant.room;
    }
