-- Octets that are written one after the other, where there is room for them.
use Rattle.std.proofs.Common.{◌≡◌, ℕ, ◌+◌, ◌≤◌, List, [], ◌++◌, length, take, drop, sym, ap, ◌∙◌, arith, append-nil, length-drop, subst}
use Rattle.std.proofs.lemmas.List.{length-append, length-take-le, take-append-drop}
use Rattle.fio_flat.specs.Written.{Appends, WritesOn, buffer_with}
use Rattle.fio_c.proofs.Overwriting.{buffer_with-more}

-- a buffer that is written into is as long as before
length-buffer_with : (place : ℕ) (octets before : List ℕ) → place + length octets ≤ length before → length (buffer_with place octets before) ≡ length before
length-buffer_with place octets before room =
    omega (
      arith,
      room,
      length-append (take place before) (octets ++ drop (place + length octets) before),
      length-append octets (drop (place + length octets) before),
      length-take-le place before (omega (arith, room)),
      length-drop (place + length octets) before,
    )

-- no octets
pub none : (text : List ℕ) (place : ℕ) → Appends [] text text place place
none text place =
    let same : place + 0 ≡ place = omega arith in
    record {
      counted = omega arith;
      written = λ room. sym (ap (λ n. take place text ++ drop n text) same ∙ take-append-drop place text);
    }

-- two writings are one of both
pub both : (front back before middle after : List ℕ) (place inner end : ℕ)
    → Appends front before middle place inner → Appends back middle after inner end → Appends (front ++ back) before after place end
both front back before middle after place inner end first then = record {
  counted = omega (arith, first.counted, then.counted, length-append front back);
  written = λ room.
      let fits : inner ≤ length before = omega (arith, then.counted, room) in
      let here = first.written fits in
      let long : length middle ≡ length before = ap length here ∙ length-buffer_with place front before (omega (arith, first.counted, fits)) in
      buffer_with-more place inner front back before middle after first.counted (omega (arith, then.counted, room)) here (then.written (omega (arith, long, room)));
}

-- octets that are written are one text with what is written behind them
pub goes_on : (octets before after : List ℕ) (place end : ℕ) → Appends octets before after place end → WritesOn octets before after place end
goes_on octets before after place end first = record {
  counted = first.counted;
  joined = λ more last at then. both octets more before after last place end at first then;
}

-- and then nothing more
pub ends : (octets before after : List ℕ) (place end : ℕ) → WritesOn octets before after place end → Appends octets before after place end
ends octets before after place end on =
    subst (λ text. Appends text before after place end) (append-nil octets) (on.joined [] after end (none after end))
