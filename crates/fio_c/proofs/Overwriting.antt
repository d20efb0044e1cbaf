-- Octets that are written into a buffer one behind the other.
use Rattle.std.proofs.Common.{◌≡◌, ℕ, ◌+◌, ◌*◌, ◌<◌, ◌≤◌, List, [], ◌∷◌, ◌++◌, length, get_or, map, take, drop, refl, sym, ap, ap₂, ◌∙◌, append_assoc, arith}
use Rattle.std.specs.List.{flat_map}
use Rattle.std.proofs.lemmas.List.{length-append, length-take-le, take_more, flat_map_more}
use Rattle.std.proofs.lemmas.Slice.{drop-append-drop}
use Rattle.std.proofs.Math.Seq.{take-append_seam}
use Rattle.fio_flat.specs.Written.{Writes, WritesText, buffer_with}

-- octets that are written behind others
pub buffer_with-more : (from place : ℕ) (octets more before now after : List ℕ)
    → place ≡ from + length octets → place + length more ≤ length before
    → now ≡ buffer_with from octets before → after ≡ buffer_with place more now
    → after ≡ buffer_with from (octets ++ more) before
buffer_with-more from place octets more before now after behind room here there =
    let start = take from before in
    let front = start ++ octets in
    let end = place + length more in
    let first : length start ≡ from = length-take-le from before (omega arith) in
    let long : length front ≡ place = omega (arith, length-append start octets) in
    let is : now ≡ front ++ drop place before =
    here ∙ sym (append_assoc start octets (drop (from + length octets) before)) ∙ ap (λ n. front ++ drop n before) (sym behind) in
    let kept : take place now ≡ front =
    ap (take place) is ∙ ap (λ n. take n (front ++ drop place before)) (sym long) ∙ take-append_seam front (drop place before) in
    let rest : drop end now ≡ drop end before =
    ap (drop end) is ∙ drop-append-drop place before front end (omega arith) long in
    let ends : end ≡ from + length (octets ++ more) = omega (arith, length-append octets more) in
    there
    ∙ ap₂ (λ (a b : List ℕ). a ++ (more ++ b)) kept rest
    ∙ append_assoc start octets (more ++ drop end before)
    ∙ ap (λ (tail : List ℕ). start ++ tail) (sym (append_assoc octets more (drop end before)) ∙ ap (λ n. (octets ++ more) ++ drop n before) ends)

-- octets at the front of a buffer that has room for them are written
pub writes-whole : (octets before after : List ℕ) (count : ℕ) → length octets ≡ count → count ≤ length before
    → after ≡ buffer_with 0 octets before → Writes octets before after count
writes-whole octets before after count long room is =
    let none : 0 + length octets ≡ length octets = omega arith in
    record {
      counted = sym long;
      room = λ le. is ∙ ap (λ n. octets ++ drop n before) none;
      no_room = λ lt. absurd (omega arith);
    }

-- where there is no room for them nothing is written
pub writes-none : (octets before : List ℕ) (count : ℕ) → length octets ≡ count → length before < count
    → Writes octets before before count
writes-none octets before count long short = record {
  counted = sym long;
  room = λ le. absurd (omega arith);
  no_room = λ lt. refl;
}

-- a text and a zero octet behind it at the front of a buffer that has room for both are a text that is written
pub writes-text : (words before after : List ℕ) (count : ℕ) → count ≡ length words → count < length before
    → after ≡ buffer_with 0 (words ++ (0 ∷ [])) before → WritesText words before after count
writes-text words before after count long room is =
    let whole = words ++ (0 ∷ []) in
    let one : 0 + length whole ≡ 1 + length words = omega (arith, length-append words (0 ∷ [])) in
    record {
      counted = long;
      room = λ lt. is ∙ ap (λ n. whole ++ drop n before) one ∙ append_assoc words (0 ∷ []) (drop (1 + length words) before);
      no_room = λ le. absurd (omega arith);
    }

module _ {X : Type 0} (spelled : X → List ℕ) (three : (part : X) → length (spelled part) ≡ 3) where
  -- parts have three octets each
  pub length-spelled : (parts : List X) → length (flat_map spelled parts) ≡ 3 * length parts
  length-spelled [] = refl
  length-spelled (part ∷ parts) =
      omega (arith, length-append (spelled part) (flat_map spelled parts), length-spelled parts, three part)

  -- one part more is written
  pub part-more : (from place i : ℕ) (parts : List X) (blank : X) (before now after : List ℕ)
      → place ≡ from + 3 * i → i < length parts → from + 3 * length parts ≤ length before
      → now ≡ buffer_with from (flat_map spelled (take i parts)) before
      → after ≡ buffer_with place (spelled (get_or parts i blank)) now
      → after ≡ buffer_with from (flat_map spelled (take (i + 1) parts)) before
  part-more from place i parts blank before now after at lt room here there =
      let part = get_or parts i blank in
      let octets = flat_map spelled (take i parts) in
      let long : length octets ≡ 3 * i = omega (arith, length-spelled (take i parts), length-take-le i parts (omega arith)) in
      let last = three part in
      let more : octets ++ spelled part ≡ flat_map spelled (take (i + 1) parts) =
      flat_map_more spelled [] (take i parts) part ∙ ap (flat_map spelled) (sym (take_more parts i blank lt)) in
      buffer_with-more from place octets (spelled part) before now after (omega arith) (omega arith) here there
      ∙ ap (λ o. buffer_with from o before) more

-- what parts spell that are read from a list of C
pub spelled-read : {X Y : Type 0} (octets_of : Y → List ℕ) (read : X → Y) (parts : List X)
    → flat_map (λ part. octets_of (read part)) parts ≡ flat_map octets_of (map read parts)
spelled-read octets_of read [] = refl
spelled-read octets_of read (part ∷ parts) = ap (λ rest. octets_of (read part) ++ rest) (spelled-read octets_of read parts)
