-- Lines, and several octets at once.
use Rattle.std.proofs.Common.{◌≡◌, ℕ, suc, ◌+◌, ◌-◌, ◌<◌, ◌≤◌, ◌++◌, true, false, List, [], ◌∷◌, length, take, drop, refl, ap, sym, ◌∙◌, append_assoc, append-nil, length-append, length-drop, Result, Ok, Err, arith}
use Rattle.std.specs.Prelude.{◌==◌, nat_lt, slice_index}
use Rattle.std.specs.Result.{IsOk, OnOk}
use Rattle.std.proofs.lemmas.Bool.{false≢true}
use Rattle.std.proofs.lemmas.Bool.Decides.{nat_tests}
use Rattle.std.proofs.Math.Seq.{take-add}
use Rattle.std.proofs.lemmas.List.{length-take-le, take-append-drop}
use Rattle.std.proofs.lemmas.List.Sums.{fold-append}
use Rattle.fio_log.specs.Lines.{Text, Lines, is_plain, lines_after, only, open_line, pushed, with_all, with_octet_made, with_octet_of}
use Rattle.fio_log.specs.declared.lines.TheConstants.{LINE_OCTETS}

-- a printable octet is appended
plain-octet : (text : Text) (octet : ℕ) → is_plain octet ≡ true
    → with_octet_made (open_line text) octet ≡ open_line (pushed text octet)
plain-octet text octet plain =
    let feed : (octet == 10) ≡ false = grind (arith, nat_tests, plain) in
    let return : (octet == 13) ≡ false = grind (arith, nat_tests, plain) in
    let nul : (octet == 0) ≡ false = grind (arith, nat_tests, plain) in
    let escape : (octet == 27) ≡ false = grind (arith, nat_tests, plain) in
    let mark : (octet == 239) ≡ false = grind (arith, nat_tests, plain) in
    simp (feed, return, nul, escape, mark)

-- printable octets are appended
pub plain-lines : (octets : List ℕ) (text : Text)
    → ((place : ℕ) → place < length octets → is_plain (slice_index octets place) ≡ true)
    → lines_after (only (open_line text)) octets ≡ only (open_line (with_all text octets))
plain-lines [] text plain = refl
plain-lines (octet ∷ octets) text plain =
    let first : with_octet_of (only (open_line text)) octet ≡ only (open_line (pushed text octet)) =
    rw (plain-octet text octet (plain 0 (omega arith))) refl in
    rw first (plain-lines octets (pushed text octet) (λ place below. plain (suc place) (omega (arith, below))))

-- octets that find room are appended
pub with-fitting : (octets : List ℕ) (text : Text) → length text.octets + length octets ≤ LINE_OCTETS
    → with_all text octets ≡ record { octets = text.octets ++ octets; is_long = text.is_long }
with-fitting [] text room = rw (append-nil text.octets) refl
with-fitting (octet ∷ octets) text room =
    let test : nat_lt (length text.octets) LINE_OCTETS ≡ true = grind (arith, nat_tests, room) in
    let step : pushed text octet ≡ record { octets = text.octets ++ octet ∷ []; is_long = text.is_long } = rw test refl in
    let long : length (text.octets ++ octet ∷ []) ≡ length text.octets + 1 = length-append text.octets (octet ∷ []) in
    ap (λ t. with_all t octets) step
    ∙ with-fitting octets (record { octets = text.octets ++ octet ∷ []; is_long = text.is_long }) (omega (arith, long, room))
    ∙ ap (λ l. record { octets = l; is_long = text.is_long }) (append_assoc text.octets (octet ∷ []) octets)

-- octets that find no room make the line long
pub with-more : (octets : List ℕ) (text : Text) → LINE_OCTETS ≤ length text.octets → 0 < length octets
    → with_all text octets ≡ record { octets = text.octets; is_long = true }
with-more [] text full some = absurd (omega (arith, some))
with-more (octet ∷ []) text full some =
    let test : nat_lt (length text.octets) LINE_OCTETS ≡ false = grind (arith, nat_tests, full) in
    rw test refl
with-more (octet ∷ next ∷ octets) text full some =
    let test : nat_lt (length text.octets) LINE_OCTETS ≡ false = grind (arith, nat_tests, full) in
    let step : pushed text octet ≡ record { octets = text.octets; is_long = true } = rw test refl in
    ap (λ t. with_all t (next ∷ octets)) step
    ∙ with-more (next ∷ octets) (record { octets = text.octets; is_long = true }) full (omega arith)

-- octets that do not all find room are appended as far as they do
pub with-too-many : (octets : List ℕ) (text : Text) (room : ℕ) → room + length text.octets ≡ LINE_OCTETS
    → room < length octets
    → with_all text octets ≡ record { octets = text.octets ++ take room octets; is_long = true }
with-too-many octets text room fits more =
    let front : length (take room octets) ≡ room = length-take-le room octets (omega (arith, more)) in
    let rest : length (drop room octets) ≡ length octets - room = length-drop room octets in
    let full : Text = record { octets = text.octets ++ take room octets; is_long = text.is_long } in
    let long : length full.octets ≡ length text.octets + length (take room octets) =
    length-append text.octets (take room octets) in
    ap (λ l. with_all text l) (sym (take-append-drop room octets))
    ∙ fold-append pushed text (take room octets) (drop room octets)
    ∙ ap (λ t. with_all t (drop room octets)) (with-fitting (take room octets) text (omega (arith, front, fits)))
    ∙ with-more (drop room octets) full (omega (arith, long, front, fits)) (omega (arith, rest, more))

-- the lines after some octets are those after the first of these and then the others
pub lines-more : (lines : Lines) (count more : ℕ) (octets : List ℕ)
    → lines_after lines (take (count + more) octets)
    ≡ lines_after (lines_after lines (take count octets)) (take more (drop count octets))
lines-more lines count more octets =
    ap (λ l. lines_after lines l) (take-add count more octets)
    ∙ fold-append with_octet_of lines (take count octets) (take more (drop count octets))

-- what holds of a result if it is a value holds
pub ok-then : {T E P : Type 0} (result : Result T E) → IsOk result → OnOk result P → P
ok-then (Ok value) is on = on
ok-then (Err error) is on = absurd (false≢true is)
