use Rattle.std.proofs.Common.{◌≡◌, ◌≢◌, ℕ, ◌+◌, ◌<◌, List, [], ◌∷◌, ◌++◌, zero, suc, length, take, drop, get_or, refl, ap, ◌∙◌, arith, append_assoc, add-one, false}
use Rattle.std.proofs.lemmas.Bool.{ne_eqb}
use Rattle.std.proofs.lemmas.List.{take_more, flat_map_more}
use Rattle.std.proofs.Math.Dec.{eqb}
use Rattle.std.specs.List.{AllByRecursion, flat_map}
use Rattle.fio_text.specs.Lines.{lines_of, text_of, IsOneLine}

-- the first line feed ends the first line
pub lines_of-at : (text : List ℕ) (i : ℕ) → i < length text → ((k : ℕ) → k < i → get_or text k 0 ≡ 10 → ⊥) → get_or text i 0 ≡ 10
    → lines_of text ≡ take i text ∷ lines_of (drop (i + 1) text)
lines_of-at [] i h before at = absurd (omega arith)
lines_of-at (octet ∷ rest) zero h before at = let e : octet ≡ 10 = at in rw e refl
lines_of-at (octet ∷ rest) (suc i) h before at =
    let other : eqb octet 10 ≡ false = ne_eqb octet 10 (before 0 (omega arith)) in
    let later = lines_of-at rest i (omega arith) (λ k less. before (suc k) (omega arith)) at in
    rw (add-one, other, later, add-one) refl

-- a text without a line feed is one line
pub lines_of-whole : (text : List ℕ) → 0 < length text → ((k : ℕ) → k < length text → get_or text k 0 ≡ 10 → ⊥)
    → lines_of text ≡ text ∷ []
lines_of-whole [] h none = absurd (omega arith)
lines_of-whole (octet ∷ []) h none =
    let other : eqb octet 10 ≡ false = ne_eqb octet 10 (none 0 (omega arith)) in rw other refl
lines_of-whole (octet ∷ next ∷ rest) h none =
    let other : eqb octet 10 ≡ false = ne_eqb octet 10 (none 0 (omega arith)) in
    let later = lines_of-whole (next ∷ rest) (omega arith) (λ k less. none (suc k) (omega arith)) in
    rw (other, later) refl

-- a line in front of a line feed is the first line of a text
pub lines_of-line : (line rest : List ℕ) → IsOneLine line → lines_of (line ++ (10 ∷ rest)) ≡ line ∷ lines_of rest
lines_of-line [] rest one = refl
lines_of-line (octet ∷ line) rest one =
    let other : eqb octet 10 ≡ false = ne_eqb octet 10 one.0 in
    rw (other, lines_of-line line rest one.1) refl

-- a text that is one line and not empty is its only line
pub lines_of-last : (last : List ℕ) → IsOneLine last → last ≢ [] → lines_of last ≡ last ∷ []
lines_of-last [] one some = absurd (some refl)
lines_of-last (octet ∷ []) one some =
    let other : eqb octet 10 ≡ false = ne_eqb octet 10 one.0 in rw other refl
lines_of-last (octet ∷ next ∷ rest) one some =
    let other : eqb octet 10 ≡ false = ne_eqb octet 10 one.0 in
    rw (other, lines_of-last (next ∷ rest) one.1 (λ none. cc)) refl

-- the lines of a text that was made of lines, and then what follows them
pub lines_of-text_of : (lines : List (List ℕ)) (rest : List ℕ) → AllByRecursion IsOneLine lines
    → lines_of (text_of lines ++ rest) ≡ lines ++ lines_of rest
lines_of-text_of [] rest one = refl
lines_of-text_of (line ∷ lines) rest one =
    rw (append_assoc, lines_of-line line (text_of lines ++ rest) one.0, lines_of-text_of lines rest one.1) refl

-- the items so far, and the one at this index
pub take-next : {X : Type 0} (items : List X) (place : ℕ) (item : X) → place < length items → item ≡ get_or items place item
    → take place items ++ item ∷ [] ≡ take (place + 1) items
take-next items place item within here = rw (take_more items place item within) (ap (λ one. take place items ++ one ∷ []) here)

-- what the items so far give, followed by what the one at this index gives
pub flat_map-next : {X A : Type 0} (f : X → List A) (front : List A) (items : List X) (place : ℕ) (item : X)
    → place < length items → item ≡ get_or items place item
    → (front ++ flat_map f (take place items)) ++ f item ≡ front ++ flat_map f (take (place + 1) items)
flat_map-next f front items place item within here =
    flat_map_more f front (take place items) item
    ∙ ap (λ some. front ++ flat_map f some) (take-next items place item within here)
