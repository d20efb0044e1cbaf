-- One octet or bit more of a line.
use Rattle.std.proofs.Common.{◌≡◌, ℕ, ◌+◌, ◌-◌, ◌<◌, List, [], ◌∷◌, ◌++◌, length, take, drop, get_or, Bool, true, false, refl, sym, ap, ap₂, ◌∙◌, arith, append_assoc, take-take}
use Rattle.std.specs.Prelude.{fold, if◌then◌else◌}
use Rattle.std.proofs.lemmas.List.{append-nil, take-append-drop}
use Rattle.std.proofs.lemmas.List.Sums.{fold-append}
use Rattle.std.proofs.lemmas.Bool.{false≢true}
use Rattle.std.proofs.lemmas.Grind.{common_steps}
use Rattle.fio_wire.specs.Frames.{Said, Frame, Damage, WireSettings, wire_heard, is_nothing, is_own, said_by_each}
use Rattle.fio_wire.specs.declared.heard.WireHeard.{WireHeard}
use Rattle.fio_wire.specs.declared.heard.WireHeard.TheVariants.{Message, Other}

loud : {A : Type 0} (own : Bool) → is_nothing (if own then Message else Other) ≡ true → A
loud true h = absurd (false≢true h)
loud false h = absurd (false≢true h)

-- what is heard as nothing says nothing
pub silent : (settings : WireSettings) (said : List Said) → is_nothing (wire_heard settings said) ≡ true → said ≡ []
silent settings [] h = refl
silent settings (Frame frame ∷ rest) h = loud (is_own settings frame) h
silent settings (Damage ∷ rest) h = absurd (false≢true h)

-- what two stretches of a line say
pub said_both : {R I : Type 0} (says : R → I → List Said) (next : R → I → R) (r : R) (front back : List I)
    → said_by_each says next r (front ++ back) ≡ said_by_each says next r front ++ said_by_each says next (fold next r front) back
said_both says next r [] back = refl
said_both says next r (x ∷ xs) back =
    ap (λ t. says r x ++ t) (said_both says next (next r x) xs back)
    ∙ sym (append_assoc (says r x) (said_by_each says next (next r x) xs) (said_by_each says next (fold next (next r x) xs) back))

take_next : {I : Type 0} (d : I) (line : List I) (i : ℕ) → i < length line → take (i + 1) line ≡ take i line ++ get_or line i d ∷ []
take_next d line i h = grind (arith, common_steps)

-- what a line says up to one more, if it said nothing
one_more : {R I : Type 0} (says : R → I → List Said) (next : R → I → R) (d : I) (r : R) (line : List I) (i : ℕ) → i < length line
    → said_by_each says next r (take i line) ≡ []
    → said_by_each says next r (take (i + 1) line) ≡ says (fold next r (take i line)) (get_or line i d)
one_more says next d r line i h none =
    let o = get_or line i d in
    ap (said_by_each says next r) (take_next d line i h)
    ∙ said_both says next r (take i line) (o ∷ [])
    ∙ ap (λ t. t ++ said_by_each says next (fold next r (take i line)) (o ∷ [])) none
    ∙ append-nil (says (fold next r (take i line)) o)

none_before : (front back : List Said) → front ++ back ≡ [] → front ≡ []
none_before [] back h = refl
none_before (x ∷ xs) back h = grind arith

-- the beginning of a line that says nothing says nothing
pub one_less : {R I : Type 0} (says : R → I → List Said) (next : R → I → R) (r : R) (line : List I) (i : ℕ)
    → said_by_each says next r (take i line) ≡ [] → said_by_each says next r (take (i - 1) line) ≡ []
one_less says next r line i none =
    let back = drop (i - 1) (take i line) in
    let parted : take (i - 1) line ++ back ≡ take i line = ap (λ x. x ++ back) (sym (take-take (i - 1) i line (omega arith))) ∙ take-append-drop (i - 1) (take i line) in
    none_before (said_by_each says next r (take (i - 1) line)) (said_by_each says next (fold next r (take (i - 1) line)) back)
    (sym (said_both says next r (take (i - 1) line) back) ∙ ap (said_by_each says next r) parted ∙ none)

-- what is read after one more
pub read_more : {R I : Type 0} (next : R → I → R) (d : I) (r q after : R) (line : List I) (i : ℕ) → i < length line
    → q ≡ fold next r (take i line) → after ≡ next q (get_or line i d) → after ≡ fold next r (take (i + 1) line)
read_more next d r q after line i h at on =
    on ∙ ap (λ x. next x (get_or line i d)) at
    ∙ sym (ap (fold next r) (take_next d line i h) ∙ fold-append next r (take i line) (get_or line i d ∷ []))

-- what is heard of a line with one more
pub heard_more : {R I : Type 0} (says : R → I → List Said) (next : R → I → R) (d : I) (settings now : WireSettings) (r q : R) (line : List I) (i : ℕ) (heard : WireHeard)
    → i < length line → said_by_each says next r (take i line) ≡ [] → q ≡ fold next r (take i line) → now ≡ settings
    → heard ≡ wire_heard now (says q (get_or line i d)) → heard ≡ wire_heard settings (said_by_each says next r (take (i + 1) line))
heard_more says next d settings now r q line i heard h none at same is =
    is ∙ ap₂ (λ s x. wire_heard s (says x (get_or line i d))) same at ∙ ap (wire_heard settings) (sym (one_more says next d r line i h none))
