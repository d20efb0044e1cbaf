-- The octets of a text are in it from its first character to the last one of the last octet.
use Rattle.std.proofs.Common.{ℕ, ◌≡◌, ◌≢◌, Bool, true, false, List, [], ◌∷◌, ◌++◌, refl, sym, ap, subst, ◌∙◌, inl, inr}
use Rattle.std.specs.Prelude.{◌+◌, ◌-◌, ◌*◌, ◌%◌, ◌&&◌, ◌||◌, if◌then◌else◌, nat_le, nat_lt, ◌==◌, ◌⊎◌}
use Rattle.std.proofs.lemmas.Bool.{cases_Bool}
use Rattle.fio_form.specs.Forms.{hex_value, is_decimal, is_hex}
use Rattle.fio_form.specs.Octets.{goes_longer, longer_in, negative_by, next_column, next_decimal, next_in, next_negative, next_text, next_unsigned, number_by, octets_from, rest_from, rest_in, run_in, steps_at}
use Rattle.fio_form.specs.Texts.{escaped, is_octal, next_hex_escape, next_prefixed, next_second, next_short, octal_by, short_by}
use Rattle.fio_form.specs.declared.form.Digits.{Digits}
use Rattle.fio_form.specs.declared.form.Digits.TheVariants as digits
use Rattle.fio_form.specs.declared.form.Step.{Step}
use Rattle.fio_form.specs.declared.form.Step.TheVariants.{Octet, Mark, MaybeBlank}
use Rattle.fio_form.specs.declared.octets.Begun.{Begun}
use Rattle.fio_form.specs.declared.octets.Begun.TheVariants.{Nothing, Fixed, Number, Negative, Short, Zero, Escape, HexEscape, OctalEscape, Lead}
use Rattle.fio_form.specs.declared.octets.NextDigit.{NextDigit}
use Rattle.fio_form.specs.declared.octets.NextDigit.TheVariants.{More, Last, Emit, Stop}

-- ---- An octet that is whole before more is whole at the end of a text

-- what is whole is so still
abbrev pub Keeps : NextDigit → NextDigit → Type 0
Keeps (Last value) alone = alone ≡ Last value
Keeps (Emit value begun) alone = alone ≡ Emit value begun
Keeps _ alone = Unit {0}

kept : (next : NextDigit) → Keeps next next
kept (Last value) = refl
kept (Emit value begun) = refl
kept _ = tt

-- the same below two tests, of which the second one stops
inner : (a b : Bool) (x y : NextDigit) → Keeps x y → Keeps (if a then (if b then Stop else x) else Stop) (if a then (if b then Stop else y) else Stop)
inner true true x y h = tt
inner true false x y h = h
inner false b x y h = tt

begun_by : (b : Bool) (begun : Begun) (x y : NextDigit) → Keeps x y → Keeps (if b then More begun else x) (if b then More begun else y)
begun_by true begun x y h = tt
begun_by false begun x y h = h

or_stop : (b : Bool) (x y : NextDigit) → Keeps x y → Keeps (if b then x else Stop) (if b then y else Stop)
or_stop true x y h = h
or_stop false x y h = tt

quiet : (b : Bool) (begun : Begun) (alone : NextDigit) → Keeps (if b then More begun else Stop) alone
quiet true begun alone = tt
quiet false begun alone = tt

unsigned_kept : (value character : ℕ) → Keeps (next_unsigned value character true) (next_unsigned value character false)
unsigned_kept value character =
    inner (is_decimal character) (nat_lt 255 (10 * value + (character - 48)))
    (number_by true (10 * value + (character - 48))) (number_by false (10 * value + (character - 48))) tt

negative_kept : (value character : ℕ) → Keeps (next_negative value character true) (next_negative value character false)
negative_kept value character =
    inner (is_decimal character) (nat_lt 128 (10 * value + (character - 48)))
    (negative_by true (10 * value + (character - 48))) (negative_by false (10 * value + (character - 48))) tt

decimal_kept : (begun : Begun) (character : ℕ) → Keeps (next_decimal begun character true) (next_decimal begun character false)
decimal_kept Nothing character =
    begun_by (character == 45) (Negative 0) (next_unsigned 0 character true) (next_unsigned 0 character false) (unsigned_kept 0 character)
decimal_kept (Number value) character = unsigned_kept value character
decimal_kept (Negative value) character = negative_kept value character
decimal_kept _ character = tt

column_kept : (begun : Begun) (character : ℕ) → Keeps (next_column begun character true) (next_column begun character false)
column_kept Nothing character =
    begun_by (character == 32) Nothing (next_unsigned 0 character true) (next_unsigned 0 character false) (unsigned_kept 0 character)
column_kept (Number value) character = unsigned_kept value character
column_kept _ character = tt

short_kept : (value count : ℕ) → Keeps (short_by true value count) (short_by false value count)
short_kept value count =
    quiet (nat_lt count 8 && (count == 1 || (count == 7 || value == 255))) (Short value count) (short_by false value count)

first_short : (character : ℕ) →
    Keeps (if is_hex character then short_by true (hex_value character) 1 else Stop) (if is_hex character then short_by false (hex_value character) 1 else Stop)
first_short character =
    or_stop (is_hex character) (short_by true (hex_value character) 1) (short_by false (hex_value character) 1) (short_kept (hex_value character) 1)

next_short_kept : (begun : Begun) (character : ℕ) → Keeps (next_short begun character true) (next_short begun character false)
next_short_kept (Short value count) character =
    inner (is_hex character) (nat_lt 7 count) (short_by true ((16 * value + hex_value character) % 256) (count + 1))
    (short_by false ((16 * value + hex_value character) % 256) (count + 1)) (short_kept ((16 * value + hex_value character) % 256) (count + 1))
next_short_kept _ character = first_short character

escape_kept : (character : ℕ) → Keeps (next_hex_escape character true) (next_hex_escape character false)
escape_kept character = quiet (is_hex character) (Fixed (hex_value character) 1) (next_hex_escape character false)

second_by : (b : Bool) (value : ℕ) (alone : NextDigit) → Keeps (if b && false then Last value else Stop) alone
second_by true value alone = tt
second_by false value alone = tt

prefixed_kept : (begun : Begun) (character : ℕ) → Keeps (next_prefixed begun character true) (next_prefixed begun character false)
prefixed_kept Nothing character = quiet (character == 48) Zero (next_prefixed Nothing character false)
prefixed_kept Zero character = kept (next_prefixed Zero character false)
prefixed_kept HexEscape character = escape_kept character
prefixed_kept (Fixed value left) character = second_by (is_hex character) (16 * value + hex_value character) (next_second value character false)
prefixed_kept _ character = tt

octal_by_kept : (b : Bool) (begun : Begun) (value : ℕ) → Keeps (if b then More begun else Last value) (Last value)
octal_by_kept true begun value = tt
octal_by_kept false begun value = refl

octal_kept : (value left : ℕ) → Keeps (octal_by true value left) (octal_by false value left)
octal_kept value left = octal_by_kept (nat_lt value 32 && nat_lt 0 left) (OctalEscape value left) value

escaped_by : (a b c : Bool) (x y rest : NextDigit) → Keeps x y →
    Keeps (if a then More HexEscape else if b then More (Fixed 0 4) else if c then x else rest)
    (if a then More HexEscape else if b then More (Fixed 0 4) else if c then y else rest)
escaped_by true b c x y rest h = tt
escaped_by false true c x y rest h = tt
escaped_by false false true x y rest h = h
escaped_by false false false x y rest h = kept rest

text_kept : (quote : ℕ) (begun : Begun) (character : ℕ) → Keeps (next_text quote begun character true) (next_text quote begun character false)
text_kept quote Nothing character = kept (next_text quote Nothing character false)
text_kept quote Escape character =
    escaped_by (character == 120) (character == 117) (is_octal character) (octal_by true (character - 48) 2) (octal_by false (character - 48) 2)
    (if nat_le 32 character && nat_le character 126 then Last (escaped character) else Stop) (octal_kept (character - 48) 2)
text_kept quote HexEscape character = escape_kept character
text_kept quote (OctalEscape value left) character =
    inner (is_octal character && nat_lt 0 left) (nat_lt 255 (8 * value + (character - 48)))
    (octal_by true (8 * value + (character - 48)) (left - 1)) (octal_by false (8 * value + (character - 48)) (left - 1))
    (octal_kept (8 * value + (character - 48)) (left - 1))
text_kept quote (Lead upper) character = kept (next_text quote (Lead upper) character false)
text_kept quote (Fixed value left) character = kept (next_text quote (Fixed value left) character false)
text_kept quote _ character = tt

next_kept : (written : Digits) (begun : Begun) (character : ℕ) → Keeps (next_in written begun character true) (next_in written begun character false)
next_kept digits.Decimal begun character = decimal_kept begun character
next_kept digits.Columns begun character = column_kept begun character
next_kept digits.Short begun character = next_short_kept begun character
next_kept digits.Prefixed begun character = prefixed_kept begun character
next_kept (digits.Text quote) begun character = text_kept quote begun character
next_kept other begun character = kept (next_in other begun character false)

alone_kept : (written : Digits) (begun : Begun) (character : ℕ) (longer : Bool) →
    Keeps (next_in written begun character longer) (next_in written begun character false)
alone_kept written begun character true = next_kept written begun character
alone_kept written begun character false = kept (next_in written begun character false)

-- ---- The part of a text that has its octets

steps_same : (cycle steps : List Step) (x : ℕ) (s t : List ℕ) → steps_at cycle steps (x ∷ s) ≡ steps_at cycle steps (x ∷ t)
steps_same cycle (MaybeBlank ∷ steps) x s t =
    elim (x == 32) as (λ b. (if b then MaybeBlank ∷ steps else steps_at cycle steps (x ∷ s)) ≡ (if b then MaybeBlank ∷ steps else steps_at cycle steps (x ∷ t)))
    [ true ↦ refl | false ↦ steps_same cycle steps x s t ]
steps_same cycle _ x s t = refl

-- there are more octets in a text: they are in a part of it, and the rest is after that
pub record Has (written : Digits) (cycle steps : List Step) (begun : Begun) (octets text : List ℕ) : Type 0 where
  pub first : ℕ
  pub more : List ℕ
  pub behind : List ℕ
  pub whole : text ≡ first ∷ (more ++ behind)
  pub rest : (above : List ℕ) → rest_from written cycle steps begun above text ≡ behind
  pub alone : octets_from written cycle steps begun octets (first ∷ more) ≡ octets_from written cycle steps begun octets text
  pub closed : (above : List ℕ) → rest_from written cycle steps begun above (first ∷ more) ≡ []

-- there are no more
pub record HasNone (written : Digits) (cycle steps : List Step) (begun : Begun) (octets text : List ℕ) : Type 0 where
  pub same : octets_from written cycle steps begun octets text ≡ octets
  pub rest : (above : List ℕ) → rest_from written cycle steps begun above text ≡ above

abbrev pub Splits : Digits → List Step → List Step → Begun → List ℕ → List ℕ → Type 0
Splits written cycle steps begun octets text = Has written cycle steps begun octets text ⊎ HasNone written cycle steps begun octets text

on_mark : (written : Digits) (cycle : List Step) (mark : ℕ) (steps : List Step) (begun : Begun) (octets : List ℕ) (x : ℕ) (text : List ℕ) →
    (x == mark) ≡ true → Splits written cycle (steps_at cycle steps text) Nothing octets text →
    Splits written cycle (Mark mark ∷ steps) begun octets (x ∷ text)
on_mark written cycle mark steps begun octets x text is (inl h) =
    let s : steps_at cycle steps (h.first ∷ h.more) ≡ steps_at cycle steps text =
    steps_same cycle steps h.first h.more (h.more ++ h.behind) ∙ ap (steps_at cycle steps) (sym h.whole) in
    inl (record {
      first = x;
      more = h.first ∷ h.more;
      behind = h.behind;
      whole = ap (λ (t : List ℕ). x ∷ t) h.whole;
      rest = λ above. rw is (h.rest above);
      alone = rw (is, s) h.alone;
      closed = λ above. rw (is, s) (h.closed above);
    })
on_mark written cycle mark steps begun octets x text is (inr h) =
    inr (record { same = rw is h.same; rest = λ above. rw is (h.rest above) })

on_blank : (written : Digits) (cycle steps : List Step) (begun : Begun) (octets : List ℕ) (x : ℕ) (text : List ℕ) →
    (x == 32) ≡ true → Splits written cycle (steps_at cycle steps text) Nothing octets text →
    Splits written cycle (MaybeBlank ∷ steps) begun octets (x ∷ text)
on_blank written cycle steps begun octets x text is (inl h) =
    let s : steps_at cycle steps (h.first ∷ h.more) ≡ steps_at cycle steps text =
    steps_same cycle steps h.first h.more (h.more ++ h.behind) ∙ ap (steps_at cycle steps) (sym h.whole) in
    inl (record {
      first = x;
      more = h.first ∷ h.more;
      behind = h.behind;
      whole = ap (λ (t : List ℕ). x ∷ t) h.whole;
      rest = λ above. rw is (h.rest above);
      alone = rw (is, s) h.alone;
      closed = λ above. rw (is, s) (h.closed above);
    })
on_blank written cycle steps begun octets x text is (inr h) =
    inr (record { same = rw is h.same; rest = λ above. rw is (h.rest above) })

on_more : (written : Digits) (cycle steps : List Step) (begun more : Begun) (octets : List ℕ) (x : ℕ) (text : List ℕ) →
    next_in written begun x (longer_in written begun text) ≡ More more → Splits written cycle (Octet ∷ steps) more octets text →
    Splits written cycle (Octet ∷ steps) begun octets (x ∷ text)
on_more written cycle steps begun more octets x text is (inl h) =
    let same : longer_in written begun text ≡ goes_longer written begun h.first = ap (longer_in written begun) h.whole in
    let e : next_in written begun x (goes_longer written begun h.first) ≡ More more = subst (λ (b : Bool). next_in written begun x b ≡ More more) same is in
    inl (record {
      first = x;
      more = h.first ∷ h.more;
      behind = h.behind;
      whole = ap (λ (t : List ℕ). x ∷ t) h.whole;
      rest = λ above. rw is (h.rest above);
      alone = rw (is, e) h.alone;
      closed = λ above. rw e (h.closed above);
    })
on_more written cycle steps begun more octets x text is (inr h) =
    inr (record { same = rw is h.same; rest = λ above. rw is (h.rest above) })

on_last : (written : Digits) (cycle steps : List Step) (begun : Begun) (value : ℕ) (octets : List ℕ) (x : ℕ) (text : List ℕ) →
    next_in written begun x (longer_in written begun text) ≡ Last value →
    Splits written cycle (steps_at cycle steps text) Nothing (octets ++ value ∷ []) text →
    Splits written cycle (Octet ∷ steps) begun octets (x ∷ text)
on_last written cycle steps begun value octets x text is (inl h) =
    let same : longer_in written begun text ≡ goes_longer written begun h.first = ap (longer_in written begun) h.whole in
    let e : next_in written begun x (goes_longer written begun h.first) ≡ Last value = subst (λ (b : Bool). next_in written begun x b ≡ Last value) same is in
    let s : steps_at cycle steps (h.first ∷ h.more) ≡ steps_at cycle steps text =
    steps_same cycle steps h.first h.more (h.more ++ h.behind) ∙ ap (steps_at cycle steps) (sym h.whole) in
    inl (record {
      first = x;
      more = h.first ∷ h.more;
      behind = h.behind;
      whole = ap (λ (t : List ℕ). x ∷ t) h.whole;
      rest = λ above. rw is (h.rest text);
      alone = rw (is, e, s) h.alone;
      closed = λ above. rw (e, s) (h.closed (h.first ∷ h.more));
    })
on_last written cycle steps begun value octets x text is (inr h) =
    let e : next_in written begun x false ≡ Last value =
    subst (λ (next : NextDigit). Keeps next (next_in written begun x false)) is (alone_kept written begun x (longer_in written begun text)) in
    inl (record {
      first = x;
      more = [];
      behind = text;
      whole = refl;
      rest = λ above. rw is (h.rest text);
      alone = rw (is, e) (sym h.same);
      closed = λ above. rw e refl;
    })

on_emit : (written : Digits) (cycle steps : List Step) (begun : Begun) (value : ℕ) (more : Begun) (octets : List ℕ) (x : ℕ) (text : List ℕ) →
    next_in written begun x (longer_in written begun text) ≡ Emit value more →
    Splits written cycle (Octet ∷ steps) more (octets ++ value ∷ []) text →
    Splits written cycle (Octet ∷ steps) begun octets (x ∷ text)
on_emit written cycle steps begun value more octets x text is (inl h) =
    let same : longer_in written begun text ≡ goes_longer written begun h.first = ap (longer_in written begun) h.whole in
    let e : next_in written begun x (goes_longer written begun h.first) ≡ Emit value more = subst (λ (b : Bool). next_in written begun x b ≡ Emit value more) same is in
    inl (record {
      first = x;
      more = h.first ∷ h.more;
      behind = h.behind;
      whole = ap (λ (t : List ℕ). x ∷ t) h.whole;
      rest = λ above. rw is (h.rest text);
      alone = rw (is, e) h.alone;
      closed = λ above. rw e (h.closed (h.first ∷ h.more));
    })
on_emit written cycle steps begun value more octets x text is (inr h) =
    let e : next_in written begun x false ≡ Emit value more =
    subst (λ (next : NextDigit). Keeps next (next_in written begun x false)) is (alone_kept written begun x (longer_in written begun text)) in
    inl (record {
      first = x;
      more = [];
      behind = text;
      whole = refl;
      rest = λ above. rw is (h.rest text);
      alone = rw (is, e) (sym h.same);
      closed = λ above. rw e refl;
    })

by_octet : (written : Digits) (cycle steps : List Step) (begun : Begun) (octets : List ℕ) (x : ℕ) (text : List ℕ) (next : NextDigit) →
    next_in written begun x (longer_in written begun text) ≡ next →
    ((more : Begun) → Splits written cycle (Octet ∷ steps) more octets text) →
    ((value : ℕ) → Splits written cycle (steps_at cycle steps text) Nothing (octets ++ value ∷ []) text) →
    ((value : ℕ) (more : Begun) → Splits written cycle (Octet ∷ steps) more (octets ++ value ∷ []) text) →
    Splits written cycle (Octet ∷ steps) begun octets (x ∷ text)
by_octet written cycle steps begun octets x text (More more) is a b c = on_more written cycle steps begun more octets x text is (a more)
by_octet written cycle steps begun octets x text (Last value) is a b c = on_last written cycle steps begun value octets x text is (b value)
by_octet written cycle steps begun octets x text (Emit value more) is a b c = on_emit written cycle steps begun value more octets x text is (c value more)
by_octet written cycle steps begun octets x text Stop is a b c = inr (record { same = rw is refl; rest = λ above. rw is refl })

splits : (written : Digits) (cycle steps : List Step) (begun : Begun) (octets text : List ℕ) → Splits written cycle steps begun octets text
splits written cycle steps begun octets [] = inr (record { same = refl; rest = λ above. refl })
splits written cycle [] begun octets (x ∷ text) = inr (record { same = refl; rest = λ above. refl })
splits written cycle (Mark mark ∷ steps) begun octets (x ∷ text) = elim (cases_Bool (x == mark)) [
  | inl is ↦ on_mark written cycle mark steps begun octets x text is (splits written cycle (steps_at cycle steps text) Nothing octets text)
  | inr other ↦ inr (record { same = rw other refl; rest = λ above. rw other refl })
]
splits written cycle (MaybeBlank ∷ steps) begun octets (x ∷ text) = elim (cases_Bool (x == 32)) [
  | inl is ↦ on_blank written cycle steps begun octets x text is (splits written cycle (steps_at cycle steps text) Nothing octets text)
  | inr other ↦ inr (record { same = rw other refl; rest = λ above. rw other refl })
]
splits written cycle (Octet ∷ steps) begun octets (x ∷ text) =
    by_octet written cycle steps begun octets x text (next_in written begun x (longer_in written begun text)) refl
    (λ more. splits written cycle (Octet ∷ steps) more octets text)
    (λ value. splits written cycle (steps_at cycle steps text) Nothing (octets ++ value ∷ []) text)
    (λ value more. splits written cycle (Octet ∷ steps) more (octets ++ value ∷ []) text)

-- the octets that a text begins with are those of a part of it, and nothing is left there; the rest is after that
pub record IsSplit (written : Digits) (cycle : List Step) (text : List ℕ) : Type 0 where
  pub part : List ℕ
  pub whole : text ≡ part ++ rest_in written cycle text
  pub octets : run_in written cycle part ≡ run_in written cycle text
  pub rest : rest_in written cycle part ≡ []

split_by : (written : Digits) (cycle : List Step) (text : List ℕ) → run_in written cycle text ≢ [] →
    Splits written cycle cycle Nothing [] text → IsSplit written cycle text
split_by written cycle text some (inl h) = record {
  part = h.first ∷ h.more;
  whole = h.whole ∙ ap (λ (t : List ℕ). h.first ∷ (h.more ++ t)) (sym (h.rest text));
  octets = h.alone;
  rest = h.closed (h.first ∷ h.more);
}
split_by written cycle text some (inr h) = absurd (some h.same)

pub is_split : (written : Digits) (cycle : List Step) (text : List ℕ) → run_in written cycle text ≢ [] → IsSplit written cycle text
is_split written cycle text some = split_by written cycle text some (splits written cycle cycle Nothing [] text)
