-- The front that is written is the one that is read.
use Rattle.std.proofs.Common.{◌≡◌, ◌≢◌, ℕ, Some, None, true, false, Bool, List, [], ◌∷◌, ◌++◌, refl, sym, ap, ◌∙◌, append_assoc, eq-eqb, inl, inr}
use Rattle.std.specs.Prelude.{not, ◌==◌, ◌&&◌, ◌⊎◌}
use Rattle.std.specs.List.{AllByRecursion}
use Rattle.std.proofs.lemmas.Bool.{and_parts, not-true, cases_Bool, eqb-true}
use Rattle.std.proofs.lemmas.Option.{same_Some}
use Rattle.fio_form.specs.Forms.{is_space_or_tab, is_blanks, is_decimal, is_hex, is_last, is_numeric, is_part, is_quotation, is_shut, are_shut}
use Rattle.fio_form.specs.Fronts.{after_digits, after_front, after_piece, has_value, past, taken_parts}
use Rattle.fio_form.specs.Writing.{AreSome, IsPadded, IsPiece, IsQuote, AreFrontTexts, joined}
use Rattle.fio_form.specs.declared.form.Digits.{Digits}
use Rattle.fio_form.specs.declared.form.Piece.{Piece}
use Rattle.fio_form.specs.declared.form.Piece.TheVariants.{Character, Decimal, Hexadecimal, Blanks, Padded, Quote, Value}
use Rattle.fio_form.proofs.Characters.{blank_apart, decimal_hex, digit_apart, hex_not_blank, quote_apart}

-- ---- What is written is read

-- whether a text begins with a character of a piece
abbrev pub begins_part : Piece → List ℕ → Bool
begins_part piece [] = false
begins_part piece (character ∷ text) = is_part piece character

pub past_all : (piece : Piece) (parts rest : List ℕ) → AllByRecursion (λ part. is_part piece part ≡ true) parts → begins_part piece rest ≡ false
    → past piece (parts ++ rest) ≡ rest
past_all piece [] [] all ends = refl
past_all piece [] (x ∷ rest) all ends = rw ends
past_all piece (d ∷ parts) rest all ends = rw (all.0) (past_all piece parts rest all.1 ends)

pub taken_all : (piece : Piece) (parts rest : List ℕ) → AllByRecursion (λ part. is_part piece part ≡ true) parts → begins_part piece rest ≡ false
    → taken_parts piece (parts ++ rest) ≡ parts
taken_all piece [] [] all ends = refl
taken_all piece [] (x ∷ rest) all ends = rw ends refl
taken_all piece (d ∷ parts) rest all ends = rw (all.0) (ap (λ t. d ∷ t) (taken_all piece parts rest all.1 ends))

padded_as : (values text : List ℕ) → after_piece values Padded text ≡ after_digits (past Blanks text)
padded_as values [] = refl
padded_as values (x ∷ text) = refl

no_digit : (rest : List ℕ) → begins_part Padded rest ≡ false → begins_part Hexadecimal rest ≡ false
no_digit [] ends = refl
no_digit (x ∷ rest) ends = ends

digits_written : (number rest : List ℕ) → AreSome is_hex number → begins_part Padded rest ≡ false → after_digits (number ++ rest) ≡ Some rest
digits_written [] rest is ends = absurd (is.0 refl)
digits_written (d ∷ number) rest is ends = rw (is.1.0) (ap Some (past_all Hexadecimal number rest is.1.1 (no_digit rest ends)))

digits_not_blank : (number rest : List ℕ) → AreSome is_hex number → begins_part Blanks (number ++ rest) ≡ false
digits_not_blank [] rest is = absurd (is.0 refl)
digits_not_blank (d ∷ number) rest is = hex_not_blank d is.1.0

padded_written : (values text rest : List ℕ) → IsPadded text → begins_part Padded rest ≡ false → after_piece values Padded (text ++ rest) ≡ Some rest
padded_written values text rest is ends =
    padded_as values (text ++ rest)
    ∙ (ap (λ t. after_digits (past Blanks (t ++ rest))) is.whole
    ∙ (ap (λ t. after_digits (past Blanks t)) (append_assoc is.blanks is.number rest)
    ∙ (ap after_digits (past_all Blanks is.blanks (is.number ++ rest) is.all (digits_not_blank is.number rest is.is))
    ∙ digits_written is.number rest is.is ends)))

pub after_written : (values : List ℕ) (piece : Piece) (text rest : List ℕ) → IsPiece values piece text → begins_part piece rest ≡ false
    → after_piece values piece (text ++ rest) ≡ Some rest
after_written values (Character mark) text rest is ends = rw is (rw (eq-eqb mark mark refl))
after_written values Padded text rest is ends = padded_written values text rest is ends
after_written values Quote [] rest is ends = absurd is
after_written values Quote (quote ∷ []) rest is ends = rw is refl
after_written values Quote (quote ∷ (x ∷ text)) rest is ends = absurd is
after_written values Value [] rest is ends = absurd (is.0.0 refl)
after_written values Value (d ∷ parts) rest is ends =
    let known : has_value values (d ∷ taken_parts Value (parts ++ rest)) ≡ true = ap (λ t. has_value values (d ∷ t)) (taken_all Value parts rest is.0.1.1 ends) ∙ is.1 in
    rw (is.0.1.0) (rw known (ap Some (past_all Value parts rest is.0.1.1 ends)))
after_written values _ [] rest is ends = absurd (is.0 refl)
after_written values other (d ∷ parts) rest is ends = rw (is.1.0) (ap Some (past_all other parts rest is.1.1 ends))

some_apart : (test : ℕ → Bool) (piece : Piece) (text rest : List ℕ) → AreSome test text → ((x : ℕ) → test x ≡ true → is_part piece x ≡ false)
    → begins_part piece (text ++ rest) ≡ false
some_apart test piece [] rest some apart = absurd (some.0 refl)
some_apart test piece (x ∷ text) rest some apart = apart x some.1.0

mark_apart : (piece : Piece) (mark : ℕ) (text rest : List ℕ) → text ≡ mark ∷ [] → not (is_part piece mark) ≡ true → begins_part piece (text ++ rest) ≡ false
mark_apart piece mark text rest is shut = rw is (not-true (is_part piece mark) shut)

padded_begins : (piece : Piece) (blanks number rest : List ℕ) → AllByRecursion (λ x. is_space_or_tab x ≡ true) blanks → AreSome is_hex number
    → not (is_numeric piece) ≡ true → not (is_blanks piece) ≡ true → begins_part piece ((blanks ++ number) ++ rest) ≡ false
padded_begins piece [] [] rest all is none not_ = absurd (is.0 refl)
padded_begins piece [] (d ∷ number) rest all is none not_ = digit_apart piece d none is.1.0
padded_begins piece (blank ∷ blanks) number rest all is none not_ = blank_apart piece blank not_ all.0

padded_apart : (piece : Piece) (text rest : List ℕ) → IsPadded text → (not (is_numeric piece) && not (is_blanks piece)) ≡ true → begins_part piece (text ++ rest) ≡ false
padded_apart piece text rest is shut =
    let parts = and_parts (not (is_numeric piece)) (not (is_blanks piece)) shut in
    ap (λ t. begins_part piece (t ++ rest)) is.whole ∙ padded_begins piece is.blanks is.number rest is.all is.is parts.0 parts.1

quote_begins : (piece : Piece) (text rest : List ℕ) → IsQuote text → begins_part piece (text ++ rest) ≡ false
quote_begins piece (quote ∷ []) rest is = quote_apart piece quote is
quote_begins piece _ rest is = absurd is

pub ends : (digits : Digits) (values : List ℕ) (piece : Piece) (front : List Piece) (texts : List (List ℕ)) (rest : List ℕ) → AreFrontTexts values front texts → is_shut digits piece front ≡ true
    → ((piece : Piece) → is_last digits piece ≡ true → begins_part piece rest ≡ false) → begins_part piece (joined texts ++ rest) ≡ false
ends digits values piece [] [] rest are shut octet = octet piece shut
ends digits values piece [] (text ∷ texts) rest are shut octet = absurd are
ends digits values piece (next ∷ front) [] rest are shut octet = absurd are
ends digits values piece (Character mark ∷ front) (text ∷ texts) rest are shut octet = rw append_assoc (mark_apart piece mark text (joined texts ++ rest) are.0 shut)
ends digits values piece (Blanks ∷ front) (text ∷ texts) rest are shut octet = rw append_assoc (some_apart is_space_or_tab piece text (joined texts ++ rest) are.0 (λ x. blank_apart piece x shut))
ends digits values piece (Decimal ∷ front) (text ∷ texts) rest are shut octet =
    rw append_assoc (some_apart is_decimal piece text (joined texts ++ rest) are.0 (λ x is. digit_apart piece x shut (decimal_hex x is)))
ends digits values piece (Hexadecimal ∷ front) (text ∷ texts) rest are shut octet = rw append_assoc (some_apart is_hex piece text (joined texts ++ rest) are.0 (λ x. digit_apart piece x shut))
ends digits values piece (Padded ∷ front) (text ∷ texts) rest are shut octet = rw append_assoc (padded_apart piece text (joined texts ++ rest) are.0 shut)
ends digits values piece (Quote ∷ front) (text ∷ texts) rest are shut octet = rw append_assoc (quote_begins piece text (joined texts ++ rest) are.0)
ends digits values piece (Value ∷ front) (text ∷ texts) rest are shut octet = rw append_assoc (some_apart is_hex piece text (joined texts ++ rest) are.0.0 (λ x. digit_apart piece x shut))

pub front_read : (digits : Digits) (values : List ℕ) (front : List Piece) (texts : List (List ℕ)) (rest : List ℕ) → AreFrontTexts values front texts → are_shut digits front ≡ true
    → ((piece : Piece) → is_last digits piece ≡ true → begins_part piece rest ≡ false) → after_front values front (joined texts ++ rest) ≡ Some rest
front_read digits values [] [] rest are whole octet = refl
front_read digits values [] (text ∷ texts) rest are whole octet = absurd are
front_read digits values (piece ∷ front) [] rest are whole octet = absurd are
front_read digits values (piece ∷ front) (text ∷ texts) rest are whole octet =
    let parts = and_parts (is_shut digits piece front) (are_shut digits front) whole in
    let here = after_written values piece text (joined texts ++ rest) are.0 (ends digits values piece front texts rest are.1 parts.0 octet) in
    rw append_assoc (rw here (front_read digits values front texts rest are.1 parts.1 octet))

-- ---- What is read is written

pub taken_are : (piece : Piece) (text : List ℕ) → AllByRecursion (λ part. is_part piece part ≡ true) (taken_parts piece text)
taken_are piece [] = tt
taken_are piece (x ∷ text) = elim (cases_Bool (is_part piece x)) [
  | inl h ↦ rw h (h, taken_are piece text)
  | inr h ↦ rw h tt
]

pub taken_past : (piece : Piece) (text : List ℕ) → text ≡ taken_parts piece text ++ past piece text
taken_past piece [] = refl
taken_past piece (x ∷ text) = elim (cases_Bool (is_part piece x)) [
  | inl h ↦ rw h (ap (λ t. x ∷ t) (taken_past piece text))
  | inr h ↦ rw h refl
]

-- a piece that a text begins with
record PieceOf (values : List ℕ) (piece : Piece) (line : List ℕ) : Type 0 where
  text : List ℕ
  rest : List ℕ
  is : IsPiece values piece text
  read : after_piece values piece line ≡ Some rest
  whole : line ≡ text ++ rest

pub not_empty : (x : ℕ) (xs : List ℕ) → x ∷ xs ≢ []
not_empty x xs h = cc

padded_of : (values line left : List ℕ) → past Blanks line ≡ left → (after_digits left ≡ None) ⊎ PieceOf values Padded line
padded_of values line [] same = inl refl
padded_of values line (y ∷ left) same = elim (cases_Bool (is_hex y)) [
  | inr other ↦ inl (rw other refl)
  | inl h ↦ inr (record {
    text = taken_parts Blanks line ++ (y ∷ taken_parts Hexadecimal left);
    rest = past Hexadecimal left;
    is = record { blanks = taken_parts Blanks line; number = y ∷ taken_parts Hexadecimal left; all = taken_are Blanks line; is = (not_empty y (taken_parts Hexadecimal left), (h, taken_are Hexadecimal left)); whole = refl };
    read = padded_as values line ∙ (ap after_digits same ∙ rw h refl);
    whole = taken_past Blanks line
        ∙ (ap (λ t. taken_parts Blanks line ++ t) (same ∙ ap (λ t. y ∷ t) (taken_past Hexadecimal left))
        ∙ sym (append_assoc (taken_parts Blanks line) (y ∷ taken_parts Hexadecimal left) (past Hexadecimal left)));
  })
]

piece_of : (values : List ℕ) (piece : Piece) (line : List ℕ) → (after_piece values piece line ≡ None) ⊎ PieceOf values piece line
piece_of values (Character mark) [] = inl refl
piece_of values (Character mark) (x ∷ line) = elim (cases_Bool (x == mark)) [
  | inl h ↦ inr (record { text = x ∷ []; rest = line; is = ap (λ y. y ∷ []) (eqb-true x mark h); read = rw h refl; whole = refl })
  | inr h ↦ inl (rw h refl)
]
piece_of values Decimal (x ∷ line) = elim (cases_Bool (is_decimal x)) [
  | inl h ↦ inr (record { text = x ∷ taken_parts Decimal line; rest = past Decimal line; is = (not_empty x (taken_parts Decimal line), (h, taken_are Decimal line)); read = rw h refl; whole = ap (λ t. x ∷ t) (taken_past Decimal line) })
  | inr h ↦ inl (rw h refl)
]
piece_of values Hexadecimal (x ∷ line) = elim (cases_Bool (is_hex x)) [
  | inl h ↦ inr (record { text = x ∷ taken_parts Hexadecimal line; rest = past Hexadecimal line; is = (not_empty x (taken_parts Hexadecimal line), (h, taken_are Hexadecimal line)); read = rw h refl; whole = ap (λ t. x ∷ t) (taken_past Hexadecimal line) })
  | inr h ↦ inl (rw h refl)
]
piece_of values Blanks (x ∷ line) = elim (cases_Bool (is_space_or_tab x)) [
  | inl h ↦ inr (record { text = x ∷ taken_parts Blanks line; rest = past Blanks line; is = (not_empty x (taken_parts Blanks line), (h, taken_are Blanks line)); read = rw h refl; whole = ap (λ t. x ∷ t) (taken_past Blanks line) })
  | inr h ↦ inl (rw h refl)
]
piece_of values Padded (x ∷ line) = padded_of values (x ∷ line) (past Blanks (x ∷ line)) refl
piece_of values Quote (x ∷ line) = elim (cases_Bool (is_quotation x)) [
  | inl h ↦ inr (record { text = x ∷ []; rest = line; is = h; read = rw h refl; whole = refl })
  | inr h ↦ inl (rw h refl)
]
piece_of values Value (x ∷ line) = elim (cases_Bool (is_hex x)) [
  | inl h ↦ elim (cases_Bool (has_value values (x ∷ taken_parts Value line))) [
    | inl known ↦ inr (record { text = x ∷ taken_parts Value line; rest = past Value line; is = ((not_empty x (taken_parts Value line), (h, taken_are Value line)), known); read = rw h (rw known refl); whole = ap (λ t. x ∷ t) (taken_past Value line) })
    | inr not_ ↦ inl (rw h (rw not_ refl))
  ]
  | inr h ↦ inl (rw h refl)
]
piece_of values _ [] = inl refl

none_not_some : {X : Type 0} (x : X) → None ≡ Some x → ⊥
none_not_some x h = cc

-- a line that begins as those of a form do, with the text after that
pub record Before (values : List ℕ) (front : List Piece) (line rest : List ℕ) : Type 0 where
  pub texts : List (List ℕ)
  pub pieces : AreFrontTexts values front texts
  pub whole : line ≡ joined texts ++ rest

with_piece : (values : List ℕ) (piece : Piece) (front : List Piece) (line rest : List ℕ) (one : PieceOf values piece line) → Before values front one.rest rest → Before values (piece ∷ front) line rest
with_piece values piece front line rest one more = record {
  texts = one.text ∷ more.texts;
  pieces = (one.is, more.pieces);
  whole = one.whole ∙ (ap (λ t. one.text ++ t) more.whole ∙ sym (append_assoc one.text (joined more.texts) rest));
}

pub written_front : (values : List ℕ) (front : List Piece) (line rest : List ℕ) → after_front values front line ≡ Some rest → Before values front line rest
written_front values [] line rest h = record { texts = []; pieces = tt; whole = same_Some line rest h }
written_front values (piece ∷ front) line rest h = elim (piece_of values piece line) [
  | inl missing ↦ absurd (none_not_some rest (rw missing at h))
  | inr one ↦ with_piece values piece front line rest one (written_front values front one.rest rest (rw (one.read) at h))
]
