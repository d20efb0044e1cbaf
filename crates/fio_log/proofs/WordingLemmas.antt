-- The words of a line, one by one.
use Rattle.std.proofs.Common.{◌≡◌, ℕ, ◌+◌, ◌<◌, ◌≤◌, ◌||◌, ◌⊎◌, inl, inr, Bool, true, false, not, cond, List, [], ◌∷◌, length, map, take, drop, refl, sym, ap, ◌∙◌, arith, Bor}
use Rattle.std.specs.List.{All, list_any, position_or_len, prefix_len}
use Rattle.std.specs.Char.{is_ascii_alphabetic}
use Rattle.std.specs.Str.{str_eq_ignore_ascii_case}
use Rattle.std.proofs.lemmas.Bool.{cases_lt}
use Rattle.std.proofs.lemmas.List.{take_all}
use Rattle.std.proofs.lemmas.List.Splits.{slice_split_first, slice_split_none}
use Rattle.std.proofs.lemmas.List.Sums.{fails_before_first, prefix_len-le-length}
use Rattle.fio_log.specs.Wordings.{has_one_of, is_no_letter, is_one_of, words_of}

twice-not : (test : Bool) (one other : ℕ) → one ≡ other → cond test (1 + one) 0 ≡ cond (not (not test)) (1 + other) 0
twice-not true one other same = ap (λ n. 1 + n) same
twice-not false one other same = refl

-- the letters that a text begins with end at the first character that is none
pub letters_are : (text : List ℕ) → prefix_len is_ascii_alphabetic text ≡ position_or_len is_no_letter text
letters_are [] = refl
letters_are (x ∷ xs) = twice-not (is_ascii_alphabetic x) (prefix_len is_ascii_alphabetic xs) (position_or_len is_no_letter xs) (letters_are xs)

-- a test of what some values show
any-map : {X Y : Type 0} (shown : X → Y) (test : Y → Bool) (xs : List X) → list_any test (map shown xs) ≡ list_any (λ x. test (shown x)) xs
any-map shown test [] = refl
any-map shown test (x ∷ xs) = ap (λ rest. test (shown x) || rest) (any-map shown test xs)

-- a word that ends before the text does is the first of its words, and the others are those of what follows
first-word : (test : List ℕ → Bool) (text : List ℕ) → position_or_len is_no_letter text < length text
    → list_any test (words_of text)
    ≡ (test (take (position_or_len is_no_letter text) text)
    || list_any test (words_of (drop (position_or_len is_no_letter text + 1) text)))
first-word test text within = ap (list_any test) (slice_split_first is_no_letter text 0 within)

-- the characters before the first one that is no letter are letters
none-before : (text : List ℕ) → position_or_len is_no_letter text ≡ length text → All (λ one. is_no_letter one ≡ false) text
none-before text all = λ k e m. fails_before_first is_no_letter text k e (omega (arith, all, m))

-- a text without a character that is no letter is its only word
only-word : (test : List ℕ → Bool) (text : List ℕ) → position_or_len is_no_letter text ≡ length text
    → list_any test (words_of text) ≡ (test text || false)
only-word test text all = ap (list_any test) (slice_split_none is_no_letter text (none-before text all))

module _ (known : List (Bor (List ℕ))) (text : List ℕ) where
  abbrev words : List (List ℕ)
  words = map (λ one. one.now) known

  -- whether the first word of the text is one of the words
  abbrev is_first : Bool
  is_first = list_any (λ one. str_eq_ignore_ascii_case one.now (take (position_or_len is_no_letter text) text)) known

  first-tested : (is_known : Bool) → is_first ≡ is_known → is_one_of words (take (position_or_len is_no_letter text) text) ≡ is_known
  first-tested is_known tested =
      any-map (λ one. one.now) (λ one. str_eq_ignore_ascii_case one (take (position_or_len is_no_letter text) text)) known ∙ tested

  -- a text whose first word is none of some words has those that what follows has
  pub word_passed : is_first ≡ false → position_or_len is_no_letter text < length text
      → has_one_of words text ≡ has_one_of words (drop (position_or_len is_no_letter text + 1) text)
  word_passed tested within =
      first-word (is_one_of words) text within
      ∙ ap (λ is_known. is_known || has_one_of words (drop (position_or_len is_no_letter text + 1) text)) (first-tested false tested)

  whole-tested : (is_known : Bool) → is_first ≡ is_known → length text ≤ position_or_len is_no_letter text
      → is_one_of words text ≡ is_known
  whole-tested is_known tested all =
      ap (is_one_of words) (sym (take_all (position_or_len is_no_letter text) text all)) ∙ first-tested is_known tested

  length-is : length text ≤ position_or_len is_no_letter text → position_or_len is_no_letter text ≡ length text
  length-is all = omega (arith, all, prefix_len-le-length (λ one. not (is_no_letter one)) text)

  -- a text that is one word has none of some words if that is none of them
  pub words_passed : is_first ≡ false → length text ≤ position_or_len is_no_letter text → has_one_of words text ≡ false
  words_passed tested all =
      only-word (is_one_of words) text (length-is all) ∙ ap (λ is_known. is_known || false) (whole-tested false tested all)

  -- a text whose first word is one of some words has one of them
  pub word_found : is_first ≡ true → has_one_of words text ≡ true
  word_found tested = by (cases_lt (position_or_len is_no_letter text) (length text))
    where
      by : (position_or_len is_no_letter text < length text) ⊎ (length text ≤ position_or_len is_no_letter text)
          → has_one_of words text ≡ true
      by (inl within) =
          first-word (is_one_of words) text within
          ∙ ap (λ is_known. is_known || has_one_of words (drop (position_or_len is_no_letter text + 1) text)) (first-tested true tested)
      by (inr all) =
          only-word (is_one_of words) text (length-is all) ∙ ap (λ is_known. is_known || false) (whole-tested true tested all)

  -- what a test of the first word says, where the word is cut from another name of the text
  pub word_tested : (rest word : List ℕ) (is_known : Bool) → rest ≡ text → word ≡ take (position_or_len is_no_letter rest) rest
      → is_known ≡ list_any (λ one. str_eq_ignore_ascii_case one.now word) known → is_first ≡ is_known
  word_tested rest word is_known here is tested =
      sym (tested ∙ ap (λ one. list_any (λ other. str_eq_ignore_ascii_case other.now one) known)
      (is ∙ ap (λ one. take (position_or_len is_no_letter one) one) here))
