-- The messages of one type differ in length by a multiple of three and none begins another, but for types of any length.
use Rattle.fio_message.proofs.Names.{◌≡◌, ℕ, zero, suc, ◌+◌, ◌*◌, ◌%◌, List, [], ◌∷◌, ◌++◌, length, get_or, Option, Some, None, sym, ap, subst, ◌∙◌, arith, length-append, AllByRecursion, same_Some, SpellsCommand, SpellsAnswer}
use Rattle.std.specs.Prelude.{Contains}
use Rattle.std.proofs.lemmas.List.{get_or_append_left}
use Rattle.std.proofs.Math.Nat.{add-mul-mod_self_left}
use Rattle.fio_message.specs.Laws.{BeginsNoOther, DiffersByThrees, TakesAnyLength}
use Rattle.fio_message.proofs.Grammar.{IsGrammar}
use Rattle.fio_message.proofs.CommandLaws.{command_grammar}
use Rattle.fio_message.proofs.AnswerLaws.{answer_grammar}
use Rattle.fio_message.proofs.TypeLengths.{HasLength, Fixed, Counted, AnyLength, Unknown, any_commands, any_answers, command_has_length, answer_has_length}

-- what holds of each number of a list holds of one that it contains
of_contained : (P : ℕ → Type 0) (numbers : List ℕ) (n : ℕ) → AllByRecursion P numbers → Contains numbers n → P n
of_contained P [] n all in_list = absurd (omega (arith, in_list.1))
of_contained P (first ∷ rest) n all (zero, le, is) = subst P is all.0
of_contained P (first ∷ rest) n all (suc k, le, is) = of_contained P rest n all.1 (k, omega (arith, le), is)

module _ (length_of : List ℕ → Option ℕ) where
  -- the fields after a code have the number that they need
  abbrev pub AreNeeded : ℕ → List ℕ → Type 0
  AreNeeded code fields = length_of (code ∷ fields) ≡ Some (suc (length fields))

  -- of fields that have the number that they need, none begin others, and the numbers differ by a multiple of three
  pub record Keeps (code : ℕ) : Type 0 where
    pub begins :
        (octet : ℕ) (fields more : List ℕ) → AreNeeded code fields → AreNeeded code (fields ++ octet ∷ more) → ⊥
    pub threes :
        (fields others : List ℕ) → AreNeeded code fields → AreNeeded code others
        → length fields % 3 ≡ length others % 3

module _ (any_length : List ℕ) (length_of : List ℕ → Option ℕ) where
  -- the number of fields is the base and a multiple of three
  rest_of : (code base place : ℕ)
      → ((fields : List ℕ) → length_of (code ∷ fields) ≡ Some (suc (base + 3 * get_or fields place 0)))
      → (fields : List ℕ) → AreNeeded length_of code fields → length fields % 3 ≡ base % 3
  rest_of code base place needs fields a =
      let size : base + 3 * get_or fields place 0 ≡ length fields = omega (arith, same_Some _ _ (sym (needs fields) ∙ a)) in
      ap (λ (k : ℕ). k % 3) (sym size) ∙ add-mul-mod_self_left base 3 (get_or fields place 0)

  -- a type that is not among those of any length keeps its length
  keeps : (code : ℕ) → HasLength any_length length_of code → (Contains any_length code → ⊥) → Keeps length_of code
  keeps code (Fixed n fits needs) other = record {
    begins = λ octet fields more a b.
        omega (arith, same_Some _ _ (sym (needs fields) ∙ a), same_Some _ _ (sym (needs (fields ++ octet ∷ more)) ∙ b), length-append fields (octet ∷ more));
    threes = λ fields others a b.
        let same : length fields ≡ length others =
        omega (arith, same_Some _ _ (sym (needs fields) ∙ a), same_Some _ _ (sym (needs others) ∙ b)) in
        ap (λ (k : ℕ). k % 3) same;
  }
  keeps code (Counted base place within fits needs) other = record {
    begins = λ octet fields more a b.
        let one : base + 3 * get_or fields place 0 ≡ length fields = omega (arith, same_Some _ _ (sym (needs fields) ∙ a)) in
        let two = same_Some _ _ (sym (needs (fields ++ octet ∷ more)) ∙ b) in
        let same = get_or_append_left fields (octet ∷ more) 0 place (omega (arith, one, within)) in
        omega (arith, one, two, same, length-append fields (octet ∷ more));
    threes = λ fields others a b. rest_of code base place needs fields a ∙ sym (rest_of code base place needs others b);
  }
  keeps code (AnyLength listed needs) other = absurd (other listed)
  keeps code (Unknown none) other =
      let no : (fields : List ℕ) → AreNeeded length_of code fields → ⊥ =
      λ fields a. let both : None ≡ Some (suc (length fields)) = sym (none fields) ∙ a in absurd cc in
      record { begins = λ octet fields more a b. no fields a; threes = λ fields others a b. absurd (no fields a) }

module _ {V : Type 0} {Spells : V → List ℕ → Type 0} {any_length : List ℕ} {length_of : List ℕ → Option ℕ}
    {read : ℕ → List ℕ → V} (has_length : (code : ℕ) → HasLength any_length length_of code)
    (grammar : IsGrammar Spells length_of read) where
  -- what a message spells has the length that it needs
  spelled_needed : (message : V) (code : ℕ) (fields : List ℕ) → Spells message (code ∷ fields)
      → AreNeeded length_of code fields
  spelled_needed message code fields p =
      let whole = (grammar.read_as message (code ∷ fields) p).whole in whole.needs

  begins_no_other : BeginsNoOther Spells any_length
  begins_no_other a b code octet fields more other p q =
      (keeps any_length length_of code (has_length code) other).begins octet fields more (spelled_needed a code fields p)
      (spelled_needed b code (fields ++ octet ∷ more) q)

  differs_by_threes : DiffersByThrees Spells any_length
  differs_by_threes a b code fields others other p q =
      (keeps any_length length_of code (has_length code) other).threes fields others (spelled_needed a code fields p)
      (spelled_needed b code others q)

  takes_any_length : AllByRecursion (λ code. (fields : List ℕ) → AreNeeded length_of code fields) any_length
      → TakesAnyLength Spells any_length
  takes_any_length any code fields is octets short = (
    read code fields,
    grammar.takes code fields octets short
        (of_contained (λ code. (fields : List ℕ) → AreNeeded length_of code fields) any_length code any is fields),
  )

pub commands_begin_no_other : BeginsNoOther SpellsCommand any_commands
commands_begin_no_other = begins_no_other command_has_length command_grammar

pub commands_differ_by_threes : DiffersByThrees SpellsCommand any_commands
commands_differ_by_threes = differs_by_threes command_has_length command_grammar

pub commands_take_any_length : TakesAnyLength SpellsCommand any_commands
commands_take_any_length =
    takes_any_length command_has_length command_grammar
    (λ f. ap Some (omega arith), (λ f. ap Some (omega arith), (λ f. ap Some (omega arith), tt)))

pub answers_begin_no_other : BeginsNoOther SpellsAnswer any_answers
answers_begin_no_other = begins_no_other answer_has_length answer_grammar

pub answers_differ_by_threes : DiffersByThrees SpellsAnswer any_answers
answers_differ_by_threes = differs_by_threes answer_has_length answer_grammar

pub answers_take_any_length : TakesAnyLength SpellsAnswer any_answers
answers_take_any_length =
    takes_any_length answer_has_length answer_grammar
    (λ f. ap Some (omega arith), (λ f. ap Some (omega arith), (λ f. ap Some (omega arith), (λ f. ap Some (omega arith), (λ f. ap Some (omega arith), tt)))))
