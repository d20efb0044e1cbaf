-- Decoding as a function: whole octets decode to what is read from them, and all others to the fault for which they are
-- refused.
use Rattle.fio_message.proofs.Names.{◌≡◌, ℕ, suc, ◌+◌, ◌<◌, ◌≤◌, true, false, List, [], ◌∷◌, length, Option, Some, None, Result, Ok, Err, refl, sym, ap, subst, ◌∙◌, arith, inl, inr, eq-eqb, nat_le, ok_or, and_right, le-leb, lt-leb, lt-ltb, le-ltb, ne_eqb, BODY_OCTETS, FRAME_OCTETS, DecodeError, Refuses, IsWhole, is_length, message_in, fault_in}
use Rattle.fio_message.specs.declared.faults.DecodeError.TheVariants.{Empty, TooLong, UnknownType, WrongLength}
use Rattle.fio_message.proofs.Whole.{fields_fit, fields_needed, whole_or_refused}

module _ {V : Type 0} (length_of : List ℕ → Option ℕ) (read : ℕ → List ℕ → V) where
  -- a code and fields that have the length needed, and fit in a frame, decode to what is read from them
  message_in-fitting : (code : ℕ) (fields : List ℕ) → length fields ≤ BODY_OCTETS
      → length_of (code ∷ fields) ≡ Some (suc (length fields))
      → message_in length_of read (code ∷ fields) ≡ Some (read code fields)
  unfolding message_in
  message_in-fitting code fields le needed =
      let fits : is_length (length_of (code ∷ fields)) (1 + length fields) ≡ true =
      rw needed (eq-eqb (suc (length fields)) (1 + length fields) (omega arith)) in
      rw (le-leb (length fields) BODY_OCTETS le, fits) refl

  -- whole octets decode to what is read from them
  pub message_in-whole : (octets : List ℕ) (code : ℕ) (fields : List ℕ)
      → IsWhole (length_of octets) octets code fields → message_in length_of read octets ≡ Some (read code fields)
  message_in-whole octets code fields whole =
      let fit = fields_fit (length_of octets) octets code fields whole in
      let needed = fields_needed length_of octets code fields whole in
      ap (message_in length_of read) whole.parts ∙ message_in-fitting code fields fit needed

  -- no octets are no message
  message_in-empty : message_in length_of read [] ≡ None
  unfolding message_in
  message_in-empty = refl

  -- octets that fit in no frame are no message
  message_in-long : (code : ℕ) (fields : List ℕ) → BODY_OCTETS < length fields
      → message_in length_of read (code ∷ fields) ≡ None
  unfolding message_in
  message_in-long code fields lt = rw (lt-leb (length fields) BODY_OCTETS lt) refl

  -- octets that do not have the length needed are no message
  message_in-unfit : (code : ℕ) (fields : List ℕ)
      → is_length (length_of (code ∷ fields)) (1 + length fields) ≡ false
      → message_in length_of read (code ∷ fields) ≡ None
  unfolding message_in
  message_in-unfit code fields unfit =
      rw (and_right (nat_le (length fields) BODY_OCTETS) (is_length (length_of (code ∷ fields)) (1 + length fields)) unfit) refl

  -- what a decoder of these messages returns
  abbrev pub decoded : List ℕ → Result V DecodeError
  decoded octets = ok_or (message_in length_of read octets) (fault_in (length_of octets) octets)

  -- if octets are whole, the result is what is read from them
  pub decoded-whole : (octets : List ℕ) (code : ℕ) (fields : List ℕ)
      → IsWhole (length_of octets) octets code fields → decoded octets ≡ Ok (read code fields)
  decoded-whole octets code fields whole =
      ap (λ (o : Option V). ok_or o (fault_in (length_of octets) octets)) (message_in-whole octets code fields whole)

  -- if octets are refused for a fault, the result is that fault
  pub decoded-refused : (octets : List ℕ) (fault : DecodeError)
      → Refuses (length_of octets) octets fault → decoded octets ≡ Err fault
  decoded-refused [] Empty r = ap (λ (o : Option V). ok_or o Empty) message_in-empty
  decoded-refused (code ∷ fields) Empty r = absurd cc
  decoded-refused [] (TooLong got) r = absurd (omega (arith, r.0, r.1))
  decoded-refused (code ∷ fields) (TooLong got) r =
      let long = message_in-long code fields (omega (arith, r.0, r.1)) in
      let above = lt-ltb FRAME_OCTETS (1 + length fields) (omega (arith, r.0, r.1)) in
      rw (long, above) (ap (λ (n : ℕ). Err (TooLong n)) (omega (arith, r.0)))
  decoded-refused [] (UnknownType found) r = absurd (omega (arith, r.0.0))
  decoded-refused (code ∷ fields) (UnknownType found) r =
      let unfit : is_length (length_of (code ∷ fields)) (1 + length fields) ≡ false = rw r.2 refl in
      let none = message_in-unfit code fields unfit in
      let within = le-ltb FRAME_OCTETS (1 + length fields) (omega (arith, r.0.1)) in
      rw (none, within, r.2) (ap (λ (n : ℕ). Err (UnknownType n)) (sym r.1))
  decoded-refused [] (WrongLength needed got) r = absurd (omega (arith, r.0.0, r.1))
  decoded-refused (code ∷ fields) (WrongLength needed got) r =
      let same : got ≡ 1 + length fields = omega (arith, r.1) in
      let unfit : is_length (length_of (code ∷ fields)) (1 + length fields) ≡ false =
      rw r.2 (ne_eqb needed (1 + length fields) (λ e. r.3 (e ∙ sym same))) in
      let none = message_in-unfit code fields unfit in
      let within = le-ltb FRAME_OCTETS (1 + length fields) (omega (arith, r.0.1, same)) in
      rw (none, within, r.2) (ap (λ (n : ℕ). Err (WrongLength needed n)) (sym same))

  -- a fault is the result only if octets are refused for it
  pub refused-decoded : (octets : List ℕ) (fault : DecodeError)
      → decoded octets ≡ Err fault → Refuses (length_of octets) octets fault
  refused-decoded octets fault e =
      elim (whole_or_refused (length_of octets) octets) [
        | inl whole ↦ let ok = decoded-whole octets whole.0 whole.1 whole.2 in absurd cc
        | inr other ↦
            let err = decoded-refused octets other.0 other.1 in
            let same : other.0 ≡ fault = cc in
            subst (λ (f : DecodeError). Refuses (length_of octets) octets f) same other.1
      ]

  -- both, if the length needed is computed first
  pub whole-by : (needed : Option ℕ) (octets : List ℕ) (code : ℕ) (fields : List ℕ) → needed ≡ length_of octets
      → IsWhole needed octets code fields → decoded octets ≡ Ok (read code fields)
  whole-by needed octets code fields is whole = decoded-whole octets code fields (rw is at whole)

  pub refused-by : (needed : Option ℕ) (octets : List ℕ) (fault : DecodeError) → needed ≡ length_of octets
      → Refuses needed octets fault → decoded octets ≡ Err fault
  refused-by needed octets fault is r = decoded-refused octets fault (rw is at r)
