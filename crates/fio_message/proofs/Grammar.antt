-- What the laws and the decoders need of each kind of message: what is spelled is read back, and whole octets are spelled.
use Rattle.fio_message.proofs.Names.{◌≡◌, ℕ, suc, ◌≤◌, List, ◌∷◌, length, Option, Some, sym, ap, subst, ◌∙◌, arith, BODY_OCTETS, IsOctets, IsWhole}
use Rattle.fio_message.proofs.Whole.{fields_fit, fields_needed}

-- the octets are whole, and read as this message
pub record IsReadAs {V : Type 0} (length_of : List ℕ → Option ℕ) (read : ℕ → List ℕ → V)
    (message : V) (octets : List ℕ) : Type 0 where
  pub code : ℕ
  pub fields : List ℕ
  pub whole : IsWhole (length_of octets) octets code fields
  pub again : read code fields ≡ message

-- octets with this code and the length needed are spelled by what is read from them
abbrev pub Takes : {V : Type 0} → (V → List ℕ → Type 0) → (List ℕ → Option ℕ) → (ℕ → List ℕ → V) → ℕ → Type 0
Takes Spells length_of read code =
    (fields : List ℕ) → IsOctets fields → length fields ≤ BODY_OCTETS
    → length_of (code ∷ fields) ≡ Some (suc (length fields)) → Spells (read code fields) (code ∷ fields)

-- a kind of messages: what they spell, how many octets they need, and how their fields are read
pub record IsGrammar {V : Type 0} (Spells : V → List ℕ → Type 0) (length_of : List ℕ → Option ℕ)
    (read : ℕ → List ℕ → V) : Type 0 where
  pub read_as : (message : V) (octets : List ℕ) → Spells message octets → IsReadAs length_of read message octets
  pub takes : (code : ℕ) → Takes Spells length_of read code

-- a code and fields that fit in a frame, have the length that they need, and are read as this message
pub record IsReadAgain {V : Type 0} (length_of : List ℕ → Option ℕ) (read : ℕ → List ℕ → V)
    (message : V) (code : ℕ) (fields : List ℕ) : Type 0 where
  pub again : read code fields ≡ message
  pub needed : length_of (code ∷ fields) ≡ Some (suc (length fields))
  pub short : length fields ≤ BODY_OCTETS
  pub octets : IsOctets (code ∷ fields)

-- octets that are such a code and fields are read as the message
pub read_as_again : {V : Type 0} {length_of : List ℕ → Option ℕ} {read : ℕ → List ℕ → V} {message : V}
    {code : ℕ} {fields : List ℕ} → IsReadAgain length_of read message code fields
    → (octets : List ℕ) → octets ≡ code ∷ fields → IsReadAs length_of read message octets
read_as_again {length_of = length_of} {code = code} {fields = fields} a octets is =
    let len = ap length is in
    record {
      code = code;
      fields = fields;
      whole = record {
        parts = is;
        frame = omega (arith, a.short);
        needs = ap length_of is ∙ a.needed ∙ ap Some (sym len);
      };
      again = a.again;
    }

-- whole octets are spelled by what is read from them
pub whole_is_spelled : {V : Type 0} {Spells : V → List ℕ → Type 0} {length_of : List ℕ → Option ℕ}
    {read : ℕ → List ℕ → V} → IsGrammar Spells length_of read
    → (octets : List ℕ) (code : ℕ) (fields : List ℕ) → IsOctets octets
    → IsWhole (length_of octets) octets code fields → Spells (read code fields) octets
whole_is_spelled {Spells = Spells} {length_of = length_of} {read = read} grammar octets code fields h whole =
    let each : IsOctets fields = (rw whole.parts at h).1 in
    let fit = fields_fit (length_of octets) octets code fields whole in
    let needed = fields_needed length_of octets code fields whole in
    subst (λ (o : List ℕ). Spells (read code fields) o) (sym whole.parts) (grammar.takes code fields each fit needed)
