-- Which answer a struct of C is, with its entries and its body.
use Rattle.std.proofs.Common.{◌≡◌, ℕ, ◌≤◌, true, List, [], length, Option, Some, None, refl, sym, ap, subst, ◌∙◌, arith}
use Rattle.std.proofs.lemmas.List.{length-map, nil_from_length}
use Rattle.std.proofs.lemmas.Option.{same_Some}
use Rattle.fio_message.specs.declared.limits.TheConstants.{BODY_OCTETS}
use Rattle.fio_message.proofs.Cases.{◌⊳◌, IsNoneFrom, at_codes}
use Rattle.fio_message.specs.Answers.{other_answer_code, other_answer_of}
use Rattle.fio_message.specs.declared.answers.Answer.{Answer}
use Rattle.fio_message.specs.declared.answers.Answer.TheVariants as answers
use Rattle.fio_message.specs.declared.answers.OtherAnswer.{OtherAnswer}
use Rattle.fio_message.specs.declared.answers.OtherAnswer.TheVariants.{SetOutputs, TrackInputs, ComplexOutputs, ControllerId, Identify}
use Rattle.fio_c.specs.declared.blocks.FlatEntry.{FlatEntry}
use Rattle.fio_c.specs.declared.answers.FlatAnswer.{FlatAnswer}
use Rattle.fio_c.specs.Flat.{flat_answer, answer_of_type, read_entry, read_entries, are_entries}
use Rattle.fio_c.specs.Given.{IsAnswerGiven, answer_by_type, fixed_answer, answer_entries, answer_body}

-- the flat form counts the entries and the octets of the body
counted : (answer : Answer) → (flat_answer answer).count ≡ length (answer_entries answer)
counted (answers.Block block entries status stamp) = refl
counted other = refl

long : (answer : Answer) → (flat_answer answer).body ≡ length (answer_body answer)
long (answers.Other kind body) = refl
long other = refl

-- the count of a struct is that of the entries, and its body has as many octets as the body
pub answer_counts : (flat : FlatAnswer) (list : List FlatEntry) (octets : List ℕ) (answer : Answer)
    → IsAnswerGiven flat list octets answer → (flat.count ≡ length list) × (flat.body ≡ length octets)
answer_counts flat list octets answer given = (
  ap (λ (f : FlatAnswer). f.count) given.flat ∙ counted answer ∙ ap length (sym given.entries) ∙ length-map list read_entry,
  ap (λ (f : FlatAnswer). f.body) given.flat ∙ long answer ∙ ap length (sym given.body),
)

-- the flat form of an answer has the fields of its type alone
flat_by_type : (answer : Answer) → flat_answer answer ≡ answer_by_type (flat_answer answer)
flat_by_type (answers.Other SetOutputs body) = refl
flat_by_type (answers.Other TrackInputs body) = refl
flat_by_type (answers.Other ComplexOutputs body) = refl
flat_by_type (answers.Other ControllerId body) = refl
flat_by_type (answers.Other Identify body) = refl
flat_by_type other = refl

pub answer_kept : (flat : FlatAnswer) (list : List FlatEntry) (octets : List ℕ) (answer : Answer)
    → IsAnswerGiven flat list octets answer → flat ≡ answer_by_type flat
answer_kept flat list octets answer given =
    given.flat ∙ flat_by_type answer ∙ ap answer_by_type (sym given.flat)

-- the struct of a block is the flat form of its entries
block_flat : (flat : FlatAnswer) (list : List FlatEntry) → flat.code ≡ 182
    → flat ≡ answer_by_type flat → flat.count ≡ length list
    → flat ≡ flat_answer (answers.Block flat.block (record { items = read_entries list }) flat.status flat.stamp)
block_flat flat list code whole count =
    whole
    ∙ ap answer_by_type (ap (λ n. record flat { code = n }) code)
    ∙ ap (λ n. record (answer_of_type 182) { block = flat.block; count = n; status = flat.status; stamp = flat.stamp })
    (count ∙ sym (length-map list read_entry))

-- it is a block
pub block_given : (flat : FlatAnswer) (list : List FlatEntry) (octets : List ℕ) → flat.code ≡ 182
    → flat ≡ answer_by_type flat → flat.count ≡ length list → flat.body ≡ length octets → are_entries list ≡ true
    → IsAnswerGiven flat list octets (answers.Block flat.block (record { items = read_entries list }) flat.status flat.stamp)
block_given flat list octets code whole count body named =
    let is = block_flat flat list code whole count in
    let none : length octets ≡ 0 = omega (arith, body, ap (λ (f : FlatAnswer). f.body) is) in
    record { flat = is; entries = refl; named = named; body = nil_from_length octets none; short = omega (arith, none) }

-- a type is that of the answer that has it
code_of_other : (code : ℕ) (kind : OtherAnswer) → other_answer_of code ≡ Some kind → code ≡ other_answer_code kind
code_of_other code kind is = grind arith

-- with this type the struct is the flat form of its body
of_body : (flat : FlatAnswer) (octets : List ℕ) (code : ℕ) → flat.code ≡ code → flat ≡ answer_by_type flat
    → answer_by_type (record flat { code = code }) ≡ record (answer_of_type code) { body = flat.body }
    → flat.body ≡ length octets → flat ≡ record (answer_of_type code) { body = length octets }
of_body flat octets code is whole computed body =
    whole
    ∙ ap answer_by_type (ap (λ n. record flat { code = n }) is)
    ∙ computed
    ∙ ap (λ n. record (answer_of_type code) { body = n }) body

-- the struct of an answer that has only a body is the flat form of its body
other_flat : (flat : FlatAnswer) (octets : List ℕ) (kind : OtherAnswer) → flat.code ≡ other_answer_code kind
    → flat ≡ answer_by_type flat → flat.body ≡ length octets
    → flat ≡ flat_answer (answers.Other kind (record { items = octets }))
other_flat flat octets SetOutputs code whole body = of_body flat octets 183 code whole refl body
other_flat flat octets TrackInputs code whole body = of_body flat octets 184 code whole refl body
other_flat flat octets ComplexOutputs code whole body = of_body flat octets 185 code whole refl body
other_flat flat octets ControllerId code whole body = of_body flat octets 187 code whole refl body
other_flat flat octets Identify code whole body = of_body flat octets 188 code whole refl body

-- it is that answer
pub other_given : (flat : FlatAnswer) (list : List FlatEntry) (octets : List ℕ) (kind : OtherAnswer)
    → other_answer_of flat.code ≡ Some kind → flat ≡ answer_by_type flat
    → flat.count ≡ length list → flat.body ≡ length octets → length octets ≤ BODY_OCTETS
    → IsAnswerGiven flat list octets (answers.Other kind (record { items = octets }))
other_given flat list octets kind is whole count body short =
    let same = other_flat flat octets kind (code_of_other flat.code kind is) whole body in
    let none : length list ≡ 0 = omega (arith, count, ap (λ (f : FlatAnswer). f.count) same) in
    let no_list = nil_from_length list none in
    record { flat = same; entries = ap read_entries no_list; named = ap are_entries no_list; body = refl; short = short }

-- The struct of an answer without entries and body is its flat form.
abbrev IsFixed : FlatAnswer → Answer → Type 0
IsFixed flat answer =
    (flat ≡ flat_answer answer) × (answer_entries answer ≡ []) × (answer_body answer ≡ [])

-- the struct of the answer that is found by its fields
taken : (flat : FlatAnswer) (found answer : Answer) → Some found ≡ Some answer → IsFixed flat found → IsFixed flat answer
taken flat found answer is fixed = subst (IsFixed flat) (same_Some found answer is) fixed

-- with this code the struct is that of the answer that is found by its fields
abbrev FixedAt : FlatAnswer → Answer → ℕ → Type 0
FixedAt flat answer code =
    fixed_answer (record flat { code = code }) ≡ Some answer
    → record flat { code = code } ≡ answer_by_type (record flat { code = code })
    → IsFixed (record flat { code = code }) answer

-- no other type has an answer without entries and body
unknown : (flat : FlatAnswer) (code : ℕ) → IsNoneFrom code 177 10 → fixed_answer (record flat { code = code }) ≡ None
unknown flat code none =
    simp (none.0, none.1.0, none.1.1.0, none.1.1.1.0, none.1.1.1.1.0, none.1.1.1.1.1.1.1.1.1.0) refl

fixed_flat : (flat : FlatAnswer) (answer : Answer) → fixed_answer flat ≡ Some answer
    → flat ≡ answer_by_type flat → IsFixed flat answer
fixed_flat flat answer =
    at_codes (FixedAt flat answer) 177 10 flat.code
    ((λ is whole. taken (record flat { code = 177 }) (answers.Status flat.flags flat.receive_errors flat.transmit_errors flat.stamp) answer is (whole, refl, refl))
    ⊳ (λ is whole. taken (record flat { code = 178 }) (answers.LoadCounter flat.status) answer is (whole, refl, refl))
    ⊳ (λ is whole. taken (record flat { code = 179 }) (answers.ConfigureInputs flat.status) answer is (whole, refl, refl))
    ⊳ (λ is whole. taken (record flat { code = 180 }) (answers.RawInputs flat.inputs flat.stamp) answer is (whole, refl, refl))
    ⊳ (λ is whole. taken (record flat { code = 181 }) (answers.FilteredInputs flat.inputs flat.stamp) answer is (whole, refl, refl))
    ⊳ (λ is whole. absurd (cc is))
    ⊳ (λ is whole. absurd (cc is))
    ⊳ (λ is whole. absurd (cc is))
    ⊳ (λ is whole. absurd (cc is))
    ⊳ (λ is whole. taken (record flat { code = 186 }) (answers.Watchdog flat.status) answer is (whole, refl, refl))
    ⊳ tt)
    (λ none is whole. absurd (cc (sym (unknown flat flat.code none) ∙ is)))

-- a struct without an answer is that of none
pub no_fixed : (flat : FlatAnswer) (list : List FlatEntry) (octets : List ℕ) (found : Option Answer)
    → fixed_answer flat ≡ found → flat ≡ answer_by_type flat
    → flat.count ≡ length list → flat.body ≡ length octets
    → ((answer : Answer) → IsAnswerGiven flat list octets answer → ⊥) → found ≡ None
no_fixed flat list octets None is whole count body refused = refl
no_fixed flat list octets (Some answer) is whole count body refused =
    let fixed = fixed_flat flat answer is whole in
    let list_none = nil_from_length list (omega (arith, count, ap (λ (f : FlatAnswer). f.count) fixed.0, counted answer, ap length fixed.1)) in
    let none : length octets ≡ 0 = omega (arith, body, ap (λ (f : FlatAnswer). f.body) fixed.0, long answer, ap length fixed.2) in
    let octets_none = nil_from_length octets none in
    absurd (refused answer (record {
      flat = fixed.0;
      entries = ap read_entries list_none ∙ sym fixed.1;
      named = ap are_entries list_none;
      body = octets_none ∙ sym fixed.2;
      short = omega (arith, none);
    }))
