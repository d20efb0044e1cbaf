-- What octets are is what a line says.
use Rattle.std.proofs.Common.{◌≡◌, ℕ, ◌+◌, ◌-◌, ◌<◌, ◌≤◌, true, false, List, ◌++◌, length, refl, sym, ap, ◌∙◌, eq-eqb, inl, inr, arith}
use Rattle.std.specs.Prelude.{Bool, not, nat_le, nat_lt, ◌==◌, ◌&&◌, drop, take}
use Rattle.std.proofs.lemmas.Bool.{and_parts, cases_Bool, eqb-true, ltb-true, not-true}
use Rattle.std.proofs.lemmas.Bool.Decides.{nat_tests}
use Rattle.std.proofs.lemmas.List.{drop-append-le, length-drop, length-take-le, take-append-drop, take_at}
use Rattle.fio_form.specs.Messages.{is_message, size_of}
use Rattle.fio_form.specs.Reading.{Frame, Damaged, is_bare, octets_between, said_by_octets, said_in_octets, said_whole, said_wrapped}
use Rattle.fio_form.specs.Wholes.{held_of, whole_any, whole_by_size, whole_known, whole_of}
use Rattle.fio_form.specs.declared.form.LineForm.{LineForm}
use Rattle.fio_form.specs.declared.message.Size.{Size}
use Rattle.fio_form.specs.declared.message.Size.TheVariants as sizes
use Rattle.fio_form.specs.declared.octets.TheConstants.{OCTETS}
use Rattle.fio_form.specs.declared.reading.Whole.{Whole}
use Rattle.fio_form.proofs.Saying.{said_bare}
use Rattle.fio_form.proofs.Sizes.{sized}
use Rattle.fio_form.proofs.Wholing.{bare_whole}

-- the octets of a message, and those after it
abbrev message_of : ℕ → ℕ → List ℕ → List ℕ
message_of before after octets = octets_between before (length octets - after) octets

abbrev check_of : ℕ → List ℕ → List ℕ
check_of after octets = drop (length octets - after) octets

kept_size : (before after : ℕ) (octets : List ℕ) → before + after < length octets → length (take (length octets - after) octets) ≡ length octets - after
kept_size before after octets some = length-take-le (length octets - after) octets (omega arith)

divide : (before after : ℕ) (octets : List ℕ) → before + after < length octets → drop before octets ≡ message_of before after octets ++ check_of after octets
divide before after octets some =
    let kept = kept_size before after octets some in
    ap (drop before) (sym (take-append-drop (length octets - after) octets))
    ∙ drop-append-le before (take (length octets - after) octets) (check_of after octets) (omega (arith, kept))

message_size : (before after : ℕ) (octets : List ℕ) → before + after < length octets → length (message_of before after octets) ≡ length octets - after - before
message_size before after octets some =
    omega (arith, kept_size before after octets some, length-drop before (take (length octets - after) octets))

taken : (before after size : ℕ) (octets : List ℕ) → before + after < length octets → size ≡ length octets - after - before
    → take size (drop before octets) ≡ message_of before after octets
taken before after size octets some is =
    ap (take size) (divide before after octets some)
    ∙ take_at (message_of before after octets) (check_of after octets) size (omega (arith, is, message_size before after octets some))

said_yes : (before after : ℕ) (octets : List ℕ) → nat_lt (before + after) (length octets) ≡ true → is_message (message_of before after octets) ≡ true
    → said_by_octets before after octets ≡ Frame (message_of before after octets)
said_yes before after octets more is = rw (more, is) refl

said_no : (before after : ℕ) (octets : List ℕ) → nat_lt (before + after) (length octets) ≡ true → is_message (message_of before after octets) ≡ false
    → said_by_octets before after octets ≡ Damaged
said_no before after octets more is = rw (more, is) refl

-- ---- A message of a known length

known_yes : (before after size : ℕ) (octets : List ℕ) → nat_lt (before + after) (length octets) ≡ true → is_message (message_of before after octets) ≡ true
    → size ≡ length (message_of before after octets) → said_whole (whole_known false before after size octets) octets ≡ said_by_octets before after octets
known_yes before after size octets more is same =
    let some = ltb-true (before + after) (length octets) more in
    let count : size ≡ length octets - after - before = omega (arith, same, message_size before after octets some) in
    let whole : length octets ≡ before + size + after = omega (arith, count, some) in
    let enough : nat_lt (length octets) (before + size + after) ≡ false = grind (arith, nat_tests) in
    let all : (length octets == before + size + after) ≡ true = eq-eqb (length octets) (before + size + after) whole in
    let message : is_message (take size (drop before octets)) ≡ true = ap is_message (taken before after size octets some count) ∙ is in
    let end : before + size ≡ length octets - after = omega (arith, count, some) in
    let here : said_whole (whole_known false before after size octets) octets ≡ Frame (octets_between before (before + size) octets) = rw (enough, all, message) refl in
    here ∙ (ap (λ (place : ℕ). Frame (octets_between before place octets)) end ∙ sym (said_yes before after octets more is))

known_no : (before after size : ℕ) (octets : List ℕ) → nat_lt (before + after) (length octets) ≡ true → is_message (message_of before after octets) ≡ false
    → said_whole (whole_known false before after size octets) octets ≡ Damaged
known_no before after size octets more is = elim (cases_Bool (nat_lt (length octets) (before + size + after))) [
  | inl short ↦ rw short refl
  | inr enough ↦ elim (cases_Bool (length octets == before + size + after)) [
    | inr other ↦ rw (enough, other) refl
    | inl all ↦ (
        let some = ltb-true (before + after) (length octets) more in
        let count : size ≡ length octets - after - before = omega (arith, eqb-true (length octets) (before + size + after) all) in
        let message : is_message (take size (drop before octets)) ≡ false = ap is_message (taken before after size octets some count) ∙ is in
        rw (enough, all, message) refl)
  ]
]

-- ---- A message of any length

any_said : (before after : ℕ) (octets : List ℕ) → nat_lt (before + after) (length octets) ≡ true
    → said_whole (whole_any false before after octets) octets ≡ said_by_octets before after octets
any_said before after octets more =
    let some = ltb-true (before + after) (length octets) more in
    let same = ap is_message (taken before after (length octets - after - before) octets some refl) in
    elim (cases_Bool (is_message (message_of before after octets))) [
      | inl is ↦ (
          let message = same ∙ is in
          let here : said_whole (whole_any false before after octets) octets ≡ Frame (message_of before after octets) = rw message refl in
          here ∙ sym (said_yes before after octets more is))
      | inr not_ ↦ (
          let message = same ∙ not_ in
          let here : said_whole (whole_any false before after octets) octets ≡ Damaged = rw message refl in
          here ∙ sym (said_no before after octets more not_))
    ]

-- ---- By how long the message is

no_size : (before after : ℕ) (octets : List ℕ) (size : Size) → before + after < length octets → size_of (drop before octets) ≡ size
    → ((count : ℕ) → size ≡ sizes.Known count → ⊥) → (size ≡ sizes.Any → ⊥) → is_message (message_of before after octets) ≡ false
no_size before after octets size some is not_known not_any = elim (cases_Bool (is_message (message_of before after octets))) [
  | inr not_ ↦ not_
  | inl message ↦ elim (sized (message_of before after octets) (check_of after octets) message) [
    | inl any ↦ absurd (not_any (sym is ∙ (ap size_of (divide before after octets some) ∙ any)))
    | inr known ↦ absurd (not_known (length (message_of before after octets)) (sym is ∙ (ap size_of (divide before after octets some) ∙ known)))
  ]
]

unknown_known : (count : ℕ) → sizes.Unknown ≡ sizes.Known count → ⊥
unknown_known count h = cc

unknown_any : sizes.Unknown ≡ sizes.Any → ⊥
unknown_any h = cc

none_known : (count : ℕ) → sizes.None ≡ sizes.Known count → ⊥
none_known count h = cc

none_any : sizes.None ≡ sizes.Any → ⊥
none_any h = cc

known_any : (count : ℕ) → sizes.Known count ≡ sizes.Any → ⊥
known_any count h = cc

known_same : (a b : ℕ) → sizes.Known a ≡ sizes.Known b → a ≡ b
known_same a b h = cc

same_size : (before after size : ℕ) (octets : List ℕ) → before + after < length octets → size_of (drop before octets) ≡ sizes.Known size
    → is_message (message_of before after octets) ≡ true → size ≡ length (message_of before after octets)
same_size before after size octets some is message = elim (sized (message_of before after octets) (check_of after octets) message) [
  | inl any ↦ absurd (known_any size (sym is ∙ (ap size_of (divide before after octets some) ∙ any)))
  | inr known ↦ known_same size (length (message_of before after octets)) (sym is ∙ (ap size_of (divide before after octets some) ∙ known))
]

by_size : (before after : ℕ) (octets : List ℕ) (size : Size) → nat_lt (before + after) (length octets) ≡ true → size_of (drop before octets) ≡ size
    → said_whole (whole_by_size size false before after octets) octets ≡ said_by_octets before after octets
by_size before after octets sizes.Unknown more is =
    sym (said_no before after octets more (no_size before after octets sizes.Unknown (ltb-true (before + after) (length octets) more) is unknown_known unknown_any))
by_size before after octets sizes.None more is =
    sym (said_no before after octets more (no_size before after octets sizes.None (ltb-true (before + after) (length octets) more) is none_known none_any))
by_size before after octets sizes.Any more is = any_said before after octets more
by_size before after octets (sizes.Known size) more is = elim (cases_Bool (is_message (message_of before after octets))) [
  | inl message ↦ known_yes before after size octets more message (same_size before after size octets (ltb-true (before + after) (length octets) more) is message)
  | inr not_ ↦ known_no before after size octets more not_ ∙ sym (said_no before after octets more not_)
]

-- ---- All

few_whole : (form : LineForm) (octets : List ℕ) → length octets ≤ form.before + form.after → said_whole (whole_of form octets) octets ≡ Damaged
unfolding whole_of
few_whole form octets few =
    let all : nat_le (length octets) (form.before + form.after) ≡ true = grind (arith, nat_tests) in
    elim (cases_Bool (nat_lt 0 form.before && length octets == form.before + form.after)) [
      | inl idle ↦ rw (all, idle) refl
      | inr lacking ↦ rw (all, lacking) refl
    ]

told_bare : (form : LineForm) (octets : List ℕ) → is_bare form ≡ true → said_whole (whole_of form octets) octets ≡ said_by_octets form.before form.after octets
told_bare form octets bare = elim (cases_Bool (nat_lt (form.before + form.after) (length octets))) [
  | inl more ↦ (
      let parts = and_parts (not form.is_framed) (not form.is_swapped) bare in
      let plain = not-true form.is_framed parts.0 in
      let same = not-true form.is_swapped parts.1 in
      let whole = bare_whole form octets plain (ltb-true (form.before + form.after) (length octets) more)
      ∙ ap (λ (swap : Bool). whole_by_size (size_of (drop form.before octets)) swap form.before form.after octets) same in
      ap (λ (whole : Whole). said_whole whole octets) whole ∙ by_size form.before form.after octets (size_of (drop form.before octets)) more refl)
  | inr few ↦ (
      let less : length octets ≤ form.before + form.after = grind (arith, nat_tests) in
      let rest : said_by_octets form.before form.after octets ≡ Damaged = rw few refl in
      few_whole form octets less ∙ sym rest)
]

held_bare : (form : LineForm) (octets : List ℕ) → form.is_framed ≡ false → held_of form octets ≡ octets
held_bare form octets plain = rw plain refl

told_wrapped : (form : LineForm) (octets : List ℕ) → is_bare form ≡ false → length octets < OCTETS → said_in_octets form octets ≡ said_whole (whole_of form octets) (held_of form octets)
told_wrapped form octets wrapped few =
    let fits : nat_le OCTETS (length octets) ≡ false = grind (arith, nat_tests) in
    let inside : said_wrapped form octets ≡ said_whole (whole_of form octets) (held_of form octets) = rw fits refl in
    rw wrapped inside

pub told : (form : LineForm) (octets : List ℕ) → length octets < OCTETS → said_whole (whole_of form octets) (held_of form octets) ≡ said_in_octets form octets
told form octets few = elim (cases_Bool (is_bare form)) [
  | inl bare ↦ (
      let plain = not-true form.is_framed (and_parts (not form.is_framed) (not form.is_swapped) bare).0 in
      ap (said_whole (whole_of form octets)) (held_bare form octets plain) ∙ (told_bare form octets bare ∙ sym (said_bare form octets bare)))
  | inr wrapped ↦ sym (told_wrapped form octets wrapped few)
]
