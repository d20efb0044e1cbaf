-- The front of a list in two parts.
use Rattle.fio_message.proofs.Names.{◌≡◌, ℕ, ◌-◌, ◌+◌, List, ◌++◌, length, take, min, ap, sym, ◌∙◌, arith, append-nil, inl, inr, take-append-le, take_min}
use Rattle.std.proofs.Math.Seq.{take-append-add, take-length}
use Rattle.std.proofs.lemmas.Bool.Decides.{leb_tells}

-- the front: from the first part as far as it goes, then from the second
pub take-two_parts : {X : Type 0} (count : ℕ) (first second : List X)
    → take (min (length first) count) first ++ take (min (length second) (count - min (length first) count)) second
    ≡ take count (first ++ second)
take-two_parts count first second =
    elim (leb_tells count (length first)) [
      | inl few ↦
          let all : min (length first) count ≡ count = omega (arith, few.1) in
          let none : min (length second) (count - count) ≡ 0 = omega arith in
          rw (all, none, append-nil) (sym (take-append-le count first second few.1))
      | inr more ↦
          let rest = count - length first in
          let all : min (length first) count ≡ length first = omega (arith, more.1) in
          let others : min (length second) (count - length first) ≡ min rest (length second) = omega arith in
          let whole : count ≡ length first + rest = omega (arith, more.1) in
          rw (all, others, take-length, take_min) (sym (ap (λ n. take n (first ++ second)) whole ∙ take-append-add first second rest))
    ]
