-- The ending of an entry's line, in its room.
use Rattle.std.proofs.Common.{◌≡◌, ℕ, ◌^◌, ◌+◌, ◌-◌, ◌<◌, ◌≤◌, Bool, true, false, List, ◌++◌, codes, decimal, length, take, drop, sym, ap, ap₂, ◌∙◌, arith, append_assoc, length-append, take_at}
use Rattle.std.proofs.Math.Seq.{take-append-add}
use Rattle.std.proofs.lemmas.Fmt.{length-decimal-le}
use Rattle.std.proofs.lemmas.List.{take-append-le, take-take, length-take}
use Rattle.fio_message.specs.Bits.{bit_of}
use Rattle.fio_show.specs.EntryLines.{scan_ending}

-- its pieces before other octets
pub ending-before : (stamp wide : ℕ) (rest : List ℕ)
    → codes " stamp " ++ (decimal stamp ++ (codes " wide " ++ (decimal wide ++ (codes "\n" ++ rest)))) ≡ scan_ending stamp wide ++ rest
ending-before stamp wide rest =
    sym (ap (λ more. codes " stamp " ++ more)
    (append_assoc (decimal stamp) (codes " wide " ++ (decimal wide ++ codes "\n")) rest
    ∙ ap (λ more. decimal stamp ++ (codes " wide " ++ more)) (append_assoc (decimal wide) (codes "\n") rest)))

-- it has at most 29 octets
pub ending-short : (stamp wide : ℕ) → stamp < 2 ^ 16 → wide < 2 ^ 32 → length (scan_ending stamp wide) ≤ 29
ending-short stamp wide few more =
    let five = length-decimal-le 5 stamp (omega arith) (omega (arith, few)) (omega (arith, few)) in
    let ten = length-decimal-le 10 wide (omega arith) (omega (arith, more)) (omega (arith, more)) in
    omega (arith, five, ten, length-append (decimal stamp) (codes " wide " ++ (decimal wide ++ codes "\n")), length-append (decimal wide) (codes "\n"))

-- octets that are at the front of 32 that are copied before others
pub copied-front : (octets rest behind : List ℕ) (count : ℕ) → length octets ≡ count → count ≤ 32
    → take count (take 32 (octets ++ rest) ++ behind) ≡ octets
copied-front octets rest behind count long few =
    take-append-le count (take 32 (octets ++ rest)) behind
    (omega (arith, long, few, length-take 32 (octets ++ rest), length-append octets rest))
    ∙ take-take count 32 (octets ++ rest) few
    ∙ take_at octets rest count long

one_digit : (level : Bool) → length (decimal (bit_of level)) ≤ 1
one_digit true = length-decimal-le 1 1 (omega arith) (omega arith) (omega arith)
one_digit false = length-decimal-le 1 0 (omega arith) (omega arith) (omega arith)

-- what is before it
module _ (margin : List ℕ) (input : ℕ) (level : Bool) where
  abbrev pub front : List ℕ
  front = margin ++ (codes "input " ++ (decimal input ++ (codes " state " ++ decimal (bit_of level))))

  -- its pieces before other octets
  pub front-before : (rest : List ℕ)
      → margin ++ (codes "input " ++ (decimal input ++ (codes " state " ++ (decimal (bit_of level) ++ rest)))) ≡ front ++ rest
  front-before rest =
      let from_state = codes " state " ++ decimal (bit_of level) in
      sym (append_assoc margin (codes "input " ++ (decimal input ++ from_state)) rest
      ∙ ap (λ more. margin ++ (codes "input " ++ more)) (append_assoc (decimal input) from_state rest))

  -- it has at most 25 octets
  pub front-short : length margin ≤ 8 → input < 128 → length front ≤ 25
  front-short few below =
      let three = length-decimal-le 3 input (omega arith) (omega (arith, below)) (omega (arith, below)) in
      let from_state = codes " state " ++ decimal (bit_of level) in
      omega (arith, few, three, one_digit level, length-append margin (codes "input " ++ (decimal input ++ from_state)), length-append (decimal input) from_state)

  -- an ending of `count` octets in its room: the line is what precedes it, and the ending
  pub line-part : (line room ending : List ℕ) (start count : ℕ) → drop start line ≡ front ++ room → take count room ≡ ending
      → start + length front ≡ 64
      → take (64 - start + count) (drop start line)
      ≡ margin ++ (codes "input " ++ (decimal input ++ (codes " state " ++ (decimal (bit_of level) ++ ending))))
  line-part line room ending start count is ends starts =
      let long : 64 - start + count ≡ length front + count = omega (arith, starts) in
      ap₂ take long is ∙ take-append-add front room count ∙ ap (λ more. front ++ more) ends ∙ sym (front-before ending)
