-- How long the words of faults are, and of what was heard.
use Rattle.std.proofs.Common.{◌≡◌, ℕ, ◌≤◌, ◌<◌, ◌^◌, ◌++◌, length, refl, arith}
use Rattle.std.specs.Prelude.{codes, decimal}
use Rattle.std.proofs.lemmas.List.{length-append}
use Rattle.std.proofs.lemmas.Fmt.{length-decimal-le}
use Rattle.fio_message.specs.declared.faults.DecodeError.TheVariants.{TooLong, UnknownType, WrongLength}
use Rattle.fio_cpu.specs.declared.poller.Heard.TheVariants.{Unreadable, Other, Stale, Block}
use Rattle.fio_show.specs.HeardWords.{heard_text}
use Rattle.fio_text.specs.Digits.{octet_digits}
use Rattle.hex.specs.Hex.{encode_with}
use Rattle.fio_message.specs.declared.faults.DecodeError.{DecodeError}
use Rattle.fio_message.specs.Texts.{fault_text}

short8 : (n : ℕ) → n < 256 → length (decimal n) ≤ 3
short8 n lt = length-decimal-le 3 n (omega arith) (omega (arith, lt)) (omega (arith, lt))

short16 : (n : ℕ) → n < 65536 → length (decimal n) ≤ 5
short16 n lt = length-decimal-le 5 n (omega arith) (omega (arith, lt)) (omega (arith, lt))

short64 : (n : ℕ) → n < 2 ^ 64 → length (decimal n) ≤ 20
short64 n lt = length-decimal-le 20 n (omega arith) (omega (arith, lt)) lt

pub too_long-short : (got : ℕ) → got < 2 ^ 64 → length (fault_text (TooLong got)) ≤ 50
too_long-short got lt = omega (arith, short64 got lt, length-append (codes "too long got ") (decimal got))

pub unknown_type-short : (code : ℕ) → code < 256 → length (fault_text (UnknownType code)) ≤ 50
unknown_type-short code lt = omega (arith, short8 code lt, length-append (codes "unknown type ") (decimal code))

pub wrong_length-short : (needed got : ℕ) → needed < 65536 → got < 2 ^ 64
    → length (fault_text (WrongLength needed got)) ≤ 50
wrong_length-short needed got small lt =
    let rest = codes " got " ++ decimal got in
    omega (
      arith,
      short16 needed small,
      short64 got lt,
      length-append (codes "wrong length needed ") (decimal needed ++ rest),
      length-append (decimal needed) rest,
      length-append (codes " got ") (decimal got),
    )

two : (octet : ℕ) → length (octet_digits octet) ≡ 2
unfolding octet_digits encode_with
two octet = refl

pub block-short : (entries status : ℕ) → entries < 256 → length (heard_text (Block entries status)) < 62
block-short entries status lt =
    let last = codes " status " ++ octet_digits status in
    omega (
      arith,
      short8 entries lt,
      length-append (codes "block entries ") (decimal entries ++ last),
      length-append (decimal entries) last,
      length-append (codes " status ") (octet_digits status),
      two status,
    )

pub stale-short : (block : ℕ) → block < 256 → length (heard_text (Stale block)) < 62
stale-short block lt = omega (arith, short8 block lt, length-append (codes "stale ") (decimal block))

pub other-short : (code : ℕ) → code < 256 → length (heard_text (Other code)) < 62
other-short code lt = omega (arith, short8 code lt, length-append (codes "other ") (decimal code))
