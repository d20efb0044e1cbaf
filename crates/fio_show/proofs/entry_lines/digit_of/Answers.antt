use Rattle.std.proofs.Common.{◌≡◌, ◌+◌, ◌∷◌, [], Bool, true, false, decimal, sym, ap, ◌∙◌, arith}
use Rattle.std.proofs.lemmas.Fmt.{decimal_digit}
use Rattle.fio_message.specs.Bits.{bit_of}
use Rattle.fio_show.proofs.entry_lines.digit_of.Goals as goal

digit : (level : Bool) → (48 + bit_of level) ∷ [] ≡ decimal (bit_of level)
digit true = sym (decimal_digit 1 (omega arith))
digit false = sym (decimal_digit 0 (omega arith))

pub returns : goal.returns
returns c = ap (λ n. (48 + n) ∷ []) c.from.ensures ∙ digit c.args.level
