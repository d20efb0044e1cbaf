-- What a decoder needs instead of octets of a wrong length fits in a frame.
use Rattle.std.proofs.Common.{◌≡◌, ◌∙◌, ℕ, ◌≤◌, List, [], ◌∷◌, length, Option, Some, None, sym, arith}
use Rattle.std.proofs.lemmas.Option.{same_Some}
use Rattle.fio_message.specs.declared.faults.DecodeError.{DecodeError}
use Rattle.fio_message.specs.declared.faults.DecodeError.TheVariants.{WrongLength}
use Rattle.fio_message.specs.declared.limits.TheConstants.{BODY_OCTETS, FRAME_OCTETS}
use Rattle.fio_message.specs.Octets.{IsOctets}
use Rattle.fio_message.specs.Commands.{command_length}
use Rattle.fio_message.specs.Answers.{answer_length, block_length}
use Rattle.fio_message.specs.Refusals.{Refuses}
use Rattle.fio_message.proofs.Numbers.{octet_at}
use Rattle.fio_message.proofs.TypeLengths.{HasLength, Fixed, Counted, AnyLength, Unknown, command_has_length, answer_has_length, block_has_length}
use Rattle.fio_flat.specs.Faults.{NeedFitsFrame}

module _ {any_length : List ℕ} {length_of : List ℕ → Option ℕ} (has_length : (code : ℕ) → HasLength any_length length_of code) where
  -- what is needed of octets that fit in a frame fits in one
  needed_fits : (code right : ℕ) (fields : List ℕ) → HasLength any_length length_of code → IsOctets fields → length fields ≤ BODY_OCTETS
      → length_of (code ∷ fields) ≡ Some right → right ≤ FRAME_OCTETS
  needed_fits code right fields (Fixed n fits needs) are short is = omega (arith, fits, same_Some _ _ (sym (needs fields) ∙ is))
  needed_fits code right fields (Counted base place within fits needs) are short is =
      omega (arith, fits, octet_at fields place are, same_Some _ _ (sym (needs fields) ∙ is))
  needed_fits code right fields (AnyLength listed needs) are short is = omega (arith, short, same_Some _ _ (sym (needs fields) ∙ is))
  needed_fits code right fields (Unknown none) are short is =
      let both : None ≡ Some right = sym (none fields) ∙ is in absurd cc

  -- also where they are refused
  need_fits : (octets : List ℕ) → IsOctets octets → (error : DecodeError) → Refuses (length_of octets) octets error → NeedFitsFrame error
  need_fits [] are (WrongLength right got) refuses = absurd (omega (arith, refuses.0.0, refuses.1))
  need_fits (code ∷ fields) are (WrongLength right got) refuses =
      needed_fits code right fields (has_length code) are.1 (omega (arith, refuses.0.1, refuses.1)) refuses.2
  need_fits octets are other refuses = tt

pub command-need_fits : (octets : List ℕ) → IsOctets octets → (error : DecodeError)
    → Refuses (command_length octets) octets error → NeedFitsFrame error
command-need_fits = need_fits command_has_length

pub answer-need_fits : (octets : List ℕ) → IsOctets octets → (error : DecodeError)
    → Refuses (answer_length octets) octets error → NeedFitsFrame error
answer-need_fits = need_fits answer_has_length

pub block-need_fits : (octets : List ℕ) → IsOctets octets → (error : DecodeError)
    → Refuses (block_length octets) octets error → NeedFitsFrame error
block-need_fits = need_fits block_has_length
