-- Words that name octets, and the commands that these spell.
use Rattle.fio_world.proofs.Names.{◌≡◌, ◌≢◌, ℕ, ◌<◌, ◌≤◌, List, length, Option, Some, None, Err, option_map, refl, ap, sym, ◌∙◌, arith, option_and_then, ok_or, command_in, decoded_command, polled_number, Command, PollIsOurs, sending_refusal, frame_at, sending_at, command_refused, command_found}
use Rattle.fio_message.specs.declared.faults.DecodeError.{DecodeError}
use Rattle.fio_message.specs.declared.faults.DecodeError.TheVariants.{TooLong}
use Rattle.fio_message.specs.declared.limits.TheConstants.{FRAME_OCTETS}
use Rattle.fio_world.specs.declared.script.ScriptError.TheVariants.{BadFrame}

-- more octets than a frame holds are too long
pub too_long : (number : ℕ) (found : Option (List ℕ)) (count : ℕ)
    → option_map (length {A = ℕ}) found ≡ Some count → FRAME_OCTETS < count
    → Err (BadFrame number (TooLong count)) ≡ frame_at number found
too_long number None count counted long = absurd (cc counted)
too_long number (Some octets) count counted long =
    let many : count ≡ length octets = cc counted in
    sym (ap (sending_at number) ((command_refused octets (TooLong count)).1 (many, long)))

-- octets that are refused spell no command
refused_none : (found : Option Command) (fault other : DecodeError) → ok_or found fault ≡ Err other
    → found ≡ None
refused_none None fault other is = refl
refused_none (Some command) fault other is = absurd (cc is)

decodes_none : (octets : List ℕ) (fault : DecodeError) → decoded_command octets ≡ Err fault
    → command_in octets ≡ None
decodes_none octets fault is = refused_none (command_in octets) _ fault is

-- a command that is found is the one that was found
found_command : (found : Option Command) (is_one : found ≢ None) → found ≡ Some (command_found found is_one)
found_command None is_one = absurd (is_one refl)
found_command (Some command) is_one = refl

module _ (named : Option (List ℕ)) (is_command : option_and_then command_in named ≢ None) where
  -- the octets of a command fit in a frame
  pub fits : (count : ℕ) → Some count ≡ option_map (length {A = ℕ}) named → count ≤ FRAME_OCTETS
  fits count counted = omega (arith, by_octets named refl)
    where
      by_octets : (octets : Option (List ℕ)) → named ≡ octets → FRAME_OCTETS < count → ⊥
      by_octets None is long = cc (counted, is)
      by_octets (Some octets) is long =
          let many : count ≡ length octets = cc (counted, is) in
          is_command (rw is (decodes_none octets (TooLong count) ((command_refused octets (TooLong count)).1 (many, long))))

  -- they spell it
  pub spells : (octets : List ℕ) → named ≡ Some octets
      → command_in octets ≡ Some (command_found (option_and_then command_in named) is_command)
  spells octets is = ap (λ found. option_and_then command_in found) (sym is) ∙ found_command (option_and_then command_in named) is_command

-- the machine refuses polls alone
pub refuses_polls : (command : Command) → sending_refusal command ≡ option_map (λ number. PollIsOurs) (polled_number (Some command))
refuses_polls command = grind arith
