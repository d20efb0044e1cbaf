-- The status flags, the watchdog and the outputs after a life.
use Rattle.std.specs.Prelude.{ℕ, zero, suc, ◌+◌, ◌*◌, ◌^◌, ◌==◌, Bool, true, false, [], ◌∷◌, Option, Some, None, min, max, replicate, if◌then◌else◌}
use Rattle.fio_message.specs.Bits.{is_set, bit_of}
use Rattle.fio_message.specs.declared.commands.Command.TheVariants.{Status, Watchdog, SetOutputs}
use Rattle.fio_module.specs.declared.outputs.Outputs.{Outputs}
use Rattle.fio_module.specs.declared.limits.TheConstants.{LEAST_TIMEOUT, MOST_TIMEOUT}
use Rattle.fio_module.specs.Life.{Raised, Commanded, Life}

-- Whether the flag in this bit is up: among the start, the raises and the clearings whose mask has the bit, the latest is
-- not a clearing. The start raises P alone, bit 7.
abbrev pub is_flag_up : ℕ → Life → Bool
is_flag_up place [] = place == 7
is_flag_up place (Raised mask ∷ life) =
    if is_set mask place then true else is_flag_up place life
is_flag_up place (Commanded (Status clear) ∷ life) =
    if is_set clear place then false else is_flag_up place life
is_flag_up place (other ∷ life) = is_flag_up place life

-- the word whose bits below a position are as given, and whose other bits are 0
unfoldable pub word_of : ℕ → (ℕ → Bool) → ℕ
word_of zero bit = 0
word_of (suc place) bit = bit_of (bit place) * 2 ^ place + word_of place bit

-- the status flags
abbrev pub flags_of : Life → ℕ
flags_of life = word_of 8 (λ place. is_flag_up place life)

-- the latest timeout of the watchdog in ms, brought into the range 10 to 100; None before the first
abbrev pub watchdog_of : Life → Option ℕ
watchdog_of [] = None
watchdog_of (Commanded (Watchdog timeout) ∷ life) = Some (min MOST_TIMEOUT (max LEAST_TIMEOUT timeout))
watchdog_of (other ∷ life) = watchdog_of life

-- what the latest command to set outputs set, all 0 before the first
abbrev pub outputs_of : Life → Outputs
outputs_of [] = record { levels = replicate 8 0; controls = replicate 8 0 }
outputs_of (Commanded (SetOutputs levels controls) ∷ life) =
    record { levels = levels; controls = controls }
outputs_of (other ∷ life) = outputs_of life
