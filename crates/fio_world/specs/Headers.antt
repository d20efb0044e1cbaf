-- The first line of a script, in three versions.
use Rattle.std.specs.Prelude.{ℕ, Bool, true, false, List, Option, Some, None, option_map, option_and_then, codes, if◌then◌else◌}
use Rattle.fio_module.specs.Limits.{Limits, standard_limits, are_limits}
use Rattle.fio_world.specs.declared.script.header.Header.{Header}
use Rattle.fio_world.specs.Forms.{begins, both}
use Rattle.fio_text.specs.Words.{number_in, small_number_in}

-- the limits with these two numbers, if they are within range
abbrev pub limits_with : ℕ × ℕ → Option Limits
limits_with numbers =
    if are_limits numbers.0 numbers.1
    then Some (record { per_block = numbers.0; waiting = numbers.1 })
    else None

-- N N: the most entries of a block, and the most that wait
abbrev pub limits_in : List ℕ → Option Limits
limits_in words = option_and_then limits_with (both number_in number_in words)

-- B B: the module's identification octet and the CPU's first number
abbrev pub standard_header : Bool → List ℕ → Option Header
standard_header restarts words =
    option_map (λ numbers. record {
      id = numbers.0;
      first = numbers.1;
      limits = standard_limits;
      restarts = restarts;
    }) (both small_number_in small_number_in words)

-- B B N N: the identification octet and the first number as above, then the limits
abbrev pub limited_header : List ℕ → Option Header
limited_header words =
    option_map (λ numbers. record {
      id = numbers.0;
      first = numbers.1.0;
      limits = numbers.1.1;
      restarts = true;
    }) (both small_number_in (both small_number_in limits_in) words)

-- the header that a line is, if it is one
abbrev pub header_of : List ℕ → Option Header
header_of line =
    begins (codes "fio2070 script 1 ") (standard_header false) line
    (begins (codes "fio2070 script 2 ") (standard_header true) line
    (begins (codes "fio2070 script 3 ") limited_header line None))
