-- What is heard of a line, as C has it.
use Rattle.std.specs.Prelude.{ℕ}
use Rattle.fio_wire.specs.declared.heard.WireHeard.{WireHeard}
use Rattle.fio_wire.specs.declared.heard.WireHeard.TheVariants.{Nothing, Message, Other, Damaged}

-- the number of what is heard
abbrev pub heard_code : WireHeard → ℕ
heard_code Nothing = 0
heard_code Message = 1
heard_code Other = 2
heard_code Damaged = 3
