-- What a line says, by what is read of it.
use Rattle.std.specs.Prelude.{ℕ, List}
use Rattle.fio_form.specs.Reading.{LineSaid, Frame, Damaged, Other, octets_between}
use Rattle.fio_form.specs.declared.line_reading.Read.{Read}
use Rattle.fio_form.specs.declared.line_reading.Read.TheVariants as reads

-- what a line says, by what is read of it and its octets
abbrev pub said_as : Read → List ℕ → LineSaid
said_as (reads.Frame start end) octets = Frame (octets_between start end octets)
said_as reads.Damaged octets = Damaged
said_as reads.Other octets = Other
