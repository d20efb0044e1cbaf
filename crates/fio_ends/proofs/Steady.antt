-- The counter jumps where a load of it takes effect. Where none has taken effect since a life, none had above.
use Rattle.fio_ends.proofs.Names.{◌≡◌, arith, Life, loads_of}
use Rattle.fio_ends.proofs.Following.{GoesOn}
use Rattle.fio_ends.proofs.Lives.{loads_grow}

-- no load has taken effect since a life
abbrev pub IsSteady : Life → Life → Type 0
IsSteady begin now = loads_of now ≡ loads_of begin

pub steady_above : (begin now later : Life) → GoesOn begin now → GoesOn now later → IsSteady begin later → IsSteady begin now
steady_above begin now later since more steady = grind (arith, loads_grow)
