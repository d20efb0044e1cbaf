use Rattle.std.proofs.Common.{◌≡◌, ◌≤◌, ◌+◌, ◌*◌, ◌-◌, ◌^◌, ◌∷◌, ℕ, take, drop}
use Rattle.std.specs.Prelude.{fold}
use Rattle.fio_wire.specs.Checks.{with_octet}
use Rattle.fio_wire.specs.Octets.{stuffed}
use Rattle.fio_wire.specs.declared.limits.TheConstants.{FLAG}
use Rattle.fio_wire.proofs.encoder.write.Given as goal

abbrev pub invariant-message : goal.invariant-message
invariant-message l = record {
  written : take l.count l.out ≡ FLAG ∷ stuffed (l.fn.address ∷ l.fn.control ∷ take l.octet-index l.message);
  rest : (place : ℕ) → l.count ≤ place → drop place l.out ≡ drop place l.fn.out;
  room : l.count ≤ 5 + 2 * l.octet-index;
  register : l.register ≡ fold with_octet (2 ^ 16 - 1) (l.fn.address ∷ l.fn.control ∷ take l.octet-index l.message);
}
