use Rattle.std.proofs.Common.{◌≡◌, ◌+◌, ◌*◌, take}
use Rattle.std.specs.List.{flat_map}
use Rattle.fio_flat.specs.Written.{buffer_with}
use Rattle.fio_c.proofs.parts.write_parts.Given as goal

-- what is written are the parts that the loop has gone through
abbrev pub invariant-loop-part : goal.invariant-loop-part
invariant-loop-part g l = record {
  counted : l.place ≡ l.from + 3 * l.part-index;
  written : l.out ≡ buffer_with l.from (flat_map g.T.FlatPart.spelled (take l.part-index l.parts)) l.initial.out;
}
