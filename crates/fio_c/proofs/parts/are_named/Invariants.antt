use Rattle.std.proofs.Common.{◌≡◌, take}
use Rattle.std.specs.List.{list_all}
use Rattle.fio_c.specs.Flat.{can_be_named}
use Rattle.fio_c.proofs.parts.are_named.Given as goal

-- whether each part that the loop has gone through can be named
abbrev pub invariant-loop-part : goal.invariant-loop-part
invariant-loop-part g l = l.named ≡ list_all (λ part. can_be_named (g.T.FlatPart.named part)) (take l.part-index l.parts)
