use Rattle.std.proofs.Common.{◌≡◌, ◌<◌, ◌≤◌, ◌++◌, codes, decimal, take, ℕ, slice_index_or, length}
use Rattle.fio_show.specs.declared.fronts.Front.{Front}
use Rattle.fio_show.proofs.fronts.Fronts.new.Given as goal

-- the beginnings that are made
abbrev pub invariant-loop-input : goal.invariant-loop-input
invariant-loop-input l = record {
  long : length l.fronts ≡ 128;
  made : (input : ℕ) (other : Front) → input < l.input
      → (take (slice_index_or l.fronts input other).count (slice_index_or l.fronts input other).octets ≡ codes "input " ++ (decimal input ++ codes " state "))
      × ((slice_index_or l.fronts input other).count ≤ 16);
}
