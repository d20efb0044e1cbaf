use Rattle.std.proofs.Common.{◌≡◌, ◌≤◌, ◌-◌, [], length, get_or, arith, rules, sym}
use Rattle.std.proofs.lemmas.Grind.{common_steps}
use Rattle.fio_guess.specs.Lines.{parts_of}
use Rattle.fio_guess.proofs.Lines.{first_line, later_line, first_within, later_within}
use Rattle.fio_log.proofs.told.frame_in.Goals as goal

pub slice_bounds-result-end : goal.slice_bounds-result-end
slice_bounds-result-end c =
    let within : get_or c.args.ends.now 0 0 ≤ length c.args.octets.now = first_within 0 _ _ c.requires.up (omega arith) in
    grind (arith, common_steps)

pub returns-then-at-eq0 : goal.returns-then-at-eq0
returns-then-at-eq0 c =
    let same : get_or (parts_of c.args.octets.now 0 c.args.ends.now) 0 [] ≡ _ = first_line c.args.octets.now 0 c.args.ends.now (omega arith) in
    grind (arith, common_steps)

pub slice_bounds-result-count : goal.slice_bounds-result-count
slice_bounds-result-count c = (later_within 0 c.args.ends.now (length c.args.octets.now) (c.args.at - 1) c.args.at c.requires.up (omega arith) (omega arith)).0

pub slice_bounds-result-start : goal.slice_bounds-result-start
slice_bounds-result-start c =
    let bounds : (get_or c.args.ends.now (c.args.at - 1) 0 ≤ get_or c.args.ends.now c.args.at 0) × (get_or c.args.ends.now c.args.at 0 ≤ length c.args.octets.now) = later_within 0 c.args.ends.now (length c.args.octets.now) (c.args.at - 1) c.args.at c.requires.up (omega arith) (omega arith) in
    search rules

pub slice_bounds-result-end-2 : goal.slice_bounds-result-end-2
slice_bounds-result-end-2 c =
    let bounds : (get_or c.args.ends.now (c.args.at - 1) 0 ≤ get_or c.args.ends.now c.args.at 0) × (get_or c.args.ends.now c.args.at 0 ≤ length c.args.octets.now) = later_within 0 c.args.ends.now (length c.args.octets.now) (c.args.at - 1) c.args.at c.requires.up (omega arith) (omega arith) in
    search rules

pub returns : goal.returns
returns c = sym (later_line c.args.octets.now 0 c.args.ends.now (c.args.at - 1) c.args.at (omega arith) (omega arith))
