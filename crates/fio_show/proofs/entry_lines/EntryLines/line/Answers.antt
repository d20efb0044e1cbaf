use Rattle.std.proofs.Common.{rules, ◌≡◌, ◌+◌, ◌-◌, ◌<◌, ◌≤◌, take, drop, length, ap, ◌∙◌, arith, length-drop}
use Rattle.std.proofs.lemmas.List.{take-take, length-take}
use Rattle.fio_show.specs.EntryLines.{scan_ending}
use Rattle.fio_show.proofs.EndingLemmas.{front, front-before, line-part}
use Rattle.fio_text.proofs.RoomLemmas.{start-of}
use Rattle.fio_show.proofs.entry_lines.EntryLines.line.Goals as goal

pub invariant_of-self : goal.invariant_of-self
invariant_of-self g c =
    let inside = c.if-entry-self.self-inside in
    let ends : take inside.ending (drop 64 inside.line) ≡ scan_ending inside.stamp inside.wide = search rules in
    let few : inside.ending < 32 = search rules in
    (ap (take inside.ending) c.put_front-start.ensures.kept ∙ ends, few)

pub returns : goal.returns
returns g c =
    let inside = c.if-entry-self.self-inside in
    let margin = c.args.margin.now in
    let entry = c.args.entry in
    let room = drop 64 inside.line in
    let start = c.put_front-start.result in
    let line = c.put_front-start.new.line in
    let count = 64 - start + inside.ending in
    let ends : take inside.ending room ≡ scan_ending entry.stamp c.args.wide = search rules in
    let few : inside.ending < 32 = search rules in
    let is = c.put_front-start.ensures.put ∙ front-before margin entry.input entry.level room in
    let starts = start-of line (front margin entry.input entry.level) room start is (omega arith) in
    let long : length room ≡ 64 = omega (arith, ap length c.put_front-start.ensures.kept, length-drop 64 line) in
    let copied : start + 64 - start ≡ 64 = omega arith in
    let within : count ≤ 64 = omega (arith, few, c.put_front-start.ensures.start) in
    record {
      room = omega (arith, copied, length-take (start + 64 - start) (drop start line), length-drop start line, c.put_front-start.ensures.start);
      within = within;
      line = ap (λ n. take count (take n (drop start line))) copied
          ∙ take-take count 64 (drop start line) within
          ∙ line-part margin entry.input entry.level line room (scan_ending entry.stamp c.args.wide) start inside.ending is ends (omega (arith, starts, long));
    }
