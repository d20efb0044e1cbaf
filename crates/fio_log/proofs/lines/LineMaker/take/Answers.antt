use Rattle.std.proofs.Common.{◌≡◌, ◌+◌, ◌-◌, List, [], false, length, drop, take, ap, sym, ◌∙◌, refl, arith}
use Rattle.std.specs.Prelude.{ℕ, slice_range}
use Rattle.std.proofs.lemmas.List.{length-drop, take_rest}
use Rattle.fio_log.specs.Lines.{Making, is_whole, lines_after, only, with_making}
use Rattle.fio_log.proofs.LineLemmas.{lines-more}
use Rattle.fio_log.proofs.lines.LineMaker.take.Goals as goal

-- a line after some octets, and after more
line-after : (from before after : Making) (octets : List ℕ) (count more : ℕ)
    → lines_after (only from) (take count octets) ≡ only before
    → lines_after (only before) (take more (slice_range octets count (length octets))) ≡ with_making [] after
    → lines_after (only from) (take (count + more) octets) ≡ with_making [] after
line-after from before after octets count more above next =
    lines-more (only from) count more octets ∙ ap (λ l. lines_after l (take more (drop count octets))) above
    ∙ ap (λ l. lines_after (only before) (take more l)) (sym (take_rest octets count)) ∙ next

pub octets-preserved : goal.octets-preserved
octets-preserved c =
    let octets = c.args.octets.now in
    let count = c.octets.count in
    let next = c.add_some-count in
    let going : is_whole next.new.self.ending ≡ false = sym c.if-is_whole.ensures in
    let single : with_making [] next.new.self ≡ only next.new.self = rw going refl in
    let rest : length (slice_range octets count (length octets)) ≡ length octets - count =
    ap length (take_rest octets count) ∙ length-drop count octets in
    record {
      within = omega (arith, rest, next.ensures.within, c.octets-test.true);
      lines = line-after c.args.self.now c.octets.self next.new.self octets count next.result c.octets.invariant.lines
          next.ensures.lines ∙ single;
      open_yet = λ some. going;
    }

pub returns-then-is_whole-clause-lines : goal.returns-then-is_whole-clause-lines
returns-then-is_whole-clause-lines c = λ some. line-after c.args.self.now c.octets.self c.add_some-count.new.self
    c.args.octets.now c.octets.count c.add_some-count.result c.octets.invariant.lines c.add_some-count.ensures.lines
