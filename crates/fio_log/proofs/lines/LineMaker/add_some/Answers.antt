use Rattle.std.proofs.Common.{◌≡◌, ℕ, ◌<◌, [], length, take, true, sym, ◌∙◌, ap, refl, arith}
use Rattle.std.specs.Prelude.{slice_index}
use Rattle.std.proofs.lemmas.List.{get_or-take, length-take-le}
use Rattle.fio_log.specs.Lines.{is_plain, lines_after, only, open_line, with_all, with_making}
use Rattle.fio_log.specs.declared.lines.Held.TheVariants.{Nothing}
use Rattle.fio_log.specs.declared.lines.LineEnding.TheVariants.{Open}
use Rattle.fio_log.proofs.LineLemmas.{plain-lines}
use Rattle.fio_log.proofs.lines.LineMaker.add_some.Goals as goal

pub returns-clause-lines : goal.returns-clause-lines
returns-clause-lines c =
    let now = c.args.self.now in
    let inside = c.self.inside in
    let octets = c.args.octets.now in
    let count = c.plain_count-count.result in
    let found = c.plain_count-count.ensures in
    let front = take count octets in
    let long : length front ≡ count = length-take-le count octets found.within in
    let plain : (place : ℕ) → place < length front → is_plain (slice_index front place) ≡ true =
    λ place below. rw (get_or-take count octets place 0 (omega (arith, long, below))) (found.plain place (omega (arith, long, below))) in
    let clear : now ≡ open_line now.text = c.is_clear.ensures c.if-not-is_clear.false in
    let held : inside.held ≡ Nothing = ap (λ m. m.held) (c.self.view_is ∙ clear) in
    let ending : inside.ending ≡ Open = ap (λ m. m.ending) (c.self.view_is ∙ clear) in
    let text : inside.text ≡ now.text = ap (λ m. m.text) c.self.view_is in
    let last : with_making [] (record { text = c.push_all.new.self; held = inside.held; ending = inside.ending })
    ≡ only (open_line (with_all inside.text front)) = rw (c.push_all.ensures, held, ending) refl in
    ap (λ m. lines_after (only m) front) clear ∙ plain-lines front now.text plain
    ∙ ap (λ t. only (open_line (with_all t front))) (sym text) ∙ sym last
