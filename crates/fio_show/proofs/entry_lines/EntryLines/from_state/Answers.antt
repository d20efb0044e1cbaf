use Rattle.std.proofs.Common.{rules, ◌≡◌, ◌+◌, ◌<◌, ◌++◌, ◌∷◌, suc, length, take, drop, ap, ◌∙◌, arith, length-drop}
use Rattle.std.proofs.Math.ListN.{set}
use Rattle.std.proofs.lemmas.List.{drop-set, drop-set-lt, take-take, length-take}
use Rattle.fio_show.specs.EntryLines.{scan_ending}
use Rattle.fio_show.proofs.entry_lines.EntryLines.from_state.Goals as goal

pub invariant_of-self : goal.invariant_of-self
invariant_of-self c =
    let inside = c.if-stamp-self.self-inside in
    let ends : take inside.ending (drop 64 inside.line) ≡ scan_ending inside.stamp inside.wide = search rules in
    let few : inside.ending < 32 = search rules in
    (ap (take inside.ending) (drop-set-lt 64 inside.line 63 c.digit_of.result (omega arith)) ∙ ends, few)

pub returns : goal.returns
returns c =
    let inside = c.if-stamp-self.self-inside in
    let digit = c.digit_of.result in
    let ends : take inside.ending (drop 64 inside.line) ≡ scan_ending c.args.stamp c.args.wide = search rules in
    let few : inside.ending < 32 = search rules in
    let long : length inside.line ≡ 128 = search rules in
    let line = set inside.line 63 digit in
    let room : drop 63 line ≡ digit ∷ drop 64 inside.line = drop-set inside.line 63 digit (omega (arith, long)) in
    let more : 1 + inside.ending ≡ suc inside.ending = omega arith in
    record {
      room = omega (arith, long, ap length room, length-drop 64 inside.line, length-take 32 (drop 63 line));
      within = omega (arith, few);
      line = take-take (1 + inside.ending) 32 (drop 63 line) (omega (arith, few))
          ∙ ap (take (1 + inside.ending)) room
          ∙ ap (λ count. take count (digit ∷ drop 64 inside.line)) more
          ∙ ap (λ octets. digit ∷ octets) ends
          ∙ ap (λ octets. octets ++ scan_ending c.args.stamp c.args.wide) c.digit_of.ensures;
    }
