use Rattle.std.proofs.Common.{◌≡◌, ◌+◌, ◌++◌, codes, decimal, take, drop, ◌-◌, length, ap, ap₂, sym, ◌∙◌, arith, length-drop}
use Rattle.fio_show.specs.EntryLines.{scan_ending}
use Rattle.fio_show.proofs.EndingLemmas.{ending-before, ending-short, copied-front}
use Rattle.fio_text.proofs.RoomLemmas.{start-of}
use Rattle.fio_show.proofs.entry_lines.put_ending.Goals as goal

put_before : (c : goal.After-put) → drop c.put_pieces-start.result c.put_pieces-start.new.line ≡ scan_ending c.args.stamp c.args.wide ++ drop 96 c.args.line.now
put_before c =
    c.put_pieces-start.ensures.put
    ∙ ap (λ more. codes " stamp " ++ more)
    (c.put_pieces-put_number-2.ensures.put
    ∙ ap₂ (λ stamp more. decimal stamp ++ (codes " wide " ++ more)) c.put_pieces-from-2.ensures
    (c.put_pieces-put_number.ensures.put ∙ ap (λ wide. decimal wide ++ (codes "\n" ++ drop 96 c.args.line.now)) c.put_pieces-from.ensures))
    ∙ ending-before c.args.stamp c.args.wide (drop 96 c.args.line.now)

starts : (c : goal.After-put) → c.put_pieces-start.result + length (scan_ending c.args.stamp c.args.wide) ≡ 96
starts c =
    let rest = drop 96 c.args.line.now in
    omega (arith, start-of c.put_pieces-start.new.line (scan_ending c.args.stamp c.args.wide) rest c.put_pieces-start.result (put_before c) (omega arith), length-drop 96 c.args.line.now)

pub returns-clause-length : goal.returns-clause-length
returns-clause-length c =
    omega (arith, starts c, ending-short c.args.stamp c.args.wide c.ranges.stamp.fits c.ranges.wide.fits)

pub returns-clause-put : goal.returns-clause-put
returns-clause-put c =
    let ending = scan_ending c.args.stamp c.args.wide in
    let count = 96 - c.put_pieces-start.result in
    let few = returns-clause-length c in
    let here : c.put.result ≡ 64 = omega (arith, c.put.ensures.start) in
    let start = c.put_pieces-start.result in
    let copied : start + 32 - start ≡ 32 = omega arith in
    let moved = c.copy_from_slice.ensures.after ∙ ap₂ take copied (put_before c) in
    ap (λ at. take count (drop at c.put.new.line)) (sym here)
    ∙ ap (take count) (c.put.ensures.put ∙ ap (λ octets. octets ++ drop 96 c.put_pieces-start.new.line) moved)
    ∙ copied-front ending (drop 96 c.args.line.now) (drop 96 c.put_pieces-start.new.line) count (omega (arith, starts c)) (omega (arith, few))
