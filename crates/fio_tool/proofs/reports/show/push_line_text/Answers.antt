use Rattle.fio_tool.proofs.Names.{◌≡◌, ◌++◌, ◌<◌, Some, IfOk, OnOk, is_ok, length, option_map, rules, subst, sym, arith, text_at}
use Rattle.fio_text.specs.Hexadecimal.{octets_in}
use Rattle.fio_tool.proofs.FramesShown.{line_too_long}
use Rattle.fio_tool.proofs.reports.show.push_line_text.Goals as goal

pub returns-in-Some-clause-text : goal.returns-in-Some-clause-text
returns-in-Some-clause-text c =
    let count : Some c.in-Some.got ≡ option_map length (octets_in c.args.line.now) = search (rules, c.in-Some.ensures.count) in
    let long : 773 < c.in-Some.got = omega (arith, c.if-got-gt773.true) in
    subst (λ shown. OnOk c.push_fault-in-Some.result (c.push_fault-in-Some.new.text.items ≡ c.args.text.now.items ++ text_at c.args.number shown))
    (sym (line_too_long c.args.line.now c.in-Some.got count long)) (rw (c.as_str.ensures.value, c.words.ensures) at c.push_fault-in-Some.ensures.text)

pub returns-in-Some-clause-good : goal.returns-in-Some-clause-good
returns-in-Some-clause-good c =
    let count : Some c.in-Some.got ≡ option_map length (octets_in c.args.line.now) = search (rules, c.in-Some.ensures.count) in
    let long : 773 < c.in-Some.got = omega (arith, c.if-got-gt773.true) in
    subst (λ shown. IfOk c.push_fault-in-Some.result (λ good. good ≡ is_ok shown))
    (sym (line_too_long c.args.line.now c.in-Some.got count long)) c.push_fault-in-Some.ensures.good
