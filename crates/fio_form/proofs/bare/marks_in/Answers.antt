use Rattle.std.proofs.Common.{sym}
use Rattle.std.proofs.lemmas.List.{drop_all, drop_more}
use Rattle.fio_form.proofs.bare.marks_in.Goals as goal

pub returns-then-at-text-clause-none : goal.returns-then-at-text-clause-none
returns-then-at-text-clause-none c =
    let none = drop_all c.marks.at c.args.text.now c.if-at-text.true in
    let marks = drop_more c.args.marks.now c.marks.at 0 c.marks-test.true in
    let here = rw (none, marks) at c.marks.invariant.same in
    sym here
