use Rattle.std.proofs.Common.{◌≡◌, ◌<◌, ◌-◌, drop, length, take, arith}
use Rattle.std.proofs.lemmas.List.{length-drop, take_all}
use Rattle.fio_log.proofs.SecondLemmas.{none_there}
use Rattle.fio_log.proofs.second.second_in.Goals as goal

pub returns-then-matches : goal.returns-then-matches
returns-then-matches c = λ none.
    let there : c.places.place < length c.args.line.now = omega (arith, c.places-test.true) in
    let all : take (length c.args.line.now - c.places.place) (drop c.places.place c.args.line.now) ≡ drop c.places.place c.args.line.now =
    take_all _ _ (omega (arith, length-drop c.places.place c.args.line.now)) in
    absurd (none_there c.args.forms.now (drop c.places.place c.args.line.now) c.loop-form.form-index c.form-item.result
    (none c.places.place there) c.loop-form-test.true c.form-item.is
    (rw all at c.in-Some.ensures.some))
