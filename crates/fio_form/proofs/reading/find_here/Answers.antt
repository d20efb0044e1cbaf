use Rattle.std.proofs.Common.{ℕ, ◌≡◌, ◌+◌, ◌∙◌, [], drop, slice_index_or, sym, ap, arith}
use Rattle.std.proofs.lemmas.List.{drop_all, drop_more}
use Rattle.fio_form.specs.Reading.{from_front, front_text, octets_found, octets_here}
use Rattle.fio_form.proofs.Finding.{front_here, front_on, nothing_here}
use Rattle.fio_form.proofs.reading.find_here.Goals as goal

pub returns-in-Some-clause-front : goal.returns-in-Some-clause-front
unfolding front_text
returns-in-Some-clause-front c =
    let here = front_here c.args.form.now c.args.line.now (drop c.fronts.front c.args.line.now) c.in-Some.ensures.some in
    rw (c.if-not-form.false) (ap (λ (place : ℕ). drop place c.args.line.now) c.in-Some.ensures.at ∙ (sym here ∙ c.fronts.invariant.same))

pub fronts-preserved : goal.fronts-preserved
fronts-preserved c =
    let text = drop_more c.args.line.now c.fronts.front 0 c.fronts-test.true in
    let none = sym (ap (octets_here c.args.form.now c.args.line.now) text) ∙ c.in_default.ensures.none in
    let on = front_on c.args.form.now c.args.line.now (slice_index_or c.args.line.now c.fronts.front 0) (drop (c.fronts.front + 1) c.args.line.now) none in
    record {
      same = sym on ∙ (sym (ap (from_front c.args.form.now c.args.line.now) text) ∙ c.fronts.invariant.same);
      within = omega arith;
    }

pub returns-clause-none : goal.returns-clause-none
unfolding front_text octets_found
returns-clause-none c =
    let all = drop_all c.fronts.front c.args.line.now c.fronts-test.false in
    let text : from_front c.args.form.now c.args.line.now c.args.line.now ≡ [] = sym c.fronts.invariant.same ∙ ap (from_front c.args.form.now c.args.line.now) all in
    rw (c.if-not-form.false) (ap (octets_here c.args.form.now c.args.line.now) text ∙ nothing_here c.args.form.now c.args.line.now)
