use Rattle.std.proofs.Common.{List, ℕ, ◌+◌, ◌-◌, ◌∙◌, ◌∷◌, ◌++◌, [], refl, drop, length, slice_index_or, sym, ap, subst, arith}
use Rattle.std.proofs.lemmas.List.{drop_all, drop_more, length-drop, take_all}
use Rattle.fio_form.specs.Octets.{octets_from, rest_from, run_in, steps_at}
use Rattle.fio_form.specs.declared.form.Digits.TheVariants.{Pairs}
use Rattle.fio_form.specs.declared.form.Step.{Step}
use Rattle.fio_form.specs.declared.octets.Begun.TheVariants.{Nothing}
use Rattle.fio_form.proofs.PairTexts.{last_at, octet_at, one_read, one_rest, some_read, some_rest, two_at}
use Rattle.fio_form.proofs.Stepping.{Extends, extends, filled, more_left}
use Rattle.fio_form.proofs.pairs.pairs_in.Goals as goal

pub returns-then-place-text-clause-read : goal.returns-then-place-text-clause-read
returns-then-place-text-clause-read c =
    let steps = octet_at c.args.cycle.now c.steps.at c.if-at-cycle.true c.in-Octet.is in
    let last = last_at c.args.text.now c.steps.place c.steps-test.true c.if-place-text.true in
    let here = rw (steps, last) at c.steps.invariant.same in
    sym here ∙ one_read c.args.cycle.now (drop (c.steps.at + 1) c.args.cycle.now) c.steps.octets.items (slice_index_or c.args.text.now c.steps.place 0)

pub returns-then-place-text-clause-rest : goal.returns-then-place-text-clause-rest
returns-then-place-text-clause-rest c =
    let steps = octet_at c.args.cycle.now c.steps.at c.if-at-cycle.true c.in-Octet.is in
    let last = last_at c.args.text.now c.steps.place c.steps-test.true c.if-place-text.true in
    let here = rw (steps, last) at c.steps.invariant.rest in
    sym (one_rest c.args.cycle.now (drop (c.steps.at + 1) c.args.cycle.now) (drop c.steps.end c.args.text.now) (slice_index_or c.args.text.now c.steps.place 0)) ∙ here

pub returns-then-not-add : goal.returns-then-not-add
returns-then-not-add c =
    let rest = drop (c.steps.place + 2) c.args.text.now in
    let left = drop (c.steps.at + 1) c.args.cycle.now in
    let steps = octet_at c.args.cycle.now c.steps.at c.if-at-cycle.true c.in-Octet.is in
    let two = two_at c.args.text.now c.steps.place (omega (arith, c.if-place-text.false)) in
    let here = rw (steps, two) at c.steps.invariant.same in
    let pair = sym c.octet_of_pair.ensures ∙ c.in-Some.is in
    let all = run_in Pairs c.args.cycle.now c.args.text.now in
    let read = some_read c.args.cycle.now left c.steps.octets.items rest (slice_index_or c.args.text.now c.steps.place 0) (slice_index_or c.args.text.now (c.steps.place + 1) 0)
    c.in-Some.octet all pair here in
    let on = extends Pairs c.args.cycle.now (steps_at c.args.cycle.now left rest) Nothing (c.steps.octets.items ++ c.in-Some.octet ∷ []) rest in
    let whole = subst (λ (read : List ℕ). Extends (c.steps.octets.items ++ c.in-Some.octet ∷ []) read) read on in
    let before = c.if-not-add.ensures.full refl in
    record {
      read = tt;
      few = tt;
      rest = tt;
      within = tt;
      full = omega (arith, more_left c.steps.octets.items c.in-Some.octet all whole, before.0);
      first = before.1 ∙ filled c.steps.octets.items c.in-Some.octet all whole before.0;
    }

pub steps-preserved-in-Octet-1 : goal.steps-preserved-in-Octet-1
steps-preserved-in-Octet-1 c =
    let rest = drop (c.steps.place + 2) c.args.text.now in
    let left = drop (c.steps.at + 1) c.args.cycle.now in
    let steps = octet_at c.args.cycle.now c.steps.at c.if-at-cycle.true c.in-Octet.is in
    let two = two_at c.args.text.now c.steps.place (omega (arith, c.if-place-text.false)) in
    let pair = sym c.octet_of_pair.ensures ∙ c.in-Some.is in
    let here = rw (steps, two) at c.steps.invariant.same in
    let read = some_read c.args.cycle.now left c.steps.octets.items rest (slice_index_or c.args.text.now c.steps.place 0) (slice_index_or c.args.text.now (c.steps.place + 1) 0)
    c.in-Some.octet (run_in Pairs c.args.cycle.now c.args.text.now) pair here in
    let here_rest = rw (steps, two) at c.steps.invariant.rest in
    let read_rest = some_rest c.args.cycle.now left (drop c.steps.end c.args.text.now) rest (slice_index_or c.args.text.now c.steps.place 0) (slice_index_or c.args.text.now (c.steps.place + 1) 0)
    c.in-Some.octet (rest_from Pairs c.args.cycle.now c.args.cycle.now Nothing c.args.text.now c.args.text.now) pair here_rest in
    let added = c.if-not-add.ensures.room refl in
    let all = take_all (length c.args.text.now - (c.steps.place + 2)) rest (omega (arith, length-drop (c.steps.place + 2) c.args.text.now)) in
    let next = c.next_at-at.ensures.after ∙ ap (λ (text : List ℕ). steps_at c.args.cycle.now left text) all in
    record {
      same = ap (λ (steps : List Step). octets_from Pairs c.args.cycle.now steps Nothing c.add.new.octets.items rest) next
          ∙ (ap (λ (octets : List ℕ). octets_from Pairs c.args.cycle.now (steps_at c.args.cycle.now left rest) Nothing octets rest) added.0 ∙ read);
      rest = ap (λ (steps : List Step). rest_from Pairs c.args.cycle.now steps Nothing rest rest) next ∙ read_rest;
      within = omega (arith, c.if-place-text.false);
      before = omega arith;
      room = added.1;
    }

pub returns-else-at-cycle-clause-read : goal.returns-else-at-cycle-clause-read
returns-else-at-cycle-clause-read c =
    let none = drop_all c.steps.at c.args.cycle.now c.if-at-cycle.false in
    let characters = drop_more c.args.text.now c.steps.place 0 c.steps-test.true in
    let here = rw (none, characters) at c.steps.invariant.same in
    sym here

pub returns-else-at-cycle-clause-rest : goal.returns-else-at-cycle-clause-rest
returns-else-at-cycle-clause-rest c =
    let none = drop_all c.steps.at c.args.cycle.now c.if-at-cycle.false in
    let characters = drop_more c.args.text.now c.steps.place 0 c.steps-test.true in
    let here = rw (none, characters) at c.steps.invariant.rest in
    here
