use Rattle.std.proofs.Common.{List, ℕ, ◌+◌, ◌∙◌, ◌∷◌, ◌++◌, [], refl, drop, slice_index_or, sym, subst, arith}
use Rattle.std.proofs.lemmas.List.{drop_all, drop_more}
use Rattle.fio_form.specs.Octets.{run_in}
use Rattle.fio_form.proofs.PairTexts.{octet_at}
use Rattle.fio_form.proofs.Stepping.{Extends, emitted, ended, filled, more_left, next_here}
use Rattle.fio_form.proofs.octets.run_in.Goals as goal

pub returns-else-at-cycle-clause-read : goal.returns-else-at-cycle-clause-read
returns-else-at-cycle-clause-read c =
    let none = drop_all c.characters.at c.args.cycle.now c.if-at-cycle.false in
    let characters = drop_more c.args.text.now c.characters.place 0 c.characters-test.true in
    let here = rw (none, characters) at c.characters.invariant.same in
    sym here

pub returns-else-at-cycle-clause-rest : goal.returns-else-at-cycle-clause-rest
returns-else-at-cycle-clause-rest c =
    let none = drop_all c.characters.at c.args.cycle.now c.if-at-cycle.false in
    let characters = drop_more c.args.text.now c.characters.place 0 c.characters-test.true in
    let here = rw (none, characters) at c.characters.invariant.rest in
    here

pub returns-then-not-add : goal.returns-then-not-add
returns-then-not-add c =
    let steps = octet_at c.args.cycle.now c.characters.at c.if-at-cycle.true c.in-Octet.is in
    let characters = drop_more c.args.text.now c.characters.place 0 c.characters-test.true in
    let next = next_here c.args.digits c.characters.begun c.args.text.now c.characters.place c.makes_longer.ensures (sym c.next_in.ensures ∙ c.in-Last.is) in
    let on = ended c.args.digits c.args.cycle.now (drop (c.characters.at + 1) c.args.cycle.now) c.characters.begun c.in-Last.last
    (slice_index_or c.args.text.now c.characters.place 0) c.characters.octets.items (drop (c.characters.place + 1) c.args.text.now) next in
    let here = rw (steps, characters) at c.characters.invariant.same in
    let whole = subst (λ (read : List ℕ). Extends (c.characters.octets.items ++ c.in-Last.last ∷ []) read) here on in
    let before = c.if-not-add.ensures.full refl in
    let all = run_in c.args.digits c.args.cycle.now c.args.text.now in
    record {
      read = tt;
      few = tt;
      rest = tt;
      within = tt;
      full = omega (arith, more_left c.characters.octets.items c.in-Last.last all whole, before.0);
      first = before.1 ∙ filled c.characters.octets.items c.in-Last.last all whole before.0;
    }

pub returns-then-not-add-2 : goal.returns-then-not-add-2
returns-then-not-add-2 c =
    let steps = octet_at c.args.cycle.now c.characters.at c.if-at-cycle.true c.in-Octet.is in
    let characters = drop_more c.args.text.now c.characters.place 0 c.characters-test.true in
    let next = next_here c.args.digits c.characters.begun c.args.text.now c.characters.place c.makes_longer.ensures (sym c.next_in.ensures ∙ c.in-Emit.is) in
    let on = emitted c.args.digits c.args.cycle.now (drop (c.characters.at + 1) c.args.cycle.now) c.characters.begun c.in-Emit.last
    (slice_index_or c.args.text.now c.characters.place 0) c.in-Emit.more c.characters.octets.items (drop (c.characters.place + 1) c.args.text.now) next in
    let here = rw (steps, characters) at c.characters.invariant.same in
    let whole = subst (λ (read : List ℕ). Extends (c.characters.octets.items ++ c.in-Emit.last ∷ []) read) here on in
    let before = c.if-not-add-2.ensures.full refl in
    let all = run_in c.args.digits c.args.cycle.now c.args.text.now in
    record {
      read = tt;
      few = tt;
      rest = tt;
      within = tt;
      full = omega (arith, more_left c.characters.octets.items c.in-Emit.last all whole, before.0);
      first = before.1 ∙ filled c.characters.octets.items c.in-Emit.last all whole before.0;
    }
