use Rattle.fio_input.proofs.Names.{◌∷◌, [], take, sym, ◌∙◌, refl, subst, arith, take_more, take_all, Configure, AreFiltersAfter}
use Rattle.fio_input.specs.Filters.{with_ignored}
use Rattle.fio_input.proofs.Configured.{AreFiltersAfter-unapplied}
use Rattle.fio_input.proofs.Present.{all_present-none, all_present-some, all_present-take, all_present-at, applied_items-some}
use Rattle.fio_input.proofs.filters.Filters.configure_from.Goals as goal

pub loop-place-init : goal.loop-place-init
loop-place-init g c history s = AreFiltersAfter-unapplied c.args.self.now [] history refl s

pub apply-requires : goal.apply-requires
apply-requires g c =
    let items = g.C.Configuration.items c.args.items.now in
    let all = all_present-none items (sym c.first_bad_item.ensures ∙ c.in_default.is) in
    rw c.item.ensures (all_present-at items c.loop-place.place c.item.result (omega arith) all)

pub loop-place-preserved : goal.loop-place-preserved
loop-place-preserved g c history s =
    let items = g.C.Configuration.items c.args.items.now in
    let i = c.loop-place.place in
    let all = all_present-none items (sym c.first_bad_item.ensures ∙ c.in_default.is) in
    rw (take_more items i c.item.result (omega arith), ← c.item.ensures) (
    c.apply.ensures history (take i items) (all_present-take i items all) (c.loop-place.invariant history s))

pub returns-clause-carried : goal.returns-clause-carried
returns-clause-carried g c history s =
    subst (λ front. AreFiltersAfter (with_ignored c.loop-place.self c.loop-place.ignored) (Configure front ∷ history))
    (take_all c.loop-place.place (g.C.Configuration.items c.args.items.now) (omega arith)) (c.loop-place.invariant history s)

pub returns-clause-ok : goal.returns-clause-ok
returns-clause-ok g c = sym (all_present-none (g.C.Configuration.items c.args.items.now) (sym c.first_bad_item.ensures ∙ c.in_default.is))

pub returns-in-Some-clause-carried : goal.returns-in-Some-clause-carried
returns-in-Some-clause-carried g c history s =
    let items = g.C.Configuration.items c.args.items.now in
    let found = sym c.first_bad_item.ensures ∙ c.in-Some.is in
    AreFiltersAfter-unapplied c.args.self.now items history (applied_items-some items c.in-Some.place found) s

pub returns-in-Some-clause-ok : goal.returns-in-Some-clause-ok
returns-in-Some-clause-ok g c =
    sym (all_present-some (g.C.Configuration.items c.args.items.now) c.in-Some.place (sym c.first_bad_item.ensures ∙ c.in-Some.is))
