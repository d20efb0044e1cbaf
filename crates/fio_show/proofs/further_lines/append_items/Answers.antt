use Rattle.std.proofs.Common.{◌≡◌, ℕ, ◌-◌, ◌≤◌, List, [], take, drop, length, subst, ap, sym, ◌∙◌, arith, rules, length-drop}
use Rattle.std.proofs.lemmas.List.{take_all}
use Rattle.std.specs.List.{flat_map}
use Rattle.fio_show.specs.CommandLines.{item_text}
use Rattle.fio_show.proofs.further_lines.append_items.Goals as goal

pub items-init : goal.items-init
items-init g c =
    let all = c.into_iter-item-iterator.ensures.into_iter_gives ∙ c.iter-item-items.ensures.value in
    record {
      room = g.met.S.TextSink.room_left _ _ [] _ _ c.requires (g.met.S.TextSink.nothing _) (omega (arith, ap length all, c.iter-item-items.ensures.fits));
      whole = rw all (λ after then. then);
    }

-- what is put from an index of its room on is the rest of the room
rest-of : (line : List ℕ) (start : ℕ) → length line ≡ 128 → start ≤ 128
    → (take (128 - start) (drop start line) ≡ drop start line) × (length (take (128 - start) (drop start line)) ≤ 128)
rest-of line start long within =
    let all = take_all (128 - start) (drop start line) (omega (arith, long, within, length-drop start line)) in
    (all, omega (arith, ap length all, long, length-drop start line))

pub append-requires : goal.append-requires
append-requires g c =
    let rest = rest-of c.put_item-start.new.line c.put_item-start.result c.put_item-start.array_long c.put_item-start.ensures.start in
    g.met.S.TextSink.room_left _ _ [] _ _ c.items.invariant.room (g.met.S.TextSink.nothing _)
    (omega (arith, ap length c.in-Some.ensures.steps, rest.1))

pub items-preserved : goal.items-preserved
items-preserved g c =
    let rest = rest-of c.put_item-start.new.line c.put_item-start.result c.put_item-start.array_long c.put_item-start.ensures.start in
    record {
      room = g.met.S.TextSink.room_left _ _ _ _ _ c.items.invariant.room c.in_ok-append.ensures
          (omega (arith, ap length c.in-Some.ensures.steps, rest.1));
      whole = λ after then. c.items.invariant.whole after
          (subst (λ items. g.S.TextSink.takes c.items.sink (flat_map item_text items) after) (sym c.in-Some.ensures.steps)
          (g.met.S.TextSink.both _ _ _ _ _
          (subst (λ text. g.S.TextSink.takes c.items.sink text c.append.new.self) (rest.0 ∙ c.put_item-start.ensures.text) c.in_ok-append.ensures) then));
    }

pub returns : goal.returns
returns g c =
    let left : c.items.item-iterator ≡ [] = search rules in
    c.items.invariant.whole _
    (subst (λ items. g.S.TextSink.takes c.items.sink (flat_map item_text items) c.items.sink) (sym left) (g.met.S.TextSink.nothing _))
