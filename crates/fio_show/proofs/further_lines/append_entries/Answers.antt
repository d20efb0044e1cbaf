use Rattle.std.proofs.Common.{◌≡◌, [], length, subst, ap, sym, ◌∙◌, arith, rules}
use Rattle.std.proofs.lemmas.List.{length-take}
use Rattle.std.specs.List.{flat_map}
use Rattle.fio_show.specs.AnswerLines.{entry_text}
use Rattle.fio_show.proofs.further_lines.append_entries.Goals as goal

pub entries-init : goal.entries-init
entries-init g c =
    let all = c.into_iter-entry-iterator.ensures.into_iter_gives ∙ c.iter-entry-items.ensures.value in
    record {
      room = g.met.S.TextSink.room_left _ _ [] _ _ c.requires (g.met.S.TextSink.nothing _) (omega (arith, ap length all, c.iter-entry-items.ensures.fits));
      whole = rw all (λ after then. then);
    }

pub append_front-requires-clause-room : goal.append_front-requires-clause-room
append_front-requires-clause-room g c =
    g.met.S.TextSink.room_left _ _ [] _ _ c.entries.invariant.room (g.met.S.TextSink.nothing _)
    (omega (arith, ap length c.in-Some.ensures.steps, c.entry_line.ensures.within))

pub entries-preserved : goal.entries-preserved
entries-preserved g c = record {
  room = g.met.S.TextSink.room_left _ _ _ _ _ c.entries.invariant.room c.in_ok-append_front.ensures
      (omega (arith, ap length c.in-Some.ensures.steps, c.entry_line.ensures.within, length-take c.entry_line.result.1 c.entry_line.result.0.now));
  whole = λ after then. c.entries.invariant.whole after
      (subst (λ entries. g.S.TextSink.takes c.entries.sink (flat_map (entry_text c.args.stamp) entries) after) (sym c.in-Some.ensures.steps)
      (g.met.S.TextSink.both _ _ _ _ _
      (subst (λ text. g.S.TextSink.takes c.entries.sink text c.append_front.new.self) c.entry_line.ensures.line c.in_ok-append_front.ensures) then));
}

pub returns : goal.returns
returns g c =
    let left : c.entries.entry-iterator ≡ [] = search rules in
    c.entries.invariant.whole _
    (subst (λ entries. g.S.TextSink.takes c.entries.sink (flat_map (entry_text c.args.stamp) entries) c.entries.sink) (sym left) (g.met.S.TextSink.nothing _))
