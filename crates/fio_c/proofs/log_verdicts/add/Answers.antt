use Rattle.std.proofs.Common.{◌≡◌, ◌++◌, ◌∷◌, [], ap₂, length, subst, ◌∙◌}
use Rattle.fio_log.specs.Telling.{frames_of, places_of}
use Rattle.fio_c.specs.Logs.{Content, Holds, flat_verdict}
use Rattle.fio_c.proofs.log_verdicts.add.Goals as goal

pub returns-clause-told : goal.returns-clause-told
returns-clause-told c = λ content holds.
    let verdict = c.args.verdict.now in
    let is : c.told_from.result ≡ flat_verdict verdict (length (frames_of c.args.reader.now)) (length (places_of c.args.reader.now)) =
    c.told_from.ensures ∙ ap₂ (flat_verdict verdict) c.add_frames-frames.ensures.all c.add_places-places.ensures.all in
    subst (λ flat. (all : Content) → Holds c.add_places-places.new.batch all → Holds c.push_verdict.new.self (record all { verdicts = all.verdicts ++ flat ∷ [] }))
    is c.push_verdict.ensures.added _
    (c.add_places-places.ensures.added _ (c.add_frames-frames.ensures.added content holds))
