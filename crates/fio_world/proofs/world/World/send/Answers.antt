use Rattle.fio_world.proofs.Names.{◌+◌, ◌∷◌, ◌++◌, [], length, ap, ◌∙◌, Ends}
use Rattle.fio_world.proofs.Shown.{newest}
use Rattle.fio_world.specs.declared.outcome.Outcome.TheVariants as outcomes
use Rattle.fio_world.proofs.world.World.send.Goals as goal

pub returns-clause-outcome : goal.returns-clause-outcome
returns-clause-outcome c =
    let frame = c.args.frame.now in
    newest c.add.new.self.frames c.self.inside.to_module.frames frame c.len.result (c.add.ensures ∙ ap (λ fs. fs ++ frame ∷ []) c.reserve.ensures.same) c.len.ensures
    ∙ ap (λ (w : Ends). outcomes.Sent (length w.to_module + 1) (record { items = frame })) c.self.view_is
