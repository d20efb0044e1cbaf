use Rattle.fio_module.proofs.state.ModuleState.restart.Goals as goal

pub returns-clause-carried : goal.returns-clause-carried
returns-clause-carried g c settings history after =
    rw c.clear.ensures.entries (c.start_anew.ensures settings (g.R.EntryRing.held c.args.ring.now) history after)
