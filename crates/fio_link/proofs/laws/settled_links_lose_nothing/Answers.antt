use Rattle.fio_link.proofs.Promises.{opens}
use Rattle.fio_link.proofs.WholeSince.{gains_all, gains_all_after_outage, gains_all_for_each}
use Rattle.fio_link.proofs.laws.settled_links_lose_nothing.Goals as goal

pub returns-clause-unless_full : goal.returns-clause-unless_full
returns-clause-unless_full c = λ settings first events machine range run.
    gains_all settings range first machine (opens settings first events machine range run)

pub returns-clause-outage : goal.returns-clause-outage
returns-clause-outage c opened filter = λ settings first events machine range run.
    gains_all_after_outage settings range first machine (opens settings first events machine range run) opened filter

pub returns-clause-for_each : goal.returns-clause-for_each
returns-clause-for_each c plan scans = λ settings first events machine range run.
    gains_all_for_each settings range first machine (opens settings first events machine range run) plan scans
