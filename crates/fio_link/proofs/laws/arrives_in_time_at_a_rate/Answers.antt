use Rattle.fio_link.proofs.Rate.{arrives_in_time_at_a_rate}
use Rattle.fio_link.proofs.laws.arrives_in_time_at_a_rate.Goals as goal

pub returns : goal.returns
returns c = arrives_in_time_at_a_rate
