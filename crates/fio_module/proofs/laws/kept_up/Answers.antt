use Rattle.fio_module.proofs.Polling.{kept_up_keeps_up, blocks_take_the_rest, two_blocks_are_room}
use Rattle.fio_module.proofs.laws.kept_up.Goals as goal

pub returns-clause-keeps : goal.returns-clause-keeps
returns-clause-keeps c = kept_up_keeps_up

pub returns-clause-rest : goal.returns-clause-rest
returns-clause-rest c = blocks_take_the_rest

pub returns-clause-room : goal.returns-clause-room
returns-clause-room c = two_blocks_are_room
