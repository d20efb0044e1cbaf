-- The proofs of those laws that need no answer: the module `laws` names this list.
use Rattle.fio_message.proofs.InputsLayout.{inputs_layout}
use Rattle.fio_message.proofs.KnownTypes.{command_codes, answer_codes, block_codes, block_answer_needs}
use Rattle.fio_message.proofs.MessageLaws.{each_command, each_answer, never_both}
use Rattle.fio_message.proofs.StatusBits.{error_back, set_before_back, status_again}

pub ruleset laws = (inputs_layout, command_codes, answer_codes, block_codes, block_answer_needs, each_command, each_answer, never_both, error_back, set_before_back, status_again)
