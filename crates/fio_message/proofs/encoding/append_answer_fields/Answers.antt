use Rattle.fio_message.proofs.Names.{List, ℕ, ◌++◌, ap, ◌∙◌}
use Rattle.fio_message.proofs.encoding.append_answer_fields.Goals as goal

pub returns-in-RawInputs-clause-appended : goal.returns-in-RawInputs-clause-appended
returns-in-RawInputs-clause-appended c =
    rw c.in-RawInputs.is
    (c.append-in-RawInputs.ensures.appended
    ∙ ap (λ (octets : List ℕ). c.args.frame.now.items ++ octets) c.inputs_and_stamp.ensures)

pub returns-in-FilteredInputs-clause-appended : goal.returns-in-FilteredInputs-clause-appended
returns-in-FilteredInputs-clause-appended c =
    rw c.in-FilteredInputs.is
    (c.append-in-FilteredInputs.ensures.appended
    ∙ ap (λ (octets : List ℕ). c.args.frame.now.items ++ octets) c.inputs_and_stamp-in-FilteredInputs.ensures)
