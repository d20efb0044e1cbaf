use Rattle.std.proofs.Common.{◌≤◌}
use Rattle.fio_c.specs.declared.log_forms.TheConstants.{FORMS}
use Rattle.fio_c.proofs.log_forms.forms_of.Given as goal

abbrev pub invariant-forms : goal.invariant-forms
invariant-forms l = l.forms.count ≤ FORMS
