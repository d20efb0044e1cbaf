-- The forms by which lines are read.
use Rattle.std.specs.Prelude.{List, [], Option, Some, None}
use Rattle.arrayvec.specs.ArrayVec.{ArrayVec}
use Rattle.fio_form.specs.declared.form.LineForm.{LineForm}

-- the forms, of which there may be none yet
abbrev pub listed : Option (ArrayVec LineForm) → List LineForm
listed None = []
listed (Some forms) = forms.items
