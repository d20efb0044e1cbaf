-- One form more that fits.
use Rattle.std.proofs.Common.{ℕ, List, [], ◌∷◌, ◌++◌, append_assoc}
use Rattle.std.proofs.lemmas.List.{append-nil}
use Rattle.fio_form.specs.declared.form.LineForm.{LineForm}
use Rattle.fio_sniff.specs.Windows.{AllFit, Fits}

pub all_fit_push : (lines : List (List ℕ)) (above forms : List LineForm) (form : LineForm)
    → AllFit lines above forms → Fits lines (above ++ forms) form → AllFit lines above (forms ++ form ∷ [])
all_fit_push lines above [] form all fit = (rw append-nil at fit, tt)
all_fit_push lines above (first ∷ forms) form all fit =
    (all.0, all_fit_push lines (above ++ first ∷ []) forms form all.1 (rw append_assoc fit))
