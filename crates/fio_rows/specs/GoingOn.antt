-- Whether a message goes on in the next line.
use Rattle.std.specs.Prelude.{ℕ, ◌==◌, ◌&&◌, ◌||◌, nat_le, not, Bool, true, false, if◌then◌else◌, List, [], ◌∷◌}
use Rattle.std.specs.List.{list_all}
use Rattle.fio_form.specs.declared.form.LineForm.{LineForm}
use Rattle.fio_form.specs.declared.form.LineRows.{LineRows}
use Rattle.fio_form.specs.declared.form.LineRows.TheVariants.{Offset, Wrapped, Bare, Pieces}
use Rattle.fio_form.specs.declared.form.Step.{Step}
use Rattle.fio_form.specs.declared.form.Step.TheVariants.{Octet, Mark, MaybeBlank}
use Rattle.fio_rows.specs.declared.going_on.TheConstants.{LONG_ROW}

-- whether a step is this mark
abbrev pub is_mark : ℕ → Step → Bool
is_mark character (Mark mark) = mark == character
is_mark character _ = false

-- a cycle without the octets that it begins with
abbrev pub past_octets : List Step → List Step
past_octets [] = []
past_octets (Octet ∷ steps) = past_octets steps
past_octets (Mark mark ∷ steps) = Mark mark ∷ steps
past_octets (MaybeBlank ∷ steps) = MaybeBlank ∷ steps

-- a gap without the blanks that it begins with
abbrev pub past_blanks : List Step → List Step
past_blanks [] = []
past_blanks (step ∷ steps) = if is_mark 32 step then past_blanks steps else step ∷ steps

-- what is left of a text after the marks of a gap with which it begins
unfoldable pub past_gap : List Step → List ℕ → List ℕ
past_gap [] text = text
past_gap (step ∷ gap) [] = []
past_gap (step ∷ gap) (character ∷ text) = if is_mark character step then past_gap gap text else character ∷ text

-- whether a text is blanks
abbrev pub has_only_blanks : List ℕ → Bool
has_only_blanks text = list_all (λ character. character == 32) text

-- whether a list goes on below: the text after a row is the beginning of a gap, blanks aside
unfoldable pub is_list_open : List Step → List ℕ → Bool
is_list_open cycle tail = not (has_only_blanks tail) && has_only_blanks (past_gap (past_blanks (past_octets cycle)) tail)

-- whether the next line may go on with the octets, of which `row` are in this line
abbrev pub may_go_on_in : LineRows → List Step → ℕ → List ℕ → Bool
may_go_on_in (Offset number base width begins_at_zero) cycle row tail = true
may_go_on_in (Wrapped width) cycle row tail = row == width
may_go_on_in Bare cycle row tail = nat_le LONG_ROW row || is_list_open cycle tail
may_go_on_in Pieces cycle row tail = true
may_go_on_in _ cycle row tail = false

-- whether the next line may go on with the octets of a row, of this many octets and with this tail
unfoldable pub may_go_on : LineForm → ℕ → List ℕ → Bool
may_go_on form row tail = may_go_on_in form.rows form.cycle.items row tail

-- whether a row is full, so that nothing says whether a message of any length goes on
abbrev pub is_full_in : LineRows → Bool → ℕ → Bool
is_full_in (Offset number base width begins_at_zero) may row = nat_le width row
is_full_in Pieces may row = true
is_full_in _ may row = may

-- whether a row of this many octets and with this tail is full, so that nothing says whether a message of any length goes on
unfoldable pub is_full : LineForm → ℕ → List ℕ → Bool
is_full form row tail = is_full_in form.rows (may_go_on form row tail) row
