-- Forms that are made of others.
use Rattle.std.specs.Prelude.{ℕ, ◌≡◌, ◌<◌, false, true, List, [], length, slice_index_or, set, ◌≤◌, ◌⊎◌}
use Rattle.fio_form.specs.Forms.{is_form, is_numeric}
use Rattle.fio_form.specs.declared.form.LineForm.{LineForm}
use Rattle.fio_form.specs.declared.form.LineRows.TheVariants.{One}
use Rattle.fio_form.specs.declared.form.TheConstants.{FRONT_VALUES}
use Rattle.fio_form.specs.declared.form.Piece.TheVariants.{Value}

-- a form of messages of one line, with no octets before and after them, and no values
pub record IsPlain (form : LineForm) : Type 0 where
  pub values : form.values.items ≡ []
  pub somewhere : form.is_anywhere ≡ false
  pub before : form.before ≡ 0
  pub after : form.after ≡ 0
  pub framed : form.is_framed ≡ false
  pub rows : form.rows ≡ One
  pub swapped : form.is_swapped ≡ false
  pub echo : form.is_echo ≡ false

-- forms that differ in their fronts and values at most
pub record IsLike (form other : LineForm) : Type 0 where
  pub digits : other.digits ≡ form.digits
  pub cycle : other.cycle.items ≡ form.cycle.items
  pub somewhere : other.is_anywhere ≡ form.is_anywhere
  pub before : other.before ≡ form.before
  pub after : other.after ≡ form.after
  pub framed : other.is_framed ≡ form.is_framed
  pub rows : other.rows ≡ form.rows
  pub swapped : other.is_swapped ≡ form.is_swapped
  pub echo : other.is_echo ≡ form.is_echo

-- the same form again
pub record IsCopy (form other : LineForm) : Type 0 where
  pub front : other.front.items ≡ form.front.items
  pub values : other.values.items ≡ form.values.items
  pub rest : IsLike form other

-- the form of those lines of one in which a number of the front has one of these values
pub record HasValues (form : LineForm) (piece : ℕ) (chosen : List ℕ) (other : LineForm) : Type 0 where
  pub within : piece < length form.front.items
  pub number : is_numeric (slice_index_or form.front.items piece Value) ≡ true
  pub front : other.front.items ≡ set form.front.items piece Value
  pub values : other.values.items ≡ chosen
  pub rest : IsLike form other

-- there is no such form: there is no such piece, it is no number, there are too many values, or the result is no form
abbrev pub HasNoValues : LineForm → ℕ → List ℕ → Type 0
HasNoValues form piece chosen =
    (length form.front.items ≤ piece) ⊎ (is_numeric (slice_index_or form.front.items piece Value) ≡ false) ⊎ (FRONT_VALUES < length chosen)
    ⊎ (is_form (set form.front.items piece Value) form.digits form.cycle.items ≡ false)
