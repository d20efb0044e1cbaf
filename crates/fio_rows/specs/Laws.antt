-- What the laws say of lines.
use Rattle.std.specs.Prelude.{ℕ, ◌≡◌, ◌≤◌, ◌+◌, ◌++◌, ◌⊎◌, Bool, true, false, List, [], Option, Some, None}
use Rattle.fio_form.specs.Messages.{is_message}
use Rattle.fio_form.specs.declared.form.LineForm.{LineForm}
use Rattle.fio_rows.specs.Lines.{says_message, is_message_whole, next_row}
use Rattle.fio_rows.specs.Rows.{Rows}
use Rattle.fio_rows.specs.declared.said.Said.{Said}
use Rattle.fio_rows.specs.declared.said.Said.TheVariants.{Damaged, Other}
use Rattle.fio_rows.specs.declared.said.Said.TheVariants as said

-- whether a line is another one
abbrev pub is_other : Said → Bool
is_other Other = true
is_other _ = false

-- what is said, and what may end with this line, is a message
pub record SaysMessages (state : Rows) : Type 0 where
  pub said : says_message state.said ≡ true → is_message state.message ≡ true
  pub open_message : is_message_whole state.pending ≡ true → is_message state.message ≡ true

-- how many octets before and after it a form has
abbrev pub spare : Option LineForm → ℕ
spare None = 0
spare (Some form) = form.before + form.after

-- the row that a form has in a line that goes on
abbrev pub row_by : Option LineForm → List ℕ → List ℕ
row_by None line = []
row_by (Some form) line = next_row form line

-- a row that is added is after the octets, or damaged
abbrev pub IsAdded : List ℕ → List ℕ → Rows → Type 0
IsAdded octets row state = (state.octets ≡ octets ++ row) ⊎ (state.said ≡ Damaged)

-- What becomes of open octets that do not go on: their message ends, or is broken, or they are as many as are before and after a
-- message.
abbrev pub Left : Bool → Bool → ℕ → ℕ → Type 0
Left ended broken count spare = (ended ≡ true) ⊎ ((broken ≡ true) ⊎ (count ≡ spare))

-- Two lines say the same, and leave the same open, of the same octets; by the same form, before the same offset, unless it is
-- another line; and the same message, if there is one.
pub record IsSame (a b : Rows) : Type 0 where
  pub said : a.said ≡ b.said
  pub pending : a.pending ≡ b.pending
  pub octets : a.octets ≡ b.octets
  pub form : is_other a.said ≡ false → a.form ≡ b.form
  pub next : is_other a.said ≡ false → a.next ≡ b.next
  pub message : says_message a.said ≡ true → a.message ≡ b.message
  pub open_message : is_message_whole a.pending ≡ true → a.message ≡ b.message
