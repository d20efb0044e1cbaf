-- A line below no open message.
use Rattle.std.proofs.Common.{◌≡◌, ℕ, false, List, refl}
use Rattle.fio_form.specs.declared.form.LineForm.{LineForm}
use Rattle.fio_rows.specs.Lines.{first, is_ended, is_message_broken, is_message_open, line_goes_on, read_in}
use Rattle.fio_rows.specs.Places.{first_places, places_in}
use Rattle.fio_rows.specs.Rows.{Rows}

-- it is read as if the log began there
pub read_closed : (forms : List LineForm) (line tail : List ℕ) (state : Rows) → is_message_open state.pending ≡ false →
    read_in forms line tail state ≡ first forms line tail state
unfolding read_in
read_closed forms line tail state h = rw h refl

-- it goes on with nothing, and nothing ends above it or is broken
pub goes_on_closed : (forms : List LineForm) (line : List ℕ) (state : Rows) → is_message_open state.pending ≡ false → line_goes_on forms line state ≡ false
unfolding line_goes_on
goes_on_closed forms line state h = rw h refl

pub ended_closed : (forms : List LineForm) (line : List ℕ) (state : Rows) → is_message_open state.pending ≡ false → is_ended forms line state ≡ false
unfolding is_ended
ended_closed forms line state h = rw h refl

pub broken_closed : (forms : List LineForm) (line : List ℕ) (state : Rows) → is_message_open state.pending ≡ false → is_message_broken forms line state ≡ false
unfolding is_message_broken
broken_closed forms line state h = rw h refl

-- its octets are those of the first form that has it
pub places_closed : (forms : List LineForm) (line : List ℕ) (state : Rows) → is_message_open state.pending ≡ false →
    places_in forms line state ≡ first_places forms line
unfolding places_in line_goes_on
places_closed forms line state h = rw h refl
