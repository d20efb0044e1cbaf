-- Which lines of a log are blank.
use Rattle.std.specs.Prelude.{ℕ, ◌==◌, ◌&&◌, ◌||◌, not, Bool, true, List, [], ◌∷◌}
use Rattle.fio_log.specs.Lines.{Text}

-- the lines of a log, by their numbers from 1
abbrev pub Texts : Type 0
Texts = ℕ → Text

-- whether a character is a blank: a space, a tab, a feed or a return
abbrev pub is_white_space : ℕ → Bool
is_white_space character = character == 32 || (character == 9 || (character == 10 || (character == 12 || character == 13)))

-- whether a text has nothing but blanks
abbrev pub are_blanks : List ℕ → Bool
are_blanks [] = true
are_blanks (character ∷ text) = is_white_space character && are_blanks text

-- whether a line is blank: it has nothing but blanks, and no more characters than are kept
abbrev pub is_blank_line : Text → Bool
is_blank_line text = not text.is_long && are_blanks text.octets
