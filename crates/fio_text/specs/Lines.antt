-- The lines of a text. A line ends before a line feed, octet 10; the last line may lack its line feed.
use Rattle.std.specs.Prelude.{◌≢◌, ℕ, suc, Bool, true, List, [], ◌∷◌, ◌++◌, ◌==◌, if◌then◌else◌}
use Rattle.std.specs.List.{AllByRecursion}

-- these lines, with an octet that is no line feed put in front of the first
abbrev pub with_front : ℕ → List (List ℕ) → List (List ℕ)
with_front octet [] = (octet ∷ []) ∷ []
with_front octet (line ∷ lines) = (octet ∷ line) ∷ lines

-- the lines of a text: each ends before a line feed, which the last may lack
abbrev pub lines_of : List ℕ → List (List ℕ)
lines_of [] = []
lines_of (octet ∷ rest) =
    if octet == 10 then [] ∷ lines_of rest else with_front octet (lines_of rest)

-- a line without content: it is empty, or its first octet is `#`, 35
abbrev pub is_skipped : List ℕ → Bool
is_skipped [] = true
is_skipped (octet ∷ _) = octet == 35

-- the lines that have content, each with its number, if the first of all these lines has the number given
abbrev pub numbered : ℕ → List (List ℕ) → List (ℕ × List ℕ)
numbered number [] = []
numbered number (line ∷ lines) =
    if is_skipped line
    then numbered (suc number) lines
    else (number, line) ∷ numbered (suc number) lines

-- the text of these lines, each followed by a line feed
abbrev pub text_of : List (List ℕ) → List ℕ
text_of [] = []
text_of (line ∷ lines) = line ++ (10 ∷ text_of lines)

-- none of these octets is a line feed
abbrev pub IsOneLine : List ℕ → Type 0
IsOneLine line = AllByRecursion (λ octet. octet ≢ 10) line
