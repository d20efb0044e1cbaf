-- The text of a refused configuration, with decimal numbers (own profile).
use Rattle.std.specs.Prelude.{ℕ, List, ◌++◌, codes, decimal}

-- the text for a configuration whose first item that names an input above 63 has this index
abbrev pub bad_input_text : ℕ → List ℕ
bad_input_text place = codes "item " ++ (decimal place ++ codes " names an input above 63")
