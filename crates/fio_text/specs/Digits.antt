-- Octets as hexadecimal digits in lower case, two for each octet.
use Rattle.std.specs.Prelude.{ℕ, List, [], ◌∷◌}
use Rattle.hex.specs.Hex.{encode_lower}

-- the digits that octets are written as: lower case, two for each octet
unfoldable pub digits_of : List ℕ → List ℕ
digits_of octets = encode_lower octets

-- the two digits of an octet
unfoldable pub octet_digits : ℕ → List ℕ
octet_digits octet = encode_lower (octet ∷ [])
