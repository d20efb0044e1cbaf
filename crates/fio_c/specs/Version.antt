-- Versions as one number, so that a program can compare them.
use Rattle.std.specs.Prelude.{ℕ, ◌+◌, ◌*◌}

-- the number of a version: 10,000 for each major one, 100 for each minor one, 1 for each patch
abbrev pub version_number : ℕ → ℕ → ℕ → ℕ
version_number major minor patch = 10000 * major + 100 * minor + patch
