-- The number that two, four or eight bytes from an index on stand for, low byte first.
use Rattle.std.specs.Prelude.{List, ℕ, ◌+◌, ◌*◌, get_or}

abbrev pub two_bytes : List ℕ → ℕ → ℕ
two_bytes s at = get_or s at 0 + 256 * get_or s (at + 1) 0

abbrev pub four_bytes : List ℕ → ℕ → ℕ
four_bytes s at = two_bytes s at + 65536 * two_bytes s (at + 2)

abbrev pub eight_bytes : List ℕ → ℕ → ℕ
eight_bytes s at = four_bytes s at + 4294967296 * four_bytes s (at + 4)
