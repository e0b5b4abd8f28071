-- Numbers as they are written.
use Rattle.std.specs.Prelude.{ℕ, ◌+◌, ◌-◌, ◌*◌, ◌^◌, if◌then◌else◌, ◌&&◌, List, [], ◌∷◌, length, Some, None, Option, nat_le}
use Rattle.std.specs.Str.{all_ascii_digits}

-- what digits write: each counts by its place
abbrev pub worth : List ℕ → ℕ
worth [] = 0
worth (d ∷ ds) = (d - 48) * 10 ^ length ds + worth ds

-- one to `most` digits, and nothing else, write a number
abbrev pub numeral_of : ℕ → List ℕ → Option ℕ
numeral_of most ds = if nat_le 1 (length ds) && (nat_le (length ds) most && all_ascii_digits ds) then Some (worth ds) else None

-- the numbers of a command have one to seven digits
abbrev pub numeral : List ℕ → Option ℕ
numeral ds = numeral_of 7 ds
