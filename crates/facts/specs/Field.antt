-- A set in a file: number n is bit n % 8, the lowest bit first, of byte n / 8. So a word is eight bytes, the lowest first.
use Rattle.std.specs.Prelude.{ℕ, zero, suc, ◌+◌, ◌*◌, ◌/◌, ◌%◌, ◌^◌, List, map, take, drop, slice_index}
use Rattle.std.specs.List.{range_with_len}

-- the words of a set of facts, and the bytes of its field in a file
abbrev pub set_words : ℕ
set_words = 4

abbrev pub field_bytes : ℕ
field_bytes = 32

-- the number that n bytes from the place `at` on write, the lowest first
abbrev pub number : ℕ → List ℕ → ℕ → ℕ
number zero bs at = 0
number (suc n) bs at = slice_index bs at + 256 * number n bs (at + 1)

-- n words from the place `at` on
unfoldable pub words : ℕ → List ℕ → ℕ → List ℕ
words n bs at = map (λ k. number 8 bs (at + 8 * k)) (range_with_len 0 n)

-- the first n bytes of a set
unfoldable pub bytes : ℕ → List ℕ → List ℕ
bytes n ws = map (λ k. slice_index ws (k / 8) / 2 ^ (8 * (k % 8)) % 256) (range_with_len 0 n)

-- n bytes from the place `at` on
abbrev pub part : ℕ → List ℕ → ℕ → List ℕ
part n bs at = take n (drop at bs)
