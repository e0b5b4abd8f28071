-- Sets of numbers as lists of 64-bit words, of any length: number n is bit n % 64 of word n / 64.
use Rattle.std.specs.Prelude.{ℕ, zero, suc, ◌+◌, ◌/◌, ◌%◌, ◌^◌, max, Bool, true, cond, not, ◌&&◌, List, map, length, sum_by, ◌==◌, bit_and, bit_or, bit_xor, count_ones, nat_eq, slice_index, slice_set}
use Rattle.std.specs.List.{range_with_len}

-- bit k of the number w
abbrev pub bit : ℕ → ℕ → ℕ
bit w k = w / 2 ^ k % 2

-- whether n is in the set
unfoldable pub has : List ℕ → ℕ → Bool
has ws n = bit (slice_index ws (n / 64)) (n % 64) == 1

-- the words of both lists joined one by one; a missing word is 0
abbrev pub zipped : (ℕ → ℕ → ℕ) → List ℕ → List ℕ → List ℕ
zipped g xs ys = map (λ k. g (slice_index xs k) (slice_index ys k)) (range_with_len 0 (max (length xs) (length ys)))

-- the bits of a that b lacks
abbrev pub minus : ℕ → ℕ → ℕ
minus a b = bit_xor a (bit_and a b)

unfoldable pub union : List ℕ → List ℕ → List ℕ
union xs ys = zipped bit_or xs ys

unfoldable pub without : List ℕ → List ℕ → List ℕ
without xs ys = zipped minus xs ys

unfoldable pub common : List ℕ → List ℕ → List ℕ
common xs ys = zipped bit_and xs ys

-- whether p holds of each number below n
abbrev pub every : (ℕ → Bool) → ℕ → Bool
every p zero = true
every p (suc n) = every p n && p n

-- whether each word of xs lies within that of ys
unfoldable pub subset : List ℕ → List ℕ → Bool
subset xs ys = every (λ k. nat_eq (bit_and (slice_index xs k) (slice_index ys k)) (slice_index xs k)) (length xs)

-- whether no word has a bit
unfoldable pub none : List ℕ → Bool
none ws = every (λ k. nat_eq (slice_index ws k) 0) (length ws)

-- whether two sets have a member in common
abbrev pub meets : List ℕ → List ℕ → Bool
meets xs ys = not (none (common xs ys))

-- how many numbers are in the set
unfoldable pub size : List ℕ → ℕ
size ws = sum_by count_ones ws

-- the set with n
unfoldable pub insert : List ℕ → ℕ → List ℕ
insert ws n = slice_set ws (n / 64) (bit_or (slice_index ws (n / 64)) (2 ^ (n % 64)))

-- how many numbers below n pass the test
abbrev pub tally : (ℕ → Bool) → ℕ → ℕ
tally p zero = 0
tally p (suc n) = tally p n + cond (p n) 1 0
