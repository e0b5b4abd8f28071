-- A number of 64 bits that spreads sets over buckets: every bit of every word counts.
use Rattle.std.specs.Prelude.{ℕ, ◌*◌, ◌/◌, ◌%◌, ◌^◌, List, fold, bit_xor}

-- the upper half of a word laid over its lower half
abbrev pub lowered : ℕ → ℕ
lowered p = bit_xor p (p / 2 ^ 32)

-- one word more
unfoldable pub stirred : ℕ → ℕ → ℕ
stirred h w = lowered (bit_xor h w * 0x9E37_79B9_7F4A_7C15 % 2 ^ 64)

-- all words, and a zero behind them, so that the last word's upper bits come down too
unfoldable pub digest : List ℕ → ℕ
digest ws = stirred (fold stirred 0 ws) 0
