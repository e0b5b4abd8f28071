-- Rows by buckets: in each bucket a row leads to the latest before it.
use Rattle.std.specs.Prelude.{◌≡◌, ℕ, zero, suc, ◌<◌, ◌≤◌, cond, List, length, Some, None, Option, ◌==◌, bit_and, slice_index_or}
use Rattle.facts.specs.Digest.{digest}
use Rattle.strips.specs.Semantics.{State}
use Rattle.closed_list.specs.declared.row.Row.{Row}
use Rattle.closed_list.specs.Rows.{row}

-- the bucket of a state
unfoldable pub bucket : ℕ → State → ℕ
bucket mask s = bit_and (digest s) mask

abbrev pub bucket_of : ℕ → List Row → ℕ → ℕ
bucket_of mask rows j = bucket mask (row rows j).state.words

-- the greatest number below n that f takes to b
unfoldable pub latest : (ℕ → ℕ) → ℕ → ℕ → Option ℕ
latest f b zero = None
latest f b (suc n) = cond (f n == b) (Some n) (latest f b n)

-- each bucket has its latest row
abbrev pub Heads : ℕ → List Row → List (Option ℕ) → Type 0
Heads mask rows heads = (b : ℕ) → b ≤ mask → slice_index_or heads b None ≡ latest (bucket_of mask rows) b (length rows)

-- each row has the latest row before it in its bucket
abbrev pub Links : ℕ → List Row → List (Option ℕ) → Type 0
Links mask rows links = (j : ℕ) → j < length rows → slice_index_or links j None ≡ latest (bucket_of mask rows) (bucket_of mask rows j) j
