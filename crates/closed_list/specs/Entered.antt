-- What comes of entering rows one after another.
use Rattle.std.specs.Prelude.{◌≡◌, ℕ, ◌+◌, ◌<◌, ◌⊎◌, List, [], ◌∷◌, ◌++◌, length}
use Rattle.closed_list.specs.declared.row.Row.{Row}
use Rattle.closed_list.specs.Rows.{Absent, At, row}

-- the first k of the rows were offered, and the store has come from `start` to these rows
pub data Entering (room : ℕ) (start offered : List Row) : ℕ → List Row → Type 0 where
  begins : Entering room start offered 0 start
  passed : {k : ℕ} {rows : List Row} (i : ℕ) → Entering room start offered k rows → At rows (row offered k).state.words i → Entering room start offered (k + 1) rows
  entered : {k : ℕ} {rows : List Row} → Entering room start offered k rows → Absent rows (row offered k).state.words → length rows < room → Entering room start offered (k + 1) (rows ++ row offered k ∷ [])

-- all rows were offered; or the next one has a new state, and every place is taken
abbrev pub Ends : ℕ → List Row → ℕ → List Row → Type 0
Ends room offered k rows = (k ≡ length offered) ⊎ ((k < length offered) × Absent rows (row offered k).state.words × (length rows ≡ room))

-- from `start` the store has come to `rows`, n of them new
pub record Entered (room : ℕ) (start offered : List Row) (n : ℕ) (rows : List Row) : Type 0 where
  pub offers : ℕ
  pub way : Entering room start offered offers rows
  pub ends : Ends room offered offers rows
  pub new : length start + n ≡ length rows
