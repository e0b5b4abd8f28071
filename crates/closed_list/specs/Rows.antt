-- What the calls of a closed list mean for its rows.
use Rattle.std.specs.Prelude.{◌≡◌, ℕ, ◌^◌, ◌<◌, ◌≤◌, Bool, true, false, List, [], ◌∷◌, ◌++◌, length, Some, None, Ok, Err, Option, Result, slice_index_or}
use Rattle.strips.specs.Semantics.{State}
use Rattle.heuristic.specs.declared.estimate.Estimate.TheVariants.{Never}
use Rattle.closed_list.specs.declared.row.Row.{Row}
use Rattle.closed_list.specs.declared.row.Refusal.{Refusal}
use Rattle.closed_list.specs.declared.row.Refusal.TheVariants.{Known, Full}

-- row i; past the last, one with no fact
abbrev pub no_row : Row
no_row = record { state = record { words = [] }; parent = 0; action = 0; distance = 0; estimate = Never }

abbrev pub row : List Row → ℕ → Row
row rows i = slice_index_or rows i no_row

-- row i has the state
abbrev pub At : List Row → State → ℕ → Type 0
At rows s i = (i < length rows) × ((row rows i).state.words ≡ s)

-- no row has the state
abbrev pub Absent : List Row → State → Type 0
Absent rows s = (i : ℕ) → At rows s i → ⊥

-- no two rows have one state
abbrev pub Different : List Row → Type 0
Different rows = (i j : ℕ) → i < length rows → j < length rows → (row rows i).state.words ≡ (row rows j).state.words → i ≡ j

abbrev pub Find : List Row → State → Option ℕ → Type 0
Find rows s (Some i) = At rows s i
Find rows s None = Absent rows s

-- the row is the next one; or its state was known; or it was not, and every place was taken: then nothing changed
abbrev pub Enter : ℕ → List Row → Row → Result ℕ Refusal → List Row → Type 0
Enter room rows r (Ok i) rows' = Absent rows r.state.words × (length rows < room) × (i ≡ length rows) × (rows' ≡ rows ++ r ∷ [])
Enter room rows r (Err Known) rows' = ((i : ℕ) × At rows r.state.words i) × (rows' ≡ rows)
Enter room rows r (Err Full) rows' = Absent rows r.state.words × (length rows ≡ room) × (rows' ≡ rows)

-- the record is row i; or there is none, and it is left
abbrev pub Read : List Row → ℕ → Row → Bool → Row → Type 0
Read rows i old true new = (i < length rows) × (new ≡ row rows i)
Read rows i old false new = (length rows ≤ i) × (new ≡ old)

-- how many rows can have a number
unfoldable pub numbered : ℕ
numbered = 2 ^ 16
