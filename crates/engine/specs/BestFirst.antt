-- What the best-first phase may do. Which waiting entry is taken is left open; all else is fixed.
use Rattle.std.specs.Prelude.{◌≡◌, ℕ, ◌+◌, ◌<◌, ◌≤◌, List, [], ◌∷◌, length, Some, None, Ok, Err, Option, Result}
use Rattle.std.specs.List.Sorted.{IsPermutation}
use Rattle.strips.specs.Semantics.{State}
use Rattle.open_list.specs.declared.entry.Entry.{Entry}
use Rattle.closed_list.specs.declared.row.Row.{Row}
use Rattle.engine.specs.declared.model.Entered.{Entered}
use Rattle.engine.specs.declared.model.StoreFull.{StoreFull}
use Rattle.heuristic.specs.declared.estimate.Estimate.TheVariants.{Steps, Never}
use Rattle.closed_list.specs.Rows.{row}
use Rattle.engine.specs.Generation.{Setting, Generates, root}

abbrev pub entry : ℕ → ℕ → ℕ → Entry
entry j h d = record { row = j; estimate = h; distance = d }

-- action k of row i, whose record is r, from the tables (rows, w); a row that has all goals ends the phase, and so does a full store
pub data Considers (q : Setting) (i : ℕ) (r : Row) (k : ℕ) (rows : List Row) (w : List Entry) : Result (Option ℕ) StoreFull → List Row → List Entry → Type 0 where
  passed : {rows' : List Row} → Generates q i r k rows (Ok None) rows' → Considers q i r k rows w (Ok None) rows' w
  full : {e : StoreFull} {rows' : List Row} → Generates q i r k rows (Err e) rows' → Considers q i r k rows w (Err e) rows' w
  reached : {e : Entered} {rows' : List Row} → Generates q i r k rows (Ok (Some e)) rows' → e.estimate ≡ Steps 0 → Considers q i r k rows w (Ok (Some e.row)) rows' w
  never : {e : Entered} {rows' : List Row} → Generates q i r k rows (Ok (Some e)) rows' → e.estimate ≡ Never → Considers q i r k rows w (Ok None) rows' w
  waits : {e : Entered} {h : ℕ} {rows' : List Row} {w' : List Entry} → Generates q i r k rows (Ok (Some e)) rows' → e.estimate ≡ Steps h → 0 < h → IsPermutation (entry e.row h (r.distance + 1) ∷ w) w'
      → Considers q i r k rows w (Ok None) rows' w'

-- the first k actions of row i, none of which ended the phase
pub data Expanding (q : Setting) (i : ℕ) (r : Row) (rows₀ : List Row) (w₀ : List Entry) : ℕ → List Row → List Entry → Type 0 where
  start : Expanding q i r rows₀ w₀ 0 rows₀ w₀
  more : {k : ℕ} {rows : List Row} {w : List Entry} {rows' : List Row} {w' : List Entry} → Expanding q i r rows₀ w₀ k rows w → k < length q.acts → Considers q i r k rows w (Ok None) rows' w' → Expanding q i r rows₀ w₀ (k + 1) rows' w'

-- an expansion that ended the phase at one of its actions
pub record Stopped (q : Setting) (i : ℕ) (r : Row) (rows₀ : List Row) (w₀ : List Entry) (y : Result (Option ℕ) StoreFull) (rows' : List Row) (w' : List Entry) : Type 0 where
  pub k : ℕ
  pub rows : List Row
  pub w : List Entry
  pub within : k < length q.acts
  pub before : Expanding q i r rows₀ w₀ k rows w
  pub last : Considers q i r k rows w y rows' w'

abbrev pub Expands : Setting → ℕ → Row → List Row → List Entry → Result (Option ℕ) StoreFull → List Row → List Entry → Type 0
Expands q i r rows₀ w₀ (Ok None) rows' w' = Expanding q i r rows₀ w₀ (length q.acts) rows' w'
Expands q i r rows₀ w₀ (Ok (Some j)) rows' w' = Stopped q i r rows₀ w₀ (Ok (Some j)) rows' w'
Expands q i r rows₀ w₀ (Err e) rows' w' = Stopped q i r rows₀ w₀ (Err e) rows' w'

-- one waiting entry is taken and its row expanded
pub record Turn (q : Setting) (rows : List Row) (w : List Entry) (y : Result (Option ℕ) StoreFull) (rows' : List Row) (w' : List Entry) : Type 0 where
  pub e : Entry
  pub rest : List Entry
  pub taken : IsPermutation w (e ∷ rest)
  pub expands : Expands q e.row (row rows e.row) rows rest y rows' w'

-- the tables after n expansions, none of which ended the phase
pub data Explored (q : Setting) (budget : ℕ) (s : State) : List Row → List Entry → ℕ → Type 0 where
  begin : {h : ℕ} {w : List Entry} → q.est s ≡ Steps h → 0 < h → IsPermutation (entry 0 h 0 ∷ []) w → Explored q budget s (root q s ∷ []) w 0
  turn : {rows rows' : List Row} {w w' : List Entry} {n : ℕ} → Explored q budget s rows w n → n < budget → Turn q rows w (Ok None) rows' w' → Explored q budget s rows' w' (n + 1)
