-- One action of a row, the step that both phases are made of.
use Rattle.std.specs.Prelude.{◌≡◌, ℕ, ◌+◌, ◌<◌, Bool, true, false, List, [], ◌∷◌, ◌++◌, length, Some, None, Ok, Err, Option, Result}
use Rattle.facts.specs.declared.set.BitSet.{BitSet}
use Rattle.strips.specs.declared.action.Action.{Action}
use Rattle.strips.specs.Semantics.{State, applicable, result}
use Rattle.closed_list.specs.declared.row.Row.{Row}
use Rattle.heuristic.specs.declared.estimate.Estimate.{Estimate}
use Rattle.engine.specs.declared.model.Entered.{Entered}
use Rattle.engine.specs.declared.model.StoreFull.{StoreFull}
use Rattle.strips.specs.Sound.{act}
use Rattle.closed_list.specs.Rows.{At, Absent}

-- the task as both phases see it: each state's estimate and preferred actions, the actions, the places of the store
pub record Setting : Type 0 where
  pub est : State → Estimate
  pub pref : State → ℕ → Bool
  pub acts : List Action
  pub room : ℕ

abbrev pub setting : (State → Estimate) → (State → ℕ → Bool) → List Action → ℕ → Setting
setting est pref acts room = record { est = est; pref = pref; acts = acts; room = room }

abbrev pub posed : (List Action → State → State → Estimate) → (List Action → State → State → ℕ → Bool) → List Action → State → ℕ → Setting
posed est pref acts goal room = setting (est acts goal) (pref acts goal) acts room

-- the action is number k
abbrev pub IsAction : List Action → ℕ → Action → Type 0
IsAction acts k a = (k < length acts) × (a ≡ act acts k)

-- the result of the action in s, or that it is not applicable there
abbrev pub Successor : Action → State → Option (BitSet 4) → Type 0
Successor a s (Some t) = (applicable a s ≡ true) × (t.words ≡ result a s)
Successor a s None = applicable a s ≡ false

-- whether action k is applicable in the state of the row r, and its result there
abbrev pub fits : Setting → Row → ℕ → Bool
fits q r k = applicable (act q.acts k) r.state.words

abbrev pub child : Setting → Row → ℕ → State
child q r k = result (act q.acts k) r.state.words

abbrev pub child_row : Setting → ℕ → Row → ℕ → Row
child_row q i r k = record { state = record { words = child q r k }; parent = i; action = k; distance = r.distance + 1; estimate = q.est (child q r k) }

-- the first row of both phases
abbrev pub first_row : BitSet 4 → Estimate → Row
first_row s x = record { state = s; parent = 0; action = 0; distance = 0; estimate = x }

abbrev pub root : Setting → State → Row
root q s = first_row (record { words = s }) (q.est s)

-- action k in the state of row i, whose record is r: not applicable, its result known, no place for it, or it enters the next row
pub data Generates (q : Setting) (i : ℕ) (r : Row) (k : ℕ) (rows : List Row) : Result (Option Entered) StoreFull → List Row → Type 0 where
  cannot : fits q r k ≡ false → Generates q i r k rows (Ok None) rows
  known : (j : ℕ) → fits q r k ≡ true → At rows (child q r k) j → Generates q i r k rows (Ok None) rows
  no_place : {full : StoreFull} → fits q r k ≡ true → Absent rows (child q r k) → length rows ≡ q.room → Generates q i r k rows (Err full) rows
  enters : fits q r k ≡ true → Absent rows (child q r k) → length rows < q.room
      → Generates q i r k rows (Ok (Some (record { row = length rows; estimate = q.est (child q r k) }))) (rows ++ child_row q i r k ∷ [])
