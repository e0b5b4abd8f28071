-- Waiting entries in the order of their arrival.
use Rattle.std.specs.Prelude.{◌≡◌, List, [], ◌∷◌, ◌++◌, Some, None, Ok, Err, Option, Result}
use Rattle.open_list.specs.declared.entry.Entry.{Entry}
use Rattle.open_list.specs.declared.entry.Refusal.{Refusal}

-- a new entry stands behind all others
abbrev pub Joins : List Entry → Entry → Result (Unit {0}) Refusal → List Entry → Type 0
Joins w e (Ok _) w' = w' ≡ w ++ e ∷ []
Joins w e (Err _) w' = w' ≡ w

-- the entry that waited longest leaves
abbrev pub Oldest : List Entry → Option Entry → List Entry → Type 0
Oldest w (Some e) w' = w ≡ e ∷ w'
Oldest w None w' = (w ≡ []) × (w' ≡ [])
