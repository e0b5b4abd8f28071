-- What a bounded table does to the things that wait in it. Which one is taken is left open.
use Rattle.std.specs.Prelude.{◌≡◌, ℕ, ◌<◌, List, [], ◌∷◌, length, Some, None, Ok, Err, Option, Result}
use Rattle.std.specs.List.Sorted.{IsPermutation}

module _ {X : Type 0} where
  -- one more waits, or every place was taken and nothing changed
  abbrev pub Put : {Y : Type 0} → ℕ → List X → X → Result (Unit {0}) Y → List X → Type 0
  Put room w x (Ok _) w' = (length w < room) × IsPermutation (x ∷ w) w'
  Put room w x (Err _) w' = (length w ≡ room) × (w' ≡ w)

  -- one that waited is gone, or none waited
  abbrev pub Take : List X → Option X → List X → Type 0
  Take w (Some x) w' = IsPermutation w (x ∷ w')
  Take w None w' = (w ≡ []) × (w' ≡ [])
