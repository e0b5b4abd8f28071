-- What comes out of a frontier that is emptied into a list.
use Rattle.std.specs.Prelude.{◌≡◌, ℕ, List, [], take, Ok, Err, vec_items, Result, Vec}
use Rattle.std.specs.List.Sorted.{IsPermutation}

module _ {X Y Z : Type 0} where
  -- all that waited came out, or nothing changed
  abbrev pub Drained : List X → Result (Vec X Z) Y → List X → Type 0
  Drained w (Ok out) w' = IsPermutation w (vec_items out) × (w' ≡ [])
  Drained w (Err _) w' = w' ≡ w

  -- what went in, as much as has a place, came out, or still waits
  abbrev pub Refilled : ℕ → List X → Result (Vec X Z) Y → List X → Type 0
  Refilled room xs (Ok out) w' = IsPermutation (take room xs) (vec_items out) × (w' ≡ [])
  Refilled room xs (Err _) w' = IsPermutation (take room xs) w'
