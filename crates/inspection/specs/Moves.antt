-- What comes of a line of input in a state, and the state after it.
use Rattle.std.specs.Prelude.{◌≡◌, ℕ, ◌<◌, ◌≤◌, true, false, List, length, Some, None}
use Rattle.strips.specs.declared.action.Action.{Action}
use Rattle.strips.specs.Semantics.{State, applicable, result}
use Rattle.strips.specs.Sound.{act}
use Rattle.inspection.specs.Commands.{named}
use Rattle.inspection.specs.declared.moves.Move.{Move}
use Rattle.inspection.specs.declared.moves.Move.TheVariants.{Did, Cannot, Bad}

pub data Moves (acts : List Action) (s : State) (line : List ℕ) : Move → State → Type 0 where
  did : {k : ℕ} → named line ≡ Some k → k < length acts → applicable (act acts k) s ≡ true → Moves acts s line (Did k) (result (act acts k) s)
  no_such_action : {k : ℕ} → named line ≡ Some k → length acts ≤ k → Moves acts s line (Cannot k) s
  not_applicable : {k : ℕ} → named line ≡ Some k → k < length acts → applicable (act acts k) s ≡ false → Moves acts s line (Cannot k) s
  bad : named line ≡ None → Moves acts s line Bad s
