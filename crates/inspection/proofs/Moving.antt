-- An action that was carried out.
use Rattle.std.proofs.Common.{◌≡◌, ℕ, ◌<◌, true, List, length, Some, sym, ap, ◌∙◌}
use Rattle.strips.specs.declared.action.Action.{Action}
use Rattle.strips.specs.Semantics.{State, applicable, result}
use Rattle.strips.specs.Sound.{act}
use Rattle.inspection.specs.Commands.{named}
use Rattle.inspection.specs.declared.moves.Move.TheVariants.{Did}
use Rattle.inspection.specs.Moves.{Moves, did}

pub moved : (acts : List Action) (s t : State) (line : List ℕ) (k : ℕ) (a : Action) → named line ≡ Some k → k < length acts → a ≡ act acts k → applicable a s ≡ true → t ≡ result a s → Moves acts s line (Did k) t
moved acts s t line k a e l is p et =
    rw (et ∙ ap (λ (b : Action). result b s) is) (did e l (ap (λ (b : Action). applicable b s) (sym is) ∙ p))
