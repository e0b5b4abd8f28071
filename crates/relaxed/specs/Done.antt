-- Actions that have nothing left to bring.
use Rattle.std.specs.Prelude.{◌≡◌, ℕ, true, List}
use Rattle.facts.specs.Words.{has, subset}
use Rattle.strips.specs.declared.action.Action.{Action}
use Rattle.strips.specs.Semantics.{State}
use Rattle.strips.specs.Sound.{act}

-- the adds of every action of the set lie in the layer
abbrev pub Done : List Action → List ℕ → State → Type 0
Done acts done ws = (k : ℕ) → has done k ≡ true → subset (act acts k).add.words ws ≡ true
