-- Actions that are worth trying first.
use Rattle.std.specs.Prelude.{◌≡◌, ℕ, ◌<◌, ◌≤◌, Bool, false, ◌&&◌, List, length, nat_lt}
use Rattle.facts.specs.Words.{has, meets}
use Rattle.strips.specs.declared.action.Action.{Action}
use Rattle.strips.specs.Semantics.{State, applicable}
use Rattle.strips.specs.Sound.{act}

-- action k exists, is applicable, and adds a fact that is wanted
unfoldable pub useful : List Action → State → State → ℕ → Bool
useful acts s wanted k = nat_lt k (length acts) && (meets (act acts k).add.words wanted && applicable (act acts k) s)

-- action k exists and is applicable
unfoldable pub applicable_here : List Action → State → ℕ → Bool
applicable_here acts s k = nat_lt k (length acts) && applicable (act acts k) s

-- of the first n numbers the set has those that a test takes, where `Answers k b` says that it may answer b for k; no other number is in it
pub record Picks (Answers : ℕ → Bool → Type 0) (n : ℕ) (ws : List ℕ) : Type 0 where
  pub answered : (k : ℕ) → k < n → Answers k (has ws k)
  pub no_more : (k : ℕ) → n ≤ k → has ws k ≡ false
