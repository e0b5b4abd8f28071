-- The layers of the relaxed planning graph, and the levels of facts and actions.
use Rattle.std.specs.Prelude.{ℕ, zero, suc, Bool, if◌then◌else◌, not, ◌&&◌, List, length, nat_lt}
use Rattle.facts.specs.Words.{has, union, subset}
use Rattle.strips.specs.declared.action.Action.{Action}
use Rattle.strips.specs.Semantics.{State, applicable}
use Rattle.strips.specs.Sound.{act}

-- whether action k brings something new to the facts `ws`: its preconditions lie in `base`, and its adds not all in `ws`
abbrev pub brings : List Action → State → State → ℕ → Bool
brings acts base ws k = applicable (act acts k) base && not (subset (act acts k).add.words ws)

-- the facts, with what action k brings
abbrev pub with_adds : List Action → State → ℕ → State → State
with_adds acts base k ws = if brings acts base ws k then union ws (act acts k).add.words else ws

-- the facts of `base`, with the adds of those of the first n actions whose preconditions lie in `base`
unfoldable pub grown : List Action → State → ℕ → State
grown acts base zero = base
grown acts base (suc n) = with_adds acts base n (grown acts base n)

-- layer i: layer 0 is the state, each next one joins what the actions of the layer before add
unfoldable pub layer : List Action → State → ℕ → State
layer acts s zero = s
layer acts s (suc i) = grown acts (layer acts s i) (length acts)

-- the least number below n that passes the test; n where none does
unfoldable pub first : (ℕ → Bool) → ℕ → ℕ
first p zero = zero
first p (suc n) = if nat_lt (first p n) n then first p n else (if p n then n else suc n)

-- whether the level of a fact is i + 1, its first layer
abbrev pub new_fact : List Action → State → ℕ → ℕ → Bool
new_fact acts s i f = has (layer acts s (suc i)) f && not (has (layer acts s i) f)

-- whether the level of an action is i, the first layer that has its preconditions
abbrev pub new_action : List Action → State → ℕ → ℕ → Bool
new_action acts s zero k = applicable (act acts k) s
new_action acts s (suc i) k = applicable (act acts k) (layer acts s (suc i)) && not (applicable (act acts k) (layer acts s i))
